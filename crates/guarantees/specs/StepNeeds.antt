-- What a step needs of a lent run and block, by where its call stands: "a code stretch needed by the move .., or a count, place, .. cell number or
-- instruction that the run or the block holds, needed by the move and outside its range above, or a balance needed by it below zero or passing
-- 2^63 - 1". A step that ends its call needs `Ends`, one that ends it by 3 to 7 and so restores its cells needs `Restores`; `Demand1` says what these are.
use Rattle.block.specs.declared.address.Account.{Account}
use Rattle.std.specs.Prelude.{◌≡◌, true, false, ◌||◌, List, ◌∷◌, ◌++◌, ℕ, ◌+◌, ◌-◌, ◌*◌, ◌≤◌, ◌<◌, ℤ, pos, ◌+ℤ◌, length, get_or, drop, None, Option, Some}
use Rattle.std.specs.Int.Signed.{lt_z, le_z, non_neg}
use Rattle.arith.specs.Balance.{largest}
use Rattle.arith.specs.Exact.{signed}
use Rattle.wire.specs.Bytes.{number, read_le}
use Rattle.wire.specs.All.{All}
use Rattle.block.specs.Limits.{max_code, max_call_keys, max_keys}
use Rattle.block.specs.Key.{first_contract, account_balance, contract_balance, is_balance}
use Rattle.block.specs.Instruction.{instr_bytes, decode}
use Rattle.block.specs.Naming.{target_of, cell_key}
use Rattle.block.specs.Record.{head_bytes, call_bytes, call_record_bytes}
use Rattle.block.specs.declared.Call.{Call}
use Rattle.block.specs.declared.Instr.{Instr}
use Rattle.block.specs.declared.Instr.TheVariants.{Stop, Throw, Set, Arg, Sender, Value, Add, Sub, Mul, Div, Get, Put, Bal, Pay, Jeq, Jlt}
use Rattle.footprint.specs.Access.{Access, reading, writing, changing}
use Rattle.footprint.specs.Plan.{key_words, high_word, low_word, code_start, code_length, entry_cell, entry_reads, entry_writes}
use Rattle.machine.specs.Action.{register}
use Rattle.machine.specs.Run.{Run, place_in, count_in, regs_in, plan_word}
use Rattle.machine.specs.Step.{cell_at}
use Rattle.machine.specs.Moves.{call_key_count, own_entries}
use Rattle.guarantees.specs.ZeroDivisors.{Reckoned, reckoned, is_by_zero, is_outside}

-- ---- the record

-- The lent block from the body of a call's record on.
abbrev pub record_bytes : (block : List ℕ) → Run → (call : ℕ) → List ℕ
record_bytes block r call = drop (r.head.first_call + call_record_bytes * call + head_bytes) block

-- "3, call: sender account 2, contract 2, function 2, value 8 .., four arguments of 4"; M-104: "fuel, 2 bytes after the arguments".
abbrev pub lent_call : (bytes : List ℕ) → Call
lent_call bytes =
    record {
      sender = record { 0 = number 2 bytes };
      contract = record { 0 = read_le 2 bytes 2 };
      function = read_le 2 bytes 4;
      value = signed 64 (read_le 8 bytes 6);
      arg1 = read_le 4 bytes 14;
      arg2 = read_le 4 bytes 18;
      arg3 = read_le 4 bytes 22;
      arg4 = read_le 4 bytes 26;
      fuel = read_le 2 bytes 30;
    }

-- It is whole, with an account's address for its sender, a contract's for its contract, and a value of "0 or more".
pub record RecordNeeds (bytes : List ℕ) : Type 0 where
  pub whole : call_bytes ≤ length bytes
  pub sender : number 2 bytes < first_contract
  pub contract : first_contract ≤ read_le 2 bytes 2
  pub value : non_neg (signed 64 (read_le 8 bytes 6)) ≡ true

-- ---- cells

-- The table has a key at a cell number.
abbrev pub KeyAt : (keys : List ℕ) → (cell key : ℕ) → Type 0
KeyAt keys cell k = (get_or keys (key_words * cell) 0 ≡ high_word k) × (get_or keys (key_words * cell + 1) 0 ≡ low_word k)

-- An access finds its cell among entries: the entries up to it name cells of the table, it is the first whose cell has the key, and it has the
-- flags that the access wants.
pub record EntryAmong (keys es : List ℕ) (a : Access) (cell : ℕ) : Type 0 where
  pub before : List ℕ
  pub entry : ℕ
  pub behind : List ℕ
  pub listed : es ≡ before ++ (entry ∷ behind)
  pub others : All (λ e. (entry_cell e < max_keys) × (KeyAt keys (entry_cell e) a.key → ⊥)) before
  pub named : entry_cell entry ≡ cell
  pub known : cell < max_keys
  pub has_key_lem : KeyAt keys cell a.key
  pub reads : a.reads ≡ true → entry_reads entry ≡ true
  pub writes : a.writes ≡ true → entry_writes entry ≡ true

-- It does so among the entries of a call, which are at most 24.
abbrev pub EntryFor : Run → (call : ℕ) → Access → (cell : ℕ) → Type 0
EntryFor r call a cell = (call_key_count r.plan call ≤ max_call_keys) × EntryAmong r.keys (own_entries r.plan call) a cell

abbrev pub value_in : Run → (cell : ℕ) → ℤ
value_in r cell = cell_at r.cells cell

-- A balance is read: it is not below zero.
pub record BalanceNeeds (r : Run) (call key : ℕ) : Type 0 where
  pub cell : ℕ
  pub found : EntryFor r call (reading key) cell
  pub balance : non_neg (value_in r cell) ≡ true

-- A cell is read. The field of a GET is not 0, so that its key is no balance; only a lent list that is no bytes makes one of it.
pub record ReadNeeds (r : Run) (call key : ℕ) : Type 0 where
  pub cell : ℕ
  pub found : EntryFor r call (reading key) cell
  pub balance : is_balance key ≡ true → non_neg (value_in r cell) ≡ true

-- A cell is written.
pub record WriteNeeds (r : Run) (call key : ℕ) : Type 0 where
  pub cell : ℕ
  pub found : EntryFor r call (writing key) cell

-- An amount reaches a balance: "below zero or passing 2^63 - 1".
pub record ReachNeeds (r : Run) (call to : ℕ) (amount : ℤ) : Type 0 where
  pub cell : ℕ
  pub found : EntryFor r call (writing to) cell
  pub balance : non_neg (value_in r cell) ≡ true
  pub sum : le_z (value_in r cell +ℤ amount) largest ≡ true

-- An amount leaves one balance for another. Where the first is lower than the amount, the call ends, and the second is not needed.
pub record TransferNeeds (r : Run) (call from to : ℕ) (amount : ℤ) (Short : Type 0) : Type 0 where
  pub cell : ℕ
  pub found : EntryFor r call (changing from) cell
  pub balance : non_neg (value_in r cell) ≡ true
  pub lower : lt_z (value_in r cell) amount ≡ true → Short
  pub enough : lt_z (value_in r cell) amount ≡ false → ReachNeeds r call to amount

-- ---- an instruction

-- "a result outside 64 signed bits or a zero divisor": the call ends.
abbrev pub ReckonNeeds : (Restores : Type 0) → Reckoned → Type 0
ReckonNeeds Restores x = (is_outside x || is_by_zero x) ≡ true → Restores

-- "PAY with 5 if the amount is negative, the target no account, or the contract's balance lower", and M-101: to account 0 as for no account.
abbrev pub PayNeeds : Run → (call : ℕ) → Call → (amount : ℤ) → (Restores : Type 0) → Option Account → Type 0
PayNeeds r call c amount Restores None = Restores
PayNeeds r call c amount Restores (Some account) =
    (non_neg amount ≡ false → Restores)
    × (non_neg amount ≡ true → TransferNeeds r call (contract_balance c.contract) (account_balance account) amount Restores)

-- "STOP ends with 0, THROW with 3"; "GET reads its key, PUT writes its key, BAL reads the contract's balance; PAY reads and writes it and writes the
-- target's balance". An instruction that only sets a register or jumps needs nothing.
abbrev pub InstrNeeds : Run → (call : ℕ) → Call → (regs : List ℤ) → (Ends Restores : Type 0) → Instr → Type 0
InstrNeeds r call c regs Ends Restores Stop = Ends
InstrNeeds r call c regs Ends Restores Throw = Restores
InstrNeeds r call c regs Ends Restores (Set x value) = Unit {0}
InstrNeeds r call c regs Ends Restores (Arg x k) = Unit {0}
InstrNeeds r call c regs Ends Restores (Sender x) = Unit {0}
InstrNeeds r call c regs Ends Restores (Value x) = Unit {0}
InstrNeeds r call c regs Ends Restores (Add x y z) = ReckonNeeds Restores (reckoned regs (Add x y z))
InstrNeeds r call c regs Ends Restores (Sub x y z) = ReckonNeeds Restores (reckoned regs (Sub x y z))
InstrNeeds r call c regs Ends Restores (Mul x y z) = ReckonNeeds Restores (reckoned regs (Mul x y z))
InstrNeeds r call c regs Ends Restores (Div x y z) = ReckonNeeds Restores (reckoned regs (Div x y z))
InstrNeeds r call c regs Ends Restores (Get x field a b) = ReadNeeds r call (cell_key c field a b)
InstrNeeds r call c regs Ends Restores (Put x field a b) = WriteNeeds r call (cell_key c field a b)
InstrNeeds r call c regs Ends Restores (Bal x) = BalanceNeeds r call (contract_balance c.contract)
InstrNeeds r call c regs Ends Restores (Pay x target) = PayNeeds r call c (register regs x) Restores (target_of c target)
InstrNeeds r call c regs Ends Restores (Jeq x y to) = Unit {0}
InstrNeeds r call c regs Ends Restores (Jlt x y to) = Unit {0}

-- ---- where the call stands

-- The length of a call's code plus 1, or 0 for an unknown function; and the place and the count of the call that a worker holds: place 0 is the
-- entry, p + 1 instruction p, and the place behind the last is the end.
abbrev pub code_in : Run → (call : ℕ) → ℕ
code_in r call = plan_word r.plan call code_length

abbrev pub place_on : Run → (worker : ℕ) → ℕ
place_on r worker = place_in r.seats worker

abbrev pub count_on : Run → (worker : ℕ) → ℕ
count_on r worker = count_in r.seats worker

-- "at entry: unknown function, outcome 1; sender's balance below value, outcome 2; else value moves from sender to contract"; at value 0 no balance
-- is needed. M-104: neither are fuel and count.
pub record EntryNeeds (r : Run) (call : ℕ) (c : Call) (Ends : Type 0) : Type 0 where
  pub unknown : code_in r call ≡ 0 → Ends
  pub value : ¬ (code_in r call ≡ 0) → lt_z (pos 0) c.value ≡ true
      → TransferNeeds r call (account_balance c.sender) (contract_balance c.contract) c.value Ends

-- "a code stretch needed by the move", and the instruction in it: as a block's reader asks it.
pub record DueNeeds (block : List ℕ) (r : Run) (worker call : ℕ) (c : Call) (Ends Restores : Type 0) : Type 0 where
  pub stretch : plan_word r.plan call code_start + instr_bytes * (code_in r call - 1) ≤ length block
  pub instr : Instr
  pub valid : decode (code_in r call - 1) (drop (plan_word r.plan call code_start + instr_bytes * (place_on r worker - 1)) block) ≡ Some instr
  pub needs : InstrNeeds r call c (regs_in r.frames worker) Ends Restores instr

-- M-104: "In a step behind the entry, a lent fuel of zero or a count above the fuel is 20." "At place = length: outcome 0."; "If the count already equals
-- the fuel when an instruction is due, .. all is restored and the outcome is 7"; "Else one instruction runs".
pub record BodyNeeds (block : List ℕ) (r : Run) (worker call : ℕ) (c : Call) (Ends Restores : Type 0) : Type 0 where
  pub fuel : 1 ≤ c.fuel
  pub count : count_on r worker ≤ c.fuel
  pub end : place_on r worker ≡ code_in r call → Ends
  pub spent : ¬ (place_on r worker ≡ code_in r call) → count_on r worker ≡ c.fuel → Restores
  pub due : ¬ (place_on r worker ≡ code_in r call) → ¬ (count_on r worker ≡ c.fuel) → DueNeeds block r worker call c Ends Restores

-- Every value that a step of a call uses is in its range: its code's length and its place; its record in the lent block; and what it needs where it
-- stands.
pub record StepNeeds (block : List ℕ) (r : Run) (worker call : ℕ) (Ends Restores : Type 0) : Type 0 where
  pub code : code_in r call ≤ max_code + 1
  pub place : place_on r worker ≤ code_in r call
  pub recorded : RecordNeeds (record_bytes block r call)
  pub entry : place_on r worker ≡ 0 → EntryNeeds r call (lent_call (record_bytes block r call)) Ends
  pub behind : ¬ (place_on r worker ≡ 0) → BodyNeeds block r worker call (lent_call (record_bytes block r call)) Ends Restores
