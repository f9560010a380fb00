-- The published transaction rule: document 003, figure 1, over the instruction set of document 01. States are functions from keys to
-- values; nothing here mentions a run, a step or a worker.
use Rattle.arith.specs.declared.NoResult.TheVariants.{Overflow, ZeroDivisor}
use Rattle.arith.specs.declared.NoResult.{NoResult}
use Rattle.block.specs.declared.address.Account.{Account}
use Rattle.std.specs.Prelude.{Bool, true, false, ◌||◌, List, [], ◌∷◌, map, ℕ, zero, suc, ◌+◌, ℤ, pos, ◌+ℤ◌, ◌-ℤ◌, eqb, get_or, drop, set, None, Option, Some, slice_get, Err, Ok, Result}
use Rattle.std.specs.Int.Signed.{lt_z, non_neg}
use Rattle.block.specs.Outcomes.{ended, unknown_function, balance_too_low, thrown, out_of_range, not_paid, zero_divisor, out_of_fuel}
use Rattle.std.specs.Prelude.{if◌then◌else◌}
use Rattle.arith.specs.Exact.{add_of, sub_of, mul_of, div_of}
use Rattle.arith.specs.Balance.{within_limit}
use Rattle.block.specs.Key.{key_of, account_balance, contract_balance, addresses}
use Rattle.block.specs.Instruction.{instr_bytes, decode}
use Rattle.block.specs.Record.{Function, argument, code_at}
use Rattle.block.specs.declared.Call.{Call}
use Rattle.block.specs.declared.Instr.{Instr}
use Rattle.block.specs.declared.Instr.TheVariants.{Stop, Throw, Set, Arg, Sender, Value, Add, Sub, Mul, Div, Get, Put, Bal, Pay, Jeq, Jlt}
use Rattle.block.specs.Naming.{cell_key, target_of, function_of}
use Rattle.wire.specs.Bytes.{below}
use Rattle.wire.specs.Rows.{bit}

-- "The state of the blockchain is a function σ": here from keys, which name address and field, to values.
abbrev pub State : Type 0
State = ℕ → ℤ

-- σ{v/k}, document 003, definition 1.
unfoldable pub update : State → ℕ → ℤ → State
update σ k v l = if eqb l k then v else σ l

-- σ + X : n and σ - X : n, X by the key of its balance.
abbrev pub credit : State → ℕ → ℤ → State
credit σ k n = update σ k (σ k +ℤ n)

abbrev pub debit : State → ℕ → ℤ → State
debit σ k n = update σ k (σ k -ℤ n)

-- "The balance limit is: no balance below zero, their sum at most 2^63 - 1": over all 65,536 addresses.
abbrev pub balances_in : State → List ℤ
balances_in σ = map (λ address. σ (key_of address 0 0 0)) (below addresses)

abbrev pub state_within_limit : State → Bool
state_within_limit σ = within_limit (balances_in σ)

-- ⟦S⟧: the body ends in a state, behind its last instruction or by STOP, or fails (the figure's ⊥) with an outcome; both with the number of
-- executed instructions.
pub data BodyResult : Type 0 where
  ends : State → (count : ℕ) (behind : Bool) → BodyResult
  fails : (outcome count : ℕ) → BodyResult

-- Where a body is: before an instruction, with registers, count and state; or at its result.
pub data Course : Type 0 where
  before : (instr : ℕ) (regs : List ℤ) (count : ℕ) → State → Course
  over : BodyResult → Course

-- The value of a register.
abbrev value : List ℤ → ℕ → ℤ
value ρ x = get_or ρ x (pos 0)

-- x := v
abbrev assign : ℕ → List ℤ → ℕ → State → ℕ → ℤ → Course
assign p ρ n σ x v = before (p + 1) (set ρ x v) n σ

-- x := an exact result, or failure: with 4 where it is outside 64 signed bits, by M-103 with 6 where the divisor is zero.
unfoldable pub assign_checked : ℕ → List ℤ → ℕ → State → ℕ → Result ℤ NoResult → Course
assign_checked p ρ n σ x (Ok v) = assign p ρ n σ x v
assign_checked p ρ n σ x (Err Overflow) = over (fails out_of_range n)
assign_checked p ρ n σ x (Err ZeroDivisor) = over (fails zero_divisor n)

-- B.transfer(amount): failure with 5 where the amount is negative, B no account (or, by M-101, account 0: nobody is paid), or the contract's balance lower.
unfoldable pub transfer : Call → ℕ → List ℤ → ℕ → State → ℤ → Option Account → Course
transfer c p ρ n σ amount None = over (fails not_paid n)
transfer c p ρ n σ amount (Some account) =
    if non_neg amount
    then
    (if lt_z (σ (contract_balance c.contract)) amount
    then over (fails not_paid n)
    else
    before (p + 1) ρ n
    (credit (debit σ (contract_balance c.contract) amount) (account_balance account) amount))
    else over (fails not_paid n)

-- The instruction at p with registers ρ in σ; n counts it.
unfoldable pub execute : Call → ℕ → List ℤ → ℕ → State → Instr → Course
execute c p ρ n σ Stop = over (ends σ n false)
execute c p ρ n σ Throw = over (fails thrown n)
execute c p ρ n σ (Set x v) = assign p ρ n σ x v
execute c p ρ n σ (Arg x k) = assign p ρ n σ x (pos (argument c k))
execute c p ρ n σ (Sender x) = assign p ρ n σ x (pos c.sender.0)
execute c p ρ n σ (Value x) = assign p ρ n σ x c.value
execute c p ρ n σ (Add x y z) = assign_checked p ρ n σ x (add_of (value ρ y) (value ρ z))
execute c p ρ n σ (Sub x y z) = assign_checked p ρ n σ x (sub_of (value ρ y) (value ρ z))
execute c p ρ n σ (Mul x y z) = assign_checked p ρ n σ x (mul_of (value ρ y) (value ρ z))
execute c p ρ n σ (Div x y z) = assign_checked p ρ n σ x (div_of (value ρ y) (value ρ z))
execute c p ρ n σ (Get x field a b) = assign p ρ n σ x (σ (cell_key c field a b))
execute c p ρ n σ (Put x field a b) = before (p + 1) ρ n (update σ (cell_key c field a b) (value ρ x))
execute c p ρ n σ (Bal x) = assign p ρ n σ x (σ (contract_balance c.contract))
execute c p ρ n σ (Pay x target) = transfer c p ρ n σ (value ρ x) (target_of c target)
execute c p ρ n σ (Jeq x y to) =
    before (if lt_z (value ρ x) (value ρ y) then p + 1 else if lt_z (value ρ y) (value ρ x) then p + 1 else to) ρ n σ
execute c p ρ n σ (Jlt x y to) = before (if lt_z (value ρ x) (value ρ y) then to else p + 1) ρ n σ

-- Behind the last instruction the body has ended.
unfoldable pub execute_at : Call → ℕ → List ℤ → ℕ → State → Option Instr → Course
execute_at c p ρ n σ None = over (ends σ n true)
execute_at c p ρ n σ (Some i) = execute c p ρ (n + 1) σ i

-- M-104: with no fuel left an instruction that is due "doesn't run", and the body fails with 7; "Reaching the end needs no fuel."
unfoldable pub unfuelled : (count : ℕ) → State → Option Instr → BodyResult
unfuelled n σ None = ends σ n true
unfuelled n σ (Some i) = fails out_of_fuel n

-- The body with so much fuel left; each instruction takes 1 of it.
unfoldable pub run_body : (fuel : ℕ) → Call → List Instr → Course → BodyResult
run_body zero c body (before p ρ n σ) = unfuelled n σ (slice_get body p)
run_body zero c body (over r) = r
run_body (suc fuel) c body (before p ρ n σ) = run_body fuel c body (execute_at c p ρ n σ (slice_get body p))
run_body (suc fuel) c body (over r) = r

-- The instructions of a code, from its bytes. In an accepted block every one is valid, and stands in the body at its index: `bodies` of `Demand2`.
unfoldable pub with_instr : Option Instr → List Instr → List Instr
with_instr (Some i) body = i ∷ body
with_instr None body = body

unfoldable pub body_of : ℕ → ℕ → List ℕ → List Instr
body_of zero size s = []
body_of (suc left) size s = with_instr (decode size s) (body_of left size (drop instr_bytes s))

-- What a transaction leaves: a state, and its receipt; and whether its body ended behind its last instruction.
pub record Left : Type 0 where
  pub outcome : ℕ
  pub count : ℕ
  pub behind : Bool
  pub state : State

-- "A call's steps are its entry, its counted instructions, and one for reaching the end"; M-104: the outcome 7 too is "in a step of its own that counts
-- nothing".
abbrev pub steps_for : Left → ℕ
steps_for l = 1 + l.count + bit (l.behind || eqb l.outcome out_of_fuel)

-- A transaction that does not begin.
abbrev pub unbegun : State → (outcome : ℕ) → Left
unbegun σ outcome = record { outcome = outcome; count = 0; behind = false; state = σ }

-- [Tx1]: the body ended well, and its state stands. [Tx2]: it failed, and the state is as it was.
unfoldable pub settle : State → BodyResult → Left
settle σ (ends σ' n behind) = record { outcome = ended; count = n; behind = behind; state = σ' }
settle σ (fails outcome n) = record { outcome = outcome; count = n; behind = false; state = σ }

-- "n units of currency are transferred to C before starting to execute f"
unfoldable pub run_function : List ℕ → Call → State → Function → Left
run_function block c σ f =
    let body : List Instr = body_of f.size f.size (code_at block f.start f.size) in
    let ρ : List ℤ = pos 0 ∷ pos 0 ∷ pos 0 ∷ pos 0 ∷ pos 0 ∷ pos 0 ∷ pos 0 ∷ pos 0 ∷ [] in
    settle σ
    (run_body c.fuel c body
    (before 0 ρ 0 (credit (debit σ (account_balance c.sender) c.value) (contract_balance c.contract) c.value)))

-- ⟦A →n C : f(v)⟧σ. [Tx2] also where A's balance is below n; that the function may be unknown is document 01's addition: outcome 1.
unfoldable pub transaction_by : List ℕ → Call → State → Option Function → Left
transaction_by block c σ None = unbegun σ unknown_function
transaction_by block c σ (Some f) =
    if lt_z (σ (account_balance c.sender)) c.value
    then unbegun σ balance_too_low
    else run_function block c σ f

abbrev pub transaction : List ℕ → List Function → Call → State → Left
transaction block functions c σ = transaction_by block c σ (function_of functions c)

-- "The semantics of a blockchain is obtained by folding the semantics of its transactions": what each of them leaves, in order.
unfoldable pub transactions : List ℕ → List Function → List Call → State → List Left
transactions block functions [] σ = []
transactions block functions (c ∷ cs) σ =
    let l : Left = transaction block functions c σ in l ∷ transactions block functions cs l.state

-- The state behind a list of transactions that began in σ.
unfoldable pub state_left : State → List Left → State
state_left σ [] = σ
state_left σ (l ∷ ls) = state_left l.state ls
