-- Document 02, M-104, sentence by sentence: "If the count already equals the fuel when an instruction is due, that instruction doesn't run, all is restored and the outcome
-- is 7, in a step of its own that counts nothing. Reaching the end needs no fuel." What fuel leaves of a transaction is said by the turns of the rule, which know nothing of it.
use Rattle.std.specs.Prelude.{◌≡◌, true, false, List, ◌⊎◌, ℕ, ◌+◌, ◌*◌, ◌≤◌, ◌<◌, ℤ, leb, drop, None, Some, slice_get, Ok}
use Rattle.std.specs.Int.Signed.{lt_z}
use Rattle.std.specs.Prelude.{if◌then◌else◌}
use Rattle.block.specs.Key.{account_balance}
use Rattle.block.specs.Instruction.{is_register, allowed, decode_parts}
use Rattle.block.specs.Naming.{function_of}
use Rattle.block.specs.Outcomes.{ended, out_of_fuel}
use Rattle.block.specs.Record.{Function, head_bytes, call_record_bytes, call_of}
use Rattle.block.specs.declared.Call.{Call}
use Rattle.block.specs.declared.Instr.{Instr}
use Rattle.block.specs.declared.Instr.TheVariants.{Jeq, Jlt}
use Rattle.footprint.specs.SetsInWords.{instructions_of}
use Rattle.rule.specs.Rule.{State, BodyResult, before, over, settle, transaction}
use Rattle.machine.specs.Run.{Run, place_in, count_in}
use Rattle.machine.specs.Step.{View, broken, ending, damaged, done, restorable, restored, step_place, finish}
use Rattle.machine.specs.Moves.{held_by, stay, step_of}
use Rattle.machine.specs.declared.Answer.TheVariants.{Damaged}
use Rattle.guarantees.specs.Turns.{turned, entered, failed_with}

-- A transaction that runs its function f: the function is known, and the sender has the value.
pub record Runs (functions : List Function) (c : Call) (σ : State) (f : Function) : Type 0 where
  pub known : function_of functions c ≡ Some f
  pub enough : lt_z (σ (account_balance c.sender)) c.value ≡ false

-- After `count` turns, each of which counted 1, it stands before a place of its code.
pub record Stands (block : List ℕ) (c : Call) (σ : State) (f : Function) (count : ℕ) : Type 0 where
  pub place : ℕ
  pub regs : List ℤ
  pub state : State
  pub stands : turned count c (instructions_of block f) (entered c σ) ≡ before place regs count state

-- There an instruction is due; or its code has ended.
pub record Due (block : List ℕ) (c : Call) (σ : State) (f : Function) (count : ℕ) : Type 0 where
  pub at : Stands block c σ f count
  pub instr : Instr
  pub due : slice_get (instructions_of block f) at.place ≡ Some instr

pub record Ended (block : List ℕ) (c : Call) (σ : State) (f : Function) (count : ℕ) : Type 0 where
  pub at : Stands block c σ f count
  pub none_due : slice_get (instructions_of block f) at.place ≡ None

-- What the published rule leaves of a transaction that runs its function, by its turns and its fuel.
pub record RuleFuel (block : List ℕ) (functions : List Function) (c : Call) (σ : State) (f : Function) : Type 0 where
  -- After as many turns as there is fuel the body is over, or its code has ended, or an instruction is due.
  pub cases : ((r : BodyResult) × (turned c.fuel c (instructions_of block f) (entered c σ) ≡ over r)) ⊎ (Ended block c σ f c.fuel ⊎ Due block c σ f c.fuel)
  -- An instruction that ends the body within the fuel ends it as it would with any fuel: nothing else cuts a run short.
  pub over_within : (k : ℕ) → k ≤ c.fuel → (r : BodyResult) → turned k c (instructions_of block f) (entered c σ) ≡ over r
      → transaction block functions c σ ≡ settle σ r
  -- "Reaching the end needs no fuel."
  pub end_within : (k : ℕ) → k ≤ c.fuel → (e : Ended block c σ f k)
      → transaction block functions c σ ≡ record { outcome = ended; count = k; behind = true; state = e.at.state }
  -- "If the count already equals the fuel when an instruction is due, that instruction doesn't run, all is restored and the outcome is 7, in a step .. that counts nothing."
  pub out : Due block c σ f c.fuel → transaction block functions c σ ≡ failed_with out_of_fuel c.fuel σ
  pub out_only : (transaction block functions c σ).outcome ≡ out_of_fuel → Due block c σ f c.fuel

-- What a step does by the fuel of the call's record and the count, of every view of a lent run.
pub record StepFuel (v : View) (place : ℕ) (regs cells : List ℤ) : Type 0 where
  -- "In a step behind the entry, a lent fuel of zero or a count above the fuel is 20."
  pub no_fuel : (count : ℕ) → ¬ (place ≡ 0) → v.call.fuel ≡ 0 → step_place v place count regs cells ≡ broken
  pub count_above : (count : ℕ) → ¬ (place ≡ 0) → v.call.fuel < count → step_place v place count regs cells ≡ broken
  -- "Reaching the end needs no fuel."
  pub end : (count : ℕ) → ¬ (place ≡ 0) → 0 < v.call.fuel → count ≤ v.call.fuel → place ≡ v.code
      → step_place v place count regs cells ≡ ending ended count
  -- "the outcome is 7, in a step of its own that counts nothing", whatever the instruction that is due; and it is 7 nowhere else.
  pub out : ¬ (place ≡ 0) → 0 < v.call.fuel → ¬ (place ≡ v.code) → step_place v place v.call.fuel regs cells ≡ ending out_of_fuel v.call.fuel
  pub out_only : (count n : ℕ) → step_place v place count regs cells ≡ ending out_of_fuel n
      → ¬ (place ≡ 0) × ¬ (place ≡ v.code) × (count ≡ v.call.fuel) × (n ≡ v.call.fuel)

-- A view with another fuel.
abbrev pub with_fuel : ℕ → View → View
with_fuel fuel v =
    record {
      block = v.block;
      call =
          record {
            sender = v.call.sender;
            contract = v.call.contract;
            function = v.call.function;
            value = v.call.value;
            arg1 = v.call.arg1;
            arg2 = v.call.arg2;
            arg3 = v.call.arg3;
            arg4 = v.call.arg4;
            fuel = fuel;
          };
      start = v.start;
      code = v.code;
      count = v.count;
      entries = v.entries;
      keys = v.keys;
    }

pub record FuelHolds : Type 0 where
  -- "Jumps may go to any index from 0 to the code's length": JEQ and JLT of a code of `size` instructions.
  pub jumps : (size x y to : ℕ) → is_register x ≡ true → is_register y ≡ true
      → (decode_parts size 14 x y 0 to ≡ allowed (leb to size) (Jeq x y to)) × (decode_parts size 15 x y 0 to ≡ allowed (leb to size) (Jlt x y to))
  pub rule : (block : List ℕ) (functions : List Function) (c : Call) (σ : State) (f : Function) → Runs functions c σ f → RuleFuel block functions c σ f
  -- No transaction counts more than its fuel.
  pub counted : (block : List ℕ) (functions : List Function) (c : Call) (σ : State) → (transaction block functions c σ).count ≤ c.fuel
  pub step : (v : View) (place : ℕ) (regs cells : List ℤ) → StepFuel v place regs cells
  -- At the entry neither fuel nor count is looked at.
  pub entry : (v : View) (fuel count : ℕ) (regs cells : List ℤ) → step_place (with_fuel fuel v) 0 count regs cells ≡ step_place v 0 0 regs cells
  -- "all is restored": the step that ends with 7 gives every cell of the write set its old value.
  pub restores : (v : View) (saved : List ℤ) (n : ℕ) (cells : List ℤ)
      → finish v saved out_of_fuel n cells
      ≡ (if restorable v.count v.entries then done out_of_fuel n (restored v.entries saved cells) else damaged)
  -- ".. is 20", and "nothing changes": of STEP on every lent run and block.
  pub lent : (block : List ℕ) (r : Run) (worker call : ℕ) (c : Call) → held_by r worker ≡ Ok call → ¬ (place_in r.seats worker ≡ 0)
      → call_of (drop (r.head.first_call + call_record_bytes * call + head_bytes) block) ≡ Some c
      → (c.fuel ≡ 0) ⊎ (c.fuel < count_in r.seats worker)
      → step_of block r worker ≡ stay r Damaged
