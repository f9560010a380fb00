-- Document 02, M-103, sentence by sentence: "DIV by zero shall end with outcome 6, restoring as 4 does, and 4 keeps only results out of range. The receipts carry
-- the new code". Both outcomes are told by one law, over what an instruction reckons.
use Rattle.std.specs.Prelude.{◌≡◌, Bool, true, false, not, List, ℕ, zero, suc, ◌+◌, ◌<◌, ℤ, pos, negsuc, neg_ℤ, ◌+ℤ◌, ◌-ℤ◌, ◌*ℤ◌, Some, slice_get}
use Rattle.std.specs.Int.Signed.{lt_z}
use Rattle.std.specs.Prelude.{if◌then◌else◌}
use Rattle.arith.specs.Exact.{fits64, floor_by}
use Rattle.block.specs.Key.{account_balance}
use Rattle.block.specs.Outcomes.{out_of_range, zero_divisor}
use Rattle.block.specs.Naming.{function_of}
use Rattle.block.specs.Record.{Function}
use Rattle.block.specs.declared.Call.{Call}
use Rattle.block.specs.declared.Instr.{Instr}
use Rattle.block.specs.declared.Instr.TheVariants.{Stop, Throw, Set, Arg, Sender, Value, Add, Sub, Mul, Div, Get, Put, Bal, Pay, Jeq, Jlt}
use Rattle.footprint.specs.SetsInWords.{instructions_of}
use Rattle.rule.specs.Rule.{State, fails, before, over, execute_at, transaction}
use Rattle.machine.specs.Action.{register}
use Rattle.machine.specs.Step.{View, ending, damaged, done, restorable, restored, step_decoded, finish}
use Rattle.guarantees.specs.Turns.{turned, entered, failed_with}

-- What an instruction reckons, exactly: nothing; an integer; or a quotient by zero, which is none.
pub data Reckoned : Type 0 where
  nothing : Reckoned
  exactly : ℤ → Reckoned
  by_zero : Reckoned

-- A quotient rounded toward minus infinity.
unfoldable pub quotient : ℤ → ℤ → Reckoned
quotient a (pos zero) = by_zero
quotient a (pos (suc d)) = exactly (floor_by a (suc d))
quotient a (negsuc d) = exactly (floor_by (neg_ℤ a) (suc d))

-- "6 ADD, 7 SUB, 8 MUL, 9 DIV: x from y and z"; the others reckon nothing.
unfoldable pub reckoned : List ℤ → Instr → Reckoned
reckoned ρ Stop = nothing
reckoned ρ Throw = nothing
reckoned ρ (Set x v) = nothing
reckoned ρ (Arg x k) = nothing
reckoned ρ (Sender x) = nothing
reckoned ρ (Value x) = nothing
reckoned ρ (Add x y z) = exactly (register ρ y +ℤ register ρ z)
reckoned ρ (Sub x y z) = exactly (register ρ y -ℤ register ρ z)
reckoned ρ (Mul x y z) = exactly (register ρ y *ℤ register ρ z)
reckoned ρ (Div x y z) = quotient (register ρ y) (register ρ z)
reckoned ρ (Get x field a b) = nothing
reckoned ρ (Put x field a b) = nothing
reckoned ρ (Bal x) = nothing
reckoned ρ (Pay x target) = nothing
reckoned ρ (Jeq x y to) = nothing
reckoned ρ (Jlt x y to) = nothing

-- Whether it divides by zero; and whether its result is out of range.
unfoldable pub is_by_zero : Reckoned → Bool
is_by_zero nothing = false
is_by_zero (exactly z) = false
is_by_zero by_zero = true

unfoldable pub is_outside : Reckoned → Bool
is_outside nothing = false
is_outside (exactly z) = not (fits64 z)
is_outside by_zero = false

-- A transaction comes to an instruction of which a test holds: its function is known, its sender has the value, and after `count` turns, each of which counted 1,
-- that instruction is due, with fuel left for it.
pub record ComesTo (test : Reckoned → Bool) (block : List ℕ) (functions : List Function) (c : Call) (σ : State) : Type 0 where
  pub function : Function
  pub known : function_of functions c ≡ Some function
  pub enough : lt_z (σ (account_balance c.sender)) c.value ≡ false
  pub count : ℕ
  pub place : ℕ
  pub regs : List ℤ
  pub state : State
  pub instr : Instr
  pub stands : turned count c (instructions_of block function) (entered c σ) ≡ before place regs count state
  pub due : slice_get (instructions_of block function) place ≡ Some instr
  pub fuelled : count < c.fuel
  pub tested : test (reckoned regs instr) ≡ true

-- An outcome tells that a test holds.
pub record Tells (outcome : ℕ) (test : Reckoned → Bool) : Type 0 where
  -- In the published rule an instruction ends its call with the outcome where the test holds, whatever call and state, and counts 1; and nowhere else.
  pub rule : (c : Call) (p : ℕ) (ρ : List ℤ) (n : ℕ) (σ : State) (i : Instr) → test (reckoned ρ i) ≡ true
      → execute_at c p ρ n σ (Some i) ≡ over (fails outcome (n + 1))
  pub rule_only : (c : Call) (p : ℕ) (ρ : List ℤ) (n : ℕ) (σ : State) (i : Instr) (m : ℕ) → execute_at c p ρ n σ (Some i) ≡ over (fails outcome m)
      → test (reckoned ρ i) ≡ true
  -- So does a step of the machine, in every lent run.
  pub step : (v : View) (place n : ℕ) (ρ cells : List ℤ) (i : Instr) → test (reckoned ρ i) ≡ true
      → step_decoded v place n ρ cells (Some i) ≡ ending outcome (n + 1)
  pub step_only : (v : View) (place n : ℕ) (ρ cells : List ℤ) (i : Instr) (m : ℕ) → step_decoded v place n ρ cells (Some i) ≡ ending outcome m
      → test (reckoned ρ i) ≡ true
  -- "restoring": the step that ends so gives every cell of the write set its old value.
  pub restores : (v : View) (saved : List ℤ) (n : ℕ) (cells : List ℤ)
      → finish v saved outcome n cells
      ≡ (if restorable v.count v.entries then done outcome n (restored v.entries saved cells) else damaged)
  -- "The receipts carry the new code": a transaction of any block that comes to such an instruction has that receipt and leaves the state as it was; and no other has
  -- the outcome.
  pub receipt : (block : List ℕ) (functions : List Function) (c : Call) (σ : State) (at : ComesTo test block functions c σ)
      → transaction block functions c σ ≡ failed_with outcome (at.count + 1) σ
  pub receipt_only : (block : List ℕ) (functions : List Function) (c : Call) (σ : State) → (transaction block functions c σ).outcome ≡ outcome
      → ComesTo test block functions c σ

abbrev pub ZeroDivisorsHold : Type 0
ZeroDivisorsHold = Tells zero_divisor is_by_zero × Tells out_of_range is_outside
