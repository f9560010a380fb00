-- What one turn of the published rule adds to a call's steps: an instruction, whatever it does, counts one, and so does the end behind the last
-- one, or the end for want of fuel.
use Rattle.arith.specs.declared.NoResult.TheVariants.{Overflow, ZeroDivisor}
use Rattle.arith.specs.declared.NoResult.{NoResult}
use Rattle.std.specs.Prelude.{Result, None, Option, Some, Err, Ok}
use Rattle.block.specs.declared.address.Account.{Account}
use mathlib.Core.Path.{◌≡◌, refl}
use mathlib.Core.Bool.{false, ◌||◌}
use mathlib.Core.List.{List}
use Prim.Native.Nat.{ℕ, zero, suc, ◌+◌}
use native.Mathlib.Omega.{arith}
use lib.Dec.{eqb}
use lib.IntN.{ℤ, pos}
use lib.ListN.{get_or}
use lib.Signed.{lt_z, non_neg}
use Rattle.arith.proofs.ChoiceLaws.{if_all}
use Rattle.arith.specs.Exact.{add_of, sub_of, mul_of, div_of}
use Rattle.wire.specs.Rows.{bit}
use Rattle.block.specs.Key.{contract_balance}
use Rattle.block.specs.Outcomes.{out_of_range, zero_divisor, out_of_fuel}
use Rattle.block.specs.declared.Call.{Call}
use Rattle.block.specs.declared.Instr.{Instr}
use Rattle.block.specs.declared.Instr.TheVariants.{Stop, Throw, Set, Arg, Sender, Value, Add, Sub, Mul, Div, Get, Put, Bal, Pay, Jeq, Jlt}
use Rattle.block.specs.Naming.{target_of}
use Rattle.rule.specs.Rule.{State, BodyResult, fails, Course, before, over, assign_checked, transfer, execute, execute_at, unfuelled, run_body, Left, settle}

-- The steps of a body that is over: its counted instructions, and one for reaching the end or for running out of fuel.
abbrev pub body_steps : Left → ℕ
body_steps l = l.count + bit (l.behind || eqb l.outcome out_of_fuel)

-- A course that is one step beyond a count of n, whatever state the call began in.
abbrev pub OneMore : State → ℕ → Course → Type 0
OneMore start n (before p ρ m σ) = m ≡ n + 1
OneMore start n (over r) = body_steps (settle start r) ≡ n + 1

module _ (start : State) (c : Call) (p : ℕ) (ρ : List ℤ) (n : ℕ) (σ : State) where
  abbrev OneOn : Course → Type 0
  OneOn = OneMore start n

  failed : (outcome : ℕ) → eqb outcome out_of_fuel ≡ false → OneOn (over (fails outcome (n + 1)))
  unfolding settle
  failed outcome e = rw e (omega arith)

  checked_one : (x : ℕ) (v : Result ℤ NoResult) → OneOn (assign_checked p ρ (n + 1) σ x v)
  unfolding assign_checked
  checked_one x (Ok v) = refl
  checked_one x (Err Overflow) = failed out_of_range refl
  checked_one x (Err ZeroDivisor) = failed zero_divisor refl

  transfer_one : (amount : ℤ) (payee : Option Account) → OneOn (transfer c p ρ (n + 1) σ amount payee)
  unfolding transfer
  transfer_one amount None = failed 5 refl
  transfer_one amount (Some account) =
      if_all OneOn (non_neg amount) (λ e. if_all OneOn (lt_z (σ (contract_balance c.contract)) amount) (λ f. failed 5 refl) (λ f. refl)) (λ e. failed 5 refl)

  execute_one : (i : Instr) → OneOn (execute c p ρ (n + 1) σ i)
  unfolding execute settle
  execute_one Stop = omega arith
  execute_one Throw = failed 3 refl
  execute_one (Set x v) = refl
  execute_one (Arg x k) = refl
  execute_one (Sender x) = refl
  execute_one (Value x) = refl
  execute_one (Add x y z) = checked_one x (add_of (get_or ρ y (pos 0)) (get_or ρ z (pos 0)))
  execute_one (Sub x y z) = checked_one x (sub_of (get_or ρ y (pos 0)) (get_or ρ z (pos 0)))
  execute_one (Mul x y z) = checked_one x (mul_of (get_or ρ y (pos 0)) (get_or ρ z (pos 0)))
  execute_one (Div x y z) = checked_one x (div_of (get_or ρ y (pos 0)) (get_or ρ z (pos 0)))
  execute_one (Get x field a b) = refl
  execute_one (Put x field a b) = refl
  execute_one (Bal x) = refl
  execute_one (Pay x target) = transfer_one (get_or ρ x (pos 0)) (target_of c target)
  execute_one (Jeq x y to) = refl
  execute_one (Jlt x y to) = refl

  -- A turn of the rule is one step.
  pub turn_one : (i : Option Instr) → OneMore start n (execute_at c p ρ n σ i)
  unfolding execute_at settle
  turn_one None = refl
  turn_one (Some i) = execute_one i

  -- With no fuel left, the end is one step.
  pub last_one : (i : Option Instr) → OneMore start n (over (unfuelled n σ i))
  unfolding unfuelled settle
  last_one None = refl
  last_one (Some i) = refl

-- What has ended stays so.
pub body_over : (turns : ℕ) (c : Call) (body : List Instr) (r : BodyResult) → run_body turns c body (over r) ≡ r
unfolding run_body
body_over zero c body r = refl
body_over (suc turns) c body r = refl
