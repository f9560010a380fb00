-- The turns of the published rule and its fuel: a body with so much fuel is where its turns lead; what it fails with is that of an instruction for which it had fuel, which is never 7,
-- or 7 where it had none.
use Rattle.arith.specs.declared.NoResult.TheVariants.{Overflow, ZeroDivisor}
use Rattle.arith.specs.declared.NoResult.{NoResult}
use Rattle.std.specs.Prelude.{None, Option, Some, slice_get, Err, Ok, Result}
use Rattle.block.specs.declared.address.Account.{Account}
use mathlib.Core.Path.{◌≡◌, refl, sym, ap, subst, subst⁻¹, ◌∙◌}
use mathlib.Core.Bool.{true, false}
use mathlib.Core.List.{List}
use mathlib.Core.Logic.{◌⊎◌, inl, inr}
use Prim.Native.Nat.{ℕ, zero, suc, ◌+◌, ◌<◌}
use native.Mathlib.Nat.{add-zero}
use native.Mathlib.Omega.{arith}
use lib.IntN.{ℤ}
use lib.Signed.{lt_z, non_neg}
use Rattle.arith.specs.Exact.{add_of, sub_of, mul_of, div_of}
use Rattle.arith.proofs.ChoiceLaws.{if_all}
use Rattle.block.specs.Key.{account_balance, contract_balance}
use Rattle.block.specs.Naming.{function_of, target_of}
use Rattle.block.specs.Outcomes.{out_of_fuel}
use Rattle.block.specs.Record.{Function}
use Rattle.block.specs.declared.Call.{Call}
use Rattle.block.specs.declared.Instr.{Instr}
use Rattle.block.specs.declared.Instr.TheVariants.{Stop, Throw, Set, Arg, Sender, Value, Add, Sub, Mul, Div, Get, Put, Bal, Pay, Jeq, Jlt}
use Rattle.footprint.specs.SetsInWords.{instructions_of}
use Rattle.rule.specs.Rule.{State, BodyResult, ends, fails, Course, before, over, assign_checked, transfer, execute, execute_at, unfuelled, run_body, settle, run_function, transaction_by, transaction}
use Rattle.rule.proofs.TurnLaws.{OneMore, turn_one, body_over}
use Rattle.machine.specs.Action.{register}
use Rattle.guarantees.specs.Turns.{turned, entered}

-- ---- turns

-- k turns, and as much fuel as is left.
pub run_turned : (k left : ℕ) (c : Call) (body : List Instr) (x : Course) → run_body (k + left) c body x ≡ run_body left c body (turned k c body x)
unfolding turned run_body
run_turned zero left c body x = let e : 0 + left ≡ left = omega arith in ap (λ (t : ℕ). run_body t c body x) e
run_turned (suc k) left c body (before p ρ n σ) =
    let e : suc k + left ≡ suc (k + left) = omega arith in
    ap (λ (t : ℕ). run_body t c body (before p ρ n σ)) e ∙ run_turned k left c body (execute_at c p ρ n σ (slice_get body p))
run_turned (suc k) left c body (over r) = body_over (suc k + left) c body r ∙ sym (body_over left c body r)

-- One turn more.
turned_next : (k : ℕ) (c : Call) (body : List Instr) (x : Course) (p : ℕ) (ρ : List ℤ) (n : ℕ) (σ : State) → turned k c body x ≡ before p ρ n σ
    → turned (suc k) c body x ≡ execute_at c p ρ n σ (slice_get body p)
unfolding turned
turned_next zero c body x p ρ n σ e = ap (turned 1 c body) e
turned_next (suc k) c body (before q ρ' m τ) p ρ n σ e = turned_next k c body (execute_at c q ρ' m τ (slice_get body q)) p ρ n σ e
turned_next (suc k) c body (over r) p ρ n σ e = absurd (subst IsOver e tt)
  where
    IsOver : Course → Type 0
    IsOver (before q ρ' m τ) = ⊥
    IsOver (over r') = Unit {0}

-- What is over stays so.
turned_over : (k : ℕ) (c : Call) (body : List Instr) (r : BodyResult) → turned k c body (over r) ≡ over r
unfolding turned
turned_over zero c body r = refl
turned_over (suc k) c body r = refl

-- After k turns a body is over, or stands before a place, k counted.
pub record StandsAfter (k : ℕ) (c : Call) (body : List Instr) (first : Course) (n : ℕ) : Type 0 where
  pub place : ℕ
  pub regs : List ℤ
  pub state : State
  pub stands : turned k c body first ≡ before place regs n state

abbrev pub OverOrStands : (k : ℕ) → Call → List Instr → Course → (n : ℕ) → Type 0
OverOrStands k c body first n = ((r : BodyResult) × (turned k c body first ≡ over r)) ⊎ StandsAfter k c body first n

pub over_or_stands : (k : ℕ) (c : Call) (body : List Instr) (p : ℕ) (ρ : List ℤ) (n : ℕ) (σ : State) → OverOrStands k c body (before p ρ n σ) (n + k)
unfolding turned
over_or_stands zero c body p ρ n σ = inr (record { place = p; regs = ρ; state = σ; stands = ap (λ (m : ℕ). before p ρ m σ) (sym (add-zero n)) })
over_or_stands (suc k) c body p ρ n σ =
    go (execute_at c p ρ n σ (slice_get body p)) refl (turn_one σ c p ρ n σ (slice_get body p)) (over_or_stands k c body)
  where
    after : Course → Course
    after x = turned k c body x

    go : (x : Course) → execute_at c p ρ n σ (slice_get body p) ≡ x → OneMore σ n x
        → ((q : ℕ) (ρ' : List ℤ) (m : ℕ) (τ : State) → OverOrStands k c body (before q ρ' m τ) (m + k)) → OverOrStands (suc k) c body (before p ρ n σ) (n + suc k)
    go (over r) e one ih = inl (r, ap after e ∙ turned_over k c body r)
    go (before q ρ' m τ) e one ih = on (ih q ρ' m τ)
      where
        all : m + k ≡ n + suc k
        all = omega (arith, one)

        on : OverOrStands k c body (before q ρ' m τ) (m + k) → OverOrStands (suc k) c body (before p ρ n σ) (n + suc k)
        on (inl (r, s)) = inl (r, ap after e ∙ s)
        on (inr s) =
            inr
            (record {
              place = s.place;
              regs = s.regs;
              state = s.state;
              stands = ap after e ∙ s.stands ∙ ap (λ (j : ℕ). before s.place s.regs j s.state) all;
            })

-- At the end of its code a body ends, whatever its fuel.
pub end_any : (left : ℕ) (c : Call) (body : List Instr) (p : ℕ) (ρ : List ℤ) (n : ℕ) (σ : State) → slice_get body p ≡ None
    → run_body left c body (before p ρ n σ) ≡ ends σ n true
unfolding run_body execute_at unfuelled
end_any zero c body p ρ n σ e = ap (unfuelled n σ) e
end_any (suc left) c body p ρ n σ e =
    ap (λ (o : Option Instr). run_body left c body (execute_at c p ρ n σ o)) e ∙ body_over left c body (ends σ n true)

-- A transaction that runs its function.
pub transaction_runs : (block : List ℕ) (functions : List Function) (c : Call) (σ : State) (f : Function) → function_of functions c ≡ Some f
    → lt_z (σ (account_balance c.sender)) c.value ≡ false
    → transaction block functions c σ ≡ settle σ (run_body c.fuel c (instructions_of block f) (entered c σ))
unfolding transaction_by run_function
transaction_runs block functions c σ f known enough = rw (known, enough)

-- ---- no instruction fails with 7

abbrev Below : Course → Type 0
Below (before p ρ n σ) = Unit {0}
Below (over (ends σ n behind)) = Unit {0}
Below (over (fails outcome n)) = outcome < out_of_fuel

module _ (c : Call) (p : ℕ) (ρ : List ℤ) (n : ℕ) (σ : State) where
  checked_below : (x : ℕ) (k : Result ℤ NoResult) → Below (assign_checked p ρ n σ x k)
  unfolding assign_checked
  checked_below x (Ok v) = tt
  checked_below x (Err Overflow) = omega arith
  checked_below x (Err ZeroDivisor) = omega arith

  transfer_below : (m : ℤ) (payee : Option Account) → Below (transfer c p ρ n σ m payee)
  unfolding transfer
  transfer_below m None = omega arith
  transfer_below m (Some account) =
      if_all Below (non_neg m) (λ s. if_all Below (lt_z (σ (contract_balance c.contract)) m) (λ t. omega arith) (λ t. tt)) (λ s. omega arith)

  execute_below : (i : Instr) → Below (execute c p ρ n σ i)
  unfolding execute
  execute_below Stop = tt
  execute_below Throw = omega arith
  execute_below (Set x v) = tt
  execute_below (Arg x k) = tt
  execute_below (Sender x) = tt
  execute_below (Value x) = tt
  execute_below (Add x y z) = checked_below x (add_of (register ρ y) (register ρ z))
  execute_below (Sub x y z) = checked_below x (sub_of (register ρ y) (register ρ z))
  execute_below (Mul x y z) = checked_below x (mul_of (register ρ y) (register ρ z))
  execute_below (Div x y z) = checked_below x (div_of (register ρ y) (register ρ z))
  execute_below (Get x field a b) = tt
  execute_below (Put x field a b) = tt
  execute_below (Bal x) = tt
  execute_below (Pay x target) = transfer_below (register ρ x) (target_of c target)
  execute_below (Jeq x y to) = tt
  execute_below (Jlt x y to) = tt

pub turn_below : (c : Call) (p : ℕ) (ρ : List ℤ) (n : ℕ) (σ : State) (i : Instr) (outcome m : ℕ)
    → execute_at c p ρ n σ (Some i) ≡ over (fails outcome m) → outcome < out_of_fuel
unfolding execute_at
turn_below c p ρ n σ i outcome m e = subst Below e (execute_below c p ρ (n + 1) σ i)

-- ---- where a body failed

module _ (c : Call) (body : List Instr) (first : Course) where
  -- At an instruction for which it had fuel.
  pub record FailsAt (outcome m : ℕ) : Type 0 where
    pub count : ℕ
    pub place : ℕ
    pub regs : List ℤ
    pub state : State
    pub instr : Instr
    pub stands : turned count c body first ≡ before place regs count state
    pub due : slice_get body place ≡ Some instr
    pub fuelled : count < c.fuel
    pub failed : execute_at c place regs count state (Some instr) ≡ over (fails outcome m)

  -- For want of fuel, where an instruction was due.
  pub record SpentAt (outcome : ℕ) : Type 0 where
    pub place : ℕ
    pub regs : List ℤ
    pub state : State
    pub instr : Instr
    pub stands : turned c.fuel c body first ≡ before place regs c.fuel state
    pub due : slice_get body place ≡ Some instr
    pub spent : outcome ≡ out_of_fuel

  abbrev IsFailed : BodyResult → Type 0
  IsFailed (ends τ m behind) = ⊥
  IsFailed (fails o m) = Unit {0}

  abbrev outcome_of : BodyResult → ℕ
  outcome_of (ends τ m behind) = 0
  outcome_of (fails o m) = o

  module _ (outcome m : ℕ) where
    abbrev Failed : Type 0
    Failed = FailsAt outcome m ⊎ SpentAt outcome

    -- It fails without fuel.
    out_of_fuel_lem : (n p : ℕ) (ρ : List ℤ) (τ : State) → n ≡ c.fuel → turned n c body first ≡ before p ρ n τ → (o : Option Instr) → slice_get body p ≡ o
        → unfuelled n τ o ≡ fails outcome m → Failed
    unfolding unfuelled
    out_of_fuel_lem n p ρ τ all at None found e = absurd (subst⁻¹ IsFailed e tt)
    out_of_fuel_lem n p ρ τ all at (Some i) found e =
        inr
        (record {
          place = p;
          regs = ρ;
          state = τ;
          instr = i;
          stands = subst (λ (k : ℕ). turned k c body first ≡ before p ρ k τ) all at;
          due = found;
          spent = sym (ap outcome_of e);
        })

    pub failed_at : (left n p : ℕ) (ρ : List ℤ) (τ : State) → n + left ≡ c.fuel → turned n c body first ≡ before p ρ n τ
        → run_body left c body (before p ρ n τ) ≡ fails outcome m → Failed
    unfolding run_body execute_at
    failed_at zero n p ρ τ all at e = out_of_fuel_lem n p ρ τ (omega arith) at (slice_get body p) refl e
    failed_at (suc left) n p ρ τ all at e =
        due (slice_get body p) refl (λ q ρ' υ at' run. failed_at left (suc n) q ρ' υ (omega arith) at' run)
      where
        -- The body goes on from its next turn.
        Onward : Type 0
        Onward =
            (q : ℕ) (ρ' : List ℤ) (υ : State) → turned (suc n) c body first ≡ before q ρ' (suc n) υ
            → run_body left c body (before q ρ' (suc n) υ) ≡ fails outcome m → Failed

        next : (i : Instr) → slice_get body p ≡ Some i → (x : Course) → execute_at c p ρ n τ (Some i) ≡ x → OneMore τ n x → run_body left c body x ≡ fails outcome m
            → Onward → Failed
        next i found (before q ρ' k υ) x one run ih =
            let same : k ≡ suc n = omega (arith, one) in
            let on : turned (suc n) c body first ≡ before q ρ' k υ = turned_next n c body first p ρ n τ at ∙ ap (execute_at c p ρ n τ) found ∙ x in
            ih q ρ' υ (subst (λ (j : ℕ). turned (suc n) c body first ≡ before q ρ' j υ) same on)
            (subst (λ (j : ℕ). run_body left c body (before q ρ' j υ) ≡ fails outcome m) same run)
        next i found (over r) x one run ih =
            inl
            (record {
              count = n;
              place = p;
              regs = ρ;
              state = τ;
              instr = i;
              stands = at;
              due = found;
              fuelled = omega arith;
              failed = x ∙ ap over (sym (body_over left c body r) ∙ run);
            })

        ran : (o : Option Instr) → slice_get body p ≡ o → run_body left c body (execute_at c p ρ n τ o) ≡ fails outcome m
        ran o found = ap (λ (o' : Option Instr). run_body left c body (execute_at c p ρ n τ o')) (sym found) ∙ e

        due : (o : Option Instr) → slice_get body p ≡ o → Onward → Failed
        due None found ih = absurd (subst⁻¹ IsFailed (sym (body_over left c body (ends τ n true)) ∙ ran None found) tt)
        due (Some i) found ih = next i found (execute_at c p ρ n τ (Some i)) refl (turn_one τ c p ρ n τ (Some i)) (ran (Some i) found) ih
