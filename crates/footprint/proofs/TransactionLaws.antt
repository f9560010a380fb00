-- What holds of values and of a state at the entry of a transaction and is kept by each of its instructions holds of the state that it
-- leaves.
use Rattle.arith.specs.declared.NoResult.{NoResult}
use Rattle.block.specs.declared.address.Account.{Account}
use mathlib.Core.Path.{◌≡◌, refl, subst⁻¹}
use mathlib.Core.Bool.{Bool, true, false}
use mathlib.Core.List.{List, [], ◌∷◌}
use Prim.Native.Nat.{ℕ, zero, suc, ◌+◌, ◌^◌, ◌<◌, ◌≤◌}
use native.Mathlib.Omega.{arith}
use native.Mathlib.Decide.{ℕ_discrete}
use borrow.Author.Tests.{ltb-true}
use lib.Dec.{lit<}
use lib.IntN.{ℤ, pos, negsuc, neg_ℤ, ◌+ℤ◌, ◌-ℤ◌, ◌*ℤ◌}
use lib.ListN.{get_or, set}
use lib.Signed.{mag, lt_z, non_neg}
use Rattle.std.specs.Prelude.{if◌then◌else◌, None, Option, Some, slice_get, Result}
use Rattle.arith.proofs.ChoiceLaws.{if_all, neither}
use Rattle.arith.specs.Exact.{fits64, checked, floor_by, div_of}
use Rattle.wire.specs.All.{All}
use Rattle.block.specs.Key.{account_balance, contract_balance}
use Rattle.block.specs.Outcomes.{ended, balance_too_low, thrown}
use Rattle.block.specs.Record.{Function, argument}
use Rattle.block.specs.declared.Call.{Call}
use Rattle.block.specs.declared.Instr.{Instr}
use Rattle.block.specs.declared.Instr.TheVariants.{Stop, Throw, Set, Arg, Sender, Value, Add, Sub, Mul, Div, Get, Put, Bal, Pay, Jeq, Jlt}
use Rattle.block.specs.Naming.{cell_key, target_of}
use Rattle.footprint.specs.SetsInWords.{some_of, instructions_of}
use Rattle.rule.specs.Rule.{State, update, credit, debit, BodyResult, ends, fails, Course, before, over, assign_checked, transfer, execute, execute_at, unfuelled, run_body, Left, settle, unbegun, run_function, transaction_by}

-- ---- every instruction of a body

abbrev pub HoldsOfFound : (Instr → Type 0) → Option Instr → Type 0
HoldsOfFound Q None = Unit {0}
HoldsOfFound Q (Some i) = Q i

pub every_at : (Q : Instr → Type 0) (body : List Instr) → All Q body → (p : ℕ) → HoldsOfFound Q (slice_get body p)
every_at Q [] q p = tt
every_at Q (i ∷ is) q zero = q.0
every_at Q (i ∷ is) q (suc p) = every_at Q is q.1 p

-- Where no instruction passes a test, each fails it.
pub none_passes : (test : Instr → Bool) (body : List Instr) → some_of test body ≡ false → All (λ i. test i ≡ false) body
unfolding some_of
none_passes test [] e = tt
none_passes test (i ∷ is) e = ((neither (test i) (some_of test is) e).0, none_passes test is (neither (test i) (some_of test is) e).1)

-- ---- every register

module _ (R : ℤ → Type 0) where
  register_at : R (pos 0) → (ρ : List ℤ) → All R ρ → (x : ℕ) → R (get_or ρ x (pos 0))
  register_at z [] q x = z
  register_at z (v ∷ ρ) q zero = q.0
  register_at z (v ∷ ρ) q (suc x) = register_at z ρ q.1 x

  register_set : (ρ : List ℤ) → All R ρ → (x : ℕ) (v : ℤ) → R v → All R (set ρ x v)
  register_set [] q x v h = tt
  register_set (u ∷ ρ) q zero v h = (h, q.1)
  register_set (u ∷ ρ) q (suc x) v h = (q.0, register_set ρ q.1 x v h)

-- ---- one property of values, and one of states

-- The property of values that all have.
abbrev pub any_value : ℤ → Type 0
any_value z = Unit {0}

-- The one of states holds of the state in which a body ended; a body that fails has an outcome of its own.
abbrev LeftWith : (State → Type 0) → BodyResult → Type 0
LeftWith K (ends σ n behind) = K σ
LeftWith K (fails outcome n) = thrown ≤ outcome

-- What a transaction leaves of a state: one with the property if it ended with 0, else that state.
abbrev pub EndsWith : (State → Type 0) → State → Left → Type 0
EndsWith K σ l = (l.outcome ≡ ended → K l.state) × ((l.outcome ≡ ended → ⊥) → l.state ≡ σ)

-- Where a body is, the one of values holds of each register, and the one of states of the state.
abbrev AtWith : (ℤ → Type 0) → (State → Type 0) → Course → Type 0
AtWith R K (before p ρ n σ) = All R ρ × K σ
AtWith R K (over r) = LeftWith K r

-- A transfer that passes its tests keeps the one of states.
abbrev pub PayKeeps : Call → (State → Type 0) → Option Account → Type 0
PayKeeps c K (Some account) =
    (σ : State) (m : ℤ) → non_neg m ≡ true → lt_z (σ (contract_balance c.contract)) m ≡ false → K σ
    → K (credit (debit σ (contract_balance c.contract) m) (account_balance account) m)
PayKeeps c K None = Unit {0}

module _ (c : Call) (R : ℤ → Type 0) (K : State → Type 0) where
  -- What an instruction assigns to a register from call or state has the one, and what it changes keeps the other: only PUT and PAY change a
  -- cell.
  abbrev pub InstrKeeps : Instr → Type 0
  InstrKeeps Stop = Unit {0}
  InstrKeeps Throw = Unit {0}
  InstrKeeps (Set x v) = R v
  InstrKeeps (Arg x k) = R (pos (argument c k))
  InstrKeeps (Sender x) = R (pos c.sender.0)
  InstrKeeps (Value x) = R c.value
  InstrKeeps (Add x y z) = Unit {0}
  InstrKeeps (Sub x y z) = Unit {0}
  InstrKeeps (Mul x y z) = Unit {0}
  InstrKeeps (Div x y z) = Unit {0}
  InstrKeeps (Get x field a b) = (σ : State) → K σ → R (σ (cell_key c field a b))
  InstrKeeps (Put x field a b) = (σ : State) (v : ℤ) → R v → K σ → K (update σ (cell_key c field a b) v)
  InstrKeeps (Bal x) = (σ : State) → K σ → R (σ (contract_balance c.contract))
  InstrKeeps (Pay x target) = PayKeeps c K (target_of c target)
  InstrKeeps (Jeq x y to) = Unit {0}
  InstrKeeps (Jlt x y to) = Unit {0}

-- Every value of 64 bits has the one of values: the results of arithmetic are such.
module _ (c : Call) (R : ℤ → Type 0) (fit : (z : ℤ) → mag z < 2 ^ 63 → R z) (K : State → Type 0) where
  abbrev At : Course → Type 0
  At = AtWith R K

  module _ (p : ℕ) (ρ : List ℤ) (n : ℕ) (σ : State) (all : All R ρ) (holds : K σ) where
    held : (x : ℕ) → R (get_or ρ x (pos 0))
    held = register_at R (fit (pos 0) (lit< tt)) ρ all

    assign_keeps : (x : ℕ) (v : ℤ) → R v → At (before (p + 1) (set ρ x v) n σ)
    assign_keeps x v h = (register_set R ρ all x v h, holds)

    checked_keeps : (x : ℕ) (z : ℤ) → At (assign_checked p ρ n σ x (checked z))
    unfolding assign_checked checked
    checked_keeps x z =
        if_all (λ (r : Result ℤ NoResult). At (assign_checked p ρ n σ x r)) (fits64 z) (λ e. assign_keeps x z (fit z (ltb-true (mag z) (2 ^ 63) e))) (λ e. omega arith)

    div_keeps : (x : ℕ) (a b : ℤ) → At (assign_checked p ρ n σ x (div_of a b))
    unfolding assign_checked div_of
    div_keeps x a (pos zero) = omega arith
    div_keeps x a (pos (suc d)) = checked_keeps x (floor_by a (suc d))
    div_keeps x a (negsuc d) = checked_keeps x (floor_by (neg_ℤ a) (suc d))

    transfer_keeps : (m : ℤ) (payee : Option Account) → PayKeeps c K payee → At (transfer c p ρ n σ m payee)
    unfolding transfer
    transfer_keeps m None q = omega arith
    transfer_keeps m (Some account) q = go (non_neg m) (lt_z (σ (contract_balance c.contract)) m) refl refl
      where
        after : State
        after = credit (debit σ (contract_balance c.contract) m) (account_balance account) m

        go : (s l : Bool) → non_neg m ≡ s → lt_z (σ (contract_balance c.contract)) m ≡ l
            → At (if s then (if l then over (fails 5 n) else before (p + 1) ρ n after) else over (fails 5 n))
        go false l s e = omega arith
        go true true s e = omega arith
        go true false s e = (all, q σ m s e holds)

    execute_keeps : (i : Instr) → InstrKeeps c R K i → At (execute c p ρ n σ i)
    unfolding execute
    execute_keeps Stop q = holds
    execute_keeps Throw q = omega arith
    execute_keeps (Set x v) q = assign_keeps x v q
    execute_keeps (Arg x k) q = assign_keeps x (pos (argument c k)) q
    execute_keeps (Sender x) q = assign_keeps x (pos c.sender.0) q
    execute_keeps (Value x) q = assign_keeps x c.value q
    execute_keeps (Add x y z) q = checked_keeps x (get_or ρ y (pos 0) +ℤ get_or ρ z (pos 0))
    execute_keeps (Sub x y z) q = checked_keeps x (get_or ρ y (pos 0) -ℤ get_or ρ z (pos 0))
    execute_keeps (Mul x y z) q = checked_keeps x (get_or ρ y (pos 0) *ℤ get_or ρ z (pos 0))
    execute_keeps (Div x y z) q = div_keeps x (get_or ρ y (pos 0)) (get_or ρ z (pos 0))
    execute_keeps (Get x field a b) q = assign_keeps x (σ (cell_key c field a b)) (q σ holds)
    execute_keeps (Put x field a b) q = (all, q σ (get_or ρ x (pos 0)) (held x) holds)
    execute_keeps (Bal x) q = assign_keeps x (σ (contract_balance c.contract)) (q σ holds)
    execute_keeps (Pay x target) q = transfer_keeps (get_or ρ x (pos 0)) (target_of c target) q
    execute_keeps (Jeq x y to) q = (all, holds)
    execute_keeps (Jlt x y to) q = (all, holds)

  at_keeps : (p : ℕ) (ρ : List ℤ) (n : ℕ) (σ : State) → All R ρ → K σ → (o : Option Instr) → HoldsOfFound (InstrKeeps c R K) o
      → At (execute_at c p ρ n σ o)
  unfolding execute_at
  at_keeps p ρ n σ all holds None q = holds
  at_keeps p ρ n σ all holds (Some i) q = execute_keeps p ρ (n + 1) σ all holds i q

  module _ (body : List Instr) (each : All (InstrKeeps c R K) body) where
    last_keeps : (n : ℕ) (σ : State) → K σ → (o : Option Instr) → LeftWith K (unfuelled n σ o)
    unfolding unfuelled
    last_keeps n σ holds None = holds
    last_keeps n σ holds (Some i) = omega arith

    run_keeps : (fuel : ℕ) (x : Course) → At x → LeftWith K (run_body fuel c body x)
    unfolding run_body
    run_keeps zero (before p ρ n σ) h = last_keeps n σ h.1 (slice_get body p)
    run_keeps zero (over r) h = h
    run_keeps (suc fuel) (before p ρ n σ) h =
        run_keeps fuel (execute_at c p ρ n σ (slice_get body p))
        (at_keeps p ρ n σ h.0 h.1 (slice_get body p) (every_at (InstrKeeps c R K) body each p))
    run_keeps (suc fuel) (over r) h = h

  settle_ends : (σ : State) (r : BodyResult) → LeftWith K r → EndsWith K σ (settle σ r)
  unfolding settle
  settle_ends σ (ends τ n behind) h = (λ e. h, λ d. absurd (d refl))
  settle_ends σ (fails outcome n) h = (λ e. absurd (omega (arith, e, h)), λ d. refl)

  -- "signed 64 bits, 0 at start"
  zeros : All R (pos 0 ∷ pos 0 ∷ pos 0 ∷ pos 0 ∷ pos 0 ∷ pos 0 ∷ pos 0 ∷ pos 0 ∷ [])
  zeros = let z : R (pos 0) = fit (pos 0) (lit< tt) in (z, (z, (z, (z, (z, (z, (z, (z, tt))))))))

  -- What the entry of a transaction makes and its instructions keep holds where it ended with 0; else the state is as it was.
  pub transaction_ends : (block : List ℕ) (σ : State) (f : Option Function)
      → ((g : Function) → f ≡ Some g → lt_z (σ (account_balance c.sender)) c.value ≡ false
      → K (credit (debit σ (account_balance c.sender) c.value) (contract_balance c.contract) c.value))
      → ((g : Function) → f ≡ Some g → All (InstrKeeps c R K) (instructions_of block g))
      → EndsWith K σ (transaction_by block c σ f)
  unfolding transaction_by run_function
  transaction_ends block σ None entry each = (λ e. absurd (omega (arith, e)), λ d. refl)
  transaction_ends block σ (Some g) entry each = go (lt_z (σ (account_balance c.sender)) c.value) refl
    where
      go : (b : Bool) → lt_z (σ (account_balance c.sender)) c.value ≡ b
          → EndsWith K σ (if b then unbegun σ balance_too_low else run_function block c σ g)
      go true e = (λ o. absurd (omega (arith, o)), λ d. refl)
      go false e =
          settle_ends σ _
          (run_keeps (instructions_of block g) (each g refl) c.fuel _ (zeros, entry g refl e))

  -- So a transaction keeps what its entry and its instructions keep.
  pub transaction_keeps : (block : List ℕ) (σ : State) → K σ → (f : Option Function)
      → ((g : Function) → f ≡ Some g → lt_z (σ (account_balance c.sender)) c.value ≡ false
      → K (credit (debit σ (account_balance c.sender) c.value) (contract_balance c.contract) c.value))
      → ((g : Function) → f ≡ Some g → All (InstrKeeps c R K) (instructions_of block g))
      → K (transaction_by block c σ f).state
  transaction_keeps block σ holds f entry each =
      go (transaction_ends block σ f entry each) (ℕ_discrete (transaction_by block c σ f).outcome ended)
    where
      go : EndsWith K σ (transaction_by block c σ f) → Dec ((transaction_by block c σ f).outcome ≡ ended) → K (transaction_by block c σ f).state
      go left (yes e) = left.0 e
      go left (no d) = subst⁻¹ K (left.1 d) holds
