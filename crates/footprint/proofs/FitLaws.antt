-- "A value is signed, 64 bits": a call leaves such values where it finds such values within the balance limit.
use mathlib.Core.Path.{◌≡◌, subst⁻¹, ◌∙◌}
use mathlib.Core.Bool.{true, false}
use mathlib.Core.List.{List}
use Prim.Native.Nat.{ℕ, ◌^◌, ◌<◌}
use native.Mathlib.Omega.{arith}
use native.Mathlib.Decide.{ℕ_discrete}
use lib.Dec.{eqb}
use lib.IntN.{ℤ, ◌+ℤ◌, ◌-ℤ◌}
use lib.Signed.{mag, lt_z, non_neg}
use Rattle.arith.specs.Balance.{largest}
use Rattle.arith.proofs.ChoiceLaws.{if_all}
use Rattle.arith.proofs.IntegerLaws.{le_z_true, non_neg_true, parts_mag}
use Rattle.block.specs.Key.{is_balance}
use Rattle.block.specs.Record.{Function}
use Rattle.block.specs.declared.Call.{Call}
use Rattle.block.specs.Encoding.{AreBytes}
use Rattle.rule.proofs.LimitLaws.{update_other, balance_key, limit_balance, limit_move, limit_other}
use Rattle.rule.specs.Rule.{State, update, credit, debit, state_within_limit, transaction}
use Rattle.footprint.proofs.RuleLimit.{call_keeps_state}
use Rattle.footprint.specs.SafeSets.{CallBounded}

-- A value of 64 signed bits.
abbrev pub Small : ℤ → Type 0
Small z = mag z < 2 ^ 63

-- A state within the limit, whose values are such.
pub record Fit (σ : State) : Type 0 where
  pub limit : state_within_limit σ ≡ true
  pub small : (k : ℕ) → Small (σ k)

-- A balance within the limit is such a value.
balance_small : (σ : State) → state_within_limit σ ≡ true → (a : ℕ) → a < 65536 → Small (σ (balance_key a))
balance_small σ within a h =
    let z : ℤ = σ (balance_key a) in
    let b = limit_balance σ within a h in
    parts_mag z (omega (arith, non_neg_true z b.0, le_z_true z largest b.1))

-- What moves between two balances leaves such values: the two are within the limit, and the others as they were.
fit_move : (σ : State) → Fit σ → (a b : ℕ) → a < 65536 → b < 65536 → (m : ℤ) → non_neg m ≡ true → lt_z (σ (balance_key a)) m ≡ false
    → Fit (credit (debit σ (balance_key a) m) (balance_key b) m)
fit_move σ fit a b ha hb m s l = record { limit = within; small = λ k. go k (ℕ_discrete k (balance_key b)) (ℕ_discrete k (balance_key a)) }
  where
    less : State
    less = debit σ (balance_key a) m

    after : State
    after = credit less (balance_key b) m

    within : state_within_limit after ≡ true
    within = limit_move σ fit.limit a b ha hb m s l

    go : (k : ℕ) → Dec (k ≡ balance_key b) → Dec (k ≡ balance_key a) → Small (after k)
    go k (yes e) own = subst⁻¹ (λ (j : ℕ). Small (after j)) e (balance_small after within b hb)
    go k (no d) (yes e) = subst⁻¹ (λ (j : ℕ). Small (after j)) e (balance_small after within a ha)
    go k (no d) (no d') =
        subst⁻¹ Small (update_other less (balance_key b) (less (balance_key b) +ℤ m) k d ∙ update_other σ (balance_key a) (σ (balance_key a) -ℤ m) k d')
        (fit.small k)

-- So does a cell that is no balance and takes such a value.
fit_other : (σ : State) → Fit σ → (k : ℕ) (v : ℤ) → is_balance k ≡ false → Small v → Fit (update σ k v)
unfolding update
fit_other σ fit k v e h =
    record { limit = limit_other σ fit.limit k v e; small = λ l. if_all Small (eqb l k) (λ t. h) (λ t. fit.small l) }

-- And so does a call.
pub fit_kept : (c : Call) → CallBounded c → (block : List ℕ) → AreBytes block → (functions : List Function) (σ : State) → Fit σ
    → Fit (transaction block functions c σ).state
fit_kept = call_keeps_state Small Fit (λ z h. h) (λ σ fit. fit.small) fit_move fit_other
