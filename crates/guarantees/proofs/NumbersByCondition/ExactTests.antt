-- When tests pass: two together, one under another, and one of every number below n, which passes exactly if each number does and fails exactly if
-- one does not.
use mathlib.Core.Path.{◌≡◌, refl, sym, subst⁻¹, ◌∙◌}
use mathlib.Core.Bool.{Bool, true, false, ◌&&◌, ◌||◌, not, true≢false, false≢true}
use Prim.Native.Nat.{ℕ, zero, suc, ◌≤◌, ◌<◌}
use native.Mathlib.Decide.{ℕ_discrete}
use native.Mathlib.Omega.{arith}
use borrow.Author.Tests.{ltb-true, lt-ltb, leb-true, le-leb, eqb-true, eqb-false, eq-eqb, ne_eqb, not-true}
use lib.Dec.{eqb, leb, ltb}
use Rattle.arith.proofs.ChoiceLaws.{both}
use Rattle.guarantees.specs.Demand1.{Exactly}

-- ---- one test

pub itself : {A : Type 0} → Exactly A A
itself = (λ a. a, λ a. a)

pub ltb_exact : (m n : ℕ) → Exactly (ltb m n ≡ true) (m < n)
ltb_exact m n = (ltb-true m n, lt-ltb m n)

pub leb_exact : (m n : ℕ) → Exactly (leb m n ≡ true) (m ≤ n)
leb_exact m n = (leb-true m n, le-leb m n)

pub eqb_exact : (m n : ℕ) → Exactly (eqb m n ≡ true) (m ≡ n)
eqb_exact m n = (eqb-true m n, eq-eqb m n)

pub differ_exact : (m n : ℕ) → Exactly (not (eqb m n) ≡ true) (m ≡ n → ⊥)
differ_exact m n = (λ e. eqb-false m n (not-true (eqb m n) e), λ d. rw (ne_eqb m n d))

-- ---- two tests

pub both_exact : {A B : Type 0} (s t : Bool) → Exactly (s ≡ true) A → Exactly (t ≡ true) B → Exactly ((s && t) ≡ true) (A × B)
both_exact s t x y = (λ e. (x.0 (both s t e).0, y.0 (both s t e).1), λ h. rw (x.1 h.0, y.1 h.1))

pub under_exact : {A B : Type 0} (s t : Bool) → Exactly (s ≡ true) A → Exactly (t ≡ true) B → Exactly ((not s || t) ≡ true) (A → B)
under_exact true t x y = (λ e a. y.0 e, λ h. y.1 (h (x.0 refl)))
under_exact false t x y = (λ e a. absurd (false≢true (x.1 a)), λ h. refl)

-- What is not so, no test passes.
pub fails_unless : {A : Type 0} (t : Bool) → (t ≡ true → A) → (A → ⊥) → t ≡ false
fails_unless true f h = absurd (h (f refl))
fails_unless false f h = refl

-- ---- a test of every number below n

pub record TestsAll (t : Bool) (n : ℕ) (F : ℕ → Type 0) : Type 0 where
  pub every : Exactly (t ≡ true) ((i : ℕ) → i < n → F i)
  pub one : Exactly (t ≡ false) ((i : ℕ) × (i < n) × (F i → ⊥))

module _ (all test : ℕ → Bool) (F : ℕ → Type 0) (none : all 0 ≡ true) (next : (n : ℕ) → all (suc n) ≡ (test n && all n))
    (exact : (i : ℕ) → Exactly (test i ≡ true) (F i)) where
  passed : (n : ℕ) → all n ≡ true → (i : ℕ) → i < n → F i
  passed zero e i l = absurd (omega arith)
  passed (suc n) e i l = go (ℕ_discrete i n) (passed n two.1 i)
    where
      two : (test n ≡ true) × (all n ≡ true)
      two = both (test n) (all n) (sym (next n) ∙ e)

      go : Dec (i ≡ n) → (i < n → F i) → F i
      go (yes s) later = subst⁻¹ F s ((exact n).0 two.0)
      go (no d) later = later (omega arith)

  pass : (n : ℕ) → ((i : ℕ) → i < n → F i) → all n ≡ true
  pass zero h = none
  pass (suc n) h = next n ∙ rw ((exact n).1 (h n (omega arith))) (pass n (λ i l. h i (omega arith)))

  failed : (n : ℕ) → all n ≡ false → (i : ℕ) × (i < n) × (F i → ⊥)
  failed zero e = absurd (true≢false (sym none ∙ e))
  failed (suc n) e = go (test n) refl (sym (next n) ∙ e) (failed n)
    where
      go : (t : Bool) → test n ≡ t → (t && all n) ≡ false → (all n ≡ false → (i : ℕ) × (i < n) × (F i → ⊥)) → (i : ℕ) × (i < suc n) × (F i → ⊥)
      go true q a later = let f : (i : ℕ) × (i < n) × (F i → ⊥) = later a in (f.0, omega (arith, f.1), f.2)
      go false q a later = (n, omega arith, λ f. true≢false (sym ((exact n).1 f) ∙ q))

  pub all_exact : (n : ℕ) → TestsAll (all n) n F
  all_exact n =
      record { every = (passed n, pass n); one = (failed n, λ f. fails_unless (all n) (λ e. passed n e f.0 f.1) f.2) }
