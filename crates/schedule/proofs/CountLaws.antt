-- How many earlier conflicting calls of a call are not done: it blocks where that is not 0, and one call that ends lowers it by one.
use Prim.Native.Nat.{ℕ, zero, suc, ◌+◌, ◌≤◌, ◌<◌}
use native.Mathlib.Nat.{zero-add}
use native.Mathlib.Omega.{arith}
use native.Mathlib.Decide.{ℕ_discrete}
use mathlib.Core.Path.{◌≡◌, refl, sym, ap, ap₂}
use mathlib.Core.Bool.{Bool, true, false, cond, not, ◌&&◌, ◌||◌}
use borrow.Author.Tests.{ne_eqb}
use lib.Dec.{eqb}
use Rattle.schedule.specs.Tally.{blocked, unfinished_earlier}

-- One call, conflicting or not and done or not: it is counted at most once, and not once it is done.
abbrev one : (conflicting done : Bool) → ℕ
one b d = cond (b && not d) 1 0

one_most : (b d : Bool) → one b d ≤ 1
one_most true true = omega arith
one_most true false = omega arith
one_most false d = omega arith

one_open : (b : Bool) → one b false ≡ cond b 1 0
one_open true = refl
one_open false = refl

one_done : (b : Bool) → one b true ≡ 0
one_done true = refl
one_done false = refl

module _ (before : ℕ → ℕ → Bool) (done : ℕ → Bool) (c : ℕ) where
  abbrev count : ℕ → ℕ
  count m = unfinished_earlier before done c m

  -- A call is blocked exactly if some are counted.
  pub count_blocked : (m : ℕ) → blocked before done c m ≡ not (eqb (unfinished_earlier before done c m) 0)
  unfolding blocked unfinished_earlier
  count_blocked zero = refl
  count_blocked (suc m) = go (before m c && not (done m)) (count_blocked m)
    where
      go : (b : Bool) → blocked before done c m ≡ not (eqb (count m) 0) → (b || blocked before done c m) ≡ not (eqb (cond b 1 0 + count m) 0)
      go true e = ap not (sym (ne_eqb (1 + count m) 0 (omega arith)))
      go false e = rw zero-add e

  pub count_most : (m : ℕ) → unfinished_earlier before done c m ≤ m
  unfolding unfinished_earlier
  count_most zero = omega arith
  count_most (suc m) = omega (arith, one_most (before m c) (done m), count_most m)

  -- One that is not done is counted.
  pub count_some : (m i : ℕ) → i < m → before i c ≡ true → done i ≡ false → 0 < unfinished_earlier before done c m
  unfolding unfinished_earlier
  count_some zero i l b d = absurd (omega arith)
  count_some (suc m) i l b d = go (ℕ_discrete i m) (λ below. count_some m i below b d)
    where
      go : Dec (i ≡ m) → (i < m → 0 < count m) → 0 < one (before m c) (done m) + count m
      go (yes q) ih = rw (← q, b, d) (omega arith)
      go (no x) ih = omega (arith, ih (omega arith))

  module _ (before' : ℕ → ℕ → Bool) (done' : ℕ → Bool) where
    -- Only the calls below the number are looked at.
    pub count_same : (m : ℕ) → ((i : ℕ) → i < m → before i c ≡ before' i c) → ((i : ℕ) → i < m → done i ≡ done' i)
        → unfinished_earlier before done c m ≡ unfinished_earlier before' done' c m
    unfolding unfinished_earlier
    count_same zero f g = refl
    count_same (suc m) f g =
        ap₂ (λ (a k : ℕ). a + k) (ap₂ one (f m (omega arith)) (g m (omega arith)))
        (count_same m (λ i l. f i (omega arith)) (λ i l. g i (omega arith)))

-- Call i ends and no other: it is counted no more.
module _ (before : ℕ → ℕ → Bool) (done done' : ℕ → Bool) (c i : ℕ) (others : (j : ℕ) → ¬ (j ≡ i) → done j ≡ done' j)
    (was : done i ≡ false) (is : done' i ≡ true) where
  pub count_less : (m : ℕ) → i < m → unfinished_earlier before done c m ≡ cond (before i c) 1 0 + unfinished_earlier before done' c m
  unfolding unfinished_earlier
  count_less zero l = absurd (omega arith)
  count_less (suc m) l = go (ℕ_discrete i m) (count_less m)
    where
      go : Dec (i ≡ m) → (i < m → unfinished_earlier before done c m ≡ cond (before i c) 1 0 + unfinished_earlier before done' c m)
          → unfinished_earlier before done c (suc m) ≡ cond (before i c) 1 0 + unfinished_earlier before done' c (suc m)
      go (yes q) ih =
          rw (← q, was, is)
          (omega (arith, one_open (before i c), one_done (before i c), count_same before done c before done' i (λ j k. refl) (λ j k. others j (omega arith))))
      go (no x) ih =
          let first : one (before m c) (done m) ≡ one (before m c) (done' m) = ap (one (before m c)) (others m (λ q. x (sym q))) in
          omega (arith, ih (omega arith))
