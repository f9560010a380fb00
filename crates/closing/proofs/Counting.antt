-- A test of every number below a bound, by a loop over the numbers: one law, and each test of the calls of a sheet as an instance.
use mathlib.Core.Path.{◌≡◌, refl, sym, ap, ◌∙◌}
use mathlib.Core.Bool.{Bool, true, false, ◌&&◌}
use mathlib.Core.List.{List}
use Prim.Native.Nat.{ℕ, zero, suc, ◌+◌, ◌-◌, ◌<◌, ◌≤◌}
use Rattle.std.specs.List.{list_all, range_with_len}
use native.Mathlib.Omega.{arith}
use lib.Dec.{eqb, leb}
use Rattle.machine.specs.Run.{status_word, state_of, is_state, finished}
use Rattle.block.specs.Outcomes.{last_outcome, max_count}
use Rattle.sheet.specs.Sheet.{states_allowed, all_finished, receipts_allowed}

module _ (f p : ℕ → Bool) (none : f 0 ≡ true) (turn : (n : ℕ) → f (suc n) ≡ (p n && f n)) where
  from_first : (a n : ℕ) → f (a + n) ≡ (list_all p (range_with_len a n) && f a)
  from_first a zero = let e : a + 0 ≡ a = omega arith in ap f e
  from_first a (suc n) =
      let e : a + suc n ≡ a + 1 + n = omega arith in
      let one : f (a + 1) ≡ (p a && f a) = (let o : a + 1 ≡ suc a = omega arith in ap f o ∙ turn a) in
      ap f e ∙ from_first (a + 1) n ∙ ap (λ (b : Bool). list_all p (range_with_len (a + 1) n) && b) one ∙ past (p a) (list_all p (range_with_len (a + 1) n)) (f a)
    where
      past : (x y z : Bool) → (y && (x && z)) ≡ (x && y && z)
      past true y z = refl
      past false true z = refl
      past false false z = refl

  -- Whether each passes is whether all the numbers below the bound pass.
  pub each_below : (n : ℕ) → list_all p (range_with_len 0 n) ≡ f n
  each_below n = let z : 0 + n ≡ n = omega arith in sym (sym (ap f z) ∙ from_first 0 n ∙ ap (λ (b : Bool). list_all p (range_with_len 0 n) && b) none ∙ last (list_all p (range_with_len 0 n)))
    where
      last : (x : Bool) → (x && true) ≡ x
      last true = refl
      last false = refl

-- The same for a loop that counts down: the first `left` of them answer as all do, and the others hold.
pub record Down (f : ℕ → Bool) (all left : ℕ) : Type 0 where
  pub within : left ≤ all
  pub same : f all ≡ f left

module _ (f p : ℕ → Bool) (turn : (n : ℕ) → f (suc n) ≡ (p n && f n)) (all : ℕ) where
  pub down_none : Down f all all
  down_none = record { within = omega arith; same = refl }

  here : (left : ℕ) → Down f all left → 0 < left → f all ≡ (p (left - 1) && f (left - 1))
  here left d h = let e : left ≡ suc (left - 1) = omega arith in d.same ∙ ap f e ∙ turn (left - 1)

  pub down_more : (left : ℕ) → Down f all left → 0 < left → p (left - 1) ≡ true → Down f all (left - 1)
  down_more left d h t =
      let w : left ≤ all = d.within in
      record { within = omega arith; same = here left d h ∙ ap (λ (b : Bool). b && f (left - 1)) t }

  pub down_stop : (left : ℕ) → Down f all left → 0 < left → p (left - 1) ≡ false → false ≡ f all
  down_stop left d h t = sym (here left d h ∙ ap (λ (b : Bool). b && f (left - 1)) t)

  pub down_all : f 0 ≡ true → (left : ℕ) → Down f all left → left ≤ 0 → true ≡ f all
  down_all z left d h = let e : left ≡ 0 = omega arith in sym (d.same ∙ ap f e ∙ z)

-- ---- the three tests

module _ (status : List ℕ) where
  pub states_none : states_allowed status 0 ≡ true
  unfolding states_allowed
  states_none = refl

  pub states_turn : (n : ℕ) → states_allowed status (suc n) ≡ (is_state (state_of status n) && states_allowed status n)
  unfolding states_allowed
  states_turn n = refl

  pub finished_none : all_finished status 0 ≡ true
  unfolding all_finished
  finished_none = refl

  pub finished_turn : (n : ℕ) → all_finished status (suc n) ≡ (eqb (state_of status n) finished && all_finished status n)
  unfolding all_finished
  finished_turn n = refl

  -- Whether a receipt is one.
  abbrev pub receipt_allowed : ℕ → Bool
  receipt_allowed n = leb (status_word status n 1) last_outcome && leb (status_word status n 2) max_count

  pub allowed_none : receipts_allowed status 0 ≡ true
  unfolding receipts_allowed
  allowed_none = refl

  pub allowed_turn : (n : ℕ) → receipts_allowed status (suc n) ≡ (receipt_allowed n && receipts_allowed status n)
  unfolding receipts_allowed
  allowed_turn n = refl
