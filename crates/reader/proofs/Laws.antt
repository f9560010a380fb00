-- What the proofs of this crate cite: a code looked through.
use mathlib.Core.Path.{◌≡◌, refl, sym, ◌∙◌, ap}
use mathlib.Core.Bool.{true, false}
use mathlib.Core.List.{List}
use Prim.Native.Nat.{ℕ, suc, ◌+◌, ◌*◌, ◌-◌, ◌<◌, ◌≤◌}
use native.Mathlib.Omega.{arith}
use native.Mathlib.Nat.{sub-zero}
use lib.ListN.{drop}
use lib.Seq.{drop-drop}
use Rattle.std.proofs.Common.{Option, Some, None, MatchOption, unwrap_or, zero, add-one}
use Rattle.block.specs.Instruction.{decode, is_valid, first_invalid}

-- A code is looked through from its first instruction on.
invalid_here : (left index size : ℕ) (s : List ℕ) → is_valid (decode size s) ≡ false → first_invalid (suc left) index size s ≡ index
unfolding first_invalid
invalid_here left index size s e = rw (e, first_invalid)

valid_here : (left index size : ℕ) (s : List ℕ) → is_valid (decode size s) ≡ true
    → first_invalid (suc left) index size s ≡ first_invalid left (index + 1) size (drop 8 s)
unfolding first_invalid
valid_here left index size s e = rw (e, first_invalid)

pub record Through (s : List ℕ) (size i : ℕ) : Type 0 where
  pub within : i ≤ size
  pub same : first_invalid (size - i) i size (drop (4 + 8 * i) s) ≡ first_invalid size 0 size (drop 4 s)

pub through_none : (s : List ℕ) (size : ℕ) → Through s size 0
through_none s size = record { within = omega arith; same = rw sub-zero refl }

module _ (s : List ℕ) (size i : ℕ) (t : Through s size i) where
  pub through_all : size ≤ i → i ≡ first_invalid size 0 size (drop 4 s)
  unfolding first_invalid
  through_all h = rw (← t.same) (let e : size - i ≡ 0 = omega arith in rw e)

  module _ (inside : i < size) where
    one_more : size - i ≡ suc (size - (i + 1))
    one_more = omega arith

    pub through_here : is_valid (decode size (drop (4 + 8 * i) s)) ≡ false → i ≡ first_invalid size 0 size (drop 4 s)
    through_here e = rw (← t.same, one_more) (sym (invalid_here (size - (i + 1)) i size (drop (4 + 8 * i) s) e))

    pub through_more : is_valid (decode size (drop (4 + 8 * i) s)) ≡ true → Through s size (i + 1)
    through_more e =
        let place : 4 + 8 * (i + 1) ≡ 4 + 8 * i + 8 = omega arith in
        record {
          within = omega arith;
          same =
              rw (place, ← drop-drop 8 (4 + 8 * i) s)
              (sym (valid_here (size - (i + 1)) i size (drop (4 + 8 * i) s) e)
              ∙ ap (λ (n : ℕ). first_invalid n i size (drop (4 + 8 * i) s)) (sym one_more)
              ∙ t.same);
        }

-- The index of the first instruction that breaks a rule, where there is one.
abbrev pub FirstInvalid : List ℕ → ℕ → Option ℕ → Type 0
FirstInvalid s size r =
    MatchOption r ((k : ℕ) → 0 ≤ k → k < size → is_valid (decode size (drop (4 + 8 * k) s)) ≡ true)
    (λ i. (0 ≤ i) × (i < size) × (is_valid (decode size (drop (4 + 8 * i) s)) ≡ false)
    × ((k : ℕ) → 0 ≤ k → k < i → is_valid (decode size (drop (4 + 8 * k) s)) ≡ true))

through_to : (s : List ℕ) (size i : ℕ) → i ≤ size → ((k : ℕ) → 0 ≤ k → k < i → is_valid (decode size (drop (4 + 8 * k) s)) ≡ true) → Through s size i
through_to s size zero h valid = through_none s size
through_to s size (suc i) h valid =
    let before : Through s size i = through_to s size i (omega arith) (λ k _ l. valid k (omega arith) (omega arith)) in
    rw (add-one) at (through_more s size i before (omega arith) (valid i (omega arith) (omega arith)))

pub first_is : (s : List ℕ) (size : ℕ) (r : Option ℕ) → FirstInvalid s size r → unwrap_or r size ≡ first_invalid size 0 size (drop 4 s)
first_is s size None all = through_all s size size (through_to s size size (omega arith) all) (omega arith)
first_is s size (Some i) h = through_here s size i (through_to s size i (omega arith) h.3) h.1 h.2
