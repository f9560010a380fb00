-- The text of the set bits of a row, from a call on: what a turn of the loop over the calls takes away.
use mathlib.Core.Path.{◌≡◌, refl, sym, ap, ◌∙◌}
use mathlib.Core.Bool.{Bool, true, false}
use mathlib.Core.List.{List, [], ◌∷◌, ◌++◌, map}
use Prim.Native.Nat.{ℕ, zero, suc, ◌+◌, ◌-◌, ◌*◌, ◌≤◌, ◌<◌}
use native.Mathlib.Nat.{add-zero}
use native.Mathlib.Omega.{arith}
use lib.ListN.{length, length-append}
use Rattle.std.specs.Prelude.{if◌then◌else◌}
use Rattle.wire.specs.Bytes.{stored}
use Rattle.wire.proofs.BytesLaws.{stored_append, stored_length}
use Rattle.wire.specs.Rows.{in_row}
use Rattle.wire.specs.Decimal.{decimal, space}
use Rattle.text.specs.Lines.{passing}
use Rattle.text.specs.Written.{spaced}
use Rattle.text.proofs.Laws.{digits_length, spaced_length}

-- The first of the numbers that are left stands before the others if it passes the test.
passing_turn : (p : ℕ → Bool) (k : ℕ) → k < 256
    → passing p (256 - k) k ≡ if p k then k ∷ passing p (256 - (k + 1)) (k + 1) else passing p (256 - (k + 1)) (k + 1)
unfolding passing
passing_turn p k h = let e : 256 - k ≡ suc (256 - (k + 1)) = omega arith in rw e

-- The set bits from k on, and their text.
abbrev from : List ℕ → ℕ → List ℕ
from row k = passing (in_row row) (256 - k) k

abbrev pub bits_left : List ℕ → ℕ → List ℕ
bits_left row k = spaced (map decimal (from row k))

module _ (row : List ℕ) where
  from_none : (k : ℕ) → 256 ≤ k → from row k ≡ []
  unfolding passing
  from_none k h = let e : 256 - k ≡ 0 = omega arith in rw e

  from_set : (k : ℕ) → k < 256 → in_row row k ≡ true → from row k ≡ k ∷ from row (k + 1)
  from_set k h e = passing_turn (in_row row) k h ∙ rw e

  from_clear : (k : ℕ) → k < 256 → in_row row k ≡ false → from row k ≡ from row (k + 1)
  from_clear k h e = passing_turn (in_row row) k h ∙ rw e

  -- A loop over the calls, of which k is the next: what is written and what is left make up the whole.
  pub record WritingBits (s t : List ℕ) (at end k : ℕ) : Type 0 where
    pub whole : stored s at (bits_left row 0) ≡ stored t end (bits_left row k)
    pub last : at + length (bits_left row 0) ≡ end + length (bits_left row k)
    pub short : end ≤ at + 21 * k
    pub same : length t ≡ length s

  pub bits_start : (s : List ℕ) (at : ℕ) → WritingBits s s at at 0
  bits_start s at = record { whole = refl; last = refl; short = omega arith; same = refl }

  module _ (s t : List ℕ) (at end k : ℕ) (g : WritingBits s t at end k) where
    -- A call that is set is written; another is passed over.
    pub going_set : (u : List ℕ) (next : ℕ) → k < 256 → in_row row k ≡ true
        → (u ≡ stored t end (space ∷ decimal k)) × (next ≡ end + length (space ∷ decimal k)) → WritingBits s u at next (k + 1)
    unfolding spaced
    going_set u next h e w =
        let text : bits_left row k ≡ (space ∷ decimal k) ++ bits_left row (k + 1) = ap (λ (l : List ℕ). spaced (map decimal l)) (from_set k h e) in
        record {
          whole =
              g.whole ∙ ap (λ (l : List ℕ). stored t end l) text ∙ stored_append (space ∷ decimal k) (bits_left row (k + 1)) t end
              ∙ rw (w.0, w.1);
          last =
              g.last ∙ ap (λ (l : List ℕ). end + length l) text ∙ ap (λ (n : ℕ). end + n) (length-append (space ∷ decimal k) (bits_left row (k + 1)))
              ∙ rw w.1 (omega arith);
          short = omega (arith, g.short, w.1, digits_length 20 k);
          same = rw w.0 (stored_length (space ∷ decimal k) t end) ∙ g.same;
        }

    pub going_clear : k < 256 → in_row row k ≡ false → WritingBits s t at end (k + 1)
    going_clear h e =
        let text : bits_left row k ≡ bits_left row (k + 1) = ap (λ (l : List ℕ). spaced (map decimal l)) (from_clear k h e) in
        record {
          whole = g.whole ∙ ap (λ (l : List ℕ). stored t end l) text;
          last = g.last ∙ ap (λ (l : List ℕ). end + length l) text;
          short = omega (arith, g.short);
          same = g.same;
        }

    pub bits_end : 256 ≤ k → (t ≡ stored s at (bits_left row 0)) × (end ≡ at + length (bits_left row 0))
    unfolding spaced stored
    bits_end h =
        let text : bits_left row k ≡ [] = ap (λ (l : List ℕ). spaced (map decimal l)) (from_none k h) in
        (sym (g.whole ∙ ap (λ (l : List ℕ). stored t end l) text), sym (g.last ∙ ap (λ (l : List ℕ). end + length l) text ∙ add-zero end))

-- How long the text of all bits can be.
passing_length : (p : ℕ → Bool) (n i : ℕ) → length (passing p n i) ≤ n
unfolding passing
passing_length p zero i = omega arith
passing_length p (suc n) i = go (p i) (passing_length p n (i + 1))
  where
    go : (t : Bool) → length (passing p n (i + 1)) ≤ n → length (if t then i ∷ passing p n (i + 1) else passing p n (i + 1)) ≤ suc n
    go true h = omega arith
    go false h = omega arith

pub bits_length : (row : List ℕ) → length (spaced (map decimal (passing (in_row row) 256 0))) ≤ 21 * 256
bits_length row = omega (arith, spaced_length (passing (in_row row) 256 0), passing_length (in_row row) 256 0)
