-- What the proofs of this crate cite: the digits of a number, stored one by one.
use mathlib.Core.Path.{◌≡◌, refl, sym, ap, ◌∙◌}
use mathlib.Core.Bool.{Bool, true, false, true≢false}
use mathlib.Core.List.{List, [], ◌∷◌, ◌++◌, map}
use Prim.Native.Nat.{ℕ, zero, suc, ◌+◌, ◌-◌, ◌*◌, ◌/◌, ◌%◌, ◌≤◌, ◌<◌}
use native.Mathlib.Omega.{arith}
use borrow.Author.Tests.{lt-ltb, le-ltb, ltb-true}
use lib.Dec.{ltb}
use lib.IntN.{ℤ, pos, negsuc, nat_abs}
use lib.Signed.{lt_z}
use lib.ListN.{length, set, length-append}
use Rattle.wire.specs.Bytes.{stored}
use Rattle.wire.proofs.BytesLaws.{stored_append}
use Rattle.wire.specs.Decimal.{digits_of, decimal, signed_decimal, minus, space, zero_digit}
use Rattle.text.specs.Written.{spaced}

-- One digit, and one more digit behind others.
digits_one : (left n : ℕ) → (left ≡ 0 → ⊥) → n < 10 → digits_of left n ≡ (zero_digit + n) ∷ []
unfolding digits_of
digits_one zero n f h = absurd (f refl)
digits_one (suc left) n f h = rw (lt-ltb n 10 h, digits_of) refl

digits_more : (left n : ℕ) → (left ≡ 0 → ⊥) → 10 ≤ n → digits_of left n ≡ digits_of (left - 1) (n / 10) ++ ((zero_digit + n % 10) ∷ [])
unfolding digits_of
digits_more zero n f h = absurd (f refl)
digits_more (suc left) n f h = let e : suc left - 1 ≡ left = omega arith in rw (le-ltb n 10 h, digits_of, e) refl

-- There are at most as many as are allowed.
pub digits_length : (left n : ℕ) → length (digits_of left n) ≤ left
unfolding digits_of
digits_length zero n = omega arith
digits_length (suc left) n = go (ltb n 10) refl (digits_length left (n / 10))
  where
    go : (t : Bool) → ltb n 10 ≡ t → length (digits_of left (n / 10)) ≤ left → length (digits_of (suc left) n) ≤ suc left
    go true e ih = rw (e, digits_of) (omega arith)
    go false e ih = rw (e, digits_of) (rw (length-append (digits_of left (n / 10)) ((zero_digit + n % 10) ∷ [])) (omega arith))

pub fewer : (left : ℕ) → (left ≡ 0 → ⊥) → left - 1 < left
fewer zero f = absurd (f refl)
fewer (suc left) f = omega arith

pub put_none : (s : List ℕ) (at left n : ℕ) → left ≡ 0 → (s ≡ stored s at (digits_of left n)) × (at ≡ at + length (digits_of left n))
unfolding stored digits_of
put_none s at left n e = rw e (refl, omega arith)

module _ (s : List ℕ) (at left n : ℕ) (some : left ≡ 0 → ⊥) where
  pub put_one : (x : List ℕ) (d : ℕ) → n < 10 → d ≡ zero_digit + n → x ≡ set s at d
      → (x ≡ stored s at (digits_of left n)) × (at + 1 ≡ at + length (digits_of left n))
  unfolding stored
  put_one x d h e f = rw (digits_one left n some h) (f ∙ ap (λ (b : ℕ). set s at b) e, refl)

  pub put_more : (t x : List ℕ) (next d : ℕ) → 10 ≤ n → (t ≡ stored s at (digits_of (left - 1) (n / 10))) × (next ≡ at + length (digits_of (left - 1) (n / 10)))
      → d ≡ zero_digit + n % 10 → x ≡ set t next d
      → (x ≡ stored s at (digits_of left n)) × (next + 1 ≡ at + length (digits_of left n))
  unfolding stored
  put_more t x next d h w e f =
      let rest : List ℕ = digits_of (left - 1) (n / 10) in
      rw (digits_more left n some h) (
        f ∙ simp (w.0, w.1, e) (sym (stored_append rest ((zero_digit + n % 10) ∷ []) s at)),
        simp (w.1, length-append rest ((zero_digit + n % 10) ∷ [])) (omega arith),
      )

-- ---- parts of lines

-- A character before others.
pub put_before : (s t u : List ℕ) (at r b : ℕ) (rest : List ℕ) → t ≡ set s at b → (u ≡ stored t (at + 1) rest) × (r ≡ at + 1 + length rest)
    → (u ≡ stored s at (b ∷ rest)) × (r ≡ at + length (b ∷ rest))
unfolding stored
put_before s t u at r b rest e w = (w.0 ∙ ap (λ (x : List ℕ). stored x (at + 1) rest) e, w.1 ∙ omega arith)

pub put_last : (s t : List ℕ) (at b : ℕ) → t ≡ set s at b → (t ≡ stored s at (b ∷ [])) × (at + 1 ≡ at + length (b ∷ []))
unfolding stored
put_last s t at b e = (e, refl)

-- How long the parts of a line can be.
pub spaced_length : (ns : List ℕ) → length (spaced (map decimal ns)) ≤ 21 * length ns
unfolding spaced
spaced_length [] = omega arith
spaced_length (n ∷ ns) =
    rw (length-append (decimal n) (spaced (map decimal ns))) (omega (arith, digits_length 20 n, spaced_length ns))

pub signed_length : (z : ℤ) → length (signed_decimal z) ≤ 21
unfolding signed_decimal
signed_length (pos n) = omega (arith, digits_length 20 n)
signed_length (negsuc n) = omega (arith, digits_length 20 (suc n))

-- A value as its magnitude, behind a sign where it is below zero.
pub below_zero : (z : ℤ) → lt_z z (pos 0) ≡ true → signed_decimal z ≡ minus ∷ decimal (nat_abs z)
unfolding signed_decimal
below_zero (pos n) h = absurd (omega (arith, ltb-true n 0 h))
below_zero (negsuc n) h = refl

pub text_from_zero : (z : ℤ) → lt_z z (pos 0) ≡ false → signed_decimal z ≡ decimal (nat_abs z)
unfolding signed_decimal
text_from_zero (pos n) h = refl
text_from_zero (negsuc n) h = absurd (true≢false h)

-- A part for a value: x is the value as the code reads it.
module _ (s : List ℕ) (at m : ℕ) (x z : ℤ) (e : x ≡ z) (size : m ≡ nat_abs x) where
  pub value_below : (t u v : List ℕ) (r : ℕ) → lt_z x (pos 0) ≡ true → t ≡ set s at space → u ≡ set t (at + 1) minus
      → (v ≡ stored u (at + 2) (decimal m)) × (r ≡ at + 2 + length (decimal m))
      → (v ≡ stored s at (space ∷ signed_decimal z)) × (r ≡ at + length (space ∷ signed_decimal z))
  value_below t u v r h f g w =
      let place : at + 2 ≡ at + 1 + 1 = omega arith in
      rw (← e, below_zero x h, ← size)
      (put_before s t v at r space (minus ∷ decimal m) f (put_before t u v (at + 1) r minus (decimal m) g (rw (← place) w)))

  pub value_above : (v : List ℕ) (r : ℕ) → lt_z x (pos 0) ≡ false
      → (v ≡ stored s at (space ∷ decimal m)) × (r ≡ at + length (space ∷ decimal m))
      → (v ≡ stored s at (space ∷ signed_decimal z)) × (r ≡ at + length (space ∷ signed_decimal z))
  value_above v r h w = rw (← e, text_from_zero x h, ← size) w
