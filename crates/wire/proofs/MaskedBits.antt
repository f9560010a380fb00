-- Rows as the code has them: a mask is a power of two, `&` with it tests a bit, and `|` with it sets one.
use mathlib.Core.Bool.{not}
use mathlib.Core.Path.{◌≡◌, refl, sym, ap, ap₂, ◌∙◌}
use mathlib.Core.List.{List, [], ◌∷◌}
use Prim.Native.Nat.{ℕ, zero, suc, ◌+◌, ◌-◌, ◌*◌, ◌/◌, ◌%◌, ◌^◌, ◌<◌}
use native.Mathlib.Nat.{one-mul, pow-suc, mod-lt}
use native.Mathlib.Numerals.{one-add}
use native.Mathlib.Omega.{arith}
use borrow.Author.Tests.{ne_eqb}
use lib.Bits.{bit_and, bit_or, and_high}
use lib.Dec.{eqb, lit<}
use lib.ListN.{length, get_or, set}
use lib.Pow.{pow_pos, shl_exact}
use lib.Seq.{ext_get_or}
use Rattle.wire.specs.Rows.{in_word}
use Rattle.wire.specs.RowOps.{with_bit, union_of}

-- ---- masks

pub mask_is : (i : ℕ) → 1 * 2 ^ (i % 64) % 2 ^ 64 ≡ 2 ^ (i % 64)
mask_is i =
    let place : i % 64 < 64 = mod-lt i (lit< tt) in
    shl_exact 1 (i % 64) 64 (lit< tt) (omega arith) ∙ one-mul (2 ^ (i % 64))

and_power : (n k : ℕ) → bit_and n (2 ^ k) ≡ n / 2 ^ k % 2 * 2 ^ k
and_power n k =
    let double : 2 ^ (1 + k) ≡ 2 ^ k * 2 = ap (λ (j : ℕ). 2 ^ j) (one-add k) ∙ pow-suc 2 k in
    let power : 2 ^ (1 + k) - 2 ^ k ≡ 2 ^ k = omega arith in
    ap (bit_and n) (sym power) ∙ and_high n 1 k

digit_test : (d k : ℕ) → d < 2 → not (eqb (d * 2 ^ k) 0) ≡ eqb d 1
digit_test zero k h = let e : 0 * 2 ^ k ≡ 0 = omega arith in ap (λ (x : ℕ). not (eqb x 0)) e
digit_test (suc zero) k h = let p : 0 < 2 ^ k = pow_pos k in ap not (ne_eqb (1 * 2 ^ k) 0 (omega arith))
digit_test (suc (suc d)) k h = absurd (omega arith)

-- The masked word is not 0 exactly when the bit is set.
pub test_by_mask : (n i : ℕ) {m : ℕ} → m ≡ 2 ^ (i % 64) → not (eqb (bit_and n m) 0) ≡ in_word n (i % 64)
test_by_mask n i e =
    ap (λ (x : ℕ). not (eqb x 0)) (ap (bit_and n) e ∙ and_power n (i % 64)) ∙ digit_test (n / 2 ^ (i % 64) % 2) (i % 64) (mod-lt (n / 2 ^ (i % 64)) (lit< tt))

pub set_by_mask : (ws : List ℕ) (i : ℕ) {m : ℕ} → m ≡ 2 ^ (i % 64) → set ws (i / 64) (bit_or (get_or ws (i / 64) 0) m) ≡ with_bit ws i
unfolding with_bit
set_by_mask ws i e = ap (λ (m : ℕ). set ws (i / 64) (bit_or (get_or ws (i / 64) 0) m)) e

-- ---- four words

abbrev pub four_words : List ℕ → List ℕ
four_words ws = get_or ws 0 0 ∷ get_or ws 1 0 ∷ get_or ws 2 0 ∷ get_or ws 3 0 ∷ []

four_words_lem : (ws : List ℕ) → length ws ≡ 4 → ws ≡ four_words ws
four_words_lem ws four = ext_get_or 0 ws (four_words ws) four (λ i h. at_word i (omega arith))
  where
    at_word : (i : ℕ) → i < 4 → get_or ws i 0 ≡ get_or (four_words ws) i 0
    at_word zero h = refl
    at_word (suc zero) h = refl
    at_word (suc (suc zero)) h = refl
    at_word (suc (suc (suc zero))) h = refl
    at_word (suc (suc (suc (suc i)))) h = absurd (omega arith)

pub union_by_words : (xs ys : List ℕ) → length xs ≡ 4 → length ys ≡ 4 → union_of (four_words xs) (four_words ys) ≡ union_of xs ys
union_by_words xs ys x y = sym (ap₂ union_of (four_words_lem xs x) (four_words_lem ys y))
