-- How many bits are set: of a word by its digits, of a row a word at a time.
use mathlib.Core.Bool.{Bool, true, false}
use mathlib.Core.Path.{◌≡◌, refl, sym, ap, ap₂, ◌∙◌}
use mathlib.Core.List.{List}
use Prim.Native.Nat.{ℕ, zero, suc, ◌+◌, ◌-◌, ◌*◌, ◌/◌, ◌%◌, ◌^◌, ◌≤◌, ◌<◌}
use native.Mathlib.Nat.{add-zero, zero-add, add-suc, add_assoc, add_comm, mod-lt, mod-eq_of_lt, pow-suc, mul_comm}
use native.Mathlib.Omega.{arith}
use lib.Arith.{mod-mul}
use lib.Count.{ones, ones_cat}
use lib.Dec.{eqb, lit<}
use lib.ListN.{length, get_or}
use lib.Pow.{pow_pos}
use Rattle.wire.specs.Rows.{bit, in_word, in_row}
use Rattle.wire.specs.RowOps.{count_of}
use Rattle.wire.proofs.RowLaws.{in_row_past}

-- ---- any test

-- Positions that pass by two tests alike.
pub count_same : (p q : ℕ → Bool) (n : ℕ) → ((i : ℕ) → i < n → p i ≡ q i) → count_of p n ≡ count_of q n
unfolding count_of
count_same p q zero h = refl
count_same p q (suc n) h = ap₂ (λ (b : Bool) (k : ℕ). bit b + k) (h n (omega arith)) (count_same p q n (λ i l. h i (omega arith)))

bit_one : (b : Bool) → bit b ≤ 1
bit_one true = omega arith
bit_one false = omega arith

pub count_most : (p : ℕ → Bool) (n : ℕ) → count_of p n ≤ n
unfolding count_of
count_most p zero = omega arith
count_most p (suc n) = omega (arith, bit_one (p n), count_most p n)

-- Those below a + n are those below a, and n more.
pub count_from : (p : ℕ → Bool) (a n : ℕ) → count_of p (a + n) ≡ count_of (λ i. p (a + i)) n + count_of p a
unfolding count_of
count_from p a zero = ap (count_of p) (add-zero a) ∙ sym (zero-add (count_of p a))
count_from p a (suc n) =
    ap (count_of p) (add-suc a n) ∙ ap (λ (k : ℕ). bit (p (a + n)) + k) (count_from p a n)
    ∙ sym (add_assoc (bit (p (a + n))) (count_of (λ i. p (a + i)) n) (count_of p a))

pub count_none : (p : ℕ → Bool) (n : ℕ) → ((i : ℕ) → i < n → p i ≡ false) → count_of p n ≡ 0
unfolding count_of
count_none p zero h = refl
count_none p (suc n) h = ap₂ (λ (b : Bool) (k : ℕ). bit b + k) (h n (omega arith)) (count_none p n (λ i l. h i (omega arith)))

-- ---- a word

digit_ones : (d : ℕ) → d < 2 → ones d ≡ bit (eqb d 1)
unfolding ones
digit_ones zero h = refl
digit_ones (suc zero) h = refl
digit_ones (suc (suc d)) h = absurd (omega arith)

-- The first n bits are the digits of the remainder.
pub word_ones : (w n : ℕ) → ones (w % 2 ^ n) ≡ count_of (in_word w) n
unfolding count_of ones
word_ones w zero = ap ones none
  where
    none : w % 1 ≡ 0
    none = let l : w % 1 < 1 = mod-lt w (lit< tt) in omega arith
word_ones w (suc n) =
    ap (λ (m : ℕ). ones (w % m)) (pow-suc 2 n ∙ mul_comm (2 ^ n) 2)
    ∙ ap ones (mod-mul w {m = 2} {c = 2 ^ n} (lit< tt) (pow_pos n))
    ∙ ones_cat n (w / 2 ^ n % 2) (w % 2 ^ n) (mod-lt w (pow_pos n))
    ∙ ap₂ (λ (x y : ℕ). x + y) (digit_ones (w / 2 ^ n % 2) (mod-lt (w / 2 ^ n) (lit< tt))) (word_ones w n)

pub part_few : (w n : ℕ) {m : ℕ} → m ≡ 2 ^ (n % 64) → ones (w % m) ≤ 64
part_few w n e =
    let l : n % 64 < 64 = mod-lt n (lit< tt) in
    rw (e, word_ones w (n % 64)) (omega (arith, count_most (in_word w) (n % 64)))

-- ---- a row

module _ (ws : List ℕ) where
  row_word : (k i : ℕ) → i < 64 → in_row ws (64 * k + i) ≡ in_word (get_or ws k 0) i
  unfolding in_row
  row_word k i l =
      let word : (64 * k + i) / 64 ≡ k = omega arith in
      let place : (64 * k + i) % 64 ≡ i = omega arith in
      ap₂ (λ (q r : ℕ). in_word (get_or ws q 0) r) word place

  -- n bits of a word, behind those of the words before it.
  row_part : (k n : ℕ) → n ≤ 64 → count_of (in_row ws) (64 * k + n) ≡ count_of (in_word (get_or ws k 0)) n + count_of (in_row ws) (64 * k)
  row_part k n l =
      count_from (in_row ws) (64 * k) n
      ∙ ap (λ (c : ℕ). c + count_of (in_row ws) (64 * k))
      (count_same (λ i. in_row ws (64 * k + i)) (in_word (get_or ws k 0)) n (λ i h. row_word k i (omega arith)))

  -- A whole word more.
  pub row_whole : (k : ℕ) {c o : ℕ} → get_or ws k 0 < 2 ^ 64 → c ≡ count_of (in_row ws) (64 * k) → o ≡ ones (get_or ws k 0) → c + o ≡ count_of (in_row ws) (64 * (k + 1))
  row_whole k {c} {o} fits own ones-of =
      let whole : ones (get_or ws k 0) ≡ count_of (in_word (get_or ws k 0)) 64 =
      ap ones (sym (mod-eq_of_lt fits)) ∙ word_ones (get_or ws k 0) 64 in
      let next : 64 * (k + 1) ≡ 64 * k + 64 = omega arith in
      ap₂ (λ (x y : ℕ). x + y) own (ones-of ∙ whole) ∙ add_comm (count_of (in_row ws) (64 * k)) (count_of (in_word (get_or ws k 0)) 64)
      ∙ sym (ap (count_of (in_row ws)) next ∙ row_part k 64 (omega arith))

  -- The bits of the word that n ends in.
  pub row_last : (n k : ℕ) {c m o : ℕ} → k ≡ n / 64 → c ≡ count_of (in_row ws) (64 * k) → m ≡ 2 ^ (n % 64) → o ≡ ones (get_or ws k 0 % m) → c + o ≡ count_of (in_row ws) n
  row_last n k {c} {m} {o} at own mask ones-of =
      let end : n ≡ 64 * k + n % 64 = omega arith in
      ap₂ (λ (x y : ℕ). x + y) own (ones-of ∙ ap (λ (m : ℕ). ones (get_or ws k 0 % m)) mask ∙ word_ones (get_or ws k 0) (n % 64))
      ∙ add_comm (count_of (in_row ws) (64 * k)) (count_of (in_word (get_or ws k 0)) (n % 64))
      ∙ sym (ap (count_of (in_row ws)) end ∙ row_part k (n % 64) (let l : n % 64 < 64 = mod-lt n (lit< tt) in omega arith))

  -- Past the row there is none.
  pub row_past : length ws ≡ 4 → (n : ℕ) → 256 ≤ n → count_of (in_row ws) 256 ≡ count_of (in_row ws) n
  row_past four n l =
      let end : n ≡ 256 + (n - 256) = omega arith in
      sym
      (ap (count_of (in_row ws)) end ∙ count_from (in_row ws) 256 (n - 256)
      ∙ ap (λ (c : ℕ). c + count_of (in_row ws) 256) (count_none (λ i. in_row ws (256 + i)) (n - 256) (λ i h. in_row_past ws (256 + i) four (omega arith)))
      ∙ zero-add (count_of (in_row ws) 256))
