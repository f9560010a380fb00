-- Laws of rows, all in terms of membership: which bits a row of a list, a row with one bit more and a union have, and that a row is known by its bits.
use mathlib.Core.Bool.{Bool, true, false, ◌||◌}
use mathlib.Core.Path.{◌≡◌, refl, sym, ap, ap₂, ◌∙◌}
use mathlib.Core.List.{List, [], ◌∷◌, ◌++◌}
use Prim.Native.Nat.{ℕ, zero, suc, ◌+◌, ◌*◌, ◌/◌, ◌%◌, ◌^◌, ◌≤◌, ◌<◌}
use native.Mathlib.Nat.{add-zero, lt_of_lt_of_le, div-one, div-eq_of_lt, mod-lt, pow-suc, suc_inj, not-suc-le-zero, le_of_suc-le-suc}
use native.Mathlib.Numerals.{one-add}
use native.Mathlib.Decide.{dec_lt, ℕ_discrete}
use native.Mathlib.Omega.{arith}
use borrow.Author.Tests.{eq-eqb, ne_eqb, eqb-false, le-leb, lt-leb}
use lib.Bits.{bit_or, or_shr, or_mod, or_lt}
use lib.Dec.{eqb, lit<, eqb-zero-suc, eqb-suc-zero, eqb-suc-suc}
use lib.ListN.{length, get_or, set, take, drop, length-append, length-set, length-take, length-drop, get_or-eq_default}
use lib.Pow.{pow_pos, pow_mono, pow-lt, shr-shr}
use lib.Seq.{get_or-set_same, get_or-set_other, get_or-take, get_or-drop, ext_get_or, set_out, take_all}
use Rattle.wire.specs.Rows.{bit, word_of, row_of, in_word, in_row}
use Rattle.wire.specs.RowOps.{row_from, with_bit, union_of}

-- A row: four words of 64 bits.
pub record IsRow (ws : List ℕ) : Type 0 where
  pub four : length ws ≡ 4
  pub words : (i : ℕ) → get_or ws i 0 < 2 ^ 64

-- ---- a row in some words

-- The four words from a position on.
abbrev pub four_from : List ℕ → ℕ → List ℕ
four_from ws at = get_or ws at 0 ∷ get_or ws (at + 1) 0 ∷ get_or ws (at + 2) 0 ∷ get_or ws (at + 3) 0 ∷ []

pub four_at : (ws : List ℕ) (at i : ℕ) → i < 4 → get_or (four_from ws at) i 0 ≡ get_or ws (at + i) 0
four_at ws at zero h = ap (λ (k : ℕ). get_or ws k 0) (sym (add-zero at))
four_at ws at (suc zero) h = refl
four_at ws at (suc (suc zero)) h = refl
four_at ws at (suc (suc (suc zero))) h = refl
four_at ws at (suc (suc (suc (suc i)))) h = absurd (omega arith)

-- They are the row that stands there.
pub row_read : (ws : List ℕ) (at : ℕ) → at + 4 ≤ length ws → four_from ws at ≡ take 4 (drop at ws)
row_read ws at h =
    let long : 4 ≡ length (take 4 (drop at ws)) = simp (length-take, length-drop) (omega arith) in
    ext_get_or 0 (four_from ws at) (take 4 (drop at ws)) long
    (λ i l. four_at ws at i l ∙ sym (get_or-take 4 (drop at ws) i 0 l ∙ get_or-drop at ws i 0))

pub row_stands : (ws : List ℕ) → 4 ≤ length ws → row_from ws ≡ take 4 ws
unfolding row_from
row_stands ws h = rw (le-leb 4 (length ws) h)

pub row_lacks : (ws : List ℕ) → length ws < 4 → row_from ws ≡ 0 ∷ 0 ∷ 0 ∷ 0 ∷ []
unfolding row_from
row_lacks ws h = rw (lt-leb 4 (length ws) h)

-- The row at a position of a list that has it, from a part of as many words.
pub row_part : (ws : List ℕ) (at n : ℕ) → n ≡ 4 → at + 4 ≤ length ws → row_from (take n (drop at ws)) ≡ take 4 (drop at ws)
row_part ws at n e h =
    let long : 4 ≡ length (take 4 (drop at ws)) = simp (length-take, length-drop) (omega arith) in
    ap (λ (k : ℕ). row_from (take k (drop at ws))) e
    ∙ row_stands (take 4 (drop at ws)) (omega (arith, long)) ∙ take_all 4 (take 4 (drop at ws)) (omega (arith, long))

-- ---- bits of a word

-- A bit above the lowest is a bit of the half.
pub in_word_half : (n i : ℕ) → in_word n (suc i) ≡ in_word (n / 2) i
in_word_half n i = ap (λ (x : ℕ). eqb (x % 2) 1) (ap (λ (k : ℕ). n / 2 ^ k) (sym (one-add i)) ∙ sym (shr-shr n 1 i))

pub in_word_low : (n : ℕ) → in_word n 0 ≡ eqb (n % 2) 1
in_word_low n = ap (λ (x : ℕ). eqb (x % 2) 1) (div-one n)

-- A word has no bit above its range.
pub in_word_above : (n k i : ℕ) → n < 2 ^ k → k ≤ i → in_word n i ≡ false
in_word_above n k i h le = ap (λ (x : ℕ). eqb (x % 2) 1) (div-eq_of_lt (lt_of_lt_of_le h (pow_mono le)))

pub in_word_zero : (i : ℕ) → in_word 0 i ≡ false
in_word_zero i = in_word_above 0 0 i (lit< tt) (omega arith)

or_digit : (x y : ℕ) → x < 2 → y < 2 → eqb (bit_or x y) 1 ≡ eqb x 1 || eqb y 1
or_digit zero zero h k = refl
or_digit zero (suc zero) h k = refl
or_digit (suc zero) zero h k = refl
or_digit (suc zero) (suc zero) h k = refl
or_digit zero (suc (suc y)) h k = absurd (omega arith)
or_digit (suc zero) (suc (suc y)) h k = absurd (omega arith)
or_digit (suc (suc x)) y h k = absurd (omega arith)

pub in_word_or : (a b i : ℕ) → in_word (bit_or a b) i ≡ in_word a i || in_word b i
in_word_or a b i =
    ap (λ (x : ℕ). eqb x 1) (ap (λ (x : ℕ). x % 2) (or_shr a b i) ∙ or_mod (a / 2 ^ i) (b / 2 ^ i) 1)
    ∙ or_digit (a / 2 ^ i % 2) (b / 2 ^ i % 2) (mod-lt (a / 2 ^ i) (lit< tt)) (mod-lt (b / 2 ^ i) (lit< tt))

half_pow : (k : ℕ) → 2 ^ suc k / 2 ≡ 2 ^ k
half_pow k = let e : 2 ^ suc k ≡ 2 ^ k * 2 = pow-suc 2 k in omega arith

even_pow : (k : ℕ) → 2 ^ suc k % 2 ≡ 0
even_pow k = let e : 2 ^ suc k ≡ 2 ^ k * 2 = pow-suc 2 k in omega arith

-- A power of two has one bit.
pub in_word_pow : (k i : ℕ) → in_word (2 ^ k) i ≡ eqb k i
in_word_pow zero zero = refl
in_word_pow zero (suc i) = in_word_half 1 i ∙ in_word_zero i ∙ sym (eqb-zero-suc i)
in_word_pow (suc k) zero = in_word_low (2 ^ suc k) ∙ ap (λ (x : ℕ). eqb x 1) (even_pow k) ∙ sym (eqb-suc-zero k)
in_word_pow (suc k) (suc i) =
    in_word_half (2 ^ suc k) i ∙ ap (λ (n : ℕ). in_word n i) (half_pow k) ∙ in_word_pow k i ∙ sym (eqb-suc-suc k i)

digit_inj : (x y : ℕ) → x < 2 → y < 2 → eqb x 1 ≡ eqb y 1 → x ≡ y
digit_inj zero zero h k e = refl
digit_inj (suc zero) (suc zero) h k e = refl
digit_inj zero (suc zero) h k e = absurd (eqb-false 1 1 (sym e) refl)
digit_inj (suc zero) zero h k e = absurd (eqb-false 1 1 e refl)
digit_inj zero (suc (suc y)) h k e = absurd (omega arith)
digit_inj (suc zero) (suc (suc y)) h k e = absurd (omega arith)
digit_inj (suc (suc x)) y h k e = absurd (omega arith)

-- A word is known by its bits.
pub word_ext : (k a b : ℕ) → a < 2 ^ k → b < 2 ^ k → ((i : ℕ) → i < k → in_word a i ≡ in_word b i) → a ≡ b
word_ext zero a b ha hb h = omega arith
word_ext (suc k) a b ha hb h =
    let ka : a < 2 ^ k * 2 = rw (pow-suc 2 k) at ha in
    let kb : b < 2 ^ k * 2 = rw (pow-suc 2 k) at hb in
    let low : a % 2 ≡ b % 2 =
    digit_inj (a % 2) (b % 2) (mod-lt a (lit< tt)) (mod-lt b (lit< tt)) (sym (in_word_low a) ∙ h 0 (omega arith) ∙ in_word_low b) in
    let high : a / 2 ≡ b / 2 =
    word_ext k (a / 2) (b / 2) (omega arith) (omega arith) (λ i l. sym (in_word_half a i) ∙ h (suc i) (omega arith) ∙ in_word_half b i) in
    omega arith

-- ---- rows of lists of bits

bit_digit : (b : Bool) (n : ℕ) → eqb ((bit b + 2 * n) % 2) 1 ≡ b
bit_digit true n = let e : (1 + 2 * n) % 2 ≡ 1 = omega arith in ap (λ (x : ℕ). eqb x 1) e
bit_digit false n = let e : (0 + 2 * n) % 2 ≡ 0 = omega arith in ap (λ (x : ℕ). eqb x 1) e

bit_lt : (b : Bool) → bit b < 2
bit_lt true = lit< tt
bit_lt false = lit< tt

pub in_word_word_of : (bs : List Bool) (i : ℕ) → in_word (word_of bs) i ≡ get_or bs i false
unfolding word_of
in_word_word_of [] i = in_word_zero i
in_word_word_of (b ∷ bs) zero = in_word_low (bit b + 2 * word_of bs) ∙ bit_digit b (word_of bs)
in_word_word_of (b ∷ bs) (suc i) =
    let l : bit b < 2 = bit_lt b in
    let half : (bit b + 2 * word_of bs) / 2 ≡ word_of bs = omega arith in
    in_word_half (bit b + 2 * word_of bs) i ∙ ap (λ (n : ℕ). in_word n i) half ∙ in_word_word_of bs i

pub word_of_lt : (bs : List Bool) (k : ℕ) → length bs ≤ k → word_of bs < 2 ^ k
unfolding word_of
word_of_lt [] k h = pow_pos k
word_of_lt (b ∷ bs) zero h = absurd (not-suc-le-zero h)
word_of_lt (b ∷ bs) (suc k) h =
    let l : bit b < 2 = bit_lt b in
    let rest : word_of bs < 2 ^ k = word_of_lt bs k (le_of_suc-le-suc h) in
    rw (pow-suc 2 k) (omega arith)

-- Word q of the row of a list.
row_of_word : (bs : List Bool) (q : ℕ) → q < 4 → get_or (row_of bs) q 0 ≡ word_of (take 64 (drop (64 * q) bs))
unfolding row_of
row_of_word bs zero h = refl
row_of_word bs (suc zero) h = refl
row_of_word bs (suc (suc zero)) h = refl
row_of_word bs (suc (suc (suc zero))) h = refl
row_of_word bs (suc (suc (suc (suc q)))) h = absurd (omega arith)

row_of_four : (bs : List Bool) → length (row_of bs) ≡ 4
unfolding row_of
row_of_four bs = refl

in_part : (bs : List Bool) (q r : ℕ) → r < 64 → get_or (take 64 (drop (64 * q) bs)) r false ≡ get_or bs (64 * q + r) false
in_part bs q r h = get_or-take 64 (drop (64 * q) bs) r false h ∙ get_or-drop (64 * q) bs r false

-- Bit i of the row of a list is the list's i-th element.
pub in_row_row_of : (bs : List Bool) (i : ℕ) → length bs ≤ 256 → in_row (row_of bs) i ≡ get_or bs i false
unfolding in_row
in_row_row_of bs i h = go (dec_lt i 256)
  where
    go : Dec (i < 256) → in_word (get_or (row_of bs) (i / 64) 0) (i % 64) ≡ get_or bs i false
    go (yes l) =
        let r : i % 64 < 64 = omega arith in
        let e : 64 * (i / 64) + i % 64 ≡ i = omega arith in
        ap (λ (n : ℕ). in_word n (i % 64)) (row_of_word bs (i / 64) (omega arith))
        ∙ in_word_word_of (take 64 (drop (64 * (i / 64)) bs)) (i % 64)
        ∙ in_part bs (i / 64) (i % 64) r ∙ ap (λ (k : ℕ). get_or bs k false) e
    go (no l) =
        let past : length (row_of bs) ≤ i / 64 = rw (row_of_four bs) (omega arith) in
        let end : length bs ≤ i = omega arith in
        ap (λ (n : ℕ). in_word n (i % 64)) (get_or-eq_default (row_of bs) 0 past)
        ∙ in_word_zero (i % 64) ∙ sym (get_or-eq_default bs false end)

pub row_of_is_row : (bs : List Bool) → IsRow (row_of bs)
row_of_is_row bs = record { four = row_of_four bs; words = λ i. go i (dec_lt i 4) }
  where
    go : (i : ℕ) → Dec (i < 4) → get_or (row_of bs) i 0 < 2 ^ 64
    go i (yes l) =
        let short : length (take 64 (drop (64 * i) bs)) ≤ 64 = simp length-take (omega arith) in
        rw (row_of_word bs i l) (word_of_lt (take 64 (drop (64 * i) bs)) 64 short)
    go i (no l) =
        let past : length (row_of bs) ≤ i = rw (row_of_four bs) (omega arith) in
        rw (get_or-eq_default (row_of bs) 0 past) (lit< tt)

-- ---- a row is known by its bits

-- Bit r of word q.
in_row_at : (ws : List ℕ) (q r : ℕ) → r < 64 → in_row ws (64 * q + r) ≡ in_word (get_or ws q 0) r
unfolding in_row
in_row_at ws q r h =
    let word : (64 * q + r) / 64 ≡ q = omega arith in
    let place : (64 * q + r) % 64 ≡ r = omega arith in
    ap₂ (λ (k i : ℕ). in_word (get_or ws k 0) i) word place

pub row_ext : (xs ys : List ℕ) → IsRow xs → IsRow ys → ((i : ℕ) → i < 256 → in_row xs i ≡ in_row ys i) → xs ≡ ys
row_ext xs ys x y same =
    let long : length xs ≡ 4 = x.four in
    ext_get_or 0 xs ys (x.four ∙ sym y.four)
    (λ q l. word_ext 64 (get_or xs q 0) (get_or ys q 0) (x.words q) (y.words q)
    (λ r h. sym (in_row_at xs q r h) ∙ same (64 * q + r) (omega arith) ∙ in_row_at ys q r h))

-- Bits of a row lie below 256.
pub in_row_past : (ws : List ℕ) (i : ℕ) → length ws ≡ 4 → 256 ≤ i → in_row ws i ≡ false
unfolding in_row
in_row_past ws i four h =
    ap (λ (n : ℕ). in_word n (i % 64)) (get_or-eq_default ws 0 (rw four (omega arith))) ∙ in_word_zero (i % 64)

-- ---- one bit more

or-false : (b : Bool) → b ≡ b || false
or-false true = refl
or-false false = refl

-- In one word two bits are equal when their places in it are.
same_place : (i j : ℕ) → j / 64 ≡ i / 64 → eqb (i % 64) (j % 64) ≡ eqb i j
same_place i j e = go (ℕ_discrete i j)
  where
    go : Dec (i ≡ j) → eqb (i % 64) (j % 64) ≡ eqb i j
    go (yes s) = eq-eqb (i % 64) (j % 64) (ap (λ (k : ℕ). k % 64) s) ∙ sym (eq-eqb i j s)
    go (no n) = ne_eqb (i % 64) (j % 64) (λ p. n (omega arith)) ∙ sym (ne_eqb i j n)

-- Bit j is set exactly when it was, or is the bit that was set.
pub in_row_with_bit : (ws : List ℕ) (i j : ℕ) → length ws ≡ 4 → i < 256 → in_row (with_bit ws i) j ≡ in_row ws j || eqb i j
unfolding in_row with_bit
in_row_with_bit ws i j four h = go (ℕ_discrete (j / 64) (i / 64))
  where
    old : ℕ
    old = get_or ws (i / 64) 0

    new : ℕ
    new = bit_or (get_or ws (i / 64) 0) (2 ^ (i % 64))

    go : Dec (j / 64 ≡ i / 64) → in_word (get_or (set ws (i / 64) new) (j / 64) 0) (j % 64) ≡ in_word (get_or ws (j / 64) 0) (j % 64) || eqb i j
    go (yes e) =
        let inside : i / 64 < length ws = rw four (omega arith) in
        ap (λ (n : ℕ). in_word n (j % 64)) (ap (λ (k : ℕ). get_or (set ws (i / 64) new) k 0) e ∙ get_or-set_same ws (i / 64) new 0 inside)
        ∙ in_word_or old (2 ^ (i % 64)) (j % 64)
        ∙ ap₂ ◌||◌ (ap (λ (k : ℕ). in_word (get_or ws k 0) (j % 64)) (sym e)) (in_word_pow (i % 64) (j % 64) ∙ same_place i j e)
    go (no n) =
        ap (λ (x : ℕ). in_word x (j % 64)) (get_or-set_other ws (i / 64) (j / 64) new 0 n)
        ∙ or-false (in_word (get_or ws (j / 64) 0) (j % 64))
        ∙ ap (λ (b : Bool). in_word (get_or ws (j / 64) 0) (j % 64) || b) (sym (ne_eqb i j (λ e. n (ap (λ (k : ℕ). k / 64) (sym e)))))

-- Past the row nothing changes.
pub with_bit_past : (ws : List ℕ) (i : ℕ) → length ws ≡ 4 → 256 ≤ i → with_bit ws i ≡ ws
unfolding with_bit
with_bit_past ws i four h = set_out ws (i / 64) (bit_or (get_or ws (i / 64) 0) (2 ^ (i % 64))) (rw four (omega arith))

set_words : (ws : List ℕ) (k v : ℕ) → v < 2 ^ 64 → ((i : ℕ) → get_or ws i 0 < 2 ^ 64) → (i : ℕ) → get_or (set ws k v) i 0 < 2 ^ 64
set_words [] k v hv h i = lit< tt
set_words (w ∷ ws) zero v hv h zero = hv
set_words (w ∷ ws) zero v hv h (suc i) = h (suc i)
set_words (w ∷ ws) (suc k) v hv h zero = h 0
set_words (w ∷ ws) (suc k) v hv h (suc i) = set_words ws k v hv (λ j. h (suc j)) i

pub with_bit_is_row : (ws : List ℕ) (i : ℕ) → IsRow ws → IsRow (with_bit ws i)
unfolding with_bit
with_bit_is_row ws i r =
    let place : i % 64 < 64 = mod-lt i (lit< tt) in
    let new : bit_or (get_or ws (i / 64) 0) (2 ^ (i % 64)) < 2 ^ 64 = or_lt 64 (get_or ws (i / 64) 0) (2 ^ (i % 64)) (r.words (i / 64)) (pow-lt place) in
    record {
      four = length-set ws (i / 64) (bit_or (get_or ws (i / 64) 0) (2 ^ (i % 64))) ∙ r.four;
      words = set_words ws (i / 64) (bit_or (get_or ws (i / 64) 0) (2 ^ (i % 64))) new r.words;
    }

-- ---- unions

pub get_d_union : (xs ys : List ℕ) → length xs ≡ length ys → (k : ℕ) → get_or (union_of xs ys) k 0 ≡ bit_or (get_or xs k 0) (get_or ys k 0)
unfolding union_of
get_d_union [] [] e k = refl
get_d_union [] (y ∷ ys) e k = absurd (omega arith)
get_d_union (x ∷ xs) [] e k = absurd (omega arith)
get_d_union (x ∷ xs) (y ∷ ys) e zero = refl
get_d_union (x ∷ xs) (y ∷ ys) e (suc k) = get_d_union xs ys (suc_inj e) k

pub union_length : (xs ys : List ℕ) → length xs ≡ length ys → length (union_of xs ys) ≡ length xs
unfolding union_of
union_length [] ys e = refl
union_length (x ∷ xs) [] e = absurd (omega arith)
union_length (x ∷ xs) (y ∷ ys) e = ap suc (union_length xs ys (suc_inj e))

-- A bit of the union is a bit of one of the two.
pub in_row_union : (xs ys : List ℕ) (i : ℕ) → length xs ≡ length ys → in_row (union_of xs ys) i ≡ in_row xs i || in_row ys i
unfolding in_row
in_row_union xs ys i e =
    ap (λ (n : ℕ). in_word n (i % 64)) (get_d_union xs ys e (i / 64)) ∙ in_word_or (get_or xs (i / 64) 0) (get_or ys (i / 64) 0) (i % 64)

pub union_is_row : (xs ys : List ℕ) → IsRow xs → IsRow ys → IsRow (union_of xs ys)
union_is_row xs ys x y =
    let same : length xs ≡ length ys = x.four ∙ sym y.four in
    record {
      four = union_length xs ys same ∙ x.four;
      words = λ i. rw (get_d_union xs ys same i) (or_lt 64 (get_or xs i 0) (get_or ys i 0) (x.words i) (y.words i));
    }

-- ---- rows of lists, one bit more

-- The row of no bits.
pub row_of_none : row_of [] ≡ 0 ∷ 0 ∷ 0 ∷ 0 ∷ []
unfolding row_of word_of
row_of_none = refl

snoc_true : (bs : List Bool) (i : ℕ) → get_or (bs ++ (true ∷ [])) i false ≡ get_or bs i false || eqb (length bs) i
snoc_true [] zero = refl
snoc_true [] (suc i) = sym (eqb-zero-suc i)
snoc_true (b ∷ bs) zero = or-false b ∙ ap (λ (e : Bool). b || e) (sym (eqb-suc-zero (length bs)))
snoc_true (b ∷ bs) (suc i) = snoc_true bs i ∙ ap (λ (e : Bool). get_or bs i false || e) (sym (eqb-suc-suc (length bs) i))

snoc_false : (bs : List Bool) (i : ℕ) → get_or (bs ++ (false ∷ [])) i false ≡ get_or bs i false
snoc_false [] zero = refl
snoc_false [] (suc i) = refl
snoc_false (b ∷ bs) zero = refl
snoc_false (b ∷ bs) (suc i) = snoc_false bs i

-- A row that is built bit by bit: a set bit at the end of the list is that bit more, and another changes nothing.
module _ (bs : List Bool) (room : length bs < 256) where
  longer : (b : Bool) → length (bs ++ (b ∷ [])) ≤ 256
  longer b = rw (length-append bs (b ∷ [])) (omega arith)

  pub row_of_true : row_of (bs ++ (true ∷ [])) ≡ with_bit (row_of bs) (length bs)
  row_of_true =
      row_ext (row_of (bs ++ (true ∷ []))) (with_bit (row_of bs) (length bs)) (row_of_is_row (bs ++ (true ∷ [])))
      (with_bit_is_row (row_of bs) (length bs) (row_of_is_row bs))
      (λ i h. in_row_row_of (bs ++ (true ∷ [])) i (longer true) ∙ snoc_true bs i
      ∙ ap (λ (b : Bool). b || eqb (length bs) i) (sym (in_row_row_of bs i (omega arith)))
      ∙ sym (in_row_with_bit (row_of bs) (length bs) i (row_of_four bs) room))

  pub row_of_false : row_of (bs ++ (false ∷ [])) ≡ row_of bs
  row_of_false =
      row_ext (row_of (bs ++ (false ∷ []))) (row_of bs) (row_of_is_row (bs ++ (false ∷ []))) (row_of_is_row bs)
      (λ i h. in_row_row_of (bs ++ (false ∷ [])) i (longer false) ∙ snoc_false bs i ∙ sym (in_row_row_of bs i (omega arith)))

-- A row with the bits of a list is that list's row.
pub row_of_unique : (ws : List ℕ) (bs : List Bool) → IsRow ws → length bs ≤ 256 → ((i : ℕ) → i < 256 → in_row ws i ≡ get_or bs i false) → ws ≡ row_of bs
row_of_unique ws bs r short same =
    row_ext ws (row_of bs) r (row_of_is_row bs) (λ i h. same i h ∙ sym (in_row_row_of bs i short))
