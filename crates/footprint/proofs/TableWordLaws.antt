-- Laws of a key and its two words, of the words of a table, and of the keys that a buffer holds.
use mathlib.Core.Path.{◌≡◌, refl, sym, ap, ap₂, ◌∙◌}
use mathlib.Core.List.{List, [], ◌∷◌, ◌++◌}
use Prim.Native.Nat.{ℕ, zero, suc, ◌+◌, ◌-◌, ◌*◌, ◌^◌, ◌<◌}
use native.Mathlib.Nat.{not-suc-le-zero, le_of_suc-le-suc, mod-lt}
use native.Mathlib.Omega.{arith}
use lib.Dec.{lit<}
use lib.ListN.{length, get_or, drop}
use lib.Seq.{get_or-drop}
use Rattle.wire.specs.Bytes.{repeated, padded}
use Rattle.footprint.specs.Plan.{high_word, low_word, table_words}
use Rattle.footprint.specs.KeyWords.{key_from, key_at, keys_in}

-- ---- a key and its two words

pub key_of_words : (k : ℕ) → key_from (high_word k) (low_word k) ≡ k
key_of_words k = omega arith

pub high_of_key : (high low : ℕ) → low < 2 ^ 32 → high_word (key_from high low) ≡ high
high_of_key high low h = omega arith

pub low_of_key : (high low : ℕ) → low < 2 ^ 32 → low_word (key_from high low) ≡ low
low_of_key high low h = omega arith

-- ---- the words of a table

pub words_append : (s t : List ℕ) → table_words (s ++ t) ≡ table_words s ++ table_words t
unfolding table_words
words_append [] t = refl
words_append (k ∷ ks) t = ap (λ (ws : List ℕ). high_word k ∷ low_word k ∷ ws) (words_append ks t)

pub words_length : (t : List ℕ) → length (table_words t) ≡ 2 * length t
unfolding table_words
words_length [] = refl
words_length (k ∷ ks) = let rest : length (table_words ks) ≡ 2 * length ks = words_length ks in omega arith

pub words_low : (t ws : List ℕ) (i : ℕ) → i < length t → get_or (table_words t ++ ws) (2 * i + 1) 0 < 2 ^ 32
unfolding table_words
words_low [] ws i h = absurd (not-suc-le-zero h)
words_low (k ∷ ks) ws zero h = mod-lt k (lit< tt)
words_low (k ∷ ks) ws (suc i) h =
    let e : 2 * suc i + 1 ≡ suc (suc (2 * i + 1)) = omega arith in
    rw e (words_low ks ws i (le_of_suc-le-suc h))

-- ---- the keys of a buffer

pub keys_length : (n : ℕ) (ws : List ℕ) → length (keys_in n ws) ≡ n
unfolding keys_in
keys_length zero ws = refl
keys_length (suc n) ws = ap suc (keys_length n (drop 2 ws))

pub keys_at : (n : ℕ) (ws : List ℕ) (i : ℕ) → i < n → get_or (keys_in n ws) i 0 ≡ key_at ws i
unfolding keys_in
keys_at zero ws i h = absurd (not-suc-le-zero h)
keys_at (suc n) ws zero h = refl
keys_at (suc n) ws (suc i) h =
    let high : 2 * suc i ≡ 2 + 2 * i = omega arith in
    let low : 2 * suc i + 1 ≡ 2 + (2 * i + 1) = omega arith in
    keys_at n (drop 2 ws) i (le_of_suc-le-suc h)
    ∙ ap₂ key_from
    (get_or-drop 2 ws (2 * i) 0 ∙ ap (λ (j : ℕ). get_or ws j 0) (sym high))
    (get_or-drop 2 ws (2 * i + 1) 0 ∙ ap (λ (j : ℕ). get_or ws j 0) (sym low))

-- The keys of a table's words are the table, whatever follows them.
pub keys_of_words : (t ws : List ℕ) → keys_in (length t) (table_words t ++ ws) ≡ t
unfolding keys_in table_words
keys_of_words [] ws = refl
keys_of_words (k ∷ ks) ws = ap₂ (λ (l : ℕ) (ls : List ℕ). l ∷ ls) (key_of_words k) (keys_of_words ks ws)

pub keys_padded : (m : ℕ) (t : List ℕ) → keys_in (length t) (padded m 0 (table_words t)) ≡ t
keys_padded m t = keys_of_words t (repeated (m - length (table_words t)) 0)
