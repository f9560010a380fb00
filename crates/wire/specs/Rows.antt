-- "Each call's earlier conflicting calls are kept as a row of 256 bits": four words of 64 bits, lowest bit first.
use Rattle.std.specs.Prelude.{Bool, true, false, List, [], ◌∷◌, ℕ, ◌+◌, ◌*◌, ◌/◌, ◌%◌, ◌^◌, get_or, take, drop, eqb}

abbrev pub row_bits : ℕ
row_bits = 256

abbrev pub row_words : ℕ
row_words = 4

abbrev pub bit : Bool → ℕ
bit true = 1
bit false = 0

-- The word whose lowest bits are those of the list.
unfoldable pub word_of : List Bool → ℕ
word_of [] = 0
word_of (b ∷ bs) = bit b + 2 * word_of bs

-- The row of a list of at most 256 bits.
unfoldable pub row_of : List Bool → List ℕ
row_of bs =
    word_of (take 64 bs)
    ∷ word_of (take 64 (drop 64 bs)) ∷ word_of (take 64 (drop 128 bs)) ∷ word_of (take 64 (drop 192 bs)) ∷ []

-- Whether bit i of a word, or of a row, is set.
abbrev pub in_word : ℕ → ℕ → Bool
in_word n i = eqb (n / 2 ^ i % 2) 1

unfoldable pub in_row : List ℕ → ℕ → Bool
in_row ws i = in_word (get_or ws (i / 64) 0) (i % 64)
