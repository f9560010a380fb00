-- A row that stands among words, a row with one bit more, and the union of two rows; the first position that passes a test, and how many do.
use Rattle.std.specs.Prelude.{Bool, List, [], ◌∷◌, ℕ, zero, suc, ◌+◌, ◌/◌, ◌%◌, ◌^◌, leb, length, get_or, set, take}
use Rattle.std.specs.Int.Bits.{bit_or}
use Rattle.std.specs.Prelude.{if◌then◌else◌}
use Rattle.wire.specs.Rows.{bit, row_words}

-- The row that the first words are; an empty row where there are too few.
unfoldable pub row_from : List ℕ → List ℕ
row_from words = if leb row_words (length words) then take row_words words else 0 ∷ 0 ∷ 0 ∷ 0 ∷ []

-- The row with bit i set as well; a bit past the row changes nothing.
unfoldable pub with_bit : List ℕ → ℕ → List ℕ
with_bit ws i = set ws (i / 64) (bit_or (get_or ws (i / 64) 0) (2 ^ (i % 64)))

-- The bits that are set in either of two rows of as many words.
unfoldable pub union_of : List ℕ → List ℕ → List ℕ
union_of [] ys = []
union_of (x ∷ xs) [] = []
union_of (x ∷ xs) (y ∷ ys) = bit_or x y ∷ union_of xs ys

-- The first of the n positions from i on that passes a test, or the position behind them all.
unfoldable pub first_of : (ℕ → Bool) → ℕ → ℕ → ℕ
first_of p zero i = i
first_of p (suc n) i = let rest = first_of p n (i + 1) in if p i then i else rest

-- How many positions below a number pass a test.
unfoldable pub count_of : (ℕ → Bool) → ℕ → ℕ
count_of p zero = 0
count_of p (suc i) = bit (p i) + count_of p i
