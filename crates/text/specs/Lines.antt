-- The lines of text that the programs print.
use Rattle.std.specs.Prelude.{Bool, List, [], ◌∷◌, map, ℕ, zero, suc, ◌+◌, ℤ}
use Rattle.std.specs.Prelude.{if◌then◌else◌}
use Rattle.wire.specs.Decimal.{decimal, signed_decimal, text_line}
use Rattle.wire.specs.Rows.{in_row}

-- "A refused move prints `r`, its line from 1, its number"; "a refused sheet `r 0 27`".
abbrev pub refused_text : (line n : ℕ) → List ℕ
refused_text line n = text_line 114 (decimal line ∷ decimal n ∷ [])

-- "a refused block only `e`, number, offset"
abbrev pub block_refused_text : (n offset : ℕ) → List ℕ
block_refused_text n offset = text_line 101 (decimal n ∷ decimal offset ∷ [])

-- "k: address, field, a, b, value"
abbrev pub cell_text : (address field a b : ℕ) → ℤ → List ℕ
cell_text address field a b value =
    text_line 107 (decimal address ∷ decimal field ∷ decimal a ∷ decimal b ∷ signed_decimal value ∷ [])

-- "t: call, outcome, count"
abbrev pub receipt_text : (call outcome count : ℕ) → List ℕ
receipt_text call outcome count = text_line 116 (decimal call ∷ decimal outcome ∷ decimal count ∷ [])

-- What a listing tells of a block: `n`, the numbers of its functions, opening cells and calls, and of distinct keys in all.
abbrev pub counts_text : (functions cells calls keys : ℕ) → List ℕ
counts_text functions cells calls keys =
    text_line 110 (decimal functions ∷ decimal cells ∷ decimal calls ∷ decimal keys ∷ [])

-- The numbers from i on, n at most, that pass a test.
unfoldable pub passing : (ℕ → Bool) → ℕ → ℕ → List ℕ
passing test zero i = []
passing test (suc n) i = let rest = passing test n (i + 1) in if test i then i ∷ rest else rest

-- `w`, a call, and its earlier conflicting calls in rising order, from its row of 256 bits.
abbrev pub row_text : (call : ℕ) → List ℕ → List ℕ
row_text call row = text_line 119 (decimal call ∷ map decimal (passing (in_row row) 256 0))
