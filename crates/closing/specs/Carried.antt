-- What the writer of a sheet has in hand between two records.
use Rattle.std.specs.Prelude.{◌≡◌, ℕ, take}
use mathlib.Core.List.{List, flatten}
use Rattle.wire.specs.Bytes.{stored}
use Rattle.sheet.specs.Sheet.{record_offset}

-- At record k the writer carries its offset, "the sum of all earlier records' lengths, heads included", and the output has the records before it
-- at its front, with nothing else changed.
pub record Carried (records : List (List ℕ)) (before : List ℕ) (k at : ℕ) (output : List ℕ) : Type 0 where
  pub offset : at ≡ record_offset records k
  pub written : output ≡ stored before 0 (flatten (take k records))

-- From record j on to record k: what the writer had at the one it has, carried on, at the other.
abbrev pub CarriedOn : List (List ℕ) → (j from : ℕ) → List ℕ → (k at : ℕ) → List ℕ → Type 0
CarriedOn records j from output₀ k at output = (before : List ℕ) → Carried records before j from output₀ → Carried records before k at output
