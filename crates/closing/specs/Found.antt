-- What one look at the first cells finds.
use Rattle.std.specs.Prelude.{List, ℕ, ℤ, length, Option, Some, None}
use Rattle.std.specs.Prelude.{if◌then◌else◌}
use Rattle.sheet.specs.Sheet.{cell_records, balances_allowed}

-- How many records the cells have, by which 28 is decided; or none where a balance is below zero, which is 20.
abbrev pub found_in : List ℕ → List ℤ → (count : ℕ) → Option ℕ
found_in keys cells count = if balances_allowed keys cells count then Some (length (cell_records keys cells count 0)) else None
