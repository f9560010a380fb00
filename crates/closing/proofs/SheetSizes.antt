-- The length of a sheet by its numbers of records, and what it decides.
use mathlib.Core.Path.{◌≡◌, sym, ap, ◌∙◌}
use mathlib.Core.List.{List, flatten}
use Prim.Native.Nat.{ℕ, ◌+◌, ◌*◌}
use lib.IntN.{ℤ}
use lib.ListN.{length}
use Rattle.sheet.specs.Sheet.{cell_records, records_for}
use Rattle.sheet.proofs.RecordLists.{joined_length}
use Rattle.sheet.proofs.SheetRecords.{sheet_lengths}

-- The length found before anything is stored is that of the sheet.
pub sheet_length_lem : (keys : List ℕ) (cells : List ℤ) (status : List ℕ) (count calls : ℕ) {records : ℕ} → records ≡ length (cell_records keys cells count 0)
    → 24 * records + 8 * calls + 4 ≡ length (flatten (records_for keys cells status count calls))
sheet_length_lem keys cells status count calls e =
    ap (λ (n : ℕ). 24 * n + 8 * calls + 4) e
    ∙ sym (joined_length (records_for keys cells status count calls) ∙ sheet_lengths keys cells status count calls)
