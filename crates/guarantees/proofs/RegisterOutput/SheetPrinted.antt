-- The sheet fits REGISTER's output, and stands there whole.
use mathlib.Core.Path.{◌≡◌, refl, ap, subst}
use mathlib.Core.Bool.{Bool}
use mathlib.Core.List.{List, [], flatten}
use Prim.Native.Nat.{ℕ, ◌≤◌}
use native.Mathlib.Omega.{arith}
use borrow.Author.Tests.{le-ltb}
use lib.ListN.{length, take, length-replicate}
use Rattle.std.specs.Prelude.{if◌then◌else◌}
use Rattle.wire.specs.Bytes.{repeated}
use Rattle.block.specs.Limits.{max_calls, max_keys}
use Rattle.machine.specs.Run.{Run}
use Rattle.machine.specs.declared.Answer.{Answer}
use Rattle.machine.specs.declared.Answer.TheVariants.{SheetTooLong}
use Rattle.sheet.specs.Sheet.{sheet_records, sheet_bytes, offset_behind, Closed, unwritten, filled, written_if, written, sheet_of, max_sheet}
use Rattle.sheet.proofs.RecordLists.{joined_length, front_whole}
use Rattle.sheet.proofs.SheetRecords.{cells_few, sheet_lengths}
use Rattle.sheet.proofs.SheetTests.{sheet_all}
use Rattle.console.specs.SheetBytes.{closing_bytes}

pub sheet_at_most : (r : Run) → r.head.calls ≤ max_calls → r.head.cells ≤ max_keys → length (sheet_bytes r) ≤ max_sheet
unfolding sheet_records
sheet_at_most r calls cells =
    omega (arith, joined_length (sheet_records r), sheet_lengths r.keys r.cells r.status r.head.cells r.head.calls, cells_few r.keys r.cells r.head.cells 0)

pub zeros_length : (n : ℕ) → length (repeated {A = ℕ} n 0) ≡ n
unfolding repeated
zeros_length n = length-replicate {A = ℕ} n 0

-- The output of REGISTER.
abbrev pub room : List ℕ
room = repeated max_sheet 0

-- A sheet that fits it stands at its front.
pub sheet_front : (rs : List (List ℕ)) → length (flatten rs) ≤ max_sheet → take (offset_behind rs) (filled room rs).output ≡ flatten rs
sheet_front rs fits = let size : length room ≡ max_sheet = zeros_length max_sheet in front_whole rs room (omega arith)

-- .. and is not refused by 28.
pub sheet_fits : (rs : List (List ℕ)) → length (flatten rs) ≤ max_sheet → written room rs ≡ filled room rs
unfolding written_if
sheet_fits rs fits =
    let size : length room ≡ max_sheet = zeros_length max_sheet in
    ap (λ (long : Bool). if long then unwritten room SheetTooLong else filled room rs) (le-ltb (length room) (length (flatten rs)) (omega arith))

-- The bytes of a close are the sheet's, unless there are none.
module _ (r : Run) where
  abbrev Whole : Closed → Type 0
  Whole c = (closing_bytes c c.answer ≡ [] → ⊥) → closing_bytes c c.answer ≡ sheet_bytes r

  none_whole : (a : Answer) → Whole (unwritten room a)
  unfolding closing_bytes
  none_whole a some = absurd (some refl)

  filled_whole : length (sheet_bytes r) ≤ length room → Whole (filled room (sheet_records r))
  unfolding closing_bytes
  filled_whole fits some = sheet_front (sheet_records r) (subst (λ (n : ℕ). length (sheet_bytes r) ≤ n) (zeros_length max_sheet) fits)

  pub close_whole : Whole (sheet_of r room)
  close_whole = sheet_all Whole r room none_whole (λ b. filled_whole)
