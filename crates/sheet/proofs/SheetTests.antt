-- The tests of a sheet, one after another: a property of each refusal, under what was found before it, and of the written sheet holds of the sheet.
use mathlib.Core.Path.{◌≡◌}
use mathlib.Core.Bool.{true, false, ◌||◌, not}
use mathlib.Core.List.{List}
use Prim.Native.Nat.{ℕ, ◌≤◌, ◌<◌}
use borrow.Author.Tests.{ltb-true, ltb-false, not-true, not-false}
use lib.Dec.{ltb}
use lib.ListN.{length}
use Rattle.arith.proofs.ChoiceLaws.{if_all, neither}
use Rattle.block.specs.Limits.{max_calls, max_keys}
use Rattle.machine.specs.Run.{Run, sizes_of, large_enough}
use Rattle.machine.specs.declared.Answer.{Answer}
use Rattle.machine.specs.declared.Answer.TheVariants.{Damaged, CallUnfinished, SheetTooLong}
use Rattle.sheet.specs.Sheet.{Closed, sheet_records, sheet_bytes, states_allowed, all_finished, receipts_allowed, balances_allowed, unwritten, filled, written_if, sheet_of}

-- What was found before 27, and before 28.
pub record FoundBefore27 (r : Run) : Type 0 where
  pub large : large_enough (sizes_of r) ≡ true
  pub calls : r.head.calls ≤ max_calls
  pub states : states_allowed r.status r.head.calls ≡ true

pub record FoundBefore28 (r : Run) : Type 0 where
  pub so_far : FoundBefore27 r
  pub finished : all_finished r.status r.head.calls ≡ true
  pub cells : r.head.cells ≤ max_keys
  pub balances : balances_allowed r.keys r.cells r.head.cells ≡ true

module _ (P : Closed → Type 0) (r : Run) (output : List ℕ) where
  pub sheet_each : P (unwritten output Damaged)
      → (FoundBefore27 r → all_finished r.status r.head.calls ≡ false → P (unwritten output CallUnfinished))
      → (FoundBefore28 r → length output < length (sheet_bytes r) → P (unwritten output SheetTooLong))
      → (FoundBefore28 r → length (sheet_bytes r) ≤ length output → receipts_allowed r.status r.head.calls ≡ true → P (filled output (sheet_records r)))
      → P (sheet_of r output)
  unfolding sheet_of written_if
  sheet_each damaged unfinished long whole =
      if_all P (not (large_enough (sizes_of r)) || ltb max_calls r.head.calls) (λ e. damaged) λ few.
      if_all P (not (states_allowed r.status r.head.calls)) (λ e. damaged) λ states.
      let sizes = neither (not (large_enough (sizes_of r))) (ltb max_calls r.head.calls) few in
      let b : FoundBefore27 r =
      record { large = not-false _ sizes.0; calls = ltb-false max_calls r.head.calls sizes.1; states = not-false _ states } in
      if_all P (not (all_finished r.status r.head.calls)) (λ e. unfinished b (not-true _ e)) λ finished.
      if_all P (ltb max_keys r.head.cells) (λ e. damaged) λ cells.
      if_all P (not (balances_allowed r.keys r.cells r.head.cells)) (λ e. damaged) λ balances.
      let b' : FoundBefore28 r =
      record { so_far = b; finished = not-false _ finished; cells = ltb-false max_keys r.head.cells cells; balances = not-false _ balances } in
      if_all P (ltb (length output) (length (sheet_bytes r))) (λ e. long b' (ltb-true (length output) (length (sheet_bytes r)) e)) λ fits.
      if_all P (receipts_allowed r.status r.head.calls) (whole b' (ltb-false (length output) (length (sheet_bytes r)) fits)) λ e. damaged

  -- Where it holds of every refusal.
  pub sheet_all : ((a : Answer) → P (unwritten output a)) → (FoundBefore28 r → length (sheet_bytes r) ≤ length output → P (filled output (sheet_records r)))
      → P (sheet_of r output)
  sheet_all refused whole = sheet_each (refused Damaged) (λ b e. refused CallUnfinished) (λ b e. refused SheetTooLong) (λ b fits e. whole b fits)
