-- `text::cell_line` meets its contract: four numbers, the value, and the end of the line behind them.
use Rattle.text.proofs.WrittenLaws.{written_part, written_end}
use mathlib.Core.Path.{◌≡◌}
use Rattle.arith.proofs.Laws.{read, read_back}
use Rattle.text.proofs.Laws.{spaced_length, signed_length}
use mathlib.Core.List.{[], ◌∷◌}
use native.Mathlib.Omega.{arith}
use Rattle.text.proofs.cell_line.Goals as goal

pub put_value_part-at-requires : goal.put_value_part-at-requires
put_value_part-at-requires c =
    omega (arith, c.ranges.from.fits, c.put_four-four.ensures.end, spaced_length (c.args.address ∷ c.args.field ∷ c.args.a ∷ c.args.b ∷ []))

pub put_end-requires : goal.put_end-requires
put_end-requires c =
    let v : _ ≡ c.args.value = read_back c.ranges.value in omega (arith, c.ranges.from.fits, c.put_four-four.ensures.end, spaced_length (c.args.address ∷ c.args.field ∷ c.args.a ∷ c.args.b ∷ []), c.put_value_part-at.ensures.end, signed_length (read c.args.value))

pub returns : goal.returns
returns c =
    written_end _ _ _ _ _ _ _ (_ ∷ _ ∷ _ ∷ _ ∷ _ ∷ []) (written_part _ _ _ _ _ _ _ (_ ∷ _ ∷ _ ∷ _ ∷ []) c.put_four-four.ensures _ (rw (read_back c.ranges.value) at c.put_value_part-at.ensures.text, rw (read_back c.ranges.value) at c.put_value_part-at.ensures.end)) (c.put_end.ensures.text, c.put_end.ensures.end)
