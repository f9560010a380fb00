-- `text::receipt_line` meets its contract: three numbers, and the end of the line behind them.
use Rattle.text.proofs.WrittenLaws.{written_part, written_end}
use Rattle.text.proofs.Laws.{spaced_length, digits_length}
use mathlib.Core.List.{[], ◌∷◌}
use native.Mathlib.Omega.{arith}
use Rattle.text.proofs.receipt_line.Goals as goal

pub put_part-at-requires : goal.put_part-at-requires
put_part-at-requires c =
    omega (arith, c.ranges.from.fits, c.put_two-two.ensures.end, spaced_length (c.args.call ∷ c.args.outcome ∷ []))

pub put_end-requires : goal.put_end-requires
put_end-requires c =
    omega (arith, c.ranges.from.fits, c.put_two-two.ensures.end, spaced_length (c.args.call ∷ c.args.outcome ∷ []), c.put_part-at.ensures.end, digits_length 20 c.args.count)

pub returns : goal.returns
returns c =
    written_end _ _ _ _ _ _ _ (_ ∷ _ ∷ _ ∷ []) (written_part _ _ _ _ _ _ _ (_ ∷ _ ∷ []) c.put_two-two.ensures _ (c.put_part-at.ensures.text, c.put_part-at.ensures.end)) (c.put_end.ensures.text, c.put_end.ensures.end)
