-- `text::refused_line` meets its contract: the two numbers, and the end of the line behind them.
use Rattle.text.proofs.WrittenLaws.{written_end}
use Rattle.text.proofs.Laws.{spaced_length}
use mathlib.Core.List.{[], ◌∷◌}
use native.Mathlib.Omega.{arith}
use Rattle.text.proofs.refused_line.Goals as goal

pub put_end-requires : goal.put_end-requires
put_end-requires c =
    omega (arith, c.ranges.from.fits, c.put_two-at.ensures.end, spaced_length (c.args.line ∷ c.args.number ∷ []))

pub returns : goal.returns
returns c =
    written_end _ _ _ _ _ _ _ _ c.put_two-at.ensures (c.put_end.ensures.text, c.put_end.ensures.end)
