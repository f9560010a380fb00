-- `text::counts_line` meets its contract: four numbers, and the end of the line behind them.
use Rattle.text.proofs.WrittenLaws.{written_end}
use Rattle.text.proofs.Laws.{spaced_length}
use mathlib.Core.List.{[], ◌∷◌}
use native.Mathlib.Omega.{arith}
use Rattle.text.proofs.counts_line.Goals as goal

pub put_end-requires : goal.put_end-requires
put_end-requires c =
    omega (arith, c.ranges.from.fits, c.put_four-at.ensures.end, spaced_length (c.args.functions ∷ c.args.cells ∷ c.args.calls ∷ c.args.keys ∷ []))

pub returns : goal.returns
returns c =
    written_end _ _ _ _ _ _ _ _ c.put_four-at.ensures (c.put_end.ensures.text, c.put_end.ensures.end)
