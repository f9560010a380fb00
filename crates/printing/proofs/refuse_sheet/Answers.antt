-- `printing::refuse_sheet` meets its contract: the line fits its buffer, and all of it is said.
use mathlib.Core.Path.{refl, sym, ap}
use native.Mathlib.Omega.{arith}
use lib.Seq.{length-take-le}
use Rattle.host.proofs.Laws.{handed_as}
use Rattle.printing.specs.Printing.{printed_lines}
use Rattle.printing.proofs.CloseLaws.{line_short, line_front}
use Rattle.printing.proofs.refuse_sheet.Goals as goal

pub slice_bounds-text-end : goal.slice_bounds-text-end
slice_bounds-text-end g c = omega (arith, line_short 114 0 c.refused_number.result c.refused_line-n.ensures)

pub slice_bounds-say-end : goal.slice_bounds-say-end
slice_bounds-say-end g c = sym (length-take-le _ _ (omega (arith, line_short 114 0 c.refused_number.result c.refused_line-n.ensures)))

pub returns : goal.returns
returns g c =
    record { text = handed_as (ap (printed_lines c.args.output) (line_front 114 0 c.refused_number.result c.refused_line-n.ensures (omega (arith, line_short 114 0 c.refused_number.result c.refused_line-n.ensures)) refl c.refused_number.ensures)) c.say.ensures.text; received = c.say.ensures.received }
