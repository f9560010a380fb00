-- `printing::print_lines` meets its contract: the lines of the whole sheet fit their buffer, and all of them are handed over.
use mathlib.Core.Path.{sym}
use native.Mathlib.Omega.{arith}
use lib.Seq.{length-take-le}
use Rattle.host.proofs.Laws.{handed_as}
use Rattle.printing.proofs.CloseLaws.{lines_fit, lines_front}
use Rattle.printing.proofs.print_lines.Goals as goal

pub slice_bounds-text-end : goal.slice_bounds-text-end
slice_bounds-text-end g c = omega (arith, lines_fit c.args.bytes.now c.sheet_text-n.ensures c.requires.bytes_len_bound_2)

pub slice_bounds-print-end : goal.slice_bounds-print-end
slice_bounds-print-end g c = sym (length-take-le _ _ (omega (arith, lines_fit c.args.bytes.now c.sheet_text-n.ensures c.requires.bytes_len_bound_2)))

pub returns : goal.returns
returns g c =
    record { text = handed_as (lines_front c.args.bytes.now c.sheet_text-n.ensures (omega (arith, lines_fit c.args.bytes.now c.sheet_text-n.ensures c.requires.bytes_len_bound_2))) c.print.ensures.text; received = c.print.ensures.received }
