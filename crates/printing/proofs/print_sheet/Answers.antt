-- `printing::print_sheet` meets its contract: it goes by the output.
use Rattle.printing.proofs.CloseLaws.{sheet_lines_lem, sheet_bytes_lem}
use Rattle.printing.proofs.print_sheet.Goals as goal

pub returns-in-Text : goal.returns-in-Text
returns-in-Text g c =
    record { text = sheet_lines_lem c.args.bytes.now c.in-Text.is c.print_lines.ensures.text; received = c.print_lines.ensures.received }

pub returns-in-Sheet : goal.returns-in-Sheet
returns-in-Sheet g c =
    record { text = sheet_bytes_lem c.args.bytes.now c.in-Sheet.is c.print.ensures.text; received = c.print.ensures.received }
