-- `printing::say` meets its contract: the text is printed, or it is told and nothing is handed over.
use mathlib.Core.Path.{ap}
use Rattle.host.specs.declared.Exchange.{Exchange}
use Rattle.printing.proofs.CloseLaws.{lines_printed, lines_told}
use Rattle.printing.proofs.say.Goals as goal

pub returns-in-Text : goal.returns-in-Text
returns-in-Text g c =
    record { text = lines_printed c.args.text.now c.in-Text.is c.print.ensures.text; received = c.print.ensures.received }

pub returns-in-Sheet : goal.returns-in-Sheet
returns-in-Sheet g c =
    record { text = lines_told c.args.transcript.now c.args.text.now c.in-Sheet.is c.tell.ensures; received = ap (λ (y : Exchange). y.received) c.tell.ensures }
