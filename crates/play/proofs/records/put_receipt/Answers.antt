-- `play::records::put_receipt` meets its contract: the numbers of the line are those of the body.
use Rattle.play.proofs.RecordLaws.{receipt_put}
use Rattle.play.proofs.records.put_receipt.Goals as goal

pub returns : goal.returns
returns c =
    receipt_put c.args.sheet.now c.args.body c.args.call c.read_le-outcome.ensures c.read_le-count.ensures c.receipt_line.ensures
