-- `play::records::put_records` meets its contract: what is written and what is left make up the whole text at every turn.
use Rattle.play.proofs.RecordLaws.{printing_on, printing_stop, printing_end}
use Rattle.play.proofs.records.put_records.Goals as goal

pub returns-in_default : goal.returns-in_default
returns-in_default c =
    printing_stop c.loop.invariant c.loop-test.true (rw c.in_default.is at c.next_record.ensures)

pub loop-preserved : goal.loop-preserved
loop-preserved c =
    printing_on c.loop.invariant c.loop-test.true (rw c.in-Some.is at c.next_record.ensures)

pub returns : goal.returns
returns c = printing_end c.loop.invariant c.loop-test.false
