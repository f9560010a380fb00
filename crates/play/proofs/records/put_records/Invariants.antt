use Rattle.play.proofs.RecordLaws.{Printing}
use Rattle.play.proofs.records.put_records.Given as goal

abbrev pub invariant-loop : goal.invariant-loop
invariant-loop l = Printing l.sheet l.initial.out l.counter l.p l.out
