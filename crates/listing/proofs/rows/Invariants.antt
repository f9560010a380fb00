use Rattle.listing.proofs.Laws.{Rowing}
use Rattle.listing.proofs.rows.Given as goal

abbrev pub invariant-loop-call : goal.invariant-loop-call
invariant-loop-call l = Rowing l.plan l.calls l.initial.out l.out l.from l.at l.call
