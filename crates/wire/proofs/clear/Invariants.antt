use Rattle.wire.proofs.Laws.{ClearedBelow}
use Rattle.wire.proofs.clear.Given as goal

abbrev pub invariant-loop-x : goal.invariant-loop-x
invariant-loop-x g l = ClearedBelow l.zero l.initial.s l.s l.x-index
