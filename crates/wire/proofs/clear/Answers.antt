-- `wire::clear` meets its contract: each turn clears one element more, and the loop ends behind the last.
use Rattle.wire.proofs.Laws.{cleared_more, cleared_all}
use Rattle.wire.proofs.clear.Goals as goal

pub loop-x-preserved : goal.loop-x-preserved
loop-x-preserved g c = cleared_more _ _ _ _ c.loop-x.invariant c.loop-x-test.true

pub returns : goal.returns
returns g c = cleared_all _ _ _ _ c.loop-x.invariant c.loop-x-test.false
