-- `analysis::room_enough` meets its contract: it tests one buffer after another, as the definition does.
use borrow.Author.Tests.{le-leb, lt-leb}
use Rattle.footprint.specs.Plan.{room_enough}
use Rattle.analysis.proofs.room_enough.Goals as goal

pub returns-then-plan : goal.returns-then-plan
unfolding room_enough
returns-then-plan c = simp (lt-leb _ _ c.if-plan.true)

pub returns-then-keys : goal.returns-then-keys
unfolding room_enough
returns-then-keys c = simp (le-leb _ _ c.if-plan.false, lt-leb _ _ c.if-keys.true)

pub returns : goal.returns
unfolding room_enough
returns c = simp (le-leb _ _ c.if-plan.false, le-leb _ _ c.if-keys.false)
