-- `machine::layout::large_enough` meets its contract: the six tests are the definition's.
use mathlib.Core.Path.{refl}
use Rattle.footprint.specs.Plan.{room_enough}
use Rattle.machine.specs.Run.{large_enough}
use Rattle.machine.proofs.layout.large_enough.Goals as goal

pub returns : goal.returns
unfolding large_enough room_enough
returns c = refl
