-- The runs of the worked blocks: as they open, and their serial runs.
use Rattle.block.specs.Worked.{account0, zero_divisors, fuelled}
use Rattle.machine.specs.Run.{Run}
use Rattle.machine.specs.Opening.{opened_for_eight}
use Rattle.machine.specs.Serial.{serial_run}

-- Of payments to account 0.
unfoldable pub start0 : Run
start0 = opened_for_eight account0

unfoldable pub closed0 : Run
closed0 = serial_run account0 start0

-- Of divisions.
unfoldable pub start_d : Run
start_d = opened_for_eight zero_divisors

unfoldable pub closed_d : Run
closed_d = serial_run zero_divisors start_d

-- Of loops.
unfoldable pub start_f : Run
start_f = opened_for_eight fuelled

unfoldable pub closed_f : Run
closed_f = serial_run fuelled start_f
