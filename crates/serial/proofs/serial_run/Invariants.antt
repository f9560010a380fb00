use mathlib.Core.Path.{◌≡◌}
use Rattle.wire.specs.Bytes.{below}
use Rattle.machine.specs.Serial.{run_calls}
use Rattle.moves.specs.Buffers.{run_of, SameBuffers}
use Rattle.serial.proofs.serial_run.Given as goal

abbrev pub invariant-loop-call : goal.invariant-loop-call
invariant-loop-call l =
    SameBuffers l.initial.run l.run × (run_of l.head l.run ≡ run_calls l.block (run_of l.initial.head l.initial.run) (below l.call))
