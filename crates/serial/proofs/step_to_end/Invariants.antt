use mathlib.Core.Path.{◌≡◌}
use Prim.Native.Nat.{◌-◌}
use Rattle.machine.specs.Serial.{max_steps, step_to_end}
use Rattle.moves.specs.Buffers.{run_of, SameBuffers}
use Rattle.serial.proofs.step_to_end.Given as goal

abbrev pub invariant-loop : goal.invariant-loop
invariant-loop l =
    SameBuffers l.initial.run l.run
    × (step_to_end max_steps l.block (run_of l.initial.head l.initial.run) ≡ step_to_end (max_steps - l.counter) l.block (run_of l.head l.run))
