use Prim.Native.Nat.{◌+◌, ◌*◌}
use mathlib.Core.Path.{◌≡◌}
use lib.ListN.{drop}
use Rattle.wire.specs.Bytes.{stored}
use Rattle.machine.specs.Run.{frame_values, registers}
use Rattle.machine.specs.Step.{saved_of}
use Rattle.moves.proofs.entries.save.Given as goal

abbrev pub invariant-loop-k : goal.invariant-loop-k
invariant-loop-k l =
    stored l.initial.frames (frame_values * l.worker + registers) (saved_of l.entry-items l.cells)
    ≡ stored l.frames (frame_values * l.worker + registers + l.k) (saved_of (drop l.k l.entry-items) l.cells)
