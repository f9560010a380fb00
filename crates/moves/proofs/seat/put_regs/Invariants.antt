use Prim.Native.Nat.{◌*◌}
use Rattle.machine.specs.Run.{frame_values}
use Rattle.wire.proofs.StoringLaws.{StoredTo}
use Rattle.moves.proofs.seat.put_regs.Given as goal

abbrev pub invariant-loop-k : goal.invariant-loop-k
invariant-loop-k l = StoredTo l.initial.frames (frame_values * l.worker) l.regs l.frames l.k
