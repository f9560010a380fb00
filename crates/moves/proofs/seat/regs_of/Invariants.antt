use Prim.Native.Nat.{◌*◌}
use Rattle.machine.specs.Run.{frame_values}
use Rattle.moves.proofs.SeatLaws.{TakenTo}
use Rattle.moves.proofs.seat.regs_of.Given as goal

abbrev pub invariant-loop-k : goal.invariant-loop-k
invariant-loop-k l = TakenTo l.frames (frame_values * l.worker) l.regs l.k
