-- `moves::seat::regs_of` meets its contract: each turn takes one register more.
use native.Mathlib.Omega.{arith}
use Rattle.moves.proofs.SeatLaws.{taken_all}
use Rattle.moves.proofs.seat.regs_of.Goals as goal

pub returns : goal.returns
returns c =
    taken_all _ _ _ c.loop-k.invariant (omega (arith, c.loop-k-test.false)) (omega (arith, c.requires.worker_lt_max_workers, c.requires.frames_in_bounds))
