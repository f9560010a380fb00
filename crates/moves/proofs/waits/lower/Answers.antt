-- `moves::waits::lower` meets its contract: each turn lowers the number of one later call more.
use native.Mathlib.Omega.{arith}
use Rattle.moves.proofs.WaitCodeLaws.{lowered_start, lowered_more}
use Rattle.moves.proofs.waits.lower.Goals as goal

pub loop-later-init : goal.loop-later-init
loop-later-init c = lowered_start _ _ _

pub loop-later-preserved : goal.loop-later-preserved
loop-later-preserved c = lowered_more _ _ _ c.loop-later.later (omega arith) c.loop-later.invariant c.lower_one.ensures
