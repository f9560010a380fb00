-- `moves::seat::put_regs` meets its contract: each turn stores one register more.
use borrow.Author.Rules.{rules}
use native.Mathlib.Omega.{arith}
use mathlib.Core.Path.{◌≡◌, refl}
use lib.IntN.{pos}
use lib.ListN.{length, get_or}
use mir.Syntax.{w64}
use mir.Facts.{to_z-of_z}
use Rattle.machine.specs.Run.{registers}
use Rattle.wire.proofs.StoringLaws.{stored_none, stored_more, stored_all}
use Rattle.moves.proofs.seat.put_regs.Goals.{Start}
use Rattle.moves.proofs.seat.put_regs.Goals as goal

-- There are eight registers.
full : (c : Start) → length c.args.regs ≡ registers
full c = search rules

pub loop-k-init : goal.loop-k-init
loop-k-init c = stored_none _ _ _

pub loop-k-preserved : goal.loop-k-preserved
loop-k-preserved c =
    stored_more _ _ _ _ c.loop-k.invariant (omega (arith, c.loop-k-test.true, full (goal.at.loop-k-preserved c).Start)) (pos 0) refl
    (to_z-of_z {w = w64} {z = get_or c.args.regs c.loop-k.k (pos 0)} (search rules))

pub returns : goal.returns
returns c = stored_all _ _ _ _ c.loop-k.invariant (omega (arith, c.loop-k-test.false, full (goal.at.returns c).Start))
