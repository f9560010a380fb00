-- `listing::rows` meets its contract: what is written and what is left make up the whole text at every turn.
use native.Mathlib.Omega.{arith}
use mathlib.Core.Path.{◌∙◌}
use Rattle.opening.proofs.WaitsLaws.{row_there}
use Rattle.listing.proofs.Laws.{rowing_start, rowing_on, rowing_end}
use Rattle.listing.proofs.rows.Goals as goal

pub loop-call-init : goal.loop-call-init
loop-call-init c = rowing_start _ _ _ _

pub overflow_cast-at : goal.overflow_cast-at
overflow_cast-at c =
    omega (arith, c.loop-call.invariant.short, c.loop-call-test.true, c.requires.calls_le_max_calls, c.requires.from_bound)

pub loop-call-preserved : goal.loop-call-preserved
loop-call-preserved c =
    let there = row_there c.args.plan.now c.loop-call.call c.requires.plan_in_bounds (omega (arith, c.loop-call-test.true, c.requires.calls_le_max_calls)) in
    rowing_on _ _ _ _ _ _ _ _ _ _ c.loop-call.invariant c.loop-call-test.true (c.row_of-row.ensures ∙ there) c.row_line-at.ensures

pub returns : goal.returns
returns c = rowing_end _ _ _ _ _ _ _ c.loop-call.invariant c.loop-call-test.false
