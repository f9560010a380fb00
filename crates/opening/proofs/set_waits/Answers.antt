-- `opening::set_waits` meets its contract: each turn sets the number of one call more.
use mathlib.Core.Path.{refl, ◌∙◌}
use native.Mathlib.Omega.{arith}
use Rattle.machine.specs.Waits.{each_wait}
use Rattle.opening.proofs.WaitsLaws.{row_there, set_more}
use Rattle.opening.proofs.set_waits.Goals as goal

pub loop-call-init : goal.loop-call-init
unfolding each_wait
loop-call-init c = refl

pub loop-call-preserved : goal.loop-call-preserved
loop-call-preserved c =
    let there = row_there c.args.plan.now c.loop-call.call c.requires.plan_in_bounds (omega (arith, c.loop-call-test.true, c.requires.calls_le_max_calls)) in
    set_more _ _ c.requires.status_value c.loop-call.call c.loop-call.invariant (c.row_of.ensures ∙ there) c.row_count-count.ensures c.put.ensures
