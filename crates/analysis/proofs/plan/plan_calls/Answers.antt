-- `analysis::plan::plan_calls` meets its contract: each turn adds the words of one call to the plan, and its entries to the masks.
use native.Mathlib.Omega.{arith}
use Rattle.analysis.proofs.LayoutLaws.{laid_whole, laid_calls}
use Rattle.analysis.proofs.PlanLaws.{planned_none, planned_more, planned_all, complete}
use Rattle.analysis.proofs.plan.plan_calls.Goals as goal

pub loop-call-init : goal.loop-call-init
loop-call-init c = planned_none _ _ _ _ 4096 4096 c.requires.plan_value (omega arith) (omega arith)

pub plan_call-requires-clause-call_in_bounds : goal.plan_call-requires-clause-call_in_bounds
plan_call-requires-clause-call_in_bounds c =
    omega (arith, c.loop-call-test.true, laid_calls _ _ c.requires.layout_of_block)

pub plan_call-requires-clause-plan_words_in_bounds : goal.plan_call-requires-clause-plan_words_in_bounds
plan_call-requires-clause-plan_words_in_bounds c =
    omega (arith, c.loop-call-test.true, laid_calls _ _ c.requires.layout_of_block, (laid_whole _ _ c.requires.layout_of_block).laws.call_limit)

pub loop-call-preserved : goal.loop-call-preserved
loop-call-preserved c =
    let made = c.plan_call.ensures in
    planned_more _ _ (complete _ _ c.requires.table_of) c.loop-call.call _ _ _ _ _ _ _ c.loop-call.invariant
    (omega (arith, c.loop-call-test.true, laid_calls _ _ c.requires.layout_of_block)) (laid_whole _ _ c.requires.layout_of_block).laws.call_limit
    c.requires.plan_words_in_bounds made.plan_after made.touched_after made.writers_after

pub returns : goal.returns
returns c =
    planned_all _ _ (complete _ _ c.requires.table_of) c.loop-call.call _ _ _ _ c.loop-call.invariant (omega (arith, c.loop-call-test.false, laid_calls _ _ c.requires.layout_of_block))
