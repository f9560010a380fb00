-- `analysis::plan::entries` meets its contract: each turn makes the word of one entry more.
use native.Mathlib.Omega.{arith}
use lib.ListN.{get_or, take}
use Rattle.key_uses.specs.Uses.{no_use}
use Rattle.analysis.proofs.PlanLoops.{entries_none, entries_more, entries_all, flags_small, place_few}
use Rattle.analysis.proofs.plan.entries.Goals as goal

pub loop-k-init : goal.loop-k-init
loop-k-init c = entries_none _ _

pub overflow_mul-words : goal.overflow_mul-words
overflow_mul-words c = omega (arith, place_few _ _ _ _ c.requires.sorted c.cell_number-cell.ensures)

pub overflow_add-words : goal.overflow_add-words
overflow_add-words c =
    let small = flags_small (get_or (take c.args.s.now.count c.args.s.now.keys) c.loop-k.k no_use) in
    omega (arith, place_few _ _ _ _ c.requires.sorted c.cell_number-cell.ensures, c.use_flags.ensures, small)

pub loop-k-preserved : goal.loop-k-preserved
loop-k-preserved c =
    entries_more _ _ _ _ _ _ c.loop-k.invariant c.loop-k-test.true c.cell_number-cell.ensures c.use_flags.ensures

pub returns : goal.returns
returns c = entries_all _ _ _ _ c.loop-k.invariant c.loop-k-test.false
