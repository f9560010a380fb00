-- `analysis::plan::opening_values` meets its contract: each turn stores the value of one opening cell more.
use native.Mathlib.Omega.{arith}
use mathlib.Core.Path.{◌∙◌}
use Rattle.footprint.specs.KeyWords.{keys_in}
use Rattle.block.specs.BlockOfFile.{block_of}
use Rattle.analysis.proofs.PreparedLaws.{values_opened_none, opened_turn, values_opened_all, opening_cell_within}
use Rattle.footprint.proofs.TableWordLaws.{keys_length}
use Rattle.analysis.proofs.plan.opening_values.Goals as goal

pub loop-i-init : goal.loop-i-init
loop-i-init c =
    c.requires.values_value
    ∙ values_opened_none (block_of c.args.file.now).cells (keys_in c.args.n c.args.keys.now) _ (omega (arith, keys_length c.args.n c.args.keys.now, c.requires.sorted.few))

pub overflow_mul-at : goal.overflow_mul-at
overflow_mul-at c =
    omega (arith, opening_cell_within _ _ c.requires.layout_of_block _ c.requires.table_of c.loop-i.i c.loop-i-test.true)

pub overflow_add-at-in-loop-i : goal.overflow_add-at-in-loop-i
overflow_add-at-in-loop-i c =
    omega (arith, opening_cell_within _ _ c.requires.layout_of_block _ c.requires.table_of c.loop-i.i c.loop-i-test.true)

pub overflow_add-at-in-loop-i-2 : goal.overflow_add-at-in-loop-i-2
overflow_add-at-in-loop-i-2 c =
    omega (arith, opening_cell_within _ _ c.requires.layout_of_block _ c.requires.table_of c.loop-i.i c.loop-i-test.true)

pub loop-i-preserved : goal.loop-i-preserved
loop-i-preserved c =
    opened_turn _ _ c.requires.layout_of_block _ c.requires.table_of _ c.loop-i.i _ _ _ c.loop-i-test.true c.loop-i.invariant c.from.ensures c.open_cell.ensures

pub returns : goal.returns
returns c =
    c.loop-i.invariant ∙ values_opened_all _ _ c.requires.layout_of_block _ c.requires.table_of _ c.loop-i.i c.loop-i-test.false
