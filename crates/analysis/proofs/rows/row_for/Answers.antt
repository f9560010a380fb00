-- `analysis::rows::row_for` meets its contract: the row so far, joined with those of the entries that are left, stays the whole row.
use native.Mathlib.Omega.{arith}
use mathlib.Core.Path.{sym, ◌∙◌}
use lib.ListN.{take}
use Rattle.analysis.specs.Masks.{entry_row}
use Rattle.analysis.proofs.RowLoops.{union_turn, union_end}
use Rattle.analysis.proofs.rows.row_for.Goals as goal

pub loop-entry-preserved : goal.loop-entry-preserved
loop-entry-preserved c =
    let a = c.args in
    c.loop-entry.invariant
    ∙ union_turn (take a.n a.entries) (entry_row a.touched.now a.writers.now) _ _ _ c.loop-entry.entry-index (omega arith) c.entry_row.ensures c.row_union-wider.ensures

pub returns : goal.returns
returns c =
    let a = c.args in
    sym (c.loop-entry.invariant ∙ union_end (take a.n a.entries) (entry_row a.touched.now a.writers.now) _ c.loop-entry.entry-index (omega arith))
