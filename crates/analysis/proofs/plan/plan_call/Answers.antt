-- `analysis::plan::plan_call` meets its contract: each callee's answer is the part of the call's words that it is asked for.
use Rattle.footprint.specs.EntryUses.{entry_touches_cell}
use Rattle.analysis.specs.Masks.{mask_row_words}
use Rattle.footprint.specs.Plan.{entry_writes}
use Rattle.analysis.specs.Gathered.{Holds}
use Rattle.footprint.specs.BlockSets.{sets_at}
use Rattle.analysis.proofs.FillingLaws.{set_worded}
use Rattle.analysis.proofs.PlanLoops.{some_set, set_held, words_in_table, words_of_call_lem, marks_of_call}
use Rattle.analysis.proofs.plan.plan_call.Goals.{After-unwrap-s}
use Rattle.analysis.proofs.plan.plan_call.Goals as goal

pub unwrap-s-requires : goal.unwrap-s-requires
unwrap-s-requires c = some_set _ _ c.requires.table_of _ _ c.call_sets.ensures

-- The set is that of the call.
held : (c : After-unwrap-s) → Holds c.unwrap-s.result (sets_at c.args.file.now c.args.call)
held c = set_held _ _ c.requires.table_of _ _ c.unwrap-s.ensures c.call_sets.ensures

pub entries-words-requires-clause-worded : goal.entries-words-requires-clause-worded
entries-words-requires-clause-worded c = set_worded _ _ (held (goal.at.entries-words-requires-clause-worded c).After-unwrap-s)

pub row_for-row-requires-clause-cells_in_table : goal.row_for-row-requires-clause-cells_in_table
row_for-row-requires-clause-cells_in_table c =
    words_in_table _ _ c.requires.table_of _ _ (held (goal.at.row_for-row-requires-clause-cells_in_table c).After-unwrap-s) _ c.entries-words.ensures

pub add_call-requires-clause-cells_in_table : goal.add_call-requires-clause-cells_in_table
add_call-requires-clause-cells_in_table c =
    words_in_table _ _ c.requires.table_of _ _ (held (goal.at.add_call-requires-clause-cells_in_table c).After-unwrap-s) _ c.entries-words.ensures

pub returns : goal.returns
returns c =
    let made = held (goal.at.returns c).After-unwrap-s in
    let right = c.entries-words.ensures in
    record {
      plan_after = words_of_call_lem _ _ c.requires.table_of _ _ made _ right _ _ _ _ (mask_row_words c.args.touched.now c.args.writers.now) _ c.call_code-code.ensures c.row_for-row.ensures c.put_call.ensures;
      touched_after = marks_of_call _ _ c.requires.table_of _ _ made _ right entry_touches_cell _ _ c.add_call.ensures.touched_after;
      writers_after = marks_of_call _ _ c.requires.table_of _ _ made _ right entry_writes _ _ c.add_call.ensures.writers_after;
    }
