use mathlib.Core.Path.{◌≡◌}
use lib.ListN.{drop}
use Rattle.footprint.specs.EntryUses.{entry_touches_cell}
use Rattle.analysis.specs.Masks.{add_call_words}
use Rattle.footprint.specs.Plan.{entry_writes}
use Rattle.analysis.proofs.rows.add_call.Given as goal

abbrev pub invariant-loop-entry : goal.invariant-loop-entry
invariant-loop-entry l = record {
  touched_left : add_call_words entry_touches_cell l.initial.touched l.call l.entry-items ≡ add_call_words entry_touches_cell l.touched l.call (drop l.entry-index l.entry-items);
  writers_left : add_call_words entry_writes l.initial.writers l.call l.entry-items ≡ add_call_words entry_writes l.writers l.call (drop l.entry-index l.entry-items);
}
