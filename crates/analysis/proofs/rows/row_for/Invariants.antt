use mathlib.Core.Path.{◌≡◌}
use lib.ListN.{drop}
use Rattle.analysis.specs.Masks.{union_over, entry_row, mask_row_words}
use Rattle.analysis.proofs.rows.row_for.Given as goal

abbrev pub invariant-loop-entry : goal.invariant-loop-entry
invariant-loop-entry l =
    mask_row_words l.touched l.writers l.entry-items ≡ union_over (entry_row l.touched l.writers) l.row (drop l.entry-index l.entry-items)
