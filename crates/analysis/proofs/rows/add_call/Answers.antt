-- `analysis::rows::add_call` meets its contract: the buffers so far, marked for the entries that are left, stay the buffers with all marks.
use native.Mathlib.Omega.{arith}
use mathlib.Core.Path.{refl, sym, ◌∙◌}
use lib.ListN.{take}
use Rattle.footprint.specs.EntryUses.{entry_touches_cell}
use Rattle.footprint.specs.Plan.{entry_writes}
use Rattle.analysis.proofs.RowLoops.{add_turn, add_end}
use Rattle.analysis.proofs.rows.add_call.Goals as goal

pub loop-entry-init : goal.loop-entry-init
loop-entry-init c = record { touched_left = refl; writers_left = refl }

pub loop-entry-preserved : goal.loop-entry-preserved
loop-entry-preserved c =
    let a = c.args in
    let so_far = c.loop-entry in
    let made = c.add_entry.ensures in
    record {
      touched_left = so_far.invariant.touched_left ∙ add_turn (take a.n a.entries) entry_touches_cell a.call _ _ so_far.entry-index (omega arith) made.touched_after;
      writers_left = so_far.invariant.writers_left ∙ add_turn (take a.n a.entries) entry_writes a.call _ _ so_far.entry-index (omega arith) made.writers_after;
    }

pub returns : goal.returns
returns c =
    let a = c.args in
    let end = c.loop-entry in
    record {
      touched_after = sym (end.invariant.touched_left ∙ add_end (take a.n a.entries) entry_touches_cell a.call _ end.entry-index (omega arith));
      writers_after = sym (end.invariant.writers_left ∙ add_end (take a.n a.entries) entry_writes a.call _ end.entry-index (omega arith));
    }
