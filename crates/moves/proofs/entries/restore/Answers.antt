-- `moves::entries::restore` meets its contract: the cells so far, with the entries that are left restored, stay the cells with all restored.
use borrow.Author.Rules.{rules}
use mathlib.Core.Path.{sym, ap, ◌∙◌}
use lib.IntN.{ℤ}
use lib.ListN.{set}
use mir.Syntax.{w64}
use mir.Facts.{to_z-of_z}
use Rattle.std.specs.Prelude.{if◌then◌else◌}
use Rattle.footprint.specs.Plan.{entry_cell, entry_writes}
use Rattle.std.proofs.lemmas.Slice.Zip.{Zip-more, either_empty_from_Zip}
use Rattle.moves.proofs.EntryLaws.{restore_turn, restore_end}
use Rattle.moves.proofs.entries.restore.Goals as goal

pub loop-entry-preserved : goal.loop-entry-preserved
loop-entry-preserved c =
    let turn = Zip-more c.loop-entry.entry-iterator c.next.new.self c.next.result _ c.in-Some.is c.next.ensures.steps in
    let e = c.in-Some.entry.now in
    c.loop-entry.invariant ∙ restore_turn c.loop-entry.cells turn.0 turn.1 (c.put_back.ensures
    ∙ ap (λ (old : ℤ). if entry_writes e then set c.loop-entry.cells (entry_cell e) old else c.loop-entry.cells) (to_z-of_z {w = w64} {z = c.in-Some.old.now} (search rules)))

pub returns : goal.returns
returns c =
    let end = either_empty_from_Zip c.loop-entry.entry-iterator c.next.new.self c.next.result c.in-None.is c.next.ensures.steps in
    sym (c.loop-entry.invariant ∙ restore_end _ _ _ end)
