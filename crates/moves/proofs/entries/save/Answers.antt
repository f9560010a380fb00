-- `moves::entries::save` meets its contract: the list so far, with the values that are left stored, stays the list with all of them.
use borrow.Author.Rules.{rules}
use Prim.Native.Nat.{◌+◌, ◌*◌}
use mathlib.Core.Path.{sym, ◌∙◌}
use mir.Syntax.{w64}
use mir.Facts.{to_z-of_z}
use Rattle.std.proofs.lemmas.List.{at_drop_all}
use Rattle.wire.specs.Bytes.{stored}
use Rattle.machine.specs.Run.{frame_values, registers}
use Rattle.machine.specs.Step.{saved_of}
use Rattle.moves.proofs.EntryLaws.{save_turn, save_end}
use Rattle.moves.proofs.entries.save.Goals as goal

pub loop-k-preserved : goal.loop-k-preserved
loop-k-preserved c =
    c.loop-k.invariant ∙ save_turn c.entries_of-entry-items.result.now c.args.cells.now (frame_values * c.args.worker + registers) c.loop-k.k c.loop-k-test.true c.loop-k.frames
    (to_z-of_z {w = w64} {z = c.old_value.result} (search rules) ∙ c.old_value.ensures) c.put.ensures

pub returns : goal.returns
returns c =
    let end = at_drop_all (λ rest. stored c.loop-k.frames (frame_values * c.args.worker + registers + c.loop-k.k) (saved_of rest c.args.cells.now)) c.entries_of-entry-items.result.now c.loop-k.k c.loop-k-test.false in
    rw (← c.entries_of-entry-items.ensures) (sym (c.loop-k.invariant ∙ end ∙ save_end c.args.cells.now c.loop-k.frames (frame_values * c.args.worker + registers + c.loop-k.k)))
