use mathlib.Core.Path.{◌≡◌}
use Rattle.std.specs.Slice.Iter.{iter_rest}
use Rattle.std.specs.Iterator.Adapters.{zip_first, zip_second}
use Rattle.machine.specs.Run.{entries_of, saved_in}
use Rattle.machine.specs.Step.{restored}
use Rattle.moves.proofs.entries.restore.Given as goal

abbrev pub invariant-loop-entry : goal.invariant-loop-entry
invariant-loop-entry l =
    restored (entries_of l.plan l.call l.n) (saved_in l.frames l.worker l.n) l.initial.cells
    ≡ restored (iter_rest (zip_first l.entry-iterator)) (iter_rest (zip_second l.entry-iterator)) l.cells
