-- `analysis::rows::add_entry` meets its contract: the flags say whether the second buffer is marked too.
use borrow.Author.Tests.{le-leb, lt-leb}
use Rattle.analysis.proofs.rows.add_entry.Goals as goal

pub returns-then-entry-ge-WRITES_FLAG : goal.returns-then-entry-ge-WRITES_FLAG
returns-then-entry-ge-WRITES_FLAG c =
    record { touched_after = c.mark.ensures; writers_after = simp (le-leb _ _ c.if-entry-ge-WRITES_FLAG.true) c.mark-then-entry-ge-WRITES_FLAG.ensures }

pub returns-else-entry-ge-WRITES_FLAG : goal.returns-else-entry-ge-WRITES_FLAG
returns-else-entry-ge-WRITES_FLAG c = record { touched_after = c.mark.ensures; writers_after = simp (lt-leb _ _ c.if-entry-ge-WRITES_FLAG.false) }
