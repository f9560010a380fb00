-- `analysis::rows::entry_row` meets its contract: the flags say which buffer the row is taken from.
use borrow.Author.Tests.{le-leb, lt-leb}
use Rattle.analysis.proofs.rows.entry_row.Goals as goal

pub returns-then-entry-lt-WRITES_FLAG : goal.returns-then-entry-lt-WRITES_FLAG
returns-then-entry-lt-WRITES_FLAG c = simp (lt-leb _ _ c.if-entry-lt-WRITES_FLAG.true) c.row_at.ensures

pub returns-else-entry-lt-WRITES_FLAG : goal.returns-else-entry-lt-WRITES_FLAG
returns-else-entry-lt-WRITES_FLAG c = simp (le-leb _ _ c.if-entry-lt-WRITES_FLAG.false) c.row_at-else-entry-lt-WRITES_FLAG.ensures
