-- `wire::row_test` meets its contract: the bit of its word, and none past the row.
use borrow.Author.Rules.{rules}
use mathlib.Core.Path.{sym}
use Rattle.wire.specs.Rows.{in_row}
use Rattle.wire.proofs.RowLaws.{in_row_past}
use Rattle.wire.proofs.row_test.Goals as goal

pub returns-then-i-ge-ROW_BITS : goal.returns-then-i-ge-ROW_BITS
returns-then-i-ge-ROW_BITS c = sym (in_row_past c.args.row c.args.i (search rules) c.if-i-ge-ROW_BITS.true)

pub returns : goal.returns
unfolding in_row
returns c = c.word_test.ensures
