-- `wire::row_set` meets its contract: the mask is the bit's power of two, and past the row nothing changes.
use borrow.Author.Rules.{rules}
use mathlib.Core.Path.{sym}
use Rattle.wire.proofs.RowLaws.{with_bit_past}
use Rattle.wire.proofs.MaskedBits.{set_by_mask}
use Rattle.wire.proofs.row_set.Goals as goal

pub returns-then-i-lt-ROW_BITS : goal.returns-then-i-lt-ROW_BITS
returns-then-i-lt-ROW_BITS c = set_by_mask c.args.row c.args.i c.mask.ensures

pub returns-else-i-lt-ROW_BITS : goal.returns-else-i-lt-ROW_BITS
returns-else-i-lt-ROW_BITS c = sym (with_bit_past c.args.row c.args.i (search rules) c.if-i-lt-ROW_BITS.false)
