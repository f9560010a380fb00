-- `wire::row_count` meets its contract: no bit is set past the row.
use borrow.Author.Rules.{rules}
use native.Mathlib.Omega.{arith}
use mathlib.Core.Path.{◌∙◌}
use Rattle.wire.proofs.CountLaws.{row_past}
use Rattle.wire.proofs.row_count.Goals as goal

pub returns-then-below-gt-ROW_BITS : goal.returns-then-below-gt-ROW_BITS
returns-then-below-gt-ROW_BITS c =
    let a = c.args in
    c.count_within.ensures ∙ row_past a.row (search rules) a.below (omega (arith, c.if-below-gt-ROW_BITS.true))
