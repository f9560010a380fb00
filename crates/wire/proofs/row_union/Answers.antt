-- `wire::row_union` meets its contract: the four words are joined one by one.
use borrow.Author.Rules.{rules}
use Rattle.wire.specs.RowOps.{union_of}
use Rattle.wire.proofs.MaskedBits.{union_by_words}
use Rattle.wire.proofs.row_union.Goals as goal

pub returns : goal.returns
unfolding union_of
returns c = union_by_words c.args.a c.args.b (search rules) (search rules)
