-- `wire::row_from` meets its contract: the four words that are read are the row, and without them it is empty.
use mathlib.Core.Path.{sym, ◌∙◌}
use native.Mathlib.Omega.{arith}
use Rattle.wire.proofs.RowLaws.{row_read, row_stands, row_lacks}
use Rattle.wire.proofs.row_from.Goals as goal

pub returns-then-words-lt-ROW_WORDS : goal.returns-then-words-lt-ROW_WORDS
returns-then-words-lt-ROW_WORDS c = sym (row_lacks _ (omega arith))

pub returns : goal.returns
returns c =
    let ws = c.args.words.now in
    row_read ws 0 (omega arith) ∙ sym (row_stands ws (omega arith))
