-- `moves::waits::names` meets its contract: the bit is tested in its word of the row.
use mathlib.Core.Path.{◌∙◌}
use Rattle.moves.proofs.WaitCodeLaws.{named_word}
use Rattle.moves.proofs.waits.names.Goals as goal

pub returns : goal.returns
returns c =
    let a = c.args in
    c.word_test.ensures ∙ named_word a.plan.now a.later a.call c.requires.call_lt_max_calls
