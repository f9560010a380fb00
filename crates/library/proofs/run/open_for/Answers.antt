-- `library::run::open_for` meets its contract: behind the test of the head it is the opening.
use Rattle.exports.proofs.LengthLaws.{open_long}
use Rattle.library.proofs.ExportLaws.{open_cleared}
use Rattle.library.proofs.run.open_for.Goals as goal

pub returns-then-head_words-lt-HEAD_WORDS : goal.returns-then-head_words-lt-HEAD_WORDS
returns-then-head_words-lt-HEAD_WORDS c =
    open_cleared _ _ _ _ _ _ _ _ _ c.if-head_words-lt-HEAD_WORDS.true c.clear_prepared.ensures.plan_after c.clear_prepared.ensures.keys_after c.clear_prepared.ensures.cells_after c.clear_states.ensures.status_after c.clear_states.ensures.seats_after c.clear_states.ensures.frames_after

pub returns : goal.returns
returns c =
    rw (← open_long _ _ _ _ c.if-head_words-lt-HEAD_WORDS.false) c.«open».ensures
