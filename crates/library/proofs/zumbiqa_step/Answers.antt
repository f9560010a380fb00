-- `library::zumbiqa_step` meets its contract: it is STEP on the head that the words stand for.
use Rattle.library.proofs.ExportLaws.{move_refused, move_done, move_left}
use Rattle.library.proofs.zumbiqa_step.Goals as goal

pub returns-then-head-lt-HEAD_WORDS : goal.returns-then-head-lt-HEAD_WORDS
returns-then-head-lt-HEAD_WORDS c = move_refused _ _ _ c.if-head-lt-HEAD_WORDS.true c.refused_number.ensures

pub returns-in-Ok : goal.returns-in-Ok
returns-in-Ok c = move_done _ _ _ c.if-head-lt-HEAD_WORDS.false c.head_in.ensures c.step_lending.ensures c.in-Ok.is c.store_held.ensures

pub returns-in-Err : goal.returns-in-Err
returns-in-Err c = move_left _ _ _ c.if-head-lt-HEAD_WORDS.false c.head_in.ensures c.step_lending.ensures c.in-Err.is c.refused_number-in-Err.ensures
