-- `library::zumbiqa_sheet` meets its contract: it is the sheet of the run that the words stand for, its number told, and its length where it is written.
use Rattle.library.proofs.ExportLaws.{sheet_refused, sheet_done, sheet_left}
use Rattle.library.proofs.zumbiqa_sheet.Goals as goal

pub returns-then-head-lt-HEAD_WORDS : goal.returns-then-head-lt-HEAD_WORDS
returns-then-head-lt-HEAD_WORDS c = sheet_refused _ _ _ c.if-head-lt-HEAD_WORDS.true c.refused_number.ensures

pub returns-in-Ok : goal.returns-in-Ok
returns-in-Ok c = sheet_done _ _ _ c.if-head-lt-HEAD_WORDS.false c.head_in.ensures c.sheet.ensures c.in-Ok.is

pub returns-in-Err : goal.returns-in-Err
returns-in-Err c = sheet_left _ _ _ c.if-head-lt-HEAD_WORDS.false c.head_in.ensures c.sheet.ensures c.in-Err.is c.refused_number-in-Err.ensures
