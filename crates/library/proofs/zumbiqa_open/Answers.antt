-- `library::zumbiqa_open` meets its contract: the head of what is opened is stored; of a refusal the number and the offset are told, and the head is zero.
use Rattle.library.proofs.ExportLaws.{open_accepted, open_refused}
use Rattle.library.proofs.zumbiqa_open.Goals as goal

pub returns-in-Ok : goal.returns-in-Ok
returns-in-Ok c = open_accepted _ _ _ _ c.open_for.ensures c.in-Ok.is c.store_opened.ensures

pub returns-in-Err : goal.returns-in-Err
returns-in-Err c = open_refused _ _ _ _ c.open_for.ensures c.in-Err.is c.number_of.ensures c.offset_of.ensures c.clear.ensures
