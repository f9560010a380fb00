-- `machine::numbers::refused_number` meets its contract: each arm is a clause of the definition.
use Rattle.machine.specs.Answer.{refused_number}
use Rattle.machine.proofs.numbers.refused_number.Goals as goal

pub returns-in-Damaged : goal.returns-in-Damaged
unfolding refused_number
returns-in-Damaged c = simp c.in-Damaged.is

pub returns-in-NoWorker : goal.returns-in-NoWorker
unfolding refused_number
returns-in-NoWorker c = simp c.in-NoWorker.is

pub returns-in-NoCall : goal.returns-in-NoCall
unfolding refused_number
returns-in-NoCall c = simp c.in-NoCall.is

pub returns-in-WorkerBusy : goal.returns-in-WorkerBusy
unfolding refused_number
returns-in-WorkerBusy c = simp c.in-WorkerBusy.is

pub returns-in-NotWaiting : goal.returns-in-NotWaiting
unfolding refused_number
returns-in-NotWaiting c = simp c.in-NotWaiting.is

pub returns-in-EarlierUnfinished : goal.returns-in-EarlierUnfinished
unfolding refused_number
returns-in-EarlierUnfinished c = simp c.in-EarlierUnfinished.is

pub returns-in-WorkerIdle : goal.returns-in-WorkerIdle
unfolding refused_number
returns-in-WorkerIdle c = simp c.in-WorkerIdle.is

pub returns-in-CallUnfinished : goal.returns-in-CallUnfinished
unfolding refused_number
returns-in-CallUnfinished c = simp c.in-CallUnfinished.is

pub returns-in-SheetTooLong : goal.returns-in-SheetTooLong
unfolding refused_number
returns-in-SheetTooLong c = simp c.in-SheetTooLong.is
