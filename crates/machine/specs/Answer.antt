-- "Stopped by the state. Number only": what each answer says; 0 stands for accepted.
use Rattle.std.specs.Prelude.{ℕ, Result, Ok, Err}
use Rattle.machine.specs.declared.Answer.{Answer}
use Rattle.machine.specs.declared.Answer.TheVariants as answer

-- "21 no such worker; 22 no such call; 23 worker holds a call; 24 call not waiting; 25 an earlier conflicting call unfinished;
-- 26 worker holds none; 27 sheet wanted with a call unfinished; 28 sheet longer than the output buffer"; 20 for a lent buffer too
-- short, or a value of the run or the block outside its range.
unfoldable pub refused_number : Answer → ℕ
refused_number answer.Damaged = 20
refused_number answer.NoWorker = 21
refused_number answer.NoCall = 22
refused_number answer.WorkerBusy = 23
refused_number answer.NotWaiting = 24
refused_number answer.EarlierUnfinished = 25
refused_number answer.WorkerIdle = 26
refused_number answer.CallUnfinished = 27
refused_number answer.SheetTooLong = 28

unfoldable pub answer_number : Result (Unit {0}) Answer → ℕ
answer_number (Ok tt) = 0
answer_number (Err why) = refused_number why
