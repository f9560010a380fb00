-- The run that the parts lent to a move make up, and what a move leaves of it.
use Rattle.std.specs.Prelude.{List, ℕ, ℤ, Result, Ok, Err}
use Rattle.machine.specs.Run.{Run, with_held}
use Rattle.machine.specs.Moves.{Moved}
use Rattle.machine.specs.declared.Head.{Head}
use Rattle.machine.specs.declared.Answer.{Answer}

abbrev pub lent : Head → List ℕ → List ℕ → List ℤ → List ℕ → List ℕ → List ℤ → Run
lent head plan keys cells status seats frames =
    record { head = head; plan = plan; keys = keys; cells = cells; status = status; seats = seats; frames = frames }

abbrev pub moved : Result (Unit {0}) Answer → Run → Moved
moved answer run = record { answer = answer; run = run }

-- A move by value, lent a head: it is accepted, and the run has the head that it answers, or refused, and the run has the head that it was lent.
abbrev pub moved_by : Head → Result Head Answer → (Head → Run) → Moved
moved_by head (Ok after) run = moved (Ok tt) (run after)
moved_by head (Err why) run = moved (Err why) (run head)

-- The head that a move answers behind its tests, from what its worker then holds.
abbrev pub head_left : Head → ℕ → Result ℕ Answer → Result Head Answer
head_left head worker (Ok held) = Ok (with_held head worker held)
head_left head worker (Err why) = Err why
