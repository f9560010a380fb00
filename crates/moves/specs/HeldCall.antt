-- What STEP and CANCEL test of what the worker holds, in the type of their definition, and what is known of the held call.
use Rattle.std.specs.Prelude.{Bool, ◌≡◌, ◌||◌, ℕ, ◌+◌, ◌-◌, eqb, ltb, Result, Ok, Err}
use Rattle.std.specs.Prelude.{if◌then◌else◌}
use Rattle.block.specs.Limits.{max_calls}
use Rattle.machine.specs.Run.{held_at}
use Rattle.machine.specs.declared.Head.{Head}
use Rattle.machine.specs.declared.Answer.{Answer}
use Rattle.machine.specs.declared.Answer.TheVariants.{Damaged, WorkerIdle}
use Rattle.moves.specs.Tests.{unless_refused, worker_tested}
use Rattle.moves.specs.declared.Hold.{Hold}

abbrev pub as_held : Result Hold Answer → Result ℕ Answer
as_held (Ok h) = Ok h.call
as_held (Err a) = Err a

-- What is held, from the number of calls and what the head has for the worker.
abbrev pub held_from : ℕ → ℕ → Result ℕ Answer
held_from calls call =
    if eqb call 0
    then Err WorkerIdle
    else if ltb max_calls calls || ltb calls call
    then Err Damaged
    else Ok (call - 1)

-- What is held, behind the tests of the worker.
abbrev pub held_tested : Bool → Head → (worker : ℕ) → Result ℕ Answer
held_tested large head worker =
    unless_refused (worker_tested large head.workers worker) Err (held_from head.calls (held_at head worker))

-- A hold is what this head has for its worker.
pub record HoldOf (head : Head) (h : Hold) : Type 0 where
  pub counted : h.calls ≡ head.calls
  pub seated : held_at head h.worker ≡ h.call + 1
