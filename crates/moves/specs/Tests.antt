-- What the tests of a move find, as the code answers it: how a move goes on behind them.
use Rattle.std.specs.Prelude.{Bool, List, ◌||◌, not, ℕ, ◌≤◌, eqb, leb, ltb, Result, Ok, Err, OnOk}
use Rattle.std.specs.Prelude.{if◌then◌else◌}
use Rattle.block.specs.Limits.{max_calls, max_call_keys, max_workers}
use Rattle.machine.specs.Run.{Run, held_at}
use Rattle.machine.specs.Moves.{Moved, waits_by_count, begin_checked, call_key_count, own_entries}
use Rattle.machine.specs.Step.{restorable}
use Rattle.machine.specs.declared.Head.{Head}
use Rattle.machine.specs.declared.Answer.{Answer}
use Rattle.machine.specs.declared.Answer.TheVariants.{Damaged, NoWorker, NoCall, WorkerBusy}

-- Tests are passed, or refuse the move with an answer.
abbrev pub Tested : Type 0
Tested = Result (Unit {0}) Answer

abbrev pub all_passed : Tested
all_passed = Ok tt

-- What follows tests: a refusal ends the move, else it goes on.
abbrev pub unless_refused : {A : Type 0} → Tested → (Answer → A) → A → A
unless_refused (Ok passed) stop on = on
unless_refused (Err a) stop on = stop a

-- What every move tests first: 20 for the sizes and the number of workers, 21 for the worker.
abbrev pub worker_tested : Bool → ℕ → ℕ → Tested
worker_tested large workers worker =
    if not large || eqb workers 0 || ltb max_workers workers
    then Err Damaged
    else if leb workers worker
    then Err NoWorker
    else all_passed

-- What BEGIN tests next: 20 for the number of calls, 22, 20 for the call that the worker holds, 23.
abbrev pub head_tested : ℕ → ℕ → ℕ → Tested
head_tested calls busy call =
    if ltb max_calls calls
    then Err Damaged
    else if leb calls call
    then Err NoCall
    else if ltb calls busy
    then Err Damaged
    else if not (eqb busy 0)
    then Err WorkerBusy
    else all_passed

-- What BEGIN tests of the head.
abbrev pub begin_tested : Bool → Head → (worker call : ℕ) → Tested
begin_tested large head worker call =
    unless_refused (worker_tested large head.workers worker) Err (head_tested head.calls (held_at head worker) call)

-- BEGIN of a call that the tests of the head let through.
abbrev pub begin_by_count : Run → (worker call : ℕ) → Moved
begin_by_count r worker call = begin_checked (waits_by_count r call) r worker call

-- A call whose tests are passed has few enough keys.
abbrev pub FewKeys : Tested → ℕ → Type 0
FewKeys t n = OnOk t (n ≤ max_call_keys)

-- What a restoration tests: that the entries of the call can be used.
abbrev pub entries_tested : List ℕ → (call : ℕ) → Tested
entries_tested plan call = if restorable (call_key_count plan call) (own_entries plan call) then all_passed else Err Damaged
