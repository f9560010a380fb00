-- "BEGIN, STEP and CANCEL change a run that the caller lends", with the refusals 20 to 26. "Number only; nothing changes": a refused move
-- leaves the run as it was. "20 a lent buffer (the block and the sheet's output excepted) shorter than the fixed size for the limits
-- above, or a code stretch needed by the move past the lent block's end, or a count, place, call state, call number, cell number or
-- instruction that the run or the block holds, needed by the move and outside its range above, or a balance needed by it below zero or
-- passing 2^63 - 1 (none after an opening and moves alone; kept old values are restored untested)." "Lowest number first, except that
-- 20 for a value is tested where the test or the change first uses that value".
use Rattle.std.specs.Prelude.{Bool, ◌||◌, not, List, [], ◌∷◌, ℕ, ◌+◌, ◌-◌, ◌*◌, eqb, leb, ltb, drop, None, Option, Some, Ok, Err, Result}
use Rattle.footprint.specs.Plan.{code_start, code_length, key_count}
use Rattle.std.specs.Prelude.{if◌then◌else◌}
use Rattle.block.specs.Limits.{max_calls, max_code, max_workers}
use Rattle.block.specs.Record.{head_bytes, call_record_bytes, call_of}
use Rattle.block.specs.declared.Call.{Call}
use Rattle.schedule.specs.declared.Move.{Move}
use Rattle.schedule.specs.declared.Move.TheVariants.{Begin, Step, Cancel}
use Rattle.machine.specs.Answer.{answer_number}
use Rattle.machine.specs.Run.{Run, sizes_of, large_enough, held_at, with_held, place_in, count_in, with_seat, regs_in, with_regs, saved_in, with_saved, zero_registers, plan_word, entries_of, state_of, is_state, with_state, with_receipt, wait_count, waiting, running}
use Rattle.machine.specs.Waits.{waits_lowerable, waits_lowered}
use Rattle.machine.specs.Step.{View, Local, Stepped, damaged, more, done, restorable, saved_of, restored, step_call}
use Rattle.machine.specs.declared.Answer.{Answer}
use Rattle.machine.specs.declared.Answer.TheVariants.{Damaged, NoWorker, NoCall, WorkerBusy, NotWaiting, EarlierUnfinished, WorkerIdle}

pub record Moved : Type 0 where
  pub answer : Result (Unit {0}) Answer
  pub run : Run

abbrev pub stay : Run → Answer → Moved
stay r a = record { answer = Err a; run = r }

-- The number of keys of a call, and its entries.
abbrev pub call_key_count : List ℕ → ℕ → ℕ
call_key_count plan call = plan_word plan call key_count

abbrev pub own_entries : List ℕ → ℕ → List ℕ
own_entries plan call = entries_of plan call (call_key_count plan call)

-- "BEGIN(worker, call): running, at entry, the write set's old values kept."
unfoldable pub begin_call : Run → ℕ → ℕ → Run
begin_call r worker call =
    record {
      head = with_held r.head worker (call + 1);
      plan = r.plan;
      keys = r.keys;
      cells = r.cells;
      status = with_state r.status call running;
      seats = with_seat r.seats worker 0 0;
      frames = with_saved (with_regs r.frames worker zero_registers) worker (saved_of (own_entries r.plan call) r.cells);
    }

-- What is found for 25 of a call's earlier conflicting calls: the lent run is damaged there, or one of them is unfinished.
pub record Waits : Type 0 where
  pub broken : Bool
  pub unfinished : Bool

-- M-100: "For 25 BEGIN looks at this number alone"; "one above its call's number .. is 20".
abbrev pub waits_by_count : Run → ℕ → Waits
waits_by_count r call =
    record { broken = ltb call (wait_count r.status call); unfinished = not (eqb (wait_count r.status call) 0) }

-- The call's state, 24; its earlier conflicting calls, 25; its entries.
unfoldable pub begin_checked : Waits → Run → ℕ → ℕ → Moved
begin_checked waits r worker call =
    if not (is_state (state_of r.status call))
    then stay r Damaged
    else if not (eqb (state_of r.status call) waiting)
    then stay r NotWaiting
    else if waits.broken
    then stay r Damaged
    else if waits.unfinished
    then stay r EarlierUnfinished
    else if not (restorable (call_key_count r.plan call) (own_entries r.plan call))
    then stay r Damaged
    else record { answer = Ok tt; run = begin_call r worker call }

-- The number of calls, 22; the worker's held call, 23.
unfoldable pub begin_by : (waits : Run → ℕ → Waits) → Run → ℕ → ℕ → Moved
begin_by waits r worker call =
    if not (large_enough (sizes_of r)) || eqb r.head.workers 0 || ltb max_workers r.head.workers
    then stay r Damaged
    else if leb r.head.workers worker
    then stay r NoWorker
    else if ltb max_calls r.head.calls
    then stay r Damaged
    else if leb r.head.calls call
    then stay r NoCall
    else if ltb r.head.calls (held_at r.head worker)
    then stay r Damaged
    else if not (eqb (held_at r.head worker) 0)
    then stay r WorkerBusy
    else begin_checked (waits r call) r worker call

abbrev pub begin_of : Run → ℕ → ℕ → Moved
begin_of = begin_by waits_by_count

abbrev pub view_of : List ℕ → Run → ℕ → Call → View
view_of block r call body =
    record {
      block = block;
      call = body;
      start = plan_word r.plan call code_start;
      code = plan_word r.plan call code_length;
      count = call_key_count r.plan call;
      entries = own_entries r.plan call;
      keys = r.keys;
    }

-- The state of a running call, as its worker's seat and frame have it.
abbrev pub local_of : Run → ℕ → ℕ → Local
local_of r worker call =
    record {
      place = place_in r.seats worker;
      count = count_in r.seats worker;
      regs = regs_in r.frames worker;
      saved = saved_in r.frames worker (call_key_count r.plan call);
    }

-- The run after a step of a call on a worker. "A finished or cancelled call frees its worker." M-100: a finish lowers the numbers of the calls that wait
-- for it; where one cannot be lowered, the lent run is damaged.
unfoldable pub stepped : Run → ℕ → ℕ → Stepped → Moved
stepped r worker call damaged = stay r Damaged
stepped r worker call (more l cells) =
    record {
      answer = Ok tt;
      run =
          record {
            head = r.head;
            plan = r.plan;
            keys = r.keys;
            cells = cells;
            status = r.status;
            seats = with_seat r.seats worker l.place l.count;
            frames = with_regs r.frames worker l.regs;
          };
    }
stepped r worker call (done outcome count cells) =
    if not (waits_lowerable r.plan r.status call r.head.calls)
    then stay r Damaged
    else
    record {
      answer = Ok tt;
      run =
          record {
            head = with_held r.head worker 0;
            plan = r.plan;
            keys = r.keys;
            cells = cells;
            status = waits_lowered r.plan call r.head.calls (with_receipt r.status call outcome count);
            seats = r.seats;
            frames = r.frames;
          };
    }

-- The call's record, whole in the lent block, its fields in their ranges.
unfoldable pub step_record : List ℕ → Run → ℕ → ℕ → Option Call → Moved
step_record block r worker call None = stay r Damaged
step_record block r worker call (Some body) = stepped r worker call (step_call (view_of block r call body) (local_of r worker call) r.cells)

-- The place (entry, or 0 to the code's length), and the call's record; the count is tested with the record's fuel.
unfoldable pub step_held : List ℕ → Run → ℕ → ℕ → Moved
step_held block r worker call =
    if ltb (max_code + 1) (plan_word r.plan call code_length) || ltb (plan_word r.plan call code_length) (place_in r.seats worker)
    then stay r Damaged
    else step_record block r worker call (call_of (drop (r.head.first_call + call_record_bytes * call + head_bytes) block))

-- "CANCEL(worker) restores likewise; the call waits again, count 0."
unfoldable pub cancel_held : Run → ℕ → ℕ → Moved
cancel_held r worker call =
    if restorable (call_key_count r.plan call) (own_entries r.plan call)
    then
    record {
      answer = Ok tt;
      run =
          record {
            head = with_held r.head worker 0;
            plan = r.plan;
            keys = r.keys;
            cells = restored (own_entries r.plan call) (saved_in r.frames worker (call_key_count r.plan call)) r.cells;
            status = with_state r.status call waiting;
            seats = r.seats;
            frames = r.frames;
          };
    }
    else stay r Damaged

-- 20 for the run's sizes and numbers, 21, 26, and 20 for a held call that is none of the run: what STEP and CANCEL test first.
unfoldable pub held_by : Run → ℕ → Result ℕ Answer
held_by r worker =
    if not (large_enough (sizes_of r)) || eqb r.head.workers 0 || ltb max_workers r.head.workers
    then Err Damaged
    else if leb r.head.workers worker
    then Err NoWorker
    else if eqb (held_at r.head worker) 0
    then Err WorkerIdle
    else if ltb max_calls r.head.calls || ltb r.head.calls (held_at r.head worker)
    then Err Damaged
    else Ok (held_at r.head worker - 1)

unfoldable pub step_for : List ℕ → Run → ℕ → Result ℕ Answer → Moved
step_for block r worker (Err a) = stay r a
step_for block r worker (Ok call) = step_held block r worker call

unfoldable pub cancel_for : Run → ℕ → Result ℕ Answer → Moved
cancel_for r worker (Err a) = stay r a
cancel_for r worker (Ok call) = cancel_held r worker call

abbrev pub step_of : List ℕ → Run → ℕ → Moved
step_of block r worker = step_for block r worker (held_by r worker)

abbrev pub cancel_of : Run → ℕ → Moved
cancel_of r worker = cancel_for r worker (held_by r worker)

-- One move on a lent run and block.
unfoldable pub move_of : List ℕ → Run → Move → Moved
move_of block r (Begin worker call) = begin_of r worker call
move_of block r (Step worker) = step_of block r worker
move_of block r (Cancel worker) = cancel_of r worker

-- A list of moves, each lent the block and the run that the one before left: the run behind them, and their answers.
unfoldable pub run_after : List ℕ → Run → List Move → Run
run_after block r [] = r
run_after block r (m ∷ ms) = run_after block (move_of block r m).run ms

unfoldable pub answers_of : List ℕ → Run → List Move → List ℕ
answers_of block r [] = []
answers_of block r (m ∷ ms) = answer_number (move_of block r m).answer ∷ answers_of block (move_of block r m).run ms
