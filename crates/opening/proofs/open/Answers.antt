-- `opening::open` meets its contract: status, seats and frames are zero before anything is tested; a refusal clears the rest, and else the block is prepared in it
-- and the calls' numbers are set.
use lib.ListN.{length}
use Rattle.opening.specs.Opened.{sizes_for}
use Rattle.opening.proofs.Laws.{StatesCleared, calls_few, still_zero, open_refused, plan_large, open_unread, open_passed, opened_as, not_err}
use Rattle.opening.proofs.open.Goals.{After-clear_states}
use Rattle.opening.proofs.open.Goals as goal

-- From here on the states, the seats and the frames are zero.
states : (c : After-clear_states) → (let a = c.args in
    StatesCleared
    (sizes_for (length a.plan.now) (length a.keys.now) (length a.cells.now) (length a.status.now) (length a.seats.now) (length a.frames.now))
    c.clear_states.new.status c.clear_states.new.seats c.clear_states.new.frames)
states c =
    record {
      status_kept = c.clear_states.auto.status;
      seats_kept = c.clear_states.auto.seats;
      frames_kept = c.clear_states.auto.frames;
      status_zero = c.clear_states.ensures.status_after;
      seats_zero = c.clear_states.ensures.seats_after;
      frames_zero = c.clear_states.ensures.frames_after;
    }

pub set_waits-requires : goal.set_waits-requires
set_waits-requires c =
    let a = c.args in
    let z = states (goal.at.set_waits-requires c).After-clear_states in
    record {
      calls_le_max_calls = calls_few _ _ _ _ _ _ c.in_ok-p.ensures;
      plan_in_bounds = plan_large _ _ _ _ _ _ a.file.now a.workers _ _ _ z _ c.large_enough-large.ensures _ c.tested.ensures (not_err _ c.in_default.not-Err) c.prepare.auto.plan;
      status_value = still_zero _ _ _ _ z;
    }

pub returns-in-Err : goal.returns-in-Err
returns-in-Err c =
    let a = c.args in
    let z = states (goal.at.returns-in-Err c).After-clear_states in
    let e = c.clear_prepared.ensures in
    opened_as (open_refused _ _ _ _ _ _ a.file.now a.workers _ _ _ z _ c.large_enough-large.ensures _ c.tested.ensures _ c.in-Err.is e.plan_after e.keys_after e.cells_after)

pub returns-in_err-p : goal.returns-in_err-p
returns-in_err-p c =
    let a = c.args in
    let z = states (goal.at.returns-in_err-p c).After-clear_states in
    opened_as
    (open_unread _ _ _ _ _ _ a.file.now a.workers _ _ _ z _ c.large_enough-large.ensures _ c.tested.ensures (not_err _ c.in_default.not-Err) _ _ _
    c.from_residual.result _ c.from_residual.ensures.1 c.in_err-p.ensures)

pub returns : goal.returns
returns c =
    let a = c.args in
    let z = states (goal.at.returns c).After-clear_states in
    opened_as
    (open_passed _ _ _ _ _ _ a.file.now a.workers _ _ _ z _ c.large_enough-large.ensures _ c.tested.ensures (not_err _ c.in_default.not-Err) _ _ _
    c.in_ok-p.p _ c.in_ok-p.ensures c.set_waits.ensures c.idle_head.ensures)
