-- The worker machine over any calls: begin, step and cancel, answered from its own state of each call.
use Rattle.std.specs.Prelude.{ℕ, Bool, true, false, List, [], ◌∷◌}
use Rattle.schedule.specs.declared.Move.{Move}
use Rattle.schedule.specs.declared.Move.TheVariants.{Begin, Step, Cancel}
use Rattle.schedule.specs.Tally.{Seat, idle, holds, put, refusal, unless}
use Rattle.schedule.specs.Calls.{Calls, CallCourse, more, done}

-- "A call is waiting, running (place, registers, count of executed instructions, old values) or finished (outcome, count)."
pub data Activity (Local Saved Receipt : Type 0) : Type 0 where
  ready : Activity Local Saved Receipt
  active : Local → Saved → Activity Local Saved Receipt
  ended : Receipt → Activity Local Saved Receipt

-- The tests of an activity.
abbrev pub is_ready : {L O R : Type 0} → Activity L O R → Bool
is_ready ready = true
is_ready (active l o) = false
is_ready (ended r) = false

abbrev pub is_ended : {L O R : Type 0} → Activity L O R → Bool
is_ended ready = false
is_ended (active l o) = false
is_ended (ended r) = true

-- A begun call with its old values, by how far it is.
abbrev pub activity : {L O R : Type 0} → O → CallCourse L R → Activity L O R
activity o (more l) = active l o
activity o (done r) = ended r

-- "A finished or cancelled call frees its worker."
abbrev pub kept : {L O R : Type 0} → ℕ → Activity L O R → Seat
kept call ready = idle
kept call (active l o) = holds call
kept call (ended r) = idle

module _ (Y : Calls) where
  abbrev pub Act : Type 0
  Act = Activity Y.Local Y.Saved Y.Receipt

  -- The run: the cells, each call's activity, and what each worker holds.
  pub record Machine : Type 0 where
    pub cells : Y.State
    pub call : ℕ → Act
    pub seat : ℕ → Seat

  -- The opening: every call waits and no worker holds one.
  abbrev pub machine_opening : Y.State → Machine
  machine_opening s = record { cells = s; call = λ call. ready; seat = λ worker. idle }

  -- The number that refuses a move, 0 for an accepted one.
  unfoldable pub respond : (workers : ℕ) → Machine → Move → ℕ
  respond workers M m =
      refusal workers Y.calls Y.before (λ i. is_ready (M.call i)) (λ i. is_ended (M.call i)) M.seat m

  -- The call of the worker comes to the activity `a`, and the cells become `s`.
  unfoldable pub settle_call : Machine → ℕ → ℕ → Y.State → Act → Machine
  settle_call M worker call s a = record { cells = s; call = put M.call call a; seat = put M.seat worker (kept call a) }

  -- "BEGIN(worker, call): running, at entry, the write set's old values kept."
  unfoldable pub machine_begin : Machine → ℕ → ℕ → Machine
  machine_begin M worker call = settle_call M worker call M.cells (active (Y.start call) (Y.save call M.cells))

  -- "STEP(worker)": one step of the call that the worker holds.
  unfoldable pub machine_step : Machine → ℕ → ℕ → Act → Machine
  machine_step M worker call ready = M
  machine_step M worker call (active l o) =
      let p = Y.step call o l M.cells in
      settle_call M worker call p.state (activity o p.course)
  machine_step M worker call (ended r) = M

  -- "CANCEL(worker) restores likewise; the call waits again, count 0."
  unfoldable pub cancel_call : Machine → ℕ → ℕ → Act → Machine
  cancel_call M worker call ready = M
  cancel_call M worker call (active l o) = settle_call M worker call (Y.restore call o M.cells) ready
  cancel_call M worker call (ended r) = M

  -- A step and a cancel by what the worker holds; one that holds no call is refused before this.
  unfoldable pub step_worker : Machine → ℕ → Seat → Machine
  step_worker M worker idle = M
  step_worker M worker (holds call) = machine_step M worker call (M.call call)

  unfoldable pub cancel_worker : Machine → ℕ → Seat → Machine
  cancel_worker M worker idle = M
  cancel_worker M worker (holds call) = cancel_call M worker call (M.call call)

  -- An accepted move.
  unfoldable pub perform_move : Machine → Move → Machine
  perform_move M (Begin worker call) = machine_begin M worker call
  perform_move M (Step worker) = step_worker M worker (M.seat worker)
  perform_move M (Cancel worker) = cancel_worker M worker (M.seat worker)

  -- One move: "a refused move changes nothing".
  unfoldable pub make : (workers : ℕ) → Machine → Move → Machine
  make workers M m = unless (respond workers M m) (perform_move M m) M

  -- The machine after a list of moves, and the answers to them.
  unfoldable pub play : (workers : ℕ) → Machine → List Move → Machine
  play workers M [] = M
  play workers M (m ∷ ms) = play workers (make workers M m) ms

  unfoldable pub responses : (workers : ℕ) → Machine → List Move → List ℕ
  responses workers M [] = []
  responses workers M (m ∷ ms) = respond workers M m ∷ responses workers (make workers M m) ms
