-- When a lent run stands for a state of the worker machine over the calls of an opened block.
use Rattle.std.specs.Prelude.{Some}
use mathlib.Core.Path.{◌≡◌}
use mathlib.Core.Bool.{Bool, true, false, true≢false}
use mathlib.Core.List.{List}
use Prim.Native.Nat.{ℕ, ◌+◌, ◌*◌, ◌≤◌, ◌<◌}
use lib.IntN.{ℤ}
use lib.ListN.{length, drop}
use Rattle.wire.specs.Rows.{in_row}
use Rattle.block.specs.Limits.{max_calls, max_workers}
use Rattle.block.specs.Record.{head_bytes, call_record_bytes, call_of}
use Rattle.block.specs.declared.Call.{Call}
use Rattle.schedule.specs.Calls.{Calls}
use Rattle.schedule.specs.Tally as tally
use Rattle.schedule.specs.Tally.{unfinished_earlier}
use Rattle.schedule.specs.declared.Move.{Move}
use Rattle.schedule.specs.declared.Move.TheVariants.{Begin, Step, Cancel}
use Rattle.schedule.specs.Machine.{Activity, ready, active, ended, is_ended, Machine}
use Rattle.machine.specs.Run.{Run, sizes_of, large_enough, held_at, place_in, count_in, regs_in, saved_in, row_in, state_of, status_word, outcome_word, count_word, wait_count, waiting, running, finished}
use Rattle.machine.specs.Step.{View, damaged, step_call}
use Rattle.machine.proofs.StepLaws.{Ranged}
use Rattle.guarantees.proofs.CallsOfRun.ViewCalls.{Place, place_with_saved, Receipt, broken, receipt, view_calls, Tidy, run_view}

-- What the machine has of a call.
abbrev pub CallState : Type 0
CallState = Activity Place (List ℤ) Receipt

-- The state, outcome and count of call c in the status.
abbrev pub StatusHas : List ℕ → (c state outcome count : ℕ) → Type 0
StatusHas status c state outcome count =
    (state_of status c ≡ state) × (status_word status c outcome_word ≡ outcome) × (status_word status c count_word ≡ count)

-- The status words of call c say it: until it ends outcome and count are 0; no call is broken.
abbrev pub StatusSays : List ℕ → ℕ → CallState → Type 0
StatusSays status c ready = StatusHas status c waiting 0 0
StatusSays status c (active l saved) = StatusHas status c running 0 0
StatusSays status c (ended broken) = ⊥
StatusSays status c (ended (receipt outcome count)) = StatusHas status c finished outcome count

-- What the status says of a call that has not ended.
pub no_receipt : (status : List ℕ) (c : ℕ) (a : CallState) → StatusSays status c a → is_ended a ≡ false
    → (status_word status c outcome_word ≡ 0) × (status_word status c count_word ≡ 0)
no_receipt status c ready h e = (h.1, h.2)
no_receipt status c (active l saved) h e = (h.1, h.2)
no_receipt status c (ended q) h e = absurd (true≢false e)

-- Worker w holds call c, and its seat and frame are those of the running call, which is in its range.
pub record RunningSeat (v : View) (held : ℕ) (seats : List ℕ) (frames : List ℤ) (w c : ℕ) (l : Place) (kept : List ℤ) : Type 0 where
  pub holds : held ≡ c + 1
  pub place : place_in seats w ≡ l.place
  pub count : count_in seats w ≡ l.count
  pub regs : regs_in frames w ≡ l.regs
  pub old : saved_in frames w v.count ≡ kept
  pub range : Ranged v l.place l.count

-- "A finished or cancelled call frees its worker": the worker of a call in that state.
abbrev pub Seated : View → (held : ℕ) → List ℕ → List ℤ → ℕ → ℕ → CallState → Type 0
Seated v held seats frames w c ready = held ≡ 0
Seated v held seats frames w c (active l kept) = RunningSeat v held seats frames w c l kept
Seated v held seats frames w c (ended r) = held ≡ 0

-- A run r₀ as an opening leaves it for that many workers: its sizes, its n calls with their records, entries and code, and in
-- each call's row the calls that are before it.
pub record Base (file : List ℕ) (workers n : ℕ) (before : ℕ → ℕ → Bool) (r₀ : Run) : Type 0 where
  pub large : large_enough (sizes_of r₀) ≡ true
  pub some_workers : 0 < workers
  pub few_workers : workers ≤ max_workers
  pub few_calls : n ≤ max_calls
  pub tidy : (c : ℕ) → c < n → Tidy (run_view file r₀ c)
  pub body : (c : ℕ) → c < n → (call : Call) × (call_of (drop (r₀.head.first_call + call_record_bytes * c + head_bytes) file) ≡ Some call)
  pub row : (i c : ℕ) → i < c → c < n → in_row (row_in r₀.plan c) i ≡ before i c

-- The calls of the run.
abbrev pub calls_in : (file : List ℕ) (n : ℕ) (before : ℕ → ℕ → Bool) (r₀ : Run) → Calls
calls_in file n before r₀ = view_calls (run_view file r₀) n before

module _ (file : List ℕ) (n : ℕ) (before : ℕ → ℕ → Bool) (r₀ : Run) (M : Machine (calls_in file n before r₀)) where
  -- The next step of the call that worker w holds does not find the run damaged.
  abbrev pub StepWhole : ℕ → Type 0
  StepWhole w =
      (c : ℕ) (l : Place) (kept : List ℤ) → M.seat w ≡ tally.holds c → M.call c ≡ active l kept
      → step_call (run_view file r₀ c) (place_with_saved l kept) M.cells ≡ damaged → ⊥

  -- The same of the step that a move makes, if it makes one.
  abbrev pub UndamagedMove : Move → Type 0
  UndamagedMove (Begin w c) = Unit {0}
  UndamagedMove (Step w) = StepWhole w
  UndamagedMove (Cancel w) = Unit {0}

module _ (file : List ℕ) (workers n : ℕ) (before : ℕ → ℕ → Bool) (r₀ : Run) where
  -- Worker w holds call c, which runs.
  pub record HoldsRunning (M : Machine (calls_in file n before r₀)) (r : Run) (w c : ℕ) : Type 0 where
    pub worker : w < workers
    pub call : c < n
    pub local : Place
    pub kept : List ℤ
    pub runs : M.call c ≡ active local kept
    pub own : RunningSeat (run_view file r₀ c) (held_at r.head w) r.seats r.frames w c local kept

  -- The run r stands for the machine's state M.
  pub record Matches (M : Machine (calls_in file n before r₀)) (r : Run) : Type 0 where
    -- what no move changes
    pub plan : r.plan ≡ r₀.plan
    pub keys : r.keys ≡ r₀.keys
    pub worker_count : r.head.workers ≡ workers
    pub call_count : r.head.calls ≡ n
    pub cell_count : r.head.cells ≡ r₀.head.cells
    pub first : r.head.first_call ≡ r₀.head.first_call
    pub sizes : sizes_of r ≡ sizes_of r₀
    pub held_length : length r.head.held ≡ max_workers
    -- the cells, each call, and the number of calls that it waits for
    pub cells : r.cells ≡ M.cells
    pub calls : (c : ℕ) → c < n → StatusSays r.status c (M.call c)
    pub waits : (c : ℕ) → c < n → wait_count r.status c ≡ unfinished_earlier before (λ i. is_ended (M.call i)) c c
    -- each worker: it is free or holds a running call, which no other holds; and each running call is held
    pub idle : (w : ℕ) → w < workers → M.seat w ≡ tally.idle → held_at r.head w ≡ 0
    pub holds : (w c : ℕ) → M.seat w ≡ tally.holds c → HoldsRunning M r w c
    pub sole : (w u c : ℕ) → M.seat w ≡ tally.holds c → M.seat u ≡ tally.holds c → w ≡ u
    pub worker : (c : ℕ) (l : Place) (kept : List ℤ) → M.call c ≡ active l kept → (w : ℕ) × (M.seat w ≡ tally.holds c)
