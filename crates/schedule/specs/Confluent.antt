-- What holds after every list of moves, for any calls that meet the laws: the sentences of demand 3. Theorem 5 of the published account,
-- for single steps of calls that run side by side, with cancels, refused moves and a number of steps that each call's run decides.
use Rattle.std.specs.Prelude.{ℕ, suc, ◌<◌, ◌≤◌, ◌≡◌, true, false, List}
use Rattle.schedule.specs.declared.Move.{Move}
use Rattle.schedule.specs.Tally.{Phase, waiting, running, finished, Tally, is_finished, answer, after, answers, Forward}
use Rattle.schedule.specs.Calls.{Calls, more, done, touches, trace, whole, alone, serial, steps_in_serial}
use Rattle.schedule.specs.Machine.{Activity, ready, active, ended, Machine, machine_opening, respond, play, responses}
use Rattle.schedule.specs.Taken.{taken}

-- The machine has the call waiting, running or finished as the tally has it.
abbrev pub SamePhase : {L O R : Type 0} → Phase → Activity L O R → Type 0
SamePhase waiting ready = Unit {0}
SamePhase waiting (active l o) = ⊥
SamePhase waiting (ended r) = ⊥
SamePhase (running k) ready = ⊥
SamePhase (running k) (active l o) = Unit {0}
SamePhase (running k) (ended r) = ⊥
SamePhase finished ready = ⊥
SamePhase finished (active l o) = ⊥
SamePhase finished (ended r) = Unit {0}

module _ (Y : Calls) (workers : ℕ) (s₀ : Y.State) (ms : List Move) where
  -- The tally, the machine, and the steps of each call since its last begin, after the list of moves from the opening.
  abbrev pub tally : Tally
  tally = after workers Y.calls Y.before (steps_in_serial Y s₀) ms

  abbrev pub machine : Machine Y
  machine = play Y workers (machine_opening Y s₀) ms

  abbrev pub since : ℕ → ℕ
  since = taken workers Y.calls Y.before (steps_in_serial Y s₀) ms

  -- A finished call: its receipt is that of the serial run, in as many steps.
  pub record FinishedAsSerial (c : ℕ) : Type 0 where
    pub receipt : Y.Receipt
    pub call : machine.call c ≡ ended receipt
    pub serially : (whole Y c (serial Y s₀ c)).course ≡ done receipt
    pub steps : since c ≡ steps_in_serial Y s₀ c

  -- A running call with `k` steps: its local state, old values and cells are those of its serial run after as many.
  pub record Midway (c k : ℕ) : Type 0 where
    pub steps : since c ≡ k
    pub local : Y.Local
    pub call : machine.call c ≡ active local (Y.save c (serial Y s₀ c))
    pub serially : (trace Y c (serial Y s₀ c) k).course ≡ more local
    pub short : k < steps_in_serial Y s₀ c
    pub cells : (x : ℕ) → touches Y c x ≡ true → Y.get machine.cells x ≡ Y.get (trace Y c (serial Y s₀ c) k).state x
    -- and so its next step goes as the serial run's
    pub ahead :
        (Y.step c (Y.save c (serial Y s₀ c)) local machine.cells).course ≡ (trace Y c (serial Y s₀ c) (suc k)).course

  -- A begin or step that would be accepted.
  pub record Accepted : Type 0 where
    pub next : Move
    pub forward : Forward next
    pub accepted : respond Y workers machine next ≡ 0
    pub tallied : answer workers Y.calls Y.before tally next ≡ 0

  -- The serial result: every cell and every receipt.
  pub record Serial : Type 0 where
    pub cells : (x : ℕ) → Y.get machine.cells x ≡ Y.get (serial Y s₀ Y.calls) x
    pub receipts : (c : ℕ) → c < Y.calls → FinishedAsSerial c

  -- Demand 3 of the owners, about the whole list of moves.
  pub record Confluent : Type 0 where
    -- "Every answer, and the state of every call, is that of the tally", and each worker's call.
    pub same_answers : responses Y workers (machine_opening Y s₀) ms ≡ answers workers Y.calls Y.before (steps_in_serial Y s₀) ms
    pub same_states : (c : ℕ) → SamePhase (tally.phase c) (machine.call c)
    pub same_seats : (w : ℕ) → machine.seat w ≡ tally.seat w
    -- "Each finished call has its receipt of the serial run, in as many accepted steps, counted from its last begin."
    pub finished_calls : (c : ℕ) → tally.phase c ≡ finished → FinishedAsSerial c
    -- "Each cell that no running call may write holds what the finished calls alone, run in block order, leave."
    pub unwritten_cells :
        (x : ℕ) → ((c k : ℕ) → tally.phase c ≡ running k → Y.wr c x ≡ false) →
        Y.get machine.cells x ≡ Y.get (alone Y (λ c. is_finished (tally.phase c)) s₀ Y.calls) x
    -- "A running call, and the cells it may write, stand where the serial run has them after as many of its steps,
    -- counted likewise"; the cells that it only reads stand so too.
    pub running_calls : (c k : ℕ) → tally.phase c ≡ running k → Midway c k
    -- "While a call is unfinished, some begin or step would be accepted."
    pub progress : 0 < workers → (c : ℕ) → c < Y.calls → is_finished (tally.phase c) ≡ false → Accepted
    -- "no call takes over" its bound "from its last begin", and a running call has not taken that many.
    pub bounded : (c : ℕ) → since c ≤ Y.bound c
    pub running_short : (c k : ℕ) → tally.phase c ≡ running k → since c < Y.bound c
    -- "When all are finished, cells, receipts" .. "equal the serial ones".
    pub complete : ((c : ℕ) → c < Y.calls → tally.phase c ≡ finished) → Serial
    -- The cells are a good state.
    pub good : Y.Good machine.cells
