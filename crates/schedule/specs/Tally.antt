-- The tally: what each move is answered, which calls wait, run or are finished, and which call each worker holds,
-- computed from the numbers of a block and the list of moves alone.
use Rattle.std.specs.Prelude.{ℕ, zero, suc, ◌+◌, Bool, true, false, cond, not, ◌&&◌, ◌||◌, List, [], ◌∷◌, leb, eqb}
use Rattle.schedule.specs.declared.Move.{Move}
use Rattle.schedule.specs.declared.Move.TheVariants.{Begin, Step, Cancel}

-- "each call's state (waiting, running or finished)"; of a running call, the accepted steps since its last begin.
pub data Phase : Type 0 where
  waiting : Phase
  running : ℕ → Phase
  finished : Phase

-- What a worker holds: no call, or the call of that number.
pub data Seat : Type 0 where
  idle : Seat
  holds : ℕ → Seat

-- The tally: every call's phase and every worker's seat.
pub record Tally : Type 0 where
  pub phase : ℕ → Phase
  pub seat : ℕ → Seat

-- The tests of a phase and of a seat.
abbrev pub is_waiting : Phase → Bool
is_waiting waiting = true
is_waiting (running k) = false
is_waiting finished = false

-- "unfinished is waiting or running"
abbrev pub is_finished : Phase → Bool
is_finished waiting = false
is_finished (running k) = false
is_finished finished = true

abbrev pub is_idle : Seat → Bool
is_idle idle = true
is_idle (holds call) = false

-- The function `f` with the value `v` at `i`.
unfoldable pub put {ℓ} : {A : Type ℓ} → (ℕ → A) → ℕ → A → ℕ → A
put f i v j = elim (eqb j i) [ true ↦ v | false ↦ f j ]

-- Some call below `m` is an earlier conflicting call of `call` and is not done.
unfoldable pub blocked : (before : ℕ → ℕ → Bool) (done : ℕ → Bool) (call m : ℕ) → Bool
blocked before done call zero = false
blocked before done call (suc m) = (before m call && not (done m)) || blocked before done call m

-- How many of the calls below `m` are earlier conflicting calls of `call` and are not done.
unfoldable pub unfinished_earlier : (before : ℕ → ℕ → Bool) (done : ℕ → Bool) (call m : ℕ) → ℕ
unfinished_earlier before done call zero = 0
unfinished_earlier before done call (suc m) = cond (before m call && not (done m)) 1 0 + unfinished_earlier before done call m

-- "21 no such worker; 22 no such call; 23 worker holds a call; 24 call not waiting; 25 an earlier conflicting call
-- unfinished; 26 worker holds none"; "The lowest number answers": the number that answers a move, 0 for an accepted one.
-- `waits` and `done` say of each call whether it is waiting and whether it is finished.
unfoldable pub refusal : (workers n : ℕ) (before : ℕ → ℕ → Bool) (waits done : ℕ → Bool) (seat : ℕ → Seat) → Move → ℕ
refusal workers n before waits done seat (Begin worker call) =
    cond (leb workers worker) 21
    (cond (leb n call) 22
    (cond (not (is_idle (seat worker))) 23
    (cond (not (waits call)) 24
    (cond (blocked before done call call) 25 0))))
refusal workers n before waits done seat (Step worker) = cond (leb workers worker) 21 (cond (is_idle (seat worker)) 26 0)
refusal workers n before waits done seat (Cancel worker) = cond (leb workers worker) 21 (cond (is_idle (seat worker)) 26 0)

-- "At the opening every call waits and no worker holds one."
abbrev pub start : Tally
start = record { phase = λ call. waiting; seat = λ worker. idle }

-- "BEGIN(worker, call) tests 21 to 25 on the tally; if none applies, the call runs on that worker with 0 steps. STEP(worker)
-- tests 21 and 26, then adds one step to the worker's call", "CANCEL(worker) tests 21 and 26".
unfoldable pub answer : (workers n : ℕ) (before : ℕ → ℕ → Bool) → Tally → Move → ℕ
answer workers n before t m =
    refusal workers n before (λ i. is_waiting (t.phase i)) (λ i. is_finished (t.phase i)) t.seat m

-- The step after `k` steps is the last of `s`.
abbrev pub is_last : (s k : ℕ) → Bool
is_last s k = eqb (suc k) s

-- "at the number of steps that the serial run takes for that call, it is finished and the worker free"
unfoldable pub next : ℕ → Phase → Phase
next s waiting = waiting
next s (running k) = cond (is_last s k) finished (running (suc k))
next s finished = finished

-- "A finished or cancelled call frees its worker": what the worker of a call in that phase holds.
abbrev pub held : ℕ → Phase → Seat
held call waiting = idle
held call (running k) = holds call
held call finished = idle

-- The call of the worker comes into a phase.
unfoldable pub place : Tally → ℕ → ℕ → Phase → Tally
place t worker call p = record { phase = put t.phase call p; seat = put t.seat worker (held call p) }

-- The step and the cancel of a worker by what it holds; one that holds no call is refused before this.
unfoldable pub step : (steps : ℕ → ℕ) → Tally → ℕ → Seat → Tally
step steps t worker idle = t
step steps t worker (holds call) = place t worker call (next (steps call) (t.phase call))

unfoldable pub cancel : Tally → ℕ → Seat → Tally
cancel t worker idle = t
cancel t worker (holds call) = place t worker call waiting

-- An accepted begin: "the call runs on that worker with 0 steps"; a step; a cancel: "then the call waits and the worker
-- is free".
unfoldable pub accept : (steps : ℕ → ℕ) → Tally → Move → Tally
accept steps t (Begin worker call) = place t worker call (running 0)
accept steps t (Step worker) = step steps t worker (t.seat worker)
accept steps t (Cancel worker) = cancel t worker (t.seat worker)

-- What a move leaves by the number that answers it: "a refused move changes nothing".
abbrev pub unless {ℓ} : {A : Type ℓ} → ℕ → A → A → A
unless zero changed kept = changed
unless (suc r) changed kept = kept

-- One move, by the tests of `answer`.
unfoldable pub move : (workers n : ℕ) (before : ℕ → ℕ → Bool) (steps : ℕ → ℕ) → Tally → Move → Tally
move workers n before steps t m = unless (answer workers n before t m) (accept steps t m) t

-- The tally, and the answers, of a list of moves from the tally `t`.
unfoldable pub after_from : (workers n : ℕ) (before : ℕ → ℕ → Bool) (steps : ℕ → ℕ) → Tally → List Move → Tally
after_from workers n before steps t [] = t
after_from workers n before steps t (m ∷ ms) = after_from workers n before steps (move workers n before steps t m) ms

unfoldable pub answers_from : (workers n : ℕ) (before : ℕ → ℕ → Bool) (steps : ℕ → ℕ) → Tally → List Move → List ℕ
answers_from workers n before steps t [] = []
answers_from workers n before steps t (m ∷ ms) =
    answer workers n before t m ∷ answers_from workers n before steps (move workers n before steps t m) ms

-- The tally, and the answers, of a list of moves from the opening.
unfoldable pub after : (workers n : ℕ) (before : ℕ → ℕ → Bool) (steps : ℕ → ℕ) → List Move → Tally
after workers n before steps ms = after_from workers n before steps start ms

unfoldable pub answers : (workers n : ℕ) (before : ℕ → ℕ → Bool) (steps : ℕ → ℕ) → List Move → List ℕ
answers workers n before steps ms = answers_from workers n before steps start ms

-- "Running, finished, accepted, last begin and the steps since are read here": whether a call of that phase has begun, and the
-- steps that it has made since; a finished call has made as many as the serial run.
abbrev pub has_begun : Phase → Bool
has_begun waiting = false
has_begun (running k) = true
has_begun finished = true

abbrev pub steps_of_phase : (steps : ℕ → ℕ) → ℕ → Phase → ℕ
steps_of_phase steps call waiting = 0
steps_of_phase steps call (running k) = k
steps_of_phase steps call finished = steps call

-- A begin or a step.
abbrev pub Forward : Move → Type 0
Forward (Begin worker call) = Unit {0}
Forward (Step worker) = Unit {0}
Forward (Cancel worker) = ⊥
