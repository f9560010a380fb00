-- Confluence: every list of moves gives the serial result. The theorem of `Confluent`.
use Prim.Native.Nat.{ℕ, zero, suc, ◌+◌, ◌<◌, ◌≤◌}
use native.Mathlib.Nat.{zero-add}
use native.Mathlib.Omega.{arith}
use native.Mathlib.Decide.{ℕ_discrete}
use mathlib.Core.Path.{◌≡◌, refl, sym, ap, ◌∙◌}
use mathlib.Core.Bool.{Bool, true, false, not}
use mathlib.Core.List.{List}
use borrow.Author.Tests.{not-false}
use Rattle.schedule.specs.Confluent.{SamePhase, tally, machine, since, FinishedAsSerial, Midway, Accepted, Confluent}
use Rattle.schedule.specs.declared.Move.{Move}
use Rattle.schedule.specs.declared.Move.TheVariants.{Begin, Step}
use Rattle.schedule.specs.Tally.{Phase, waiting, running, finished, Seat, idle, holds, Tally, is_waiting, is_finished, is_idle, start, answer, after, answers, has_begun, steps_of_phase, Forward}
use Rattle.schedule.specs.Calls.{Calls, CallCourse, more, done, is_done, whole, alone, serial, steps_in_serial, Laws}
use Rattle.schedule.specs.Machine.{Activity, ready, active, ended, is_ready, is_ended, activity, Machine, machine_opening}
use Rattle.schedule.proofs.RunLaws.{one_answer, steps_within, steps_done}
use Rattle.schedule.proofs.Expected.{ClosedUnderEarlier, only, serial_good, expected_same, settled, alone_expected}
use Rattle.schedule.proofs.RefusalLaws.{accepts_begin, accepts_step}
use Rattle.schedule.proofs.Valid.{Valid, is_finished_lem}
use Rattle.schedule.proofs.Simulation.{saved, standing, Agrees, agrees_shape, is_running, same_answer, opening_agrees, play_agrees, same_answers, play_counts}
use Rattle.schedule.specs.Taken.{taken}

is_same : {L O R : Type 0} (p : Phase) (b : Activity L O R) → is_ready b ≡ is_waiting p → is_ended b ≡ is_finished p → SamePhase p b
is_same waiting ready e f = tt
is_same waiting (active l o) e f = one_answer e refl
is_same waiting (ended r) e f = one_answer e refl
is_same (running k) ready e f = one_answer refl e
is_same (running k) (active l o) e f = tt
is_same (running k) (ended r) e f = one_answer refl f
is_same finished ready e f = one_answer refl e
is_same finished (active l o) e f = one_answer f refl
is_same finished (ended r) e f = tt

-- The least number that passes a test, found from `i` on.
record Least (test : ℕ → Bool) (m : ℕ) : Type 0 where
  pub at : ℕ
  pub below : at < m
  pub passes : test at ≡ true
  pub first : (i : ℕ) → i < at → test i ≡ false

module _ (test : ℕ → Bool) (c : ℕ) (passes : test c ≡ true) where
  least_from : (d i : ℕ) → i + d ≡ c → ((j : ℕ) → j < i → test j ≡ false) → Least test (suc c)
  least_from zero i e h = record { at = c; below = omega arith; passes = passes; first = λ j l. h j (omega arith) }
  least_from (suc d) i e h = go (test i) refl (least_from d (suc i) (omega arith))
    where
      go : (b : Bool) → test i ≡ b → (((j : ℕ) → j < suc i → test j ≡ false) → Least test (suc c)) → Least test (suc c)
      go true q later = record { at = i; below = omega arith; passes = q; first = h }
      go false q later = later (λ j l. here j (ℕ_discrete j i) l)
        where
          here : (j : ℕ) → Dec (j ≡ i) → j < suc i → test j ≡ false
          here j (yes f) l = ap test f ∙ q
          here j (no f) l = h j (omega arith)

module _ (Y : Calls) (laws : Laws Y) (workers : ℕ) (s₀ : Y.State) (good₀ : Y.Good s₀) (ms : List Move) where
  abbrev T : Tally
  T = tally Y workers s₀ ms

  abbrev M : Machine Y
  M = machine Y workers s₀ ms

  -- The machine agrees with the tally, and the steps counted are those of the tally's phases.
  agrees : Agrees Y laws workers s₀ good₀ T M
  unfolding after
  agrees = play_agrees Y laws workers s₀ good₀ start (machine_opening Y s₀) (opening_agrees Y laws workers s₀ good₀) ms

  counts : (c : ℕ) → since Y workers s₀ ms c ≡ steps_of_phase (steps_in_serial Y s₀) c (T.phase c)
  unfolding after taken
  counts = play_counts Y laws workers s₀ good₀ start (machine_opening Y s₀) (opening_agrees Y laws workers s₀ good₀) (λ c. 0) (λ c. refl) ms

  same_state : (c : ℕ) → SamePhase (T.phase c) (M.call c)
  same_state c =
      is_same (T.phase c) (M.call c)
      (ap is_ready (agrees.stands c) ∙ (agrees_shape Y laws workers s₀ good₀ T M agrees c).waits)
      (ap is_ended (agrees.stands c) ∙ (agrees_shape Y laws workers s₀ good₀ T M agrees c).ends)

  finished_call : (c : ℕ) → T.phase c ≡ finished → FinishedAsSerial Y workers s₀ ms c
  unfolding whole
  finished_call c e =
      go (whole Y c (serial Y s₀ c)).course refl
      (steps_done Y c (laws.call c l) (serial Y s₀ c) (serial_good Y laws s₀ good₀ c (omega (arith, l))))
    where
      l : c < Y.calls
      l = agrees.valid.known c (ap has_begun e)

      go :
          (q : CallCourse Y.Local Y.Receipt) → (whole Y c (serial Y s₀ c)).course ≡ q →
          is_done (whole Y c (serial Y s₀ c)).course ≡ true → FinishedAsSerial Y workers s₀ ms c
      go (more a) q d = one_answer d (ap is_done q)
      go (done r) q d =
          record {
            receipt = r;
            call = agrees.stands c ∙ ap (standing Y s₀ c) e ∙ ap (activity (saved Y s₀ c)) q;
            serially = q;
            steps = counts c ∙ ap (steps_of_phase (steps_in_serial Y s₀) c) e;
          }

  running_call : (c k : ℕ) → T.phase c ≡ running k → Midway Y workers s₀ ms c k
  running_call c k e =
      let R = is_running Y laws workers s₀ good₀ T M agrees c k e in
      record {
        steps = counts c ∙ ap (steps_of_phase (steps_in_serial Y s₀) c) e;
        local = R.local;
        call = R.call;
        serially = R.course;
        short = agrees.valid.short c k e;
        cells = R.cells;
        ahead = R.ahead.course;
      }

  -- The finished calls are a closed set.
  closed : ClosedUnderEarlier Y (λ c. is_finished (T.phase c))
  closed i j l l' f b = ap is_finished (agrees.valid.order i j l b (ap has_begun (is_finished_lem (T.phase j) f)))

  unwritten_cell :
      (x : ℕ) → ((c k : ℕ) → T.phase c ≡ running k → Y.wr c x ≡ false) →
      Y.get M.cells x ≡ Y.get (alone Y (λ c. is_finished (T.phase c)) s₀ Y.calls) x
  unwritten_cell x h =
      agrees.cells x
      ∙ expected_same Y s₀ T.phase (only (λ c. is_finished (T.phase c))) x Y.calls (λ i l e. go i e (T.phase i) refl)
      ∙ sym (alone_expected Y laws s₀ good₀ (λ c. is_finished (T.phase c)) closed Y.calls (omega arith) x)
    where
      go : (i : ℕ) → Y.wr i x ≡ true → (p : Phase) → T.phase i ≡ p → T.phase i ≡ only (λ c. is_finished (T.phase c)) i
      go i e waiting q = rw q
      go i e (running k) q = one_answer e (h i k q)
      go i e finished q = rw q

  -- The least unfinished call runs, and its worker can step it; or it waits for no call, and worker 0 can begin it or
  -- can step the call that it holds.
  progresses : 0 < workers → (c : ℕ) → c < Y.calls → is_finished (T.phase c) ≡ false → Accepted Y workers s₀ ms
  unfolding answer
  progresses some c l u =
      go (least_from (λ i. not (is_finished (T.phase i))) c (ap not u) c 0 (zero-add c) (λ j k. absurd (omega arith)))
    where
      v : Valid workers Y.calls Y.before (steps_in_serial Y s₀) T
      v = agrees.valid

      answered : (m : Move) → Forward m → answer workers Y.calls Y.before T m ≡ 0 → Accepted Y workers s₀ ms
      answered m f e = record { next = m; forward = f; accepted = same_answer Y laws workers s₀ good₀ T M agrees m ∙ e; tallied = e }

      step_of : (w d : ℕ) → T.seat w ≡ holds d → Accepted Y workers s₀ ms
      step_of w d e =
          answered (Step w) tt
          (accepts_step workers Y.calls Y.before (λ i. is_waiting (T.phase i)) (λ i. is_finished (T.phase i)) T.seat
          w (v.there w d e) (ap is_idle e))

      go : Least (λ i. not (is_finished (T.phase i))) (suc c) → Accepted Y workers s₀ ms
      go L = at (T.phase L.at) refl
        where
          begin_or_step : T.phase L.at ≡ waiting → (s : Seat) → T.seat 0 ≡ s → Accepted Y workers s₀ ms
          begin_or_step e idle q =
              answered (Begin 0 L.at) tt
              (accepts_begin workers Y.calls Y.before (λ i. is_waiting (T.phase i)) (λ i. is_finished (T.phase i)) T.seat
              0 L.at
              (record {
                worker = some;
                call = omega (arith, L.below);
                free = ap is_idle q;
                waits_yet = ap is_waiting e;
                clear_of = λ i k b. not-false (is_finished (T.phase i)) (L.first i k);
              }))
          begin_or_step e (holds d) q = step_of 0 d q

          at : (p : Phase) → T.phase L.at ≡ p → Accepted Y workers s₀ ms
          at waiting e = begin_or_step e (T.seat 0) refl
          at (running k) e = let r = v.worker L.at k e in step_of r.0 L.at r.1
          at finished e = one_answer L.passes (ap (λ p. not (is_finished p)) e)

  bound_of : (c : ℕ) → since Y workers s₀ ms c ≤ Y.bound c
  bound_of c = go (T.phase c) refl
    where
      go : (p : Phase) → T.phase c ≡ p → since Y workers s₀ ms c ≤ Y.bound c
      go waiting e = omega (arith, counts c ∙ ap (steps_of_phase (steps_in_serial Y s₀) c) e)
      go (running k) e = let r = running_call c k e in omega (arith, steps_within Y c (serial Y s₀ c))
      go finished e = omega (arith, (finished_call c e).steps, steps_within Y c (serial Y s₀ c))

  -- The theorem, for every list of moves.
  pub confluence : Confluent Y workers s₀ ms
  unfolding answers
  confluence =
      record {
        same_answers = same_answers Y laws workers s₀ good₀ start (machine_opening Y s₀) (opening_agrees Y laws workers s₀ good₀) ms;
        same_states = same_state;
        same_seats = agrees.seats;
        finished_calls = finished_call;
        unwritten_cells = unwritten_cell;
        running_calls = running_call;
        progress = progresses;
        bounded = bound_of;
        running_short = λ c k e. let r = running_call c k e in omega (arith, steps_within Y c (serial Y s₀ c));
        complete = λ h. record {
          cells = λ x. agrees.cells x ∙ settled Y laws s₀ good₀ T.phase x Y.calls (omega arith) (λ i l e. h i l);
          receipts = λ c l. finished_call c (h c l);
        };
        good = agrees.good;
      }
