-- The machine stands as the tally says: kept by every move, because a move changes one call, one worker, and cells of
-- that call's write set.
use Prim.Native.Nat.{ℕ, zero, suc, ◌<◌}
use native.Mathlib.Omega.{arith}
use mathlib.Core.Path.{◌≡◌, refl, sym, ap, subst, ◌∙◌, fun_ext}
use mathlib.Core.Bool.{Bool, true, false}
use mathlib.Core.List.{List, [], ◌∷◌}
use Rattle.schedule.specs.declared.Move.{Move}
use Rattle.schedule.specs.declared.Move.TheVariants.{Begin, Step, Cancel}
use Rattle.schedule.specs.Tally.{Phase, waiting, running, finished, Seat, idle, holds, Tally, is_waiting, is_finished, put, refusal, start, answer, next, held, place, step, cancel, accept, unless, move, after_from, answers_from, has_begun}
use Rattle.schedule.specs.Calls.{Calls, CallCourse, more, done, is_done, Alike, trace, serial, steps_in_serial, Lawful, Laws}
use Rattle.schedule.proofs.RunLaws.{one_answer, wr_touches, RunsAlike, advance_like, trace_good, steps_early, steps_done, steps_positive}
use Rattle.schedule.proofs.Expected.{reached, expected, expected_start, expected_same, serial_good, EarlierFinished, Last, own}
use Rattle.schedule.specs.Machine.{ready, active, is_ready, is_ended, activity, kept, Act, Machine, machine_opening, respond, settle_call, machine_begin, machine_step, cancel_call, step_worker, cancel_worker, perform_move, make, play, responses}
use Rattle.schedule.proofs.TakenLaws.{Counts, next_counts, move_counts}
use Rattle.schedule.proofs.Valid.{put_here, put_there, put_all, Valid, valid_start, PhaseChange, valid_place, begin_waits, change_begin, change_held, change_step, next_all}
use Rattle.schedule.specs.Taken.{recount, taken_from}

module _ (Y : Calls) (s₀ : Y.State) where
  -- The old values that the serial run keeps at the call's begin.
  abbrev pub saved : ℕ → Y.Saved
  saved c = Y.save c (serial Y s₀ c)

  -- A call of that phase, as the serial run has it after as many steps.
  abbrev pub standing : ℕ → Phase → Act Y
  standing c waiting = ready
  standing c (running k) = activity (saved c) (trace Y c (serial Y s₀ c) k).course
  standing c finished = activity (saved c) (trace Y c (serial Y s₀ c) (steps_in_serial Y s₀ c)).course

  -- A call that stands so is waiting, running or finished as its phase says.
  pub record Shape (c : ℕ) (p : Phase) : Type 0 where
    pub waits : is_ready (standing c p) ≡ is_waiting p
    pub ends : is_ended (standing c p) ≡ is_finished p
    pub holds_it : kept c (standing c p) ≡ held c p

  -- A running call, as the machine has it after `k` steps: where its serial run is.
  pub record RunningAsSerial (M : Machine Y) (c k : ℕ) : Type 0 where
    pub local : Y.Local
    pub course : (trace Y c (serial Y s₀ c) k).course ≡ more local
    pub call : M.call c ≡ active local (saved c)
    pub cells : Alike Y c M.cells (trace Y c (serial Y s₀ c) k).state
    -- and so its next step goes as the serial run's
    pub ahead : RunsAlike Y c (Y.step c (saved c) local M.cells) (trace Y c (serial Y s₀ c) (suc k))

module _ (Y : Calls) (laws : Laws Y) (workers : ℕ) (s₀ : Y.State) (good₀ : Y.Good s₀) where
  abbrev steps : ℕ → ℕ
  steps c = steps_in_serial Y s₀ c

  -- The state before a call in the serial run.
  begin_good : (c : ℕ) → c < Y.calls → Y.Good (serial Y s₀ c)
  begin_good c l = serial_good Y laws s₀ good₀ c (omega arith)

  shape : (c : ℕ) (p : Phase) → (has_begun p ≡ true → c < Y.calls) → ((k : ℕ) → p ≡ running k → k < steps c) → Shape Y s₀ c p
  shape c waiting l short = record { waits = refl; ends = refl; holds_it = refl }
  shape c (running k) l short = go (trace Y c (serial Y s₀ c) k).course refl (steps_early Y c (serial Y s₀ c) k (short k refl))
    where
      go :
          (q : CallCourse Y.Local Y.Receipt) → (trace Y c (serial Y s₀ c) k).course ≡ q →
          is_done (trace Y c (serial Y s₀ c) k).course ≡ false → Shape Y s₀ c (running k)
      go (more a) e d = record { waits = rw e; ends = rw e; holds_it = rw e }
      go (done r) e d = one_answer (ap is_done e) d
  shape c finished l short =
      go (trace Y c (serial Y s₀ c) (steps c)).course refl
      (steps_done Y c (laws.call c (l refl)) (serial Y s₀ c) (begin_good c (l refl)))
    where
      go :
          (q : CallCourse Y.Local Y.Receipt) → (trace Y c (serial Y s₀ c) (steps c)).course ≡ q →
          is_done (trace Y c (serial Y s₀ c) (steps c)).course ≡ true → Shape Y s₀ c finished
      go (more a) e d = one_answer d (ap is_done e)
      go (done r) e d = record { waits = rw e; ends = rw e; holds_it = rw e }

  -- The machine agrees with the tally.
  pub record Agrees (t : Tally) (M : Machine Y) : Type 0 where
    pub valid : Valid workers Y.calls Y.before steps t
    pub good : Y.Good M.cells
    pub cells : (x : ℕ) → Y.get M.cells x ≡ expected Y s₀ t.phase Y.calls x
    pub stands : (c : ℕ) → M.call c ≡ standing Y s₀ c (t.phase c)
    pub seats : (w : ℕ) → M.seat w ≡ t.seat w

  pub agrees_shape : (t : Tally) (M : Machine Y) → Agrees t M → (c : ℕ) → Shape Y s₀ c (t.phase c)
  agrees_shape t M a c = shape c (t.phase c) (a.valid.known c) (a.valid.short c)

  -- Equal states of calls and workers answer alike.
  pub same_answer :
      (t : Tally) (M : Machine Y) → Agrees t M → (m : Move) →
      respond Y workers M m ≡ answer workers Y.calls Y.before t m
  unfolding respond answer
  same_answer t M a m =
      let w : ◌≡◌ {A = ℕ → Bool} (λ i. is_ready (M.call i)) (λ i. is_waiting (t.phase i)) =
      fun_ext (λ i. ap is_ready (a.stands i) ∙ (agrees_shape t M a i).waits) in
      let f : ◌≡◌ {A = ℕ → Bool} (λ i. is_ended (M.call i)) (λ i. is_finished (t.phase i)) =
      fun_ext (λ i. ap is_ended (a.stands i) ∙ (agrees_shape t M a i).ends) in
      let s : M.seat ≡ t.seat = fun_ext a.seats in
      ap (λ g. refusal workers Y.calls Y.before g (λ i. is_ended (M.call i)) M.seat m) w
      ∙ ap (λ g. refusal workers Y.calls Y.before (λ i. is_waiting (t.phase i)) g M.seat m) f
      ∙ ap (λ g. refusal workers Y.calls Y.before (λ i. is_waiting (t.phase i)) (λ i. is_finished (t.phase i)) g m) s

  -- No later conflicting call of an unfinished call has begun.
  last :
      (t : Tally) → Valid workers Y.calls Y.before steps t → (c : ℕ) → is_finished (t.phase c) ≡ false →
      Last Y t.phase c
  last t v c u j l l' b = go (Y.before c j) refl
    where
      go : (q : Bool) → Y.before c j ≡ q → q ≡ false
      go true e = one_answer (ap is_finished (v.order c j l e b)) u
      go false e = refl

  -- What an unfinished call with its earlier conflicting calls finished reads or writes stands where its serial run has it.
  pub touched :
      (t : Tally) (M : Machine Y) → Agrees t M → (c : ℕ) → c < Y.calls → is_finished (t.phase c) ≡ false → EarlierFinished Y t.phase c →
      Alike Y c M.cells (reached Y s₀ c (t.phase c)).state
  touched t M a c l u earlier x q = a.cells x ∙ own Y laws s₀ good₀ t.phase c l earlier (last t a.valid c u) x q

  -- One call and its worker change, and cells of the write set: the agreement is kept.
  settle_agrees :
      (t : Tally) (M : Machine Y) → Agrees t M →
      (w c : ℕ) (p : Phase) → PhaseChange workers Y.calls Y.before steps t w c p →
      (s : Y.State) →
      ((x : ℕ) → Y.wr c x ≡ true → Y.get s x ≡ Y.get (reached Y s₀ c p).state x) →
      ((x : ℕ) → Y.wr c x ≡ false → Y.get s x ≡ Y.get M.cells x) →
      Y.Good s →
      (b : Act Y) → b ≡ standing Y s₀ c p →
      Agrees (place t w c p) (settle_call Y M w c s b)
  unfolding place settle_call
  settle_agrees t M a w c p h s mine frame g b stand =
      record {
        valid = valid;
        good = g;
        cells = λ x. cells x (Y.wr c x) refl;
        stands =
            put_all t.phase c p (λ i q. put M.call c b i ≡ standing Y s₀ i q)
            (put_here M.call c b ∙ stand)
            (λ i d. put_there M.call c b i d ∙ a.stands i);
        seats =
            put_all t.seat w (held c p) (λ u q. put M.seat w (kept c b) u ≡ q)
            (put_here M.seat w (kept c b) ∙ ap (kept c) stand ∙ (shape c p (λ e. h.call) h.short).holds_it)
            (λ u d. put_there M.seat w (kept c b) u d ∙ a.seats u);
      }
    where
      phase : ℕ → Phase
      phase = put t.phase c p

      valid : Valid workers Y.calls Y.before steps (place t w c p)
      valid = valid_place workers Y.calls Y.before steps t w c p a.valid h

      earlier : EarlierFinished Y phase c
      earlier i l e = put_there t.phase c p i (omega arith) ∙ h.earlier i l e

      later : Last Y phase c
      later j l l' e = last t a.valid c h.unfinished j l l' (rw (put_there t.phase c p j (omega arith)) at e)

      cells : (x : ℕ) (q : Bool) → Y.wr c x ≡ q → Y.get s x ≡ expected Y s₀ phase Y.calls x
      cells x true e =
          mine x e ∙ ap (λ q. Y.get (reached Y s₀ c q).state x) (sym (put_here t.phase c p))
          ∙ sym (own Y laws s₀ good₀ phase c h.call earlier later x (wr_touches Y c x e))
      cells x false e =
          frame x e ∙ a.cells x
          ∙ expected_same Y s₀ t.phase phase x Y.calls
          (λ i l f. sym (put_there t.phase c p i (λ d. one_answer (ap (λ j. Y.wr j x) (sym d) ∙ f) e)))

  -- A begin: the call stands at its entry, with the old values of the serial run.
  begin_agrees :
      (t : Tally) (M : Machine Y) → Agrees t M → (w c : ℕ) → answer workers Y.calls Y.before t (Begin w c) ≡ 0 →
      Agrees (place t w c (running 0)) (machine_begin Y M w c)
  unfolding machine_begin trace
  begin_agrees t M a w c e =
      settle_agrees t M a w c (running 0) h _
      (λ x q. alike x (wr_touches Y c x q))
      (λ x q. refl)
      a.good
      _
      (ap (active (Y.start c)) ((laws.call c h.call).save_local M.cells (serial Y s₀ c) a.good (begin_good c h.call) alike))
    where
      h : PhaseChange workers Y.calls Y.before steps t w c (running 0)
      h =
          change_begin workers Y.calls Y.before steps
          (λ d l. steps_positive Y d (laws.call d l) (serial Y s₀ d) (begin_good d l))
          t a.valid w c e

      alike : Alike Y c M.cells (serial Y s₀ c)
      alike =
          subst (λ p. Alike Y c M.cells (reached Y s₀ c p).state) (begin_waits workers Y.calls Y.before steps t w c e)
          (touched t M a c h.call h.unfinished h.earlier)

  -- A call that runs in the tally runs in the machine.
  pub is_running : (t : Tally) (M : Machine Y) → Agrees t M → (c k : ℕ) → t.phase c ≡ running k → RunningAsSerial Y s₀ M c k
  unfolding trace
  is_running t M a c k e = go (trace Y c s k).course refl (steps_early Y c s k (a.valid.short c k e))
    where
      s : Y.State
      s = serial Y s₀ c

      l : c < Y.calls
      l = a.valid.known c (ap has_begun e)

      law : Lawful Y c
      law = laws.call c l

      g : Y.Good s
      g = begin_good c l

      alike : Alike Y c M.cells (trace Y c s k).state
      alike = rw e at (touched t M a c l (ap is_finished e) (λ i h b. a.valid.order i c h b (ap has_begun e)))

      go :
          (q : CallCourse Y.Local Y.Receipt) → (trace Y c s k).course ≡ q → is_done (trace Y c s k).course ≡ false →
          RunningAsSerial Y s₀ M c k
      go (more b) q d =
          record {
            local = b;
            course = q;
            call = a.stands c ∙ ap (standing Y s₀ c) e ∙ ap (activity (saved Y s₀ c)) q;
            cells = alike;
            ahead =
                rw q
                (advance_like Y c law s M.cells (trace Y c s k).state g a.good (trace_good Y c law s g k) alike (more b));
          }
      go (done r) q d = one_answer (ap is_done q) d

  -- One step more, to the last one or short of it: the call stands where its serial run is.
  next_stands :
      (c k : ℕ) → activity (saved Y s₀ c) (trace Y c (serial Y s₀ c) (suc k)).course ≡ standing Y s₀ c (next (steps c) (running k))
  next_stands c k =
      next_all (λ p. stood (suc k) ≡ standing Y s₀ c p) (steps c) k (ap stood) (λ z. refl)
    where
      stood : ℕ → Act Y
      stood j = activity (saved Y s₀ c) (trace Y c (serial Y s₀ c) j).course

  -- A step: the call goes on as its serial run does.
  step_on :
      (M : Machine Y) (w c k : ℕ) (R : RunningAsSerial Y s₀ M c k) (x : ℕ) → Y.wr c x ≡ true →
      Y.get (machine_step Y M w c (active R.local (saved Y s₀ c))).cells x ≡ Y.get (trace Y c (serial Y s₀ c) (suc k)).state x
  unfolding machine_step settle_call
  step_on M w c k R x e = R.ahead.cells x (wr_touches Y c x e)

  step_agrees :
      (t : Tally) (M : Machine Y) → Agrees t M → (w c k : ℕ) → t.seat w ≡ holds c → t.phase c ≡ running k →
      Agrees (place t w c (next (steps c) (t.phase c))) (machine_step Y M w c (M.call c))
  unfolding machine_step settle_call
  step_agrees t M a w c k e f =
      rw (f, R.call)
      (settle_agrees t M a w c (next (steps c) (running k)) h
      _
      (λ x q.
      step_on M w c k R x q
      ∙ ap (λ j. Y.get (trace Y c s j).state x) (next_counts workers Y.calls Y.before steps c k))
      (law.step_frame s M.cells (begin_good c h.call) a.good R.local)
      (law.step_good s M.cells (begin_good c h.call) a.good R.local)
      _
      (ap (activity (saved Y s₀ c)) R.ahead.course ∙ next_stands c k))
    where
      s : Y.State
      s = serial Y s₀ c

      R : RunningAsSerial Y s₀ M c k
      R = is_running t M a c k f

      h : PhaseChange workers Y.calls Y.before steps t w c (next (steps c) (running k))
      h = change_step workers Y.calls Y.before steps t a.valid w c k e f

      law : Lawful Y c
      law = laws.call c h.call

  -- A cancel: the write set holds again what the serial run has before the call.
  cancel_back :
      (M : Machine Y) → Y.Good M.cells → (w c : ℕ) → c < Y.calls → (l : Y.Local) (x : ℕ) → Y.wr c x ≡ true →
      Y.get (cancel_call Y M w c (active l (saved Y s₀ c))).cells x ≡ Y.get (serial Y s₀ c) x
  unfolding cancel_call settle_call
  cancel_back M g w c h l x e =
      (laws.call c h).restore_back (serial Y s₀ c) M.cells (begin_good c h) g x e

  cancel_agrees :
      (t : Tally) (M : Machine Y) → Agrees t M → (w c k : ℕ) → t.seat w ≡ holds c → t.phase c ≡ running k →
      Agrees (place t w c waiting) (cancel_call Y M w c (M.call c))
  unfolding cancel_call settle_call trace
  cancel_agrees t M a w c k e f =
      rw R.call
      (settle_agrees t M a w c waiting h
      _
      (cancel_back M a.good w c h.call R.local)
      (law.restore_frame (serial Y s₀ c) M.cells (begin_good c h.call) a.good)
      (law.restore_good (serial Y s₀ c) M.cells (begin_good c h.call) a.good)
      _
      refl)
    where
      R : RunningAsSerial Y s₀ M c k
      R = is_running t M a c k f

      none : (j : ℕ) → waiting ≡ running j → j < steps c
      none j q = let z : ◌≡◌ {A = ℕ} 0 1 = cc in absurd (omega arith)

      h : PhaseChange workers Y.calls Y.before steps t w c waiting
      h = change_held workers Y.calls Y.before steps t a.valid w c k e f waiting none

      law : Lawful Y c
      law = laws.call c h.call

  -- An accepted move, any move, and a list of moves.
  perform_agrees :
      (t : Tally) (M : Machine Y) → Agrees t M → (m : Move) → answer workers Y.calls Y.before t m ≡ 0 →
      Agrees (accept steps t m) (perform_move Y M m)
  unfolding accept perform_move step cancel step_worker cancel_worker
  perform_agrees t M a (Begin w c) e = begin_agrees t M a w c e
  perform_agrees t M a (Step w) e = rw (a.seats w) (go (t.seat w) refl)
    where
      go : (s : Seat) → t.seat w ≡ s → Agrees (step steps t w s) (step_worker Y M w s)
      go idle q = a
      go (holds c) q = let r = a.valid.runs w c q in step_agrees t M a w c r.0 q r.1
  perform_agrees t M a (Cancel w) e = rw (a.seats w) (go (t.seat w) refl)
    where
      go : (s : Seat) → t.seat w ≡ s → Agrees (cancel t w s) (cancel_worker Y M w s)
      go idle q = a
      go (holds c) q = let r = a.valid.runs w c q in cancel_agrees t M a w c r.0 q r.1

  pub move_agrees :
      (t : Tally) (M : Machine Y) → Agrees t M → (m : Move) →
      Agrees (move workers Y.calls Y.before steps t m) (make Y workers M m)
  unfolding move make
  move_agrees t M a m = rw (same_answer t M a m) (go (answer workers Y.calls Y.before t m) refl)
    where
      go :
          (r : ℕ) → answer workers Y.calls Y.before t m ≡ r →
          Agrees (unless r (accept steps t m) t) (unless r (perform_move Y M m) M)
      go zero e = perform_agrees t M a m e
      go (suc r) e = a

  pub opening_agrees : Agrees start (machine_opening Y s₀)
  opening_agrees =
      record {
        valid = valid_start workers Y.calls Y.before steps;
        good = good₀;
        cells = λ x. sym (expected_start Y s₀ x Y.calls);
        stands = λ c. refl;
        seats = λ w. refl;
      }

  pub play_agrees :
      (t : Tally) (M : Machine Y) → Agrees t M → (ms : List Move) →
      Agrees (after_from workers Y.calls Y.before steps t ms) (play Y workers M ms)
  unfolding after_from play
  play_agrees t M a [] = a
  play_agrees t M a (m ∷ ms) =
      play_agrees (move workers Y.calls Y.before steps t m) (make Y workers M m) (move_agrees t M a m) ms

  pub same_answers :
      (t : Tally) (M : Machine Y) → Agrees t M → (ms : List Move) →
      responses Y workers M ms ≡ answers_from workers Y.calls Y.before steps t ms
  unfolding answers_from responses
  same_answers t M a [] = refl
  same_answers t M a (m ∷ ms) =
      let e = same_answer t M a m in
      let f = same_answers (move workers Y.calls Y.before steps t m) (make Y workers M m) (move_agrees t M a m) ms in
      cc

  pub play_counts :
      (t : Tally) (M : Machine Y) → Agrees t M → (f : ℕ → ℕ) → Counts workers Y.calls Y.before steps t f → (ms : List Move) →
      Counts workers Y.calls Y.before steps (after_from workers Y.calls Y.before steps t ms)
      (taken_from workers Y.calls Y.before steps t f ms)
  unfolding after_from taken_from
  play_counts t M a f h [] = h
  play_counts t M a f h (m ∷ ms) =
      play_counts (move workers Y.calls Y.before steps t m) (make Y workers M m) (move_agrees t M a m)
      (unless (answer workers Y.calls Y.before t m) (recount t f m) f)
      (move_counts workers Y.calls Y.before steps t f a.valid h m) ms
