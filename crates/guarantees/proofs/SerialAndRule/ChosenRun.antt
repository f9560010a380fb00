-- The worker machine over any calls while worker 0 runs chosen calls alone, in block order: its states, and that a begin and the steps
-- lead from each to the next.
use mathlib.Core.Path.{◌≡◌, refl, sym, ap, ◌∙◌, fun_ext}
use mathlib.Core.Bool.{Bool, true, false, cond, ◌&&◌, and-false}
use Prim.Native.Nat.{ℕ, suc, ◌<◌, ◌≤◌}
use native.Mathlib.Omega.{arith}
use native.Mathlib.Decide.{ℕ_discrete}
use lib.Dec.{ltb}
use borrow.Author.Tests.{ltb-true, ltb-false, lt-ltb, le-ltb}
use Rattle.schedule.specs.declared.Move.TheVariants.{Begin, Step}
use Rattle.schedule.specs.declared.Move.{Move}
use Rattle.schedule.specs.Tally.{idle, holds, is_idle, put}
use Rattle.schedule.specs.Calls.{Calls, CallCourse, more, done, is_done, advance, trace, steps_of, whole, alone, serial, Laws}
use Rattle.schedule.specs.Machine.{ready, active, ended, is_ready, is_ended, activity, kept, Act, Machine, machine_opening, respond, settle_call, machine_begin, machine_step, step_worker, perform_move, make}
use Rattle.schedule.proofs.RunLaws.{one_answer, trace_like, steps_early, steps_done}
use Rattle.schedule.proofs.RefusalLaws.{accepts_begin, accepts_step}
use Rattle.schedule.proofs.Valid.{put_here, put_there}
use Rattle.schedule.proofs.Expected.{ClosedUnderEarlier, alone_good, serial_good}
use Rattle.schedule.proofs.CallExchange.{closed_alone}

-- Two functions are one if they agree at a number and at every other; so the last of two new values at a number counts.
agree : {A : Type 0} (f g : ℕ → A) (i : ℕ) → f i ≡ g i → ((j : ℕ) → ¬ (j ≡ i) → f j ≡ g j) → f ≡ g
agree f g i here there = fun_ext (λ j. go j (ℕ_discrete j i))
  where
    go : (j : ℕ) → Dec (j ≡ i) → f j ≡ g j
    go j (yes e) = rw e here
    go j (no h) = there j h

put_again : {A : Type 0} (f : ℕ → A) (i : ℕ) (u v : A) → put (put f i u) i v ≡ put f i v
put_again f i u v =
    agree (put (put f i u) i v) (put f i v) i (put_here (put f i u) i v ∙ sym (put_here f i v))
    (λ j h. put_there (put f i u) i v j h ∙ put_there f i u j h ∙ sym (put_there f i v j h))

put_same : {A : Type 0} (f : ℕ → A) (i : ℕ) (v : A) → v ≡ f i → put f i v ≡ f
put_same f i v e = agree (put f i v) f i (put_here f i v ∙ e) (λ j h. put_there f i v j h)

-- Every number but c is below c if it is below the next one.
ltb_next : (i c : ℕ) → ¬ (i ≡ c) → ltb i (suc c) ≡ ltb i c
ltb_next i c h = go (ltb i c) refl
  where
    go : (b : Bool) → ltb i c ≡ b → ltb i (suc c) ≡ b
    go true e = lt-ltb i (suc c) (omega (arith, ltb-true i c e))
    go false e = le-ltb i (suc c) (omega (arith, ltb-false i c e))

-- A course at its end has a receipt.
done_receipt : {L R : Type 0} (q : CallCourse L R) → is_done q ≡ true → (r : R) × (q ≡ done r)
done_receipt (more l) e = one_answer e refl
done_receipt (done r) e = (r, refl)

-- The worker of call c holds no other call.
held_call : {L O R : Type 0} (c d : ℕ) (o : O) (q : CallCourse L R) → kept c (activity o q) ≡ holds d → c ≡ d
held_call c d o (more l) e = cc
held_call c d o (done r) e = let z : ◌≡◌ {A = ℕ} 0 1 = cc in absurd (omega arith)

-- A call that is active goes on, and its next step is from there.
next_course :
    (Y : Calls) (c : ℕ) (o o' : Y.Saved) (p : Y.Local) (q : CallCourse Y.Local Y.Receipt) (s : Y.State) →
    activity o q ≡ active p o' → (Y.step c o' p s).course ≡ (advance Y c o q s).course
next_course Y c o o' p (more l) s e =
    let u : p ≡ l = cc in
    let v : o' ≡ o = cc in
    rw (u, v)
next_course Y c o o' p (done r) s e = let z : ◌≡◌ {A = ℕ} 0 1 = cc in absurd (omega arith)

module _ (Y : Calls) where
  -- An accepted move is performed.
  accepted : (workers : ℕ) (M : Machine Y) (m : Move) → respond Y workers M m ≡ 0 → make Y workers M m ≡ perform_move Y M m
  unfolding make
  accepted workers M m e = rw e

  settle_again :
      (M : Machine Y) (w c : ℕ) (s t : Y.State) (a b : Act Y) → settle_call Y (settle_call Y M w c s a) w c t b ≡ settle_call Y M w c t b
  unfolding settle_call
  settle_again M w c s t a b =
      λ i. record {
        cells = t;
        call = put_again M.call c a b i;
        seat = put_again M.seat w (kept c a) (kept c b) i;
      }

  -- What a settled call of a worker is, and what the worker holds.
  settled_call : (M : Machine Y) (w c : ℕ) (s : Y.State) (a : Act Y) → (settle_call Y M w c s a).call c ≡ a
  unfolding settle_call
  settled_call M w c s a = put_here M.call c a

  settled_seat : (M : Machine Y) (w c : ℕ) (s : Y.State) (a : Act Y) → (settle_call Y M w c s a).seat w ≡ kept c a
  unfolding settle_call
  settled_seat M w c s a = put_here M.seat w (kept c a)

  -- A step of a call that goes on.
  module _ (workers : ℕ) (M : Machine Y) (w c : ℕ) (o : Y.Saved) (l : w < workers) where
    abbrev at : CallCourse Y.Local Y.Receipt → Y.State → Machine Y
    at q s = settle_call Y M w c s (activity o q)

    step_accepted : (p : Y.Local) (s : Y.State) → respond Y workers (at (more p) s) (Step w) ≡ 0
    unfolding respond
    step_accepted p s =
        accepts_step workers Y.calls Y.before (λ i. is_ready ((at (more p) s).call i)) (λ i. is_ended ((at (more p) s).call i))
        (at (more p) s).seat w l (ap is_idle (settled_seat M w c s (active p o)))

    step_performed :
        (p : Y.Local) (s : Y.State) →
        perform_move Y (at (more p) s) (Step w) ≡ at (Y.step c o p s).course (Y.step c o p s).state
    unfolding perform_move step_worker machine_step settle_call
    step_performed p s =
        ap (step_worker Y (at (more p) s) w) (settled_seat M w c s (active p o))
        ∙ ap (machine_step Y (at (more p) s) w c) (settled_call M w c s (active p o))
        ∙ settle_again M w c s (Y.step c o p s).state (active p o) (activity o (Y.step c o p s).course)

    step_made :
        (q : CallCourse Y.Local Y.Receipt) (s : Y.State) → is_done q ≡ false →
        make Y workers (at q s) (Step w) ≡ at (advance Y c o q s).course (advance Y c o q s).state
    step_made (more p) s e = accepted workers (at (more p) s) (Step w) (step_accepted p s) ∙ step_performed p s
    step_made (done r) s e = one_answer refl e

-- The states of the machine while the picked calls run alone.
module _ (Y : Calls) (s₀ : Y.State) (pick : ℕ → Bool) where
  -- What the machine has of the picked call i after k steps.
  abbrev pub act_after : (i k : ℕ) → Act Y
  act_after i k = activity (Y.save i (alone Y pick s₀ i)) (trace Y i (alone Y pick s₀ i) k).course

  -- "only they are begun": the picked calls below c are at their end, every other call waits, and no worker holds one.
  unfoldable pub ran : ℕ → Machine Y
  ran c =
      record {
        cells = alone Y pick s₀ c;
        call = λ i. cond (ltb i c && pick i) (act_after i (steps_of Y i (alone Y pick s₀ i))) ready;
        seat = λ w. idle;
      }

  -- Then call c has begun on worker 0 and has made k steps.
  unfoldable pub underway : (c k : ℕ) → Machine Y
  underway c k = settle_call Y (ran c) 0 c (trace Y c (alone Y pick s₀ c) k).state (act_after c k)

  -- The state before the first call is the opening.
  pub ran_opening : ran 0 ≡ machine_opening Y s₀
  unfolding ran alone
  ran_opening =
      λ j. record {
        cells = s₀;
        call =
            fun_ext {f = λ i. cond (ltb i 0 && pick i) (act_after i (steps_of Y i (alone Y pick s₀ i))) ready} {g = λ i. ready}
            (λ i. rw (le-ltb i 0 (omega arith))) j;
        seat = λ w. idle;
      }

  -- A call that is not picked is passed over.
  pub ran_over : (c : ℕ) → pick c ≡ false → ran (suc c) ≡ ran c
  unfolding ran alone
  ran_over c e =
      λ j. record {
        cells = cells j;
        call = agree (ran (suc c)).call (ran c).call c here there j;
        seat = λ w. idle;
      }
    where
      cells : alone Y pick s₀ (suc c) ≡ alone Y pick s₀ c
      cells = rw e

      here : (ran (suc c)).call c ≡ (ran c).call c
      here = simp (e, and-false)

      there : (i : ℕ) → ¬ (i ≡ c) → (ran (suc c)).call i ≡ (ran c).call i
      there i h = rw (ltb_next i c h)

  -- At its last step a picked call has run.
  underway_end :
      (c : ℕ) → pick c ≡ true → is_done (whole Y c (alone Y pick s₀ c)).course ≡ true →
      underway c (steps_of Y c (alone Y pick s₀ c)) ≡ ran (suc c)
  unfolding underway ran settle_call alone whole
  underway_end c e d =
      λ j. record {
        cells = cells j;
        call = agree (put (ran c).call c last) (ran (suc c)).call c here there j;
        seat = put_same (λ w. idle) 0 (kept c last) (freed (whole Y c (alone Y pick s₀ c)).course d) j;
      }
    where
      last : Act Y
      last = act_after c (steps_of Y c (alone Y pick s₀ c))

      cells : (trace Y c (alone Y pick s₀ c) (steps_of Y c (alone Y pick s₀ c))).state ≡ alone Y pick s₀ (suc c)
      cells = rw e

      here : put (ran c).call c last c ≡ (ran (suc c)).call c
      here = put_here (ran c).call c last ∙ rw (lt-ltb c (suc c) (omega arith), e)

      there : (i : ℕ) → ¬ (i ≡ c) → put (ran c).call c last i ≡ (ran (suc c)).call i
      there i h = put_there (ran c).call c last i h ∙ rw (ltb_next i c h)

      freed : (q : CallCourse Y.Local Y.Receipt) → is_done q ≡ true → kept c (activity (Y.save c (alone Y pick s₀ c)) q) ≡ idle
      freed (more l) e = one_answer e refl
      freed (done r) e = refl

  -- Each call, when the picked calls below c have run.
  ran_waits : (c i : ℕ) → (ltb i c && pick i) ≡ false → (ran c).call i ≡ ready
  unfolding ran
  ran_waits c i e = rw e

  ran_after : (c i : ℕ) → i < c → pick i ≡ true → (ran c).call i ≡ act_after i (steps_of Y i (alone Y pick s₀ i))
  unfolding ran
  ran_after c i l e = rw (lt-ltb i c l, e)

  -- What the machine has while call c is under way: worker 0 holds it until its end, and everything else is as it was.
  pub record Underway (c k : ℕ) (M : Machine Y) : Type 0 where
    pub cells : M.cells ≡ (trace Y c (alone Y pick s₀ c) k).state
    pub call : M.call c ≡ act_after c k
    pub others : (i : ℕ) → ¬ (i ≡ c) → M.call i ≡ (ran c).call i
    pub worker : M.seat 0 ≡ kept c (act_after c k)
    pub held : k < steps_of Y c (alone Y pick s₀ c) → M.seat 0 ≡ holds c
    pub seats : (w : ℕ) → ¬ (w ≡ 0) → M.seat w ≡ idle

  pub underway_is : (c k : ℕ) → Underway c k (underway c k)
  unfolding underway settle_call ran
  underway_is c k =
      record {
        cells = refl;
        call = put_here (ran c).call c (act_after c k);
        others = put_there (ran c).call c (act_after c k);
        worker = seat;
        held = λ h. seat ∙ goes_on (trace Y c (alone Y pick s₀ c) k).course (steps_early Y c (alone Y pick s₀ c) k h);
        seats = put_there (λ w. idle) 0 (kept c (act_after c k));
      }
    where
      seat : put (λ w. idle) 0 (kept c (act_after c k)) 0 ≡ kept c (act_after c k)
      seat = put_here (λ w. idle) 0 (kept c (act_after c k))

      goes_on :
          (q : CallCourse Y.Local Y.Receipt) → is_done q ≡ false →
          kept c (activity (Y.save c (alone Y pick s₀ c)) q) ≡ holds c
      goes_on (more l) e = refl
      goes_on (done r) e = one_answer refl e

  -- The step that worker 0 makes then is the next one of the call's run.
  pub underway_step :
      (c k d : ℕ) (p : Y.Local) (o : Y.Saved) → (underway c k).seat 0 ≡ holds d → (underway c k).call d ≡ active p o →
      (Y.step d o p (underway c k).cells).course ≡ (trace Y c (alone Y pick s₀ c) (suc k)).course
  unfolding underway settle_call trace
  underway_step c k d p o h a =
      let z : c ≡ d = held_call c d o₁ q (sym (underway_is c k).worker ∙ h) in
      rw (← z)
      (next_course Y c o₁ o p q (trace Y c (alone Y pick s₀ c) k).state
      (sym (underway_is c k).call ∙ ap (underway c k).call z ∙ a))
    where
      o₁ : Y.Saved
      o₁ = Y.save c (alone Y pick s₀ c)

      q : CallCourse Y.Local Y.Receipt
      q = (trace Y c (alone Y pick s₀ c) k).course

-- A picked call that has ended with a receipt, which is its receipt in the serial run too.
pub record ChosenFinished (Y : Calls) (s₀ : Y.State) (pick : ℕ → Bool) (i : ℕ) (a : Act Y) : Type 0 where
  pub receipt : Y.Receipt
  pub over : a ≡ ended receipt
  pub alone_too : (whole Y i (alone Y pick s₀ i)).course ≡ done receipt
  pub serially : (whole Y i (serial Y s₀ i)).course ≡ done receipt

-- What the machine has when the picked calls below c have run.
pub record Ran (Y : Calls) (s₀ : Y.State) (pick : ℕ → Bool) (c : ℕ) (M : Machine Y) : Type 0 where
  pub cells : M.cells ≡ alone Y pick s₀ c
  pub finished : (i : ℕ) → i < c → pick i ≡ true → ChosenFinished Y s₀ pick i (M.call i)
  pub passed : (i : ℕ) → pick i ≡ false → M.call i ≡ ready
  pub later : (i : ℕ) → c ≤ i → M.call i ≡ ready
  pub seats : (w : ℕ) → M.seat w ≡ idle

-- The picked calls hold with each of them its earlier conflicting calls.
module _ (Y : Calls) (laws : Laws Y) (s₀ : Y.State) (good : Y.Good s₀) (pick : ℕ → Bool) (closed : ClosedUnderEarlier Y pick) where
  -- A picked call comes to its end.
  pub comes_to_end : (c : ℕ) → c < Y.calls → is_done (whole Y c (alone Y pick s₀ c)).course ≡ true
  unfolding whole
  comes_to_end c l = steps_done Y c (laws.call c l) (alone Y pick s₀ c) (alone_good Y laws s₀ good pick c (omega arith))

  -- Its course is that of the serial run.
  pub same_course :
      (c : ℕ) → c < Y.calls → pick c ≡ true → (k : ℕ) →
      (trace Y c (alone Y pick s₀ c) k).course ≡ (trace Y c (serial Y s₀ c) k).course
  same_course c l e k =
      (trace_like Y c (laws.call c l) (alone Y pick s₀ c) (serial Y s₀ c) (alone_good Y laws s₀ good pick c (omega arith))
      (serial_good Y laws s₀ good c (omega arith)) (closed_alone Y laws s₀ good pick closed c l e).begins k).course

  ran_finished : (c i : ℕ) → c ≤ Y.calls → i < c → pick i ≡ true → ChosenFinished Y s₀ pick i ((ran Y s₀ pick c).call i)
  unfolding whole
  ran_finished c i l h e =
      let d = done_receipt (whole Y i (alone Y pick s₀ i)).course (comes_to_end i (omega arith)) in
      record {
        receipt = d.0;
        over = ran_after Y s₀ pick c i h e ∙ ap (activity (Y.save i (alone Y pick s₀ i))) d.1;
        alone_too = d.1;
        serially = sym (closed_alone Y laws s₀ good pick closed i (omega arith) e).receipt ∙ d.1;
      }

  pub ran_is : (c : ℕ) → c ≤ Y.calls → Ran Y s₀ pick c (ran Y s₀ pick c)
  unfolding ran
  ran_is c l =
      record {
        cells = refl;
        finished = λ i h e. ran_finished c i l h e;
        passed = λ i e. ran_waits Y s₀ pick c i (simp (e, and-false));
        later = λ i h. ran_waits Y s₀ pick c i (rw (le-ltb i c h));
        seats = λ w. refl;
      }

  -- Worker 0 begins a picked call.
  module _ (workers : ℕ) (some : 0 < workers) (c : ℕ) (l : c < Y.calls) (e : pick c ≡ true) where
    begin_accepted : respond Y workers (ran Y s₀ pick c) (Begin 0 c) ≡ 0
    unfolding respond
    begin_accepted =
        accepts_begin workers Y.calls Y.before (λ i. is_ready ((ran Y s₀ pick c).call i))
        (λ i. is_ended ((ran Y s₀ pick c).call i)) (ran Y s₀ pick c).seat 0 c
        (record {
          worker = some;
          call = l;
          free = free;
          waits_yet = ap is_ready (ran_waits Y s₀ pick c c waits);
          clear_of = λ i h b. ap is_ended (ran_finished c i (omega arith) h (closed i c h l e b)).over;
        })
      where
        free : is_idle ((ran Y s₀ pick c).seat 0) ≡ true
        free = unfold ran in refl

        waits : (ltb c c && pick c) ≡ false
        waits = rw (le-ltb c c (omega arith))

    pub begin_made : make Y workers (ran Y s₀ pick c) (Begin 0 c) ≡ underway Y s₀ pick c 0
    unfolding perform_move machine_begin underway trace ran
    begin_made = accepted Y workers (ran Y s₀ pick c) (Begin 0 c) begin_accepted

    -- Worker 0 makes a step of it, short of its end.
    pub underway_made :
        (k : ℕ) → k < steps_of Y c (alone Y pick s₀ c) →
        make Y workers (underway Y s₀ pick c k) (Step 0) ≡ underway Y s₀ pick c (suc k)
    unfolding underway trace
    underway_made k h =
        step_made Y workers (ran Y s₀ pick c) 0 c (Y.save c (alone Y pick s₀ c)) some (trace Y c (alone Y pick s₀ c) k).course
        (trace Y c (alone Y pick s₀ c) k).state (steps_early Y c (alone Y pick s₀ c) k h)

    pub ran_next : underway Y s₀ pick c (steps_of Y c (alone Y pick s₀ c)) ≡ ran Y s₀ pick (suc c)
    ran_next = underway_end Y s₀ pick c e (comes_to_end c l)
