-- The serial run of an opened block, and the run of chosen calls of it alone, as states of the worker machine over its calls; and the
-- number of steps that the serial run takes for a call.
use mathlib.Core.Path.{◌≡◌, refl, sym, ap, subst, ◌∙◌}
use mathlib.Core.Bool.{Bool, true, false}
use mathlib.Core.List.{List, [], ◌∷◌, ◌++◌}
use Prim.Native.Nat.{ℕ, zero, suc, ◌+◌, min, ◌≤◌, ◌<◌}
use native.Mathlib.Nat.{add-zero, zero-add}
use native.Mathlib.Omega.{arith}
use native.Mathlib.Decide.{dec_lt}
use lib.IntN.{ℤ}
use borrow.Author.Tests.{ne_eqb}
use Rattle.std.specs.Prelude.{if◌then◌else◌}
use Rattle.wire.specs.Bytes.{below}
use Rattle.block.specs.Limits.{max_calls}
use Rattle.schedule.specs.declared.Move.{Move}
use Rattle.schedule.specs.declared.Move.TheVariants.{Begin, Step, Cancel}
use Rattle.schedule.specs.Tally as tally
use Rattle.schedule.specs.Tally.{Seat, idle, holds}
use Rattle.schedule.specs.Calls as calls
use Rattle.schedule.specs.Calls.{Calls, CallCourse, more, done, is_done, trace, steps_of, whole, alone, serial, Laws}
use Rattle.schedule.specs.Machine.{active, activity, kept, Machine, machine_opening, respond, make}
use Rattle.schedule.proofs.RunLaws.{one_answer, steps_within, steps_early}
use Rattle.schedule.proofs.Expected.{ClosedUnderEarlier}
use Rattle.machine.proofs.SerialRunLaws.{run_calls_append}
use Rattle.machine.specs.Answer.{answer_number}
use Rattle.machine.specs.Run.{Run, held_at}
use Rattle.machine.specs.Moves.{begin_of, step_of, move_of}
use Rattle.machine.specs.Step.{Stepped, damaged}
use Rattle.machine.specs.Serial.{max_steps, is_serial_idle, step_to_end, steps_to_end, run_call, run_calls, chosen, all_calls, serial_run, serial_run_of, serial_steps}
use Rattle.guarantees.proofs.CallsOfRun.ViewCalls.{Place, broken, point_of}
use Rattle.guarantees.proofs.FollowingMachine.RunMatches.{Base, calls_in, Matches}
use Rattle.guarantees.specs.Agreement.{stepped_run}
use Rattle.guarantees.proofs.SerialAndRule.ChosenRun.{ran, underway, ran_opening, ran_over, underway_is, underway_step, comes_to_end, same_course, begin_made, underway_made, ran_next}

-- Lists of calls: one behind the other, the chosen ones of such, and all of them.
chosen_append : (test : ℕ → Bool) (cs ds : List ℕ) → chosen test (cs ++ ds) ≡ chosen test cs ++ chosen test ds
unfolding chosen
chosen_append test [] ds = refl
chosen_append test (c ∷ cs) ds = go (test c) (chosen_append test cs ds)
  where
    go :
        (b : Bool) → chosen test (cs ++ ds) ≡ chosen test cs ++ chosen test ds →
        (if b then c ∷ chosen test (cs ++ ds) else chosen test (cs ++ ds))
        ≡ (if b then c ∷ chosen test cs else chosen test cs) ++ chosen test ds
    go true ih = ap (λ l. c ∷ l) ih
    go false ih = ih

chosen_all : (cs : List ℕ) → chosen (λ i. true) cs ≡ cs
unfolding chosen
chosen_all [] = refl
chosen_all (c ∷ cs) = ap (λ l. c ∷ l) (chosen_all cs)

-- The picked calls below c and, if it is picked, c.
module _ (file : List ℕ) (r : Run) (pick : ℕ → Bool) (c : ℕ) where
  abbrev up_to : ℕ → Run
  up_to m = run_calls file r (chosen pick (below m))

  up_next : up_to (suc c) ≡ run_calls file (up_to c) (chosen pick (c ∷ []))
  unfolding below
  up_next =
      ap (run_calls file r) (chosen_append pick (below c) (c ∷ []))
      ∙ run_calls_append file r (chosen pick (below c)) (chosen pick (c ∷ []))

  up_picked : pick c ≡ true → up_to (suc c) ≡ run_call file (up_to c) c
  unfolding chosen run_calls
  up_picked e = up_next ∙ rw e

  up_over : pick c ≡ false → up_to (suc c) ≡ up_to c
  unfolding chosen run_calls
  up_over e = up_next ∙ rw e

-- The next step of the worker's call does not find the run damaged.
module _ (file : List ℕ) (n : ℕ) (before : ℕ → ℕ → Bool) (r₀ : Run) where
  abbrev pub MoveSound : Machine (calls_in file n before r₀) → Move → Type 0
  MoveSound M (Begin w c) = Unit {0}
  MoveSound M (Step w) =
      (c : ℕ) (l : Place) (o : List ℤ) → M.seat w ≡ holds c → M.call c ≡ active l o →
      ¬ (((calls_in file n before r₀).step c o l M.cells).course ≡ done broken)
  MoveSound M (Cancel w) = Unit {0}

  -- No step of the serial run finds it so.
  abbrev pub SeriallyWhole : Type 0
  SeriallyWhole =
      (c : ℕ) → c < n → (k : ℕ) →
      ¬ ((trace (calls_in file n before r₀) c (serial (calls_in file n before r₀) r₀.cells c) k).course ≡ done broken)

-- A step whose course is not broken is not damaged.
pub undamaged : (cells : List ℤ) (x : Stepped) → ¬ ((point_of cells x).course ≡ done broken) → ¬ (x ≡ damaged)
unfolding point_of
undamaged cells x h e = h (ap (λ y. (point_of cells y).course) e)

module _ (file : List ℕ) (workers n : ℕ) (before : ℕ → ℕ → Bool) (r₀ : Run) where
  -- A move of a run that stands for a state of the machine is answered as there, and leaves a run that stands for the next state.
  abbrev pub MovesMatch : Type 0
  MovesMatch =
      (M : Machine (calls_in file n before r₀)) (r : Run) (m : Move) → Matches file workers n before r₀ M r →
      MoveSound file n before r₀ M m →
      (answer_number (move_of file r m).answer ≡ respond (calls_in file n before r₀) workers M m)
      × Matches file workers n before r₀ (make (calls_in file n before r₀) workers M m) (move_of file r m).run

  -- Worker 0 of the run is free where the machine has it idle.
  run_idle :
      (M : Machine (calls_in file n before r₀)) (r : Run) → 0 < workers → Matches file workers n before r₀ M r →
      is_serial_idle r ≡ tally.is_idle (M.seat 0)
  run_idle M r some m = go (M.seat 0) refl
    where
      go : (s : Seat) → M.seat 0 ≡ s → is_serial_idle r ≡ tally.is_idle s
      go idle e = rw (m.idle 0 some e)
      go (holds c) e =
          let z : held_at r.head 0 ≡ c + 1 = (m.holds 0 c e).own.holds in
          ne_eqb (held_at r.head 0) 0 (λ q. absurd (omega arith))

-- The run follows the machine, from the opening and move by move, and no step of the serial run finds it damaged.
module _
    (file : List ℕ) (workers n : ℕ) (before : ℕ → ℕ → Bool) (r₀ : Run)
    (base : Base file workers n before r₀)
    (laws : Laws (calls_in file n before r₀))
    (good : (calls_in file n before r₀).Good r₀.cells)
    (opened : Matches file workers n before r₀ (machine_opening (calls_in file n before r₀) r₀.cells) r₀)
    (moved : MovesMatch file workers n before r₀)
    (whole-serially : SeriallyWhole file n before r₀)
  where
    abbrev Y : Calls
    Y = calls_in file n before r₀

    abbrev s₀ : List ℤ
    s₀ = r₀.cells

    abbrev For : Machine Y → Run → Type 0
    For M r = Matches file workers n before r₀ M r

    -- A picked call c, begun on worker 0 behind the picked calls below it.
    module _ (pick : ℕ → Bool) (closed : ClosedUnderEarlier Y pick) (c : ℕ) (l : c < n) (e : pick c ≡ true) where
      -- Its steps.
      abbrev all : ℕ
      all = steps_of Y c (alone Y pick s₀ c)

      begin_run : (r : Run) → For (ran Y s₀ pick c) r → For (underway Y s₀ pick c 0) (begin_of r 0 c).run
      unfolding move_of
      begin_run r m =
          subst (λ M. For M (begin_of r 0 c).run) (begin_made Y laws s₀ good pick closed workers base.some_workers c l e)
          (moved (ran Y s₀ pick c) r (Begin 0 c) m tt).1

      step_sound : (k : ℕ) → MoveSound file n before r₀ (underway Y s₀ pick c k) (Step 0)
      step_sound k d p o h a b =
          whole-serially c l (suc k)
          (sym (same_course Y laws s₀ good pick closed c l e (suc k)) ∙ sym (underway_step Y s₀ pick c k d p o h a) ∙ b)

      step_run :
          (k : ℕ) → k < all → (r : Run) → For (underway Y s₀ pick c k) r → For (underway Y s₀ pick c (suc k)) (step_of file r 0).run
      unfolding move_of
      step_run k h r m =
          subst (λ M. For M (step_of file r 0).run) (underway_made Y laws s₀ good pick closed workers base.some_workers c l e k h)
          (moved (underway Y s₀ pick c k) r (Step 0) m (step_sound k)).1

      -- Any number of steps, up to the end.
      stepped_run_lem :
          (j k : ℕ) → k + j ≤ all → (r : Run) → For (underway Y s₀ pick c k) r → For (underway Y s₀ pick c (k + j)) (stepped_run j file r)
      unfolding stepped_run
      stepped_run_lem zero k h r m = rw add-zero m
      stepped_run_lem (suc j) k h r m =
          let z : suc k + j ≡ k + suc j = omega arith in
          subst (λ i. For (underway Y s₀ pick c i) (stepped_run j file (step_of file r 0).run)) z
          (stepped_run_lem j (suc k) (omega arith) (step_of file r 0).run (step_run k (omega arith) r m))

      -- The worker is free at the end and not before.
      free_at_end :
          (k : ℕ) (r : Run) → For (underway Y s₀ pick c k) r → is_serial_idle r ≡ is_done (trace Y c (alone Y pick s₀ c) k).course
      free_at_end k r m =
          run_idle file workers n before r₀ (underway Y s₀ pick c k) r base.some_workers m
          ∙ ap tally.is_idle (underway_is Y s₀ pick c k).worker ∙ freed (trace Y c (alone Y pick s₀ c) k).course
        where
          freed :
              (q : CallCourse Y.Local Y.Receipt) →
              tally.is_idle (kept c (activity (Y.save c (alone Y pick s₀ c)) q)) ≡ is_done q
          freed (more p) = refl
          freed (done q) = refl

      last_step : (k : ℕ) → k ≤ all → is_done (trace Y c (alone Y pick s₀ c) k).course ≡ true → k ≡ all
      last_step k h d = go (dec_lt k all)
        where
          go : Dec (k < all) → k ≡ all
          go (yes q) = one_answer d (steps_early Y c (alone Y pick s₀ c) k q)
          go (no q) = omega arith

      step_left : (k : ℕ) → k ≤ all → is_done (trace Y c (alone Y pick s₀ c) k).course ≡ false → k < all
      unfolding whole
      step_left k h d = go (dec_lt k all)
        where
          go : Dec (k < all) → k < all
          go (yes q) = q
          go (no q) =
              let z : k ≡ all = omega arith in
              one_answer (ap (λ i. is_done (trace Y c (alone Y pick s₀ c) i).course) z ∙ comes_to_end Y laws s₀ good pick closed c l) d

      -- Stepped until the worker is free, at most `left` times: the run is at the call's end, after all of its steps.
      record AtEnd (left k : ℕ) (r : Run) : Type 0 where
        pub run : For (underway Y s₀ pick c all) (step_to_end left file r)
        pub steps : k + steps_to_end left file r ≡ all

      to_end : (left k : ℕ) → k ≤ all → all ≤ k + left → (r : Run) → For (underway Y s₀ pick c k) r → AtEnd left k r
      unfolding step_to_end steps_to_end
      to_end zero k h h' r m =
          let z : k ≡ all = omega arith in
          record { run = subst (λ i. For (underway Y s₀ pick c i) r) z m; steps = omega arith }
      to_end (suc left) k h h' r m = go (is_serial_idle r) refl (to_end left (suc k))
        where
          go :
              (b : Bool) → is_serial_idle r ≡ b →
              (suc k ≤ all → all ≤ suc k + left → (r : Run) → For (underway Y s₀ pick c (suc k)) r → AtEnd left (suc k) r) →
              AtEnd (suc left) k r
          go true q ih =
              let z : k ≡ all = last_step k h (sym (free_at_end k r m) ∙ q) in
              record {
                run = rw (q, step_to_end) (subst (λ i. For (underway Y s₀ pick c i) r) z m);
                steps = rw (q, steps_to_end) (omega arith);
              }
          go false q ih =
              let h₁ : k < all = step_left k h (sym (free_at_end k r m) ∙ q) in
              let t = ih h₁ (omega arith) (step_of file r 0).run (step_run k h₁ r m) in
              record {
                run = rw (q, step_to_end) t.run;
                steps = rw (q, steps_to_end) (omega (arith, t.steps));
              }

      -- The call begun behind the picked calls below it, after any of its steps, at its end, and how many its steps are.
      module _ (r : Run) (m : For (ran Y s₀ pick c) r) where
        pub call_stepped : (k : ℕ) → k ≤ all → For (underway Y s₀ pick c k) (stepped_run k file (begin_of r 0 c).run)
        call_stepped k h = rw zero-add at (stepped_run_lem k 0 (omega arith) (begin_of r 0 c).run (begin_run r m))

        call_end : AtEnd max_steps 0 (begin_of r 0 c).run
        call_end =
            to_end max_steps 0 (omega arith) (omega (arith, steps_within Y c (alone Y pick s₀ c), (base.tidy c l).fuel.1)) (begin_of r 0 c).run
            (begin_run r m)

        pub call_steps : steps_to_end max_steps file (begin_of r 0 c).run ≡ all
        call_steps = omega (arith, call_end.steps)

        pub call_run_follows : For (ran Y s₀ pick (suc c)) (run_call file r c)
        call_run_follows =
            subst (λ M. For M (run_call file r c)) (ran_next Y laws s₀ good pick closed workers base.some_workers c l e)
            call_end.run

    -- The run of the picked calls below c alone.
    pub chosen_run :
        (pick : ℕ → Bool) → ClosedUnderEarlier Y pick → (c : ℕ) → c ≤ n → For (ran Y s₀ pick c) (run_calls file r₀ (chosen pick (below c)))
    unfolding below chosen run_calls
    chosen_run pick closed zero h = subst (λ M. For M r₀) (sym (ran_opening Y s₀ pick)) opened
    chosen_run pick closed (suc c) h = go (pick c) refl (chosen_run pick closed c (omega arith))
      where
        go :
            (b : Bool) → pick c ≡ b → For (ran Y s₀ pick c) (run_calls file r₀ (chosen pick (below c))) →
            For (ran Y s₀ pick (suc c)) (run_calls file r₀ (chosen pick (below (suc c))))
        go true e m =
            subst (λ r. For (ran Y s₀ pick (suc c)) r) (sym (up_picked file r₀ pick c e))
            (call_run_follows pick closed c h e (run_calls file r₀ (chosen pick (below c))) m)
        go false e m =
            subst (λ r. For (ran Y s₀ pick (suc c)) r) (sym (up_over file r₀ pick c e))
            (subst (λ M. For M (run_calls file r₀ (chosen pick (below c)))) (sym (ran_over Y s₀ pick c e)) m)

    -- The serial run of the calls below c: every call is picked.
    pub serial_run_lem : (c : ℕ) → c ≤ n → For (ran Y s₀ (λ i. true) c) (run_calls file r₀ (below c))
    serial_run_lem c h =
        subst (λ cs. For (ran Y s₀ (λ i. true) c) (run_calls file r₀ cs)) (chosen_all (below c))
        (chosen_run (λ i. true) (λ i j l h e b. refl) c h)

    -- Call c of the serial run after k of its steps.
    pub serial_stepped :
        (c : ℕ) → c < n → (k : ℕ) → k ≤ calls.steps_in_serial Y s₀ c →
        For (underway Y s₀ (λ i. true) c k) (stepped_run k file (begin_of (run_calls file r₀ (below c)) 0 c).run)
    serial_stepped c h =
        call_stepped (λ i. true) (λ i j l h e b. refl) c h refl (run_calls file r₀ (below c)) (serial_run_lem c (omega arith))

    -- "the number of steps that the serial run takes for that call"
    pub serial_steps_lem : (c : ℕ) → c < n → serial_steps file r₀ c ≡ calls.steps_in_serial Y s₀ c
    serial_steps_lem c h =
        call_steps (λ i. true) (λ i j l h e b. refl) c h refl (run_calls file r₀ (below c)) (serial_run_lem c (omega arith))

    -- The calls of the run are those of the block, so the serial run and that of picked calls go through all of them.
    pub all_calls_lem : all_calls r₀ ≡ below n
    all_calls_lem =
        let z : min r₀.head.calls max_calls ≡ n = omega (arith, opened.call_count, base.few_calls) in
        ap below z

    pub serial_run_all : For (ran Y s₀ (λ i. true) n) (serial_run file r₀)
    serial_run_all =
        subst (λ cs. For (ran Y s₀ (λ i. true) n) (run_calls file r₀ cs)) (sym all_calls_lem) (serial_run_lem n (omega arith))

    pub chosen_run_all : (pick : ℕ → Bool) → ClosedUnderEarlier Y pick → For (ran Y s₀ pick n) (serial_run_of pick file r₀)
    chosen_run_all pick closed =
        subst (λ cs. For (ran Y s₀ pick n) (run_calls file r₀ (chosen pick cs))) (sym all_calls_lem)
        (chosen_run pick closed n (omega arith))
