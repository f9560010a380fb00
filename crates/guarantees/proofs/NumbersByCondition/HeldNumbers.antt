-- The numbers of STEP and CANCEL: which answer each gives on a lent run, exactly, and that a refused move leaves the run as it was.
use mathlib.Core.Path.{◌≡◌, refl, sym, ap, subst, subst⁻¹, ◌∙◌}
use mathlib.Core.Bool.{◌||◌}
use mathlib.Core.List.{List}
use Prim.Native.Nat.{ℕ, ◌+◌, ◌-◌, ◌≤◌, ◌<◌}
use native.Mathlib.Omega.{arith}
use borrow.Author.Tests.{ltb-false, le-ltb, leb-true, leb-false, le-leb, lt-leb, eqb-true, eqb-false, eq-eqb, ne_eqb}
use lib.Dec.{eqb, leb, ltb}
use Rattle.std.specs.Prelude.{if◌then◌else◌, Ok, Err, Result}
use Rattle.arith.proofs.ChoiceLaws.{if_all, neither}
use Rattle.schedule.specs.declared.Move.{Move}
use Rattle.schedule.specs.declared.Move.TheVariants.{Begin, Step, Cancel}
use Rattle.block.specs.Limits.{max_calls}
use Rattle.machine.specs.Run.{Run}
use Rattle.machine.specs.Step.{restorable}
use Rattle.machine.specs.Moves.{Moved, stay, call_key_count, own_entries, held_by, step_for, step_of, cancel_held, cancel_for, cancel_of, move_of}
use Rattle.machine.specs.Answer.{answer_number, refused_number}
use Rattle.machine.specs.declared.Answer.{Answer}
use Rattle.machine.specs.declared.Answer.TheVariants as answer
use Rattle.machine.proofs.RefusedLaws.{StaysDamaged, here, moves, unmoved_held, step_stays, step_unmoved}
use Rattle.guarantees.specs.Demand1.{Exactly, held_in, EntriesIn, Before21, HeldRefuses, HoldsCall}
use Rattle.guarantees.proofs.NumbersByCondition.ByNumbers.{accepted, refusal, accepted_number, accepted_exactly, by_refusal, held_known}
use Rattle.guarantees.proofs.NumbersByCondition.BeginNumbers.{unsized, sized_exact, entries_exact, of_answer, begin_unmoved}

-- ---- STEP and CANCEL

-- What is found of the held call.
abbrev pub HeldTold : Run → ℕ → Result ℕ Answer → Type 0
HeldTold r w (Err a) = (refusal a ≡ refusal answer.Damaged → ⊥) → HeldRefuses r w (answer_number (Err a))
HeldTold r w (Ok c) = HoldsCall r w c

pub accepted_not_damaged : accepted ≡ refusal answer.Damaged → ⊥
accepted_not_damaged e = let z : ◌≡◌ {A = ℕ} 0 1 = cc in omega arith

module _ (r : Run) (w : ℕ) where
  abbrev call_from : Result ℕ Answer
  call_from =
      if ltb max_calls r.head.calls || ltb r.head.calls (held_in r w)
      then Err answer.Damaged
      else Ok (held_in r w - 1)

  abbrev held_from_lem : Result ℕ Answer
  held_from_lem = if leb r.head.workers w then Err answer.NoWorker else if eqb (held_in r w) 0 then Err answer.WorkerIdle else call_from

  held_is : held_by r w ≡ (if unsized r then Err answer.Damaged else held_from_lem)
  unfolding held_by
  held_is = refl

  held_21 : Before21 r → held_by r w ≡ held_from_lem
  held_21 b = held_is ∙ rw ((sized_exact r).1 b)

  held_given : (a : Answer) → HeldRefuses r w (refused_number a) → held_by r w ≡ Err a
  unfolding answer_number refused_number
  held_given answer.Damaged g = absurd g
  held_given answer.NoWorker (b, h) = held_21 b ∙ rw (le-leb r.head.workers w h)
  held_given answer.NoCall g = absurd g
  held_given answer.WorkerBusy g = absurd g
  held_given answer.NotWaiting g = absurd g
  held_given answer.EarlierUnfinished g = absurd g
  held_given answer.WorkerIdle (b, l, h) = held_21 b ∙ rw (lt-leb r.head.workers w l, eq-eqb (held_in r w) 0 h)
  held_given answer.CallUnfinished g = absurd g
  held_given answer.SheetTooLong g = absurd g

  pub held_holds : (c : ℕ) → HoldsCall r w c → held_by r w ≡ Ok c
  held_holds c h =
      let held : held_in r w ≡ c + 1 = h.held in
      let less : c < r.head.calls = h.known_call in
      let own : held_in r w - 1 ≡ c = omega arith in
      held_21 h.so_far.so_far
      ∙ rw (
        lt-leb r.head.workers w h.so_far.known_worker,
        ne_eqb (held_in r w) 0 (omega arith),
        le-ltb max_calls r.head.calls h.so_far.calls,
        le-ltb r.head.calls (held_in r w) (omega arith),
        own,
      )

  pub held_told : HeldTold r w (held_by r w)
  unfolding answer_number refused_number
  held_told =
      subst⁻¹ (HeldTold r w) held_is
      (if_all (HeldTold r w) (unsized r) (λ e d. absurd (d refl)) λ e.
      if_all (HeldTold r w) (leb r.head.workers w) (λ f d. ((sized_exact r).0 e, leb-true r.head.workers w f)) λ f.
      if_all (HeldTold r w) (eqb (held_in r w) 0)
      (λ g d. ((sized_exact r).0 e, leb-false r.head.workers w f, eqb-true (held_in r w) 0 g)) λ g.
      if_all (HeldTold r w) (ltb max_calls r.head.calls || ltb r.head.calls (held_in r w)) (λ h d. absurd (d refl)) λ h.
      let some : held_in r w ≡ 0 → ⊥ = eqb-false (held_in r w) 0 g in
      let few = neither (ltb max_calls r.head.calls) (ltb r.head.calls (held_in r w)) h in
      let known : held_in r w ≤ r.head.calls = ltb-false r.head.calls (held_in r w) few.1 in
      record {
        so_far =
            record {
              so_far = (sized_exact r).0 e;
              known_worker = leb-false r.head.workers w f;
              calls = ltb-false max_calls r.head.calls few.0;
            };
        held = omega arith;
        known_call = omega arith;
      })

  -- A move that a refusal of these tests ends, and that goes on with the held call.
  module _ (move : Result ℕ Answer → Moved) (stops : (a : Answer) → move (Err a) ≡ stay r a) (on : (c : ℕ) → StaysDamaged r (move (Ok c))) where
    refuses : (n : ℕ) → (n ≡ 0 → ⊥) → (n ≡ 20 → ⊥) → Exactly (answer_number (move (held_by r w)).answer ≡ n) (HeldRefuses r w n)
    unfolding answer_number refused_number
    refuses =
        by_refusal (move (held_by r w)).answer (HeldRefuses r w) (go (held_by r w) held_told)
        given (held_known r w)
      where
        given : (a : Result (Unit {0}) Answer) → HeldRefuses r w (answer_number a) → (move (held_by r w)).answer ≡ a
        given (Ok tt) g = absurd g
        given (Err a) g = of_answer (ap move (held_given a g) ∙ stops a)

        go : (h : Result ℕ Answer) → HeldTold r w h → ((move h).answer ≡ Ok tt → ⊥) → ((move h).answer ≡ Err answer.Damaged → ⊥)
            → HeldRefuses r w (answer_number (move h).answer)
        go (Err b) t n d =
            let same : refusal b ≡ (move (Err b)).answer = sym (of_answer (stops b)) in
            subst (λ (a : Result (Unit {0}) Answer). HeldRefuses r w (answer_number a)) same (t (λ f. d (sym same ∙ f)))
        go (Ok c) t n d = absurd (d (of_answer ((on c).stays n)))

-- ---- STEP

module _ (block : List ℕ) (r : Run) (w : ℕ) where
  pub steps : (n : ℕ) → (n ≡ 0 → ⊥) → (n ≡ 20 → ⊥) → Exactly (answer_number (step_of block r w).answer ≡ n) (HeldRefuses r w n)
  unfolding step_for
  steps = refuses r w (step_for block r w) (λ a. refl) (step_stays block r w)

-- ---- CANCEL

module _ (r : Run) (w : ℕ) where
  cancel_stays : (c : ℕ) → StaysDamaged r (cancel_held r w c)
  unfolding cancel_held
  cancel_stays c = if_all (StaysDamaged r) (restorable (call_key_count r.plan c) (own_entries r.plan c)) (λ e. moves refl) λ e. here r

  pub cancels : (n : ℕ) → (n ≡ 0 → ⊥) → (n ≡ 20 → ⊥) → Exactly (answer_number (cancel_of r w).answer ≡ n) (HeldRefuses r w n)
  unfolding cancel_for
  cancels = refuses r w (cancel_for r w) (λ a. refl) cancel_stays

  cancel_unmoved : ((cancel_of r w).answer ≡ Ok tt → ⊥) → (cancel_of r w).run ≡ r
  unfolding cancel_for
  cancel_unmoved = unmoved_held r w (cancel_for r w) (λ a. refl) cancel_stays

  -- The held call waits again exactly if its entries can be restored.
  held_cancelled : (c : ℕ) → Exactly ((cancel_held r w c).answer ≡ Ok tt) (EntriesIn r c)
  unfolding cancel_held
  held_cancelled c = (
    if_all (λ (m : Moved). m.answer ≡ Ok tt → EntriesIn r c) (restorable (call_key_count r.plan c) (own_entries r.plan c))
        (λ e h. (entries_exact r c).0 e) (λ e h. absurd (accepted_not_damaged (sym h))),
    λ h. rw ((entries_exact r c).1 h),
  )

  cancel_answers : Exactly ((cancel_of r w).answer ≡ Ok tt) ((c : ℕ) × HoldsCall r w c × EntriesIn r c)
  unfolding cancel_for answer_number refused_number
  cancel_answers = (go (held_by r w) (held_told r w), λ h. of_answer (ap (cancel_for r w) (held_holds r w h.0 h.1)) ∙ (held_cancelled h.0).1 h.2)
    where
      go : (h : Result ℕ Answer) → HeldTold r w h → (cancel_for r w h).answer ≡ Ok tt → (c : ℕ) × HoldsCall r w c × EntriesIn r c
      go (Err a) t e = absurd (subst (λ (b : Result (Unit {0}) Answer). HeldRefuses r w (answer_number b)) e (t (λ d. accepted_not_damaged (sym e ∙ d))))
      go (Ok c) t e = (c, t, (held_cancelled c).0 e)

  pub cancel_accepted : Exactly (answer_number (cancel_of r w).answer ≡ 0) ((c : ℕ) × HoldsCall r w c × EntriesIn r c)
  cancel_accepted = accepted_exactly (cancel_of r w).answer cancel_answers

-- ---- every move

-- "a refused move .. leaves them unchanged"
pub unmoved : (block : List ℕ) (r : Run) (m : Move) → (answer_number (move_of block r m).answer ≡ 0 → ⊥) → (move_of block r m).run ≡ r
unfolding move_of
unmoved block r (Begin w c) n = begin_unmoved r w c (λ e. n (accepted_number e))
unmoved block r (Step w) n = step_unmoved block r w (λ e. n (accepted_number e))
unmoved block r (Cancel w) n = cancel_unmoved r w (λ e. n (accepted_number e))
