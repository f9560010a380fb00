-- The number of BEGIN: which answer it gives on a lent run, exactly, and that a refusal leaves the run as it was.
use mathlib.Core.Path.{◌≡◌, refl, ap, subst⁻¹, ◌∙◌}
use mathlib.Core.Bool.{Bool, true, false, ◌&&◌, ◌||◌, not}
use mathlib.Core.List.{List, [], ◌∷◌}
use Prim.Native.Nat.{ℕ, ◌%◌}
use native.Mathlib.Omega.{arith}
use borrow.Author.Tests.{ltb-false, le-ltb, lt-leb, leb-true, leb-false, le-leb, eqb-true, eqb-false, eq-eqb, ne_eqb, not-true, not-false}
use lib.Dec.{eqb, leb, ltb}
use Rattle.std.specs.Prelude.{if◌then◌else◌, Ok, Err, Result}
use Rattle.arith.proofs.ChoiceLaws.{if_all, neither}
use Rattle.block.specs.Limits.{max_calls, max_call_keys, max_keys, max_workers}
use Rattle.wire.specs.All.{All}
use Rattle.machine.specs.Run.{Run, sizes_of, large_enough, state_of, is_state, wait_count, waiting, finished}
use Rattle.footprint.specs.Plan.{entry_cell, entry_writes}
use Rattle.machine.specs.Step.{entries_allowed, restorable}
use Rattle.machine.specs.Moves.{Moved, stay, call_key_count, own_entries, begin_call, begin_checked, begin_by, begin_of}
use Rattle.machine.specs.Answer.{answer_number, refused_number}
use Rattle.machine.specs.declared.Answer.{Answer}
use Rattle.machine.specs.declared.Answer.TheVariants as answer
use Rattle.guarantees.specs.Demand1.{Exactly, held_in, EntryIn, EntriesIn, Before21, Before22, Before23, Before24, Before25, BeginGives}
use Rattle.guarantees.proofs.NumbersByCondition.ByNumbers.{by_number, begin_known}
use Rattle.guarantees.proofs.NumbersByCondition.ExactTests.{itself, ltb_exact, leb_exact, differ_exact, both_exact, under_exact}
use Rattle.guarantees.proofs.AcceptedOpening.OpeningPassed.{large_sizes, sizes_large}

-- ---- the tests

-- 20 for the sizes of a run and its number of workers.
abbrev pub unsized : Run → Bool
unsized r = not (large_enough (sizes_of r)) || eqb r.head.workers 0 || ltb max_workers r.head.workers

pub sized_exact : (r : Run) → Exactly (unsized r ≡ false) (Before21 r)
sized_exact r = (found, passes)
  where
    passes : Before21 r → unsized r ≡ false
    passes b =
        rw (
          sizes_large (sizes_of r) b.large,
          ne_eqb r.head.workers 0 (omega (arith, b.workers.0)),
          le-ltb max_workers r.head.workers b.workers.1,
        )

    found : unsized r ≡ false → Before21 r
    found e =
        let a = neither (not (large_enough (sizes_of r)) || eqb r.head.workers 0) (ltb max_workers r.head.workers) e in
        let b = neither (not (large_enough (sizes_of r))) (eqb r.head.workers 0) a.0 in
        let some : r.head.workers ≡ 0 → ⊥ = eqb-false r.head.workers 0 b.1 in
        record {
          large = large_sizes (sizes_of r) (not-false (large_enough (sizes_of r)) b.0);
          workers = (omega arith, ltb-false max_workers r.head.workers a.1);
        }

-- A call's entries.
allowed_exact : (es : List ℕ) → Exactly (entries_allowed es ≡ true) (All EntryIn es)
unfolding entries_allowed
allowed_exact [] = (λ e. tt, λ h. refl)
allowed_exact (e ∷ es) =
    both_exact (not (eqb (e % 4) 0) && (not (entry_writes e) || ltb (entry_cell e) max_keys)) (entries_allowed es)
    (both_exact (not (eqb (e % 4) 0)) (not (entry_writes e) || ltb (entry_cell e) max_keys) (differ_exact (e % 4) 0)
    (under_exact (entry_writes e) (ltb (entry_cell e) max_keys) itself (ltb_exact (entry_cell e) max_keys)))
    (allowed_exact es)

pub entries_exact : (r : Run) (c : ℕ) → Exactly (restorable (call_key_count r.plan c) (own_entries r.plan c) ≡ true) (EntriesIn r c)
entries_exact r c =
    both_exact (leb (call_key_count r.plan c) max_call_keys) (entries_allowed (own_entries r.plan c)) (leb_exact (call_key_count r.plan c) max_call_keys)
    (allowed_exact (own_entries r.plan c))

-- ---- BEGIN

pub of_answer : {m m' : Moved} → m ≡ m' → m.answer ≡ m'.answer
of_answer e = ap (λ (m : Moved). m.answer) e

-- What a move gives, and that a refusal leaves the run.
record BeginTold (r : Run) (w c : ℕ) (m : Moved) : Type 0 where
  unmoved : (m.answer ≡ Ok tt → ⊥) → m.run ≡ r
  gives : (m.answer ≡ Err answer.Damaged → ⊥) → BeginGives r w c (answer_number m.answer)

module _ (r : Run) (w c : ℕ) where
  -- The number that the call carries.
  abbrev number : ℕ
  number = wait_count r.status c

  -- BEGIN from each number on.
  abbrev from25 : Moved
  from25 =
      if not (eqb number 0)
      then stay r answer.EarlierUnfinished
      else if not (restorable (call_key_count r.plan c) (own_entries r.plan c))
      then stay r answer.Damaged
      else record { answer = Ok tt; run = begin_call r w c }

  abbrev from24 : Moved
  from24 =
      if not (eqb (state_of r.status c) waiting)
      then stay r answer.NotWaiting
      else if ltb c number
      then stay r answer.Damaged
      else from25

  abbrev from23 : Moved
  from23 =
      if not (eqb (held_in r w) 0)
      then stay r answer.WorkerBusy
      else if not (is_state (state_of r.status c))
      then stay r answer.Damaged
      else from24

  abbrev from22 : Moved
  from22 = if leb r.head.calls c then stay r answer.NoCall else if ltb r.head.calls (held_in r w) then stay r answer.Damaged else from23

  abbrev from21 : Moved
  from21 = if leb r.head.workers w then stay r answer.NoWorker else if ltb max_calls r.head.calls then stay r answer.Damaged else from22

  begin_is : begin_of r w c ≡ (if unsized r then stay r answer.Damaged else from21)
  unfolding begin_by begin_checked
  begin_is = refl

  begin_21 : Before21 r → begin_of r w c ≡ from21
  begin_21 b = begin_is ∙ rw ((sized_exact r).1 b)

  begin_22 : Before22 r w → begin_of r w c ≡ from22
  begin_22 b = begin_21 b.so_far ∙ rw (lt-leb r.head.workers w b.known_worker, le-ltb max_calls r.head.calls b.calls)

  begin_23 : Before23 r w c → begin_of r w c ≡ from23
  begin_23 b = begin_22 b.so_far ∙ rw (lt-leb r.head.calls c b.known_call, le-ltb r.head.calls (held_in r w) b.held)

  begin_24 : Before24 r w c → begin_of r w c ≡ from24
  begin_24 b = begin_23 b.so_far ∙ rw (eq-eqb (held_in r w) 0 b.idle, le-leb (state_of r.status c) finished b.state)

  begin_25 : Before25 r w c → begin_of r w c ≡ from25
  begin_25 b = begin_24 b.so_far ∙ rw (eq-eqb (state_of r.status c) waiting b.waits, le-ltb c number b.number)

  given : (a : Result (Unit {0}) Answer) → BeginGives r w c (answer_number a) → (begin_of r w c).answer ≡ a
  unfolding answer_number refused_number
  given (Ok tt) (b, none, entries) = of_answer (begin_25 b) ∙ rw (eq-eqb number 0 none, (entries_exact r c).1 entries)
  given (Err answer.Damaged) g = absurd g
  given (Err answer.NoWorker) (b, h) = of_answer (begin_21 b) ∙ rw (le-leb r.head.workers w h)
  given (Err answer.NoCall) (b, h) = of_answer (begin_22 b) ∙ rw (le-leb r.head.calls c h)
  given (Err answer.WorkerBusy) (b, h) = of_answer (begin_23 b) ∙ rw (ne_eqb (held_in r w) 0 h)
  given (Err answer.NotWaiting) (b, h) = of_answer (begin_24 b) ∙ rw (ne_eqb (state_of r.status c) waiting h)
  given (Err answer.EarlierUnfinished) (b, some) = of_answer (begin_25 b) ∙ rw (ne_eqb number 0 some)
  given (Err answer.WorkerIdle) g = absurd g
  given (Err answer.CallUnfinished) g = absurd g
  given (Err answer.SheetTooLong) g = absurd g

  -- From each number on, BEGIN gives what it should.
  damaged : BeginTold r w c (stay r answer.Damaged)
  damaged = record { unmoved = λ n. refl; gives = λ d. absurd (d refl) }

  refused : (a : Answer) → BeginGives r w c (answer_number (Err a)) → BeginTold r w c (stay r a)
  refused a g = record { unmoved = λ n. refl; gives = λ d. g }

  told_25 : Before25 r w c → BeginTold r w c from25
  unfolding answer_number refused_number
  told_25 b =
      if_all (BeginTold r w c) (not (eqb number 0)) (λ e. refused answer.EarlierUnfinished (b, eqb-false number 0 (not-true (eqb number 0) e))) λ e.
      if_all (BeginTold r w c) (not (restorable (call_key_count r.plan c) (own_entries r.plan c))) (λ f. damaged) λ f.
      record {
        unmoved = λ n. absurd (n refl);
        gives = λ d. (
          b,
          eqb-true number 0 (not-false (eqb number 0) e),
          (entries_exact r c).0 (not-false (restorable (call_key_count r.plan c) (own_entries r.plan c)) f),
        );
      }

  told_24 : Before24 r w c → BeginTold r w c from24
  unfolding answer_number refused_number
  told_24 b =
      if_all (BeginTold r w c) (not (eqb (state_of r.status c) waiting))
      (λ e. refused answer.NotWaiting (b, eqb-false (state_of r.status c) waiting (not-true (eqb (state_of r.status c) waiting) e)))
      λ e.
      if_all (BeginTold r w c) (ltb c number) (λ f. damaged) λ f.
      told_25 record {
        so_far = b;
        waits = eqb-true (state_of r.status c) waiting (not-false (eqb (state_of r.status c) waiting) e);
        number = ltb-false c number f;
      }

  told_23 : Before23 r w c → BeginTold r w c from23
  unfolding answer_number refused_number
  told_23 b =
      if_all (BeginTold r w c) (not (eqb (held_in r w) 0))
      (λ e. refused answer.WorkerBusy (b, eqb-false (held_in r w) 0 (not-true (eqb (held_in r w) 0) e))) λ e.
      if_all (BeginTold r w c) (not (is_state (state_of r.status c))) (λ f. damaged) λ f.
      told_24 record {
        so_far = b;
        idle = eqb-true (held_in r w) 0 (not-false (eqb (held_in r w) 0) e);
        state = leb-true (state_of r.status c) finished (not-false (is_state (state_of r.status c)) f);
      }

  told_22 : Before22 r w → BeginTold r w c from22
  unfolding answer_number refused_number
  told_22 b =
      if_all (BeginTold r w c) (leb r.head.calls c) (λ e. refused answer.NoCall (b, leb-true r.head.calls c e)) λ e.
      if_all (BeginTold r w c) (ltb r.head.calls (held_in r w)) (λ f. damaged) λ f.
      told_23 record { so_far = b; known_call = leb-false r.head.calls c e; held = ltb-false r.head.calls (held_in r w) f }

  told_21 : Before21 r → BeginTold r w c from21
  unfolding answer_number refused_number
  told_21 b =
      if_all (BeginTold r w c) (leb r.head.workers w) (λ e. refused answer.NoWorker (b, leb-true r.head.workers w e)) λ e.
      if_all (BeginTold r w c) (ltb max_calls r.head.calls) (λ f. damaged) λ f.
      told_22 record { so_far = b; known_worker = leb-false r.head.workers w e; calls = ltb-false max_calls r.head.calls f }

  told : BeginTold r w c (begin_of r w c)
  told = subst⁻¹ (BeginTold r w c) begin_is (if_all (BeginTold r w c) (unsized r) (λ e. damaged) λ e. told_21 ((sized_exact r).0 e))

  pub begin_unmoved : ((begin_of r w c).answer ≡ Ok tt → ⊥) → (begin_of r w c).run ≡ r
  begin_unmoved = told.unmoved

  pub begin_numbers : (n : ℕ) → (n ≡ 20 → ⊥) → Exactly (answer_number (begin_of r w c).answer ≡ n) (BeginGives r w c n)
  begin_numbers = by_number (begin_of r w c).answer (BeginGives r w c) told.gives given (begin_known r w c)
