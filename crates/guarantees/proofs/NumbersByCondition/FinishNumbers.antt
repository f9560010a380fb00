-- The number of a step that ends a call, by the numbers that the calls waiting for it carry: when it is 20, exactly, and what it leaves of them.
use Rattle.std.specs.Prelude.{Ok}
use mathlib.Core.Path.{◌≡◌, refl, sym, ap, ◌∙◌}
use mathlib.Core.Bool.{Bool, true, false, ◌&&◌, not}
use mathlib.Core.List.{List}
use Prim.Native.Nat.{ℕ, ◌*◌, ◌≤◌, ◌<◌}
use native.Mathlib.Omega.{arith}
use borrow.Author.Tests.{not-false}
use lib.Dec.{eqb, leb, ltb}
use lib.IntN.{ℤ}
use lib.ListN.{length}
use Rattle.arith.proofs.ChoiceLaws.{if_all}
use Rattle.machine.specs.Run.{Run, sizes_of, wait_count, with_receipt}
use Rattle.machine.specs.Waits.{named_in, waits_for, lowered_if, lower_one, lowerable_if, waits_lowerable, waits_lowered}
use Rattle.machine.specs.Step.{done}
use Rattle.machine.specs.Moves.{Moved, stepped}
use Rattle.machine.specs.Answer.{answer_number}
use Rattle.machine.specs.declared.Answer.TheVariants as answer
use Rattle.machine.proofs.WaitLaws.{each_new}
use Rattle.guarantees.specs.Demand1.{Exactly, Large, CallsIn, WaitsFor, Lowerable, Lowers}
use Rattle.guarantees.proofs.FollowingMachine.BufferLaws.{receipt_wait, status_length_lem}
use Rattle.guarantees.proofs.NumbersByCondition.ByNumbers.{accepted_exactly}
use Rattle.guarantees.proofs.NumbersByCondition.ExactTests.{itself, ltb_exact, leb_exact, differ_exact, both_exact, under_exact, TestsAll, all_exact}
use Rattle.guarantees.proofs.NumbersByCondition.HeldNumbers.{accepted_not_damaged}

module _ (r : Run) (call : ℕ) where
  abbrev InRange : ℕ → Type 0
  InRange later = (1 ≤ wait_count r.status later) × (wait_count r.status later ≤ later)

  for_exact : (later : ℕ) → Exactly (waits_for r.plan call later ≡ true) (WaitsFor r call later)
  for_exact later = both_exact (ltb call later) (named_in r.plan call later) (ltb_exact call later) itself

  some_exact : (n : ℕ) → Exactly (not (eqb n 0) ≡ true) (1 ≤ n)
  some_exact n =
      let d = differ_exact n 0 in
      (λ e. let x : n ≡ 0 → ⊥ = d.0 e in omega arith, λ l. d.1 (λ e. omega arith))

  lowerable_exact : (n : ℕ) → TestsAll (waits_lowerable r.plan r.status call n) n (λ later. WaitsFor r call later → InRange later)
  unfolding waits_lowerable
  lowerable_exact =
      all_exact (waits_lowerable r.plan r.status call)
      (λ later. lowerable_if (waits_for r.plan call later) later (wait_count r.status later))
      (λ later. WaitsFor r call later → InRange later) refl (λ n. refl)
      (λ later. under_exact (waits_for r.plan call later) (not (eqb (wait_count r.status later) 0) && leb (wait_count r.status later) later)
      (for_exact later)
      (both_exact (not (eqb (wait_count r.status later) 0)) (leb (wait_count r.status later) later) (some_exact (wait_count r.status later))
      (leb_exact (wait_count r.status later) later)))

  abbrev can : Bool
  can = waits_lowerable r.plan r.status call r.head.calls

  can_exact : Exactly (can ≡ true) (Lowerable r call)
  can_exact = (lowerable_exact r.head.calls).every

  module _ (worker outcome count : ℕ) (cells : List ℤ) where
    abbrev left : Moved
    left = stepped r worker call (done outcome count cells)

    pub finish_answers : Exactly ((stepped r worker call (done outcome count cells)).answer ≡ Ok tt) (Lowerable r call)
    unfolding stepped
    finish_answers = (
      if_all (λ (m : Moved). m.answer ≡ Ok tt → Lowerable r call) (not can)
          (λ e h. absurd (accepted_not_damaged (sym h))) (λ e h. can_exact.0 (not-false can e)),
      λ h. rw (can_exact.1 h),
    )

    pub finish_accepted : Exactly (answer_number (stepped r worker call (done outcome count cells)).answer ≡ 0) (Lowerable r call)
    finish_accepted = accepted_exactly (stepped r worker call (done outcome count cells)).answer finish_answers

    abbrev received : List ℕ
    received = with_receipt r.status call outcome count

    module _ (large : Large (sizes_of r)) (few : CallsIn r) (h : Lowerable r call) (later : ℕ) (own : later < r.head.calls) where
      status_is : left.run.status ≡ waits_lowered r.plan call r.head.calls received
      unfolding stepped
      status_is = rw (can_exact.1 h)

      becomes : wait_count left.run.status later ≡ lower_one r.plan call later (wait_count r.status later)
      becomes =
          let room : 256 * 4 ≤ length r.status = large.status in
          let same : length received ≡ length r.status = status_length_lem r.status call outcome count in
          ap (λ (status : List ℕ). wait_count status later) status_is
          ∙ each_new (lower_one r.plan call) received r.head.calls later own (omega (arith, few))
          ∙ ap (lower_one r.plan call later) (receipt_wait r.status call outcome count later)

      by_name : (t : Bool) → waits_for r.plan call later ≡ t
          → lower_one r.plan call later (wait_count r.status later) ≡ lowered_if t (wait_count r.status later)
      by_name t e = rw e

      unnamed : (t : Bool) → waits_for r.plan call later ≡ t → (WaitsFor r call later → ⊥) → t ≡ false
      unnamed true e x = absurd (x ((for_exact later).0 e))
      unnamed false e x = refl

      pub finish_lowers : Lowers r call later (stepped r worker call (done outcome count cells)).run
      finish_lowers =
          record {
            lowered = λ w. becomes ∙ by_name true ((for_exact later).1 w);
            kept = λ x. becomes ∙ by_name false (unnamed (waits_for r.plan call later) refl x);
          }
