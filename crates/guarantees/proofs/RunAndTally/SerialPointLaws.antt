-- What two runs that stand for states of the machine have in common where the states agree: a call's state and receipt, a worker's call, and a
-- running call with its old values.
use Rattle.std.specs.Prelude.{Result, Ok, Err}
use mathlib.Core.Path.{◌≡◌, refl, sym, ap, ◌∙◌}
use mathlib.Core.Bool.{Bool}
use mathlib.Core.List.{List}
use Prim.Native.Nat.{ℕ, ◌+◌, ◌<◌}
use native.Mathlib.Omega.{arith}
use lib.IntN.{ℤ, pos}
use lib.ListN.{length}
use lib.Seq.{ext_get_or}
use Rattle.schedule.specs.Tally.{Phase, waiting, running, finished, Seat, idle, holds}
use Rattle.schedule.specs.Machine.{ready, active, ended, Machine}
use Rattle.schedule.specs.Confluent.{SamePhase}
use Rattle.machine.specs.Run.{Run, held_at, saved_in, state_of}
use Rattle.machine.specs.Step.{cell_at}
use Rattle.machine.specs.Moves.{call_key_count, local_of}
use Rattle.machine.specs.Answer.{answer_number, refused_number}
use Rattle.machine.specs.declared.Answer.{Answer}
use Rattle.machine.specs.declared.Answer.TheVariants.{Damaged, NoWorker, NoCall, WorkerBusy, NotWaiting, EarlierUnfinished, WorkerIdle, CallUnfinished, SheetTooLong}
use Rattle.guarantees.specs.Agreement.{state_number, seat_number}
use Rattle.guarantees.specs.Demand3.{SameReceipt}
use Rattle.guarantees.proofs.CallsOfRun.ViewCalls.{Place, place_with_saved, Receipt, broken, receipt}
use Rattle.guarantees.proofs.FollowingMachine.RunMatches.{CallState, StatusSays, calls_in, Matches}

-- The number of an accepted move.
pub accepted_number : (a : Result (Unit {0}) Answer) → answer_number a ≡ 0 → a ≡ Ok tt
unfolding answer_number refused_number
accepted_number (Ok tt) e = refl
accepted_number (Err Damaged) e = absurd (omega arith)
accepted_number (Err NoWorker) e = absurd (omega arith)
accepted_number (Err NoCall) e = absurd (omega arith)
accepted_number (Err WorkerBusy) e = absurd (omega arith)
accepted_number (Err NotWaiting) e = absurd (omega arith)
accepted_number (Err EarlierUnfinished) e = absurd (omega arith)
accepted_number (Err WorkerIdle) e = absurd (omega arith)
accepted_number (Err CallUnfinished) e = absurd (omega arith)
accepted_number (Err SheetTooLong) e = absurd (omega arith)

-- A call's state is that of its phase.
pub state_of_phase : (status : List ℕ) (c : ℕ) (a : CallState) (p : Phase) → StatusSays status c a → SamePhase p a → state_of status c ≡ state_number p
state_of_phase status c ready waiting h e = h.0
state_of_phase status c ready (running k) h e = absurd e
state_of_phase status c ready finished h e = absurd e
state_of_phase status c (active l o) waiting h e = absurd e
state_of_phase status c (active l o) (running k) h e = h.0
state_of_phase status c (active l o) finished h e = absurd e
state_of_phase status c (ended broken) p h e = absurd h
state_of_phase status c (ended (receipt outcome count)) waiting h e = absurd e
state_of_phase status c (ended (receipt outcome count)) (running k) h e = absurd e
state_of_phase status c (ended (receipt outcome count)) finished h e = h.0

-- Two calls that ended with one receipt have it in both runs.
pub same_receipt : (r r' : Run) (c : ℕ) (q : Receipt) → StatusSays r.status c (ended q) → StatusSays r'.status c (ended q) → SameReceipt r r' c
same_receipt r r' c broken h h' = absurd h
same_receipt r r' c (receipt outcome count) h h' =
    record { state = h.0 ∙ sym h'.0; outcome = h.1 ∙ sym h'.1; count = h.2 ∙ sym h'.2 }

-- Lists of cells that are as long, and hold the same in each.
pub same_cells : (cells cells' : List ℤ) → length cells ≡ length cells' → ((x : ℕ) → cell_at cells x ≡ cell_at cells' x) → cells ≡ cells'
same_cells cells cells' size h = ext_get_or (pos 0) cells cells' size (λ x l. h x)

module _ (file : List ℕ) (workers n : ℕ) (before : ℕ → ℕ → Bool) (r₀ : Run) (M : Machine (calls_in file n before r₀)) (r : Run)
    (m : Matches file workers n before r₀ M r) where
  -- The call that a worker holds.
  pub seat_holds : (w : ℕ) → w < workers → held_at r.head w ≡ seat_number (M.seat w)
  seat_holds w l = go (M.seat w) refl
    where
      go : (q : Seat) → M.seat w ≡ q → held_at r.head w ≡ seat_number q
      go idle e = m.idle w l e
      go (holds c) e =
          let z : held_at r.head w ≡ c + 1 = (m.holds w c e).own.holds in
          omega arith

  -- A running call at its worker: its place, registers, count and old values.
  pub local_is : (w c : ℕ) (l : Place) (kept : List ℤ) → M.seat w ≡ holds c → M.call c ≡ active l kept → local_of r w c ≡ place_with_saved l kept
  local_is w c l kept seat call =
      let h = m.holds w c seat in
      let same : active h.local h.kept ≡ active l kept = sym h.runs ∙ call in
      let place : h.local ≡ l = cc in
      let old : h.kept ≡ kept = cc in
      let own_saved : saved_in r.frames w (call_key_count r.plan c) ≡ kept =
      ap (λ (plan : List ℕ). saved_in r.frames w (call_key_count plan c)) m.plan ∙ h.own.old ∙ old in
      λ i. record {
        place = (h.own.place ∙ ap (λ (p : Place). p.place) place) i;
        count = (h.own.count ∙ ap (λ (p : Place). p.count) place) i;
        regs = (h.own.regs ∙ ap (λ (p : Place). p.regs) place) i;
        saved = own_saved i;
      }
