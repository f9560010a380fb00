-- CANCEL on a lent run follows the machine: the held call's old values are restored, it waits again, and its worker is free.
use Rattle.std.specs.Prelude.{Ok}
use mathlib.Core.Path.{◌≡◌, refl, sym, ap, subst⁻¹, ◌∙◌}
use mathlib.Core.Bool.{Bool}
use mathlib.Core.List.{List}
use Prim.Native.Nat.{ℕ, ◌*◌, ◌≤◌, ◌<◌}
use native.Mathlib.Omega.{arith}
use lib.IntN.{ℤ}
use lib.ListN.{length}
use Rattle.schedule.specs.Tally as tally
use Rattle.schedule.specs.Tally.{refusal}
use Rattle.schedule.specs.declared.Move.TheVariants.{Cancel}
use Rattle.schedule.specs.Machine.{ready, is_ready, is_ended, Machine, settle_call, cancel_call, cancel_worker}
use Rattle.arith.proofs.ChoiceLaws.{if_true}
use Rattle.machine.specs.Run.{Run, saved_in, with_state, waiting}
use Rattle.machine.specs.Step.{restored}
use Rattle.machine.specs.Moves.{stay, call_key_count, own_entries, cancel_held, cancel_for, cancel_of}
use Rattle.machine.specs.Answer.{answer_number, refused_number}
use Rattle.machine.specs.declared.Answer.TheVariants.{Damaged}
use Rattle.machine.proofs.RestoreLaws.{restored_length}
use Rattle.guarantees.proofs.FollowingMachine.RunMatches.{no_receipt, Base, calls_in, HoldsRunning, Matches}
use Rattle.guarantees.proofs.FollowingMachine.BufferLaws.{state_here, state_beside, state_there, state_wait, state_length, seat_stays}
use Rattle.guarantees.proofs.FollowingMachine.WaitMatches.{waits_kept}
use Rattle.guarantees.proofs.FollowingMachine.ChangeMatches.{changed, CallChange, change_matches}
use Rattle.guarantees.proofs.FollowingMachine.Follows.{Follows, large, can_restore}
use Rattle.guarantees.proofs.FollowingMachine.HeldMatches.{held_follows}

module _ (file : List ℕ) (workers n : ℕ) (before : ℕ → ℕ → Bool) (r₀ : Run) (base : Base file workers n before r₀)
    (M : Machine (calls_in file n before r₀)) (r : Run) (m : Matches file workers n before r₀ M r) (w : ℕ) where
  module _ (c : ℕ) (e : M.seat w ≡ tally.holds c) (k : HoldsRunning file workers n before r₀ M r w c) where
    abbrev cells : List ℤ
    cells = restored (own_entries r₀.plan c) k.kept M.cells

    change : CallChange file workers n before r₀ base M r w c ready 0 cells (with_state r.status c waiting) r.seats r.frames
    change =
        record {
          worker = k.worker;
          call = k.call;
          mine = λ d f. let z : tally.holds c ≡ tally.holds d = sym e ∙ f in cc;
          sole = λ u f. m.sole u w c f e;
          cell_length = restored_length (own_entries r₀.plan c) k.kept M.cells ∙ ap length (sym m.cells);
          status_length = state_length r.status c waiting;
          seat_length = refl;
          frame_length = refl;
          stands =
              let room : 256 * 4 ≤ length r.status = (large file workers n before r₀ base M r m).status in
              let few : n ≤ 256 = base.few_calls in
              let below : c < n = k.call in
              let none = no_receipt r.status c (M.call c) (m.calls c below) (ap is_ended k.runs) in (
                state_here r.status c waiting (omega arith),
                state_beside r.status c waiting 1 (omega arith) ∙ none.0,
                state_beside r.status c waiting 2 (omega arith) ∙ none.1,
              );
          others = λ d j x l. state_there r.status c waiting d j x (omega arith);
          waits =
              waits_kept file workers n before r₀ base M r m c ready (with_state r.status c waiting) (state_wait r.status c waiting)
              (ap is_ended k.runs);
          seated = refl;
          elsewhere = λ u x. seat_stays r.seats r.frames u;
        }

    old : saved_in r.frames w (call_key_count r.plan c) ≡ k.kept
    old = ap (λ (plan : List ℕ). saved_in r.frames w (call_key_count plan c)) m.plan ∙ k.own.old

    machine_cancels : cancel_worker (calls_in file n before r₀) M w (M.seat w) ≡ settle_call (calls_in file n before r₀) M w c cells ready
    unfolding cancel_worker cancel_call
    machine_cancels =
        ap (cancel_worker (calls_in file n before r₀) M w) e ∙ ap (cancel_call (calls_in file n before r₀) M w c) k.runs

    -- The lent run's own cells, plan and old values are those of the machine.
    abbrev left : Run
    left =
        changed r w 0 (restored (own_entries r.plan c) (saved_in r.frames w (call_key_count r.plan c)) r.cells) (with_state r.status c waiting) r.seats
        r.frames

    left_matches : Matches file workers n before r₀ (settle_call (calls_in file n before r₀) M w c cells ready) left
    left_matches =
        subst⁻¹ (Matches file workers n before r₀ (settle_call (calls_in file n before r₀) M w c cells ready))
        (λ i. changed r w 0 (restored (own_entries (m.plan i) c) (old i) (m.cells i)) (with_state r.status c waiting) r.seats r.frames)
        (change_matches file workers n before r₀ base M r m w c ready 0 cells (with_state r.status c waiting) r.seats r.frames change)

    cancelled : Follows file workers n before r₀ M (cancel_worker (calls_in file n before r₀) M w (M.seat w)) 0 (cancel_held r w c)
    unfolding cancel_held answer_number refused_number
    cancelled =
        subst⁻¹ (Follows file workers n before r₀ M (cancel_worker (calls_in file n before r₀) M w (M.seat w)) 0)
        (if_true (record { answer = Ok tt; run = left }) (stay r Damaged)
        (can_restore file workers n before r₀ base M r m c k.call))
        (record {
          same = refl;
          run = subst⁻¹ (λ (after : Machine (calls_in file n before r₀)). Matches file workers n before r₀ after left) machine_cancels left_matches;
        })

  pub cancel_follows : Follows file workers n before r₀ M (cancel_worker (calls_in file n before r₀) M w (M.seat w))
      (refusal workers n before (λ i. is_ready (M.call i)) (λ i. is_ended (M.call i)) M.seat (Cancel w)) (cancel_of r w)
  unfolding refusal cancel_for
  cancel_follows =
      held_follows file workers n before r₀ base M r m w (cancel_worker (calls_in file n before r₀) M w (M.seat w)) (cancel_for r w) (λ a. refl)
      (λ c e. cancelled c e (m.holds w c e))
