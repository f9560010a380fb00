-- BEGIN on a lent run follows the machine: the tests 20 to 25 answer alike, and an accepted call runs at its entry with its old values kept.
use mathlib.Core.Path.{◌≡◌, refl, sym, ap, subst⁻¹, ◌∙◌}
use mathlib.Core.Bool.{Bool, true, false, cond, not}
use mathlib.Core.List.{List}
use Prim.Native.Nat.{ℕ, ◌+◌, ◌*◌, ◌≤◌, ◌<◌}
use native.Mathlib.Omega.{arith}
use borrow.Author.Tests.{leb-false, le-ltb, not-false}
use lib.Dec.{eqb, leb, ltb}
use lib.IntN.{ℤ}
use lib.ListN.{length}
use Rattle.wire.proofs.BytesLaws.{stored_length}
use Rattle.block.specs.Limits.{max_calls, max_call_keys}
use Rattle.schedule.proofs.RunLaws.{one_answer}
use Rattle.schedule.proofs.CountLaws.{count_blocked, count_most}
use Rattle.schedule.specs.Tally as tally
use Rattle.schedule.specs.Tally.{blocked, refusal}
use Rattle.schedule.specs.declared.Move.TheVariants.{Begin}
use Rattle.schedule.specs.Machine as schedule
use Rattle.schedule.specs.Machine.{ready, active, ended, is_ready, is_ended, Machine}
use Rattle.machine.specs.Run.{Run, registers, frame_values, zero_registers, held_at, with_seat, with_regs, saved_in, with_saved, state_of, with_state, wait_count, running}
use Rattle.machine.proofs.StepLaws.{begun_ranged}
use Rattle.machine.specs.Step.{saved_of}
use Rattle.machine.specs.Moves.{Moved, call_key_count, own_entries, waits_by_count, begin_call, begin_checked, begin_by, begin_of}
use Rattle.machine.specs.Answer.{answer_number, refused_number}
use Rattle.machine.specs.declared.Answer.TheVariants.{NoWorker, NoCall, WorkerBusy, NotWaiting, EarlierUnfinished}
use Rattle.guarantees.proofs.CallsOfRun.ViewCalls.{at_entry, run_view}
use Rattle.guarantees.proofs.FollowingMachine.RunMatches.{CallState, no_receipt, Base, calls_in, Matches}
use Rattle.guarantees.proofs.FollowingMachine.BufferLaws.{state_here, state_beside, state_there, state_wait, state_length, saved_length, seat_length_lem, seat_own, regs_own, old_own, old_leaves_regs, begin_elsewhere}
use Rattle.guarantees.proofs.FollowingMachine.WaitMatches.{waits_kept}
use Rattle.guarantees.proofs.FollowingMachine.ChangeMatches.{changed, CallChange, change_matches, call_few_keys}
use Rattle.guarantees.proofs.FollowingMachine.Follows.{Follows, refused, passes, tests, large, sized, SeatRead, follows_seat, StateRead, call_read, can_restore}

-- A call that waits has not ended.
not_ended : (a : CallState) → is_ready a ≡ true → is_ended a ≡ false
not_ended ready e = refl
not_ended (active l o) e = refl
not_ended (ended q) e = one_answer e refl

module _ (file : List ℕ) (workers n : ℕ) (before : ℕ → ℕ → Bool) (r₀ : Run) (base : Base file workers n before r₀)
    (M : Machine (calls_in file n before r₀)) (r : Run) (m : Matches file workers n before r₀ M r) (w c : ℕ) where
  -- The old values that are kept.
  abbrev own_saved : List ℤ
  own_saved = saved_of (own_entries r₀.plan c) M.cells

  -- The worker's seat and frame.
  abbrev seats : List ℕ
  seats = with_seat r.seats w 0 0

  abbrev zeroed : List ℤ
  zeroed = with_regs r.frames w zero_registers

  abbrev frames : List ℤ
  frames = with_saved zeroed w own_saved

  module _ (worker : w < workers) (call : c < n) (free : tally.is_idle (M.seat w) ≡ true) (waits : is_ready (M.call c) ≡ true) where
    saved_size : length own_saved ≡ call_key_count r₀.plan c
    saved_size = saved_length (own_entries r₀.plan c) M.cells ∙ sym (base.tidy c call).count

    few_saved : length own_saved ≤ max_call_keys
    few_saved = omega (arith, saved_size, call_few_keys file workers n before r₀ base c call)

    few_workers_lem : w < 8
    few_workers_lem = let few : workers ≤ 8 = base.few_workers in omega arith

    zeroed_length : length zeroed ≡ length r.frames
    zeroed_length = stored_length zero_registers r.frames (frame_values * w)

    seat_room : 16 * w + 1 < length r.seats
    seat_room = let room : 8 * 16 ≤ length r.seats = (large file workers n before r₀ base M r m).seats in omega (arith, few_workers_lem)

    frame_room : frame_values * w + frame_values ≤ length r.frames
    frame_room = let room : 8 * 32 ≤ length r.frames = (large file workers n before r₀ base M r m).frames in omega (arith, few_workers_lem)

    change : CallChange file workers n before r₀ base M r w c (active at_entry own_saved) (c + 1) M.cells (with_state r.status c running) seats frames
    change =
        let seat = seat_own r.seats w 0 0 seat_room in
        record {
          worker = worker;
          call = call;
          mine = λ d e. one_answer free (ap tally.is_idle e);
          sole = λ u e. one_answer waits (ap is_ready (m.holds u c e).runs);
          cell_length = ap length (sym m.cells);
          status_length = state_length r.status c running;
          seat_length = seat_length_lem r.seats w 0 0;
          frame_length = stored_length own_saved zeroed (frame_values * w + registers) ∙ zeroed_length;
          stands =
              let room : 256 * 4 ≤ length r.status = (large file workers n before r₀ base M r m).status in
              let few : n ≤ 256 = base.few_calls in
              let none = no_receipt r.status c (M.call c) (m.calls c call) (not_ended (M.call c) waits) in (
                state_here r.status c running (omega arith),
                state_beside r.status c running 1 (omega arith) ∙ none.0,
                state_beside r.status c running 2 (omega arith) ∙ none.1,
              );
          others = λ d k x l. state_there r.status c running d k x (omega arith);
          waits =
              waits_kept file workers n before r₀ base M r m c (active at_entry own_saved) (with_state r.status c running) (state_wait r.status c running)
              (not_ended (M.call c) waits);
          seated =
              record {
                holds = refl;
                place = seat.0;
                count = seat.1;
                regs = old_leaves_regs zeroed w own_saved ∙ regs_own r.frames w zero_registers refl (omega (arith, frame_room));
                old = ap (saved_in frames w) (sym saved_size) ∙ old_own zeroed w own_saved (omega (arith, few_saved, frame_room, zeroed_length));
                range = begun_ranged (run_view file r₀ c) (base.tidy c call).code (base.tidy c call).fuel;
              };
          elsewhere = begin_elsewhere r.frames w r.seats 0 0 zero_registers own_saved refl few_saved;
        }

    -- The lent run's own cells and plan are those of the machine.
    begun : Matches file workers n before r₀ (schedule.machine_begin (calls_in file n before r₀) M w c) (begin_call r w c)
    unfolding schedule.machine_begin begin_call
    begun =
        subst⁻¹ (Matches file workers n before r₀ (schedule.settle_call (calls_in file n before r₀) M w c M.cells (active at_entry own_saved)))
        (λ i. changed r w (c + 1) (m.cells i) (with_state r.status c running) seats
        (with_saved zeroed w (saved_of (own_entries (m.plan i) c) (m.cells i))))
        (change_matches file workers n before r₀ base M r m w c (active at_entry own_saved) (c + 1) M.cells (with_state r.status c running) seats frames
        change)

  abbrev after : Machine (calls_in file n before r₀)
  after = schedule.machine_begin (calls_in file n before r₀) M w c

  abbrev Follow : ℕ → Moved → Type 0
  Follow = Follows file workers n before r₀ M after

  abbrev done : ℕ → Bool
  done i = is_ended (M.call i)

  -- The number that the call carries: at most its index, and 0 unless an earlier conflicting call is unfinished.
  pub counts_few : c < n → (waits_by_count r c).broken ≡ false
  counts_few call = le-ltb c (wait_count r.status c) (rw (m.waits c call) (count_most before done c c))

  pub counts_blocked : c < n → (waits_by_count r c).unfinished ≡ blocked before (λ i. is_ended (M.call i)) c c
  counts_blocked call = ap (λ (k : ℕ). not (eqb k 0)) (m.waits c call) ∙ sym (count_blocked before done c c)

  checked : w < workers → c < n → tally.is_idle (M.seat w) ≡ true
      → Follow (cond (not (is_ready (M.call c))) 24 (cond (blocked before done c c) 25 0)) (begin_checked (waits_by_count r c) r w c)
  unfolding begin_checked answer_number refused_number
  checked worker call free =
      let state : StateRead (state_of r.status c) (M.call c) = call_read file workers n before r₀ base M r m c call in
      passes file workers n before r₀ _ _ _ (ap not state.known)
      (tests file workers n before r₀ 24 _ _ _ _ (not (is_ready (M.call c))) (ap not state.waits)
      (λ e. refused file workers n before r₀ m NotWaiting 23 refl)
      (λ e.
      passes file workers n before r₀ _ _ _ (counts_few call)
      (tests file workers n before r₀ 25 0 _ _ _ (blocked before done c c) (counts_blocked call)
      (λ f. refused file workers n before r₀ m EarlierUnfinished 24 refl)
      (λ f.
      passes file workers n before r₀ _ _ _ (ap not (can_restore file workers n before r₀ base M r m c call))
      (record { same = refl; run = begun worker call free (not-false (is_ready (M.call c)) e) })))))

  pub begin_follows : Follow (refusal workers n before (λ i. is_ready (M.call i)) done M.seat (Begin w c)) (begin_of r w c)
  unfolding refusal begin_by answer_number refused_number
  begin_follows =
      passes file workers n before r₀ _ _ _ (sized file workers n before r₀ base M r m)
      (tests file workers n before r₀ 21 _ _ _ _ (leb workers w) (ap (λ (k : ℕ). leb k w) m.worker_count)
      (λ e. refused file workers n before r₀ m NoWorker 20 refl)
      (λ e.
      let worker : w < workers = leb-false workers w e in
      let seat : SeatRead file workers n before r₀ base M r m w = follows_seat file workers n before r₀ base M r m w worker in
      passes file workers n before r₀ _ _ _ (ap (ltb max_calls) m.call_count ∙ le-ltb max_calls n base.few_calls)
      (tests file workers n before r₀ 22 _ _ _ _ (leb n c) (ap (λ (k : ℕ). leb k c) m.call_count)
      (λ f. refused file workers n before r₀ m NoCall 21 refl)
      (λ f.
      passes file workers n before r₀ _ _ _
      (ap (λ (k : ℕ). ltb k (held_at r.head w)) m.call_count ∙ le-ltb n (held_at r.head w) seat.known)
      (tests file workers n before r₀ 23 _ _ _ _ (not (tally.is_idle (M.seat w))) (ap not seat.free)
      (λ g. refused file workers n before r₀ m WorkerBusy 22 refl)
      (λ g. checked worker (leb-false n c f) (not-false (tally.is_idle (M.seat w)) g)))))))
