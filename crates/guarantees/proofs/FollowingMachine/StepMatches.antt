-- STEP on a lent run follows the machine: place, count and record pass the tests, and what the step leaves is what the machine's call leaves.
use Rattle.std.specs.Prelude.{Some}
use mathlib.Core.Path.{◌≡◌, refl, sym, ap, subst, subst⁻¹, ◌∙◌}
use mathlib.Core.Bool.{Bool, false, not, ◌||◌}
use mathlib.Core.List.{List}
use Prim.Native.Nat.{ℕ, ◌+◌, ◌*◌, ◌≤◌, ◌<◌}
use native.Mathlib.Omega.{arith}
use borrow.Author.Tests.{le-ltb}
use lib.Dec.{ltb}
use lib.IntN.{ℤ}
use lib.ListN.{length, drop}
use lib.Seq.{set-get_or}
use Rattle.wire.proofs.BytesLaws.{stored_length}
use Rattle.block.specs.Limits.{max_code}
use Rattle.block.specs.Record.{head_bytes, call_record_bytes, call_of}
use Rattle.block.specs.declared.Call.{Call}
use Rattle.schedule.specs.Tally as tally
use Rattle.schedule.specs.Tally.{refusal}
use Rattle.schedule.specs.declared.Move.TheVariants.{Step}
use Rattle.schedule.specs.Machine as schedule
use Rattle.schedule.specs.Machine.{active, ended, is_ready, is_ended, activity, Machine, settle_call, step_worker}
use Rattle.arith.proofs.ChoiceLaws.{if_false}
use Rattle.machine.specs.Run.{Run, seat_words, registers, frame_values, with_held, place_in, with_seat, with_regs, saved_in, plan_word, with_receipt}
use Rattle.machine.specs.Waits.{waits_lowered}
use Rattle.machine.specs.Step.{Local, Stepped, damaged, more, done, step_call}
use Rattle.machine.specs.Moves.{call_key_count, own_entries, view_of, local_of, stepped, step_record, step_held, step_for, step_of}
use Rattle.machine.specs.Answer.{answer_number, refused_number}
use Rattle.machine.specs.declared.Head.{Head}
use Rattle.machine.proofs.WaitLaws.{each_length, each_word}
use Rattle.machine.proofs.StepLaws.{Ranged, StepLowers}
use Rattle.machine.proofs.PlaceLaws.{step_lowers}
use Rattle.guarantees.proofs.CallsOfRun.ViewCalls.{place_with_saved, receipt, point_of, run_view}
use Rattle.guarantees.proofs.FollowingMachine.RunMatches.{StatusSays, Base, calls_in, StepWhole, HoldsRunning, Matches}
use Rattle.guarantees.proofs.FollowingMachine.BufferLaws.{receipt_here, receipt_there, receipt_wait, status_length_lem, seat_stays, seat_length_lem, seat_own, regs_length, regs_own, regs_leave_old, step_elsewhere}
use Rattle.guarantees.proofs.CallsOfRun.ViewFrame.{step_keeps}
use Rattle.guarantees.proofs.FollowingMachine.WaitMatches.{waits_kept, waits_lowered_lem, can_lower}
use Rattle.guarantees.proofs.FollowingMachine.ChangeMatches.{stands_same, CallChange, change_matches}
use Rattle.guarantees.proofs.FollowingMachine.Follows.{Follows, passes, large}
use Rattle.guarantees.proofs.FollowingMachine.HeldMatches.{held_follows}
use Rattle.guarantees.specs.RuleRun.{body_call}

in_code : (code place : ℕ) → code ≤ max_code + 1 → place ≤ code → (ltb (max_code + 1) code || ltb code place) ≡ false
in_code code place few within = rw (le-ltb (max_code + 1) code few, le-ltb code place within)

module _ (file : List ℕ) (workers n : ℕ) (before : ℕ → ℕ → Bool) (r₀ : Run) (base : Base file workers n before r₀)
    (M : Machine (calls_in file n before r₀)) (r : Run) (m : Matches file workers n before r₀ M r) (w : ℕ) where
  module _ (c : ℕ) (e : M.seat w ≡ tally.holds c) (k : HoldsRunning file workers n before r₀ M r w c) where
    -- What the step leaves: of the machine's call and cells.
    abbrev result : Stepped
    result = step_call (run_view file r₀ c) (place_with_saved k.local k.kept) M.cells

    abbrev after : Machine (calls_in file n before r₀)
    after = step_worker (calls_in file n before r₀) M w (M.seat w)

    abbrev settled : Stepped → Machine (calls_in file n before r₀)
    settled x =
        settle_call (calls_in file n before r₀) M w c (point_of M.cells x).state (activity k.kept (point_of M.cells x).course)

    machine_steps : after ≡ settled result
    unfolding step_worker schedule.machine_step
    machine_steps =
        ap (step_worker (calls_in file n before r₀) M w) e ∙ ap (schedule.machine_step (calls_in file n before r₀) M w c) k.runs

    -- The change, for a call that goes on and for one that ends.
    mine : (d : ℕ) → M.seat w ≡ tally.holds d → d ≡ c
    mine d f = let z : tally.holds c ≡ tally.holds d = sym e ∙ f in cc

    -- The worker's seat and frame are there.
    seat_room : seat_words * w + 1 < length r.seats
    seat_room =
        let room : 8 * 16 ≤ length r.seats = (large file workers n before r₀ base M r m).seats in
        let few : workers ≤ 8 = base.few_workers in
        let below : w < workers = k.worker in
        omega arith

    frame_room : frame_values * w + registers ≤ length r.frames
    frame_room =
        let room : 8 * 32 ≤ length r.frames = (large file workers n before r₀ base M r m).frames in
        let few : workers ≤ 8 = base.few_workers in
        let below : w < workers = k.worker in
        omega arith

    more_change : (l : Local) (cells : List ℤ) → Ranged (run_view file r₀ c) l.place l.count → length l.regs ≡ registers
        → length cells ≡ length M.cells
        → CallChange file workers n before r₀ base M r w c (active (record { place = l.place; count = l.count; regs = l.regs }) k.kept)
        (c + 1) cells r.status (with_seat r.seats w l.place l.count) (with_regs r.frames w l.regs)
    more_change l cells range eight size =
        let seat = seat_own r.seats w l.place l.count seat_room in
        record {
          worker = k.worker;
          call = k.call;
          mine = mine;
          sole = λ u f. m.sole u w c f e;
          cell_length = size ∙ ap length (sym m.cells);
          status_length = refl;
          seat_length = seat_length_lem r.seats w l.place l.count;
          frame_length = stored_length l.regs r.frames (frame_values * w);
          stands = subst (StatusSays r.status c) k.runs (m.calls c k.call);
          others = λ d j x less. refl;
          waits = waits_kept file workers n before r₀ base M r m c _ r.status (λ d. refl) (ap is_ended k.runs);
          seated =
              record {
                holds = refl;
                place = seat.0;
                count = seat.1;
                regs = regs_own r.frames w l.regs eight frame_room;
                old = regs_leave_old r.frames w l.regs eight (call_key_count r₀.plan c) ∙ k.own.old;
                range = range;
              };
          elsewhere = step_elsewhere r.frames w l.regs eight r.seats l.place l.count;
        }

    done_change : (outcome count : ℕ) (cells : List ℤ) → length cells ≡ length M.cells
        → CallChange file workers n before r₀ base M r w c (ended (receipt outcome count)) 0 cells
        (waits_lowered r.plan c r.head.calls (with_receipt r.status c outcome count)) r.seats r.frames
    done_change outcome count cells size =
        let received : List ℕ = with_receipt r.status c outcome count in
        let status : List ℕ = waits_lowered r.plan c r.head.calls received in
        let room : 256 * 4 ≤ length r.status = (large file workers n before r₀ base M r m).status in
        let few : n ≤ 256 = base.few_calls in
        let below : c < n = k.call in
        record {
          worker = k.worker;
          call = k.call;
          mine = mine;
          sole = λ u f. m.sole u w c f e;
          cell_length = size ∙ ap length (sym m.cells);
          status_length = each_length _ received r.head.calls ∙ status_length_lem r.status c outcome count;
          seat_length = refl;
          frame_length = refl;
          stands =
              stands_same status received c (ended (receipt outcome count)) (each_word _ received r.head.calls c)
              (receipt_here r.status c outcome count (omega arith));
          others = λ d j x less. each_word _ received r.head.calls d j less ∙ receipt_there r.status c outcome count d j x (omega arith);
          waits =
              waits_lowered_lem file workers n before r₀ base M r m c (ended (receipt outcome count)) received (receipt_wait r.status c outcome count)
              (ap is_ended k.runs) refl (rw (status_length_lem r.status c outcome count) (omega arith));
          seated = refl;
          elsewhere = λ u x. seat_stays r.seats r.frames u;
        }

    -- The worker holds what it held.
    still_held : with_held r.head w (c + 1) ≡ r.head
    still_held =
        ap (with_held r.head w) (sym k.own.holds) ∙ (λ i. record {
          workers = r.head.workers;
          calls = r.head.calls;
          cells = r.head.cells;
          first_call = r.head.first_call;
          held = set-get_or r.head.held w 0 i;
        })

    abbrev with_head : Head → Local → List ℤ → Run
    with_head head l cells =
        record {
          head = head;
          plan = r.plan;
          keys = r.keys;
          cells = cells;
          status = r.status;
          seats = with_seat r.seats w l.place l.count;
          frames = with_regs r.frames w l.regs;
        }

    -- By what the step leaves.
    stepped_matches : (result ≡ damaged → ⊥) → (x : Stepped) → result ≡ x → StepLowers (run_view file r₀ c) (place_with_saved k.local k.kept) x
        → length (point_of M.cells x).state ≡ length M.cells → Follows file workers n before r₀ M (settled x) 0 (stepped r w c x)
    unfolding stepped point_of answer_number refused_number
    stepped_matches whole damaged q low size = absurd (whole q)
    stepped_matches whole (more l cells) q low size =
        let eight : length l.regs ≡ 8 = omega (arith, low.registers, ap length k.own.regs, regs_length r.frames w frame_room) in
        record {
          same = refl;
          run =
              subst (λ (h : Head). Matches file workers n before r₀ (settled (more l cells)) (with_head h l cells)) still_held
              (change_matches file workers n before r₀ base M r m w c _ (c + 1) cells r.status _ _ (more_change l cells low.lowers.range eight size));
        }
    stepped_matches whole (done outcome count cells) q low size =
        passes file workers n before r₀ _ _ _ (ap not (can_lower file workers n before r₀ base M r m c (ap is_ended k.runs)))
        (record {
          same = refl;
          run = change_matches file workers n before r₀ base M r m w c _ 0 cells _ r.seats r.frames (done_change outcome count cells size);
        })

    -- The lent run's view, local state and cells are those of the machine.
    view_same : (call : Call) → call_of (drop (r₀.head.first_call + call_record_bytes * c + head_bytes) file) ≡ Some call
        → view_of file r c call ≡ run_view file r₀ c
    unfolding body_call
    view_same call body =
        λ i. record {
          block = file;
          call = sym (ap body_call body) i;
          start = plan_word (m.plan i) c 0;
          code = plan_word (m.plan i) c 1;
          count = call_key_count (m.plan i) c;
          entries = own_entries (m.plan i) c;
          keys = m.keys i;
        }

    old : saved_in r.frames w (call_key_count r.plan c) ≡ k.kept
    old = ap (λ (plan : List ℕ). saved_in r.frames w (call_key_count plan c)) m.plan ∙ k.own.old

    local_same : local_of r w c ≡ place_with_saved k.local k.kept
    local_same = λ i. record { place = k.own.place i; count = k.own.count i; regs = k.own.regs i; saved = old i }

    -- The tests of a held call.
    held_steps : step_held file r w c ≡ stepped r w c result
    unfolding step_held step_record
    held_steps =
        let body = base.body c k.call in
        let code : plan_word r.plan c 1 ≡ plan_word r₀.plan c 1 = ap (λ (plan : List ℕ). plan_word plan c 1) m.plan in
        let few : plan_word r₀.plan c 1 ≤ max_code + 1 = k.own.range.code in
        let place : place_in r.seats w ≡ k.local.place = k.own.place in
        let within : k.local.place ≤ plan_word r₀.plan c 1 = k.own.range.within in
        let first : r.head.first_call ≡ r₀.head.first_call = m.first in
        if_false _ _ (in_code (plan_word r.plan c 1) (place_in r.seats w) (omega arith) (omega arith))
        ∙ ap (step_record file r w c) (ap (λ (s : ℕ). call_of (drop (s + call_record_bytes * c + head_bytes) file)) first ∙ body.1)
        ∙ (λ i. stepped r w c (step_call (view_same body.0 body.1 i) (local_same i) (m.cells i)))

    steps : (result ≡ damaged → ⊥) → Follows file workers n before r₀ M after 0 (step_held file r w c)
    steps whole =
        subst⁻¹ (Follows file workers n before r₀ M after 0) held_steps
        (subst⁻¹ (λ (a : Machine (calls_in file n before r₀)). Follows file workers n before r₀ M a 0 (stepped r w c result)) machine_steps
        (stepped_matches whole result refl (step_lowers (run_view file r₀ c) (place_with_saved k.local k.kept) M.cells k.own.range)
        (step_keeps (run_view file r₀ c) (place_with_saved k.local k.kept) M.cells).room))

  pub step_follows : StepWhole file n before r₀ M w → Follows file workers n before r₀ M (step_worker (calls_in file n before r₀) M w (M.seat w))
      (refusal workers n before (λ i. is_ready (M.call i)) (λ i. is_ended (M.call i)) M.seat (Step w)) (step_of file r w)
  unfolding refusal step_for
  step_follows whole =
      held_follows file workers n before r₀ base M r m w (step_worker (calls_in file n before r₀) M w (M.seat w)) (step_for file r w) (λ a. refl)
      (λ c e. let k : HoldsRunning file workers n before r₀ M r w c = m.holds w c e in steps c e k (whole c k.local k.kept e k.runs))
