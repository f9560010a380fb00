-- Demand 3 holds: the run behind every list of moves stands for the machine of the theorem on schedules.
use mathlib.Core.Path.{◌≡◌, refl, sym, ap, subst, ◌∙◌}
use mathlib.Core.Bool.{true, false}
use mathlib.Core.List.{List}
use Prim.Native.Nat.{ℕ, ◌≤◌, ◌<◌}
use native.Mathlib.Omega.{arith}
use lib.IntN.{ℤ}
use Rattle.schedule.specs.declared.Move.{Move}
use Rattle.schedule.specs.Tally.{Phase, waiting, running, finished, Tally, is_finished, unfinished_earlier, has_begun}
use Rattle.schedule.specs.Calls as calls
use Rattle.schedule.specs.Calls.{Calls, done, Laws}
use Rattle.schedule.specs.Machine.{ended, is_ended, activity, Machine}
use Rattle.schedule.proofs.RunLaws.{wr_touches}
use Rattle.schedule.proofs.Expected.{ClosedUnderEarlier}
use Rattle.schedule.proofs.Valid.{Valid}
use Rattle.schedule.proofs.Simulation.{agrees_shape}
use Rattle.schedule.proofs.CountLaws.{count_same}
use Rattle.schedule.specs.Confluent.{Confluent}
use Rattle.block.specs.Encoding.{AreBytes}
use Rattle.machine.specs.Run.{Run, Sizes, held_at, state_of, status_word, outcome_word, count_word, wait_count}
use Rattle.machine.specs.Waits.{named_in, finished_in, counted_waits}
use Rattle.machine.specs.Step.{cell_at}
use Rattle.machine.specs.Moves.{move_of}
use Rattle.machine.specs.Serial.{serial_run_of}
use Rattle.guarantees.specs.BlockTally.{steps_in, tally_after, is_before}
use Rattle.guarantees.specs.Agreement.{state_number, seat_number, run_after_moves, steps_since, may_write, serial_run_of_file, finished_alone, serial_point_after, SameSheet}
use Rattle.guarantees.specs.Demand3.{SameReceipt, AtSerialPoint, Forwards, Closes, Demand3, Demand3Holds}
use Rattle.guarantees.proofs.FollowingMachine.RunMatches as matching
use Rattle.guarantees.proofs.AcceptedOpening.AfterOpening.{AfterOpening, after_opening}
use Rattle.guarantees.proofs.FollowingMachine.OpenedRuns.{opened_run, opened_calls, OpenedMatches, base}
use Rattle.guarantees.proofs.FollowingMachine.Follows.{call_read, row_read}
use Rattle.guarantees.proofs.FollowingMachine.BeginByRow.{begin_by_row_lem}
use Rattle.guarantees.proofs.FollowingMachine.MoveMatches.{move_matches}
use Rattle.guarantees.proofs.SerialAndRule.ChosenRun.{ran, ran_is, underway, underway_is}
use Rattle.guarantees.proofs.SerialAndRule.SerialRunOfFile.{opened_laws, opened_good, serially_matches, alone_matches, stepped_matches}
use Rattle.guarantees.proofs.RunAndTally.WriteSets.{may_write_lem}
use Rattle.guarantees.proofs.SerialAndRule.BySizes.{steps_by_sizes}
use Rattle.guarantees.proofs.FollowingMachine.MoveLists.{whole_move}
use Rattle.guarantees.proofs.ClosingSheet.SheetLaws.{same_sheet}
use Rattle.guarantees.proofs.ClosingSheet.SheetWritten.{unfinished_refused, serial_written}
use Rattle.guarantees.proofs.RunAndTally.SerialPointLaws.{accepted_number, state_of_phase, same_receipt, same_cells, seat_holds, local_is}
use Rattle.guarantees.proofs.RunAndTally.MovesAndTally.{StepsBySizes, the_tally, the_machine, confluent, agreed, finished_closed, behind_matches, no_twenty, steps_in_lem, tally_is, answers_are, since_is}
use Rattle.block.specs.BlockOfFile.{call_count}
use Rattle.block.specs.declared.Call.{Call}
use Rattle.guarantees.specs.RuleRun.{call_of_block}
use Rattle.guarantees.proofs.CallsOfRun.ViewCalls.{run_view}
use Rattle.guarantees.proofs.Demand2Proof.{record_is}

module _ (s : Sizes) (file : List ℕ) (workers : ℕ) (bytes : AreBytes file) (after : AfterOpening s file workers)
    (sized : StepsBySizes s file workers) (ms : List Move) where
  abbrev n : ℕ
  n = call_count file

  abbrev Y : Calls
  Y = opened_calls s file workers

  abbrev r₀ : Run
  r₀ = opened_run s file workers

  abbrev s₀ : List ℤ
  s₀ = r₀.cells

  -- The run behind the moves, and the machine's state that it stands for.
  abbrev r : Run
  r = run_after_moves s file workers ms

  abbrev T : Tally
  T = the_tally s file workers bytes after sized ms

  abbrev M : Machine Y
  M = the_machine s file workers bytes after sized ms

  abbrev laws : Laws Y
  laws = opened_laws s file workers bytes after

  abbrev good : Y.Good s₀
  good = opened_good s file workers bytes after

  conf : Confluent Y workers s₀ ms
  conf = confluent s file workers bytes after sized ms

  valid : Valid workers Y.calls Y.before (calls.steps_in_serial Y s₀) T
  valid = (agreed s file workers bytes after sized ms).valid

  closed : ClosedUnderEarlier Y (λ c. is_finished (T.phase c))
  closed = finished_closed s file workers bytes after sized ms

  stands : OpenedMatches s file workers M r
  stands = behind_matches s file workers bytes after sized ms

  start : matching.Base file workers n (is_before file) r₀
  start = base s file workers after

  -- The serial run, and the state that it stands for.
  abbrev serial_machine : Machine Y
  serial_machine = ran Y s₀ (λ i. true) n

  stands_serially : OpenedMatches s file workers serial_machine (serial_run_of_file s file workers)
  stands_serially = serially_matches s file workers bytes after

  -- The phases of calls are those of the tally.
  tallied : tally_after file workers ms ≡ T
  tallied = tally_is s file workers bytes after sized ms

  phase_is : (c : ℕ) → (tally_after file workers ms).phase c ≡ T.phase c
  phase_is c = ap (λ (t : Tally). t.phase c) tallied

  phased : (c : ℕ) (p : Phase) → (tally_after file workers ms).phase c ≡ p → T.phase c ≡ p
  phased c p e = sym (phase_is c) ∙ e

  states : (c : ℕ) → c < n → state_of r.status c ≡ state_number ((tally_after file workers ms).phase c)
  states c l =
      state_of_phase r.status c (M.call c) (T.phase c) (stands.calls c l) (conf.same_states c)
      ∙ ap state_number (sym (phase_is c))

  seats : (w : ℕ) → w < workers → held_at r.head w ≡ seat_number ((tally_after file workers ms).seat w)
  seats w l =
      seat_holds file workers n (is_before file) r₀ M r stands w l
      ∙ ap seat_number (conf.same_seats w)
      ∙ sym (ap (λ (t : Tally). seat_number (t.seat w)) tallied)

  -- ---- the numbers that calls carry

  ended_is : (c : ℕ) → is_ended (M.call c) ≡ is_finished ((tally_after file workers ms).phase c)
  ended_is c =
      let a = agreed s file workers bytes after sized ms in
      ap is_ended (a.stands c) ∙ (agrees_shape Y laws workers s₀ good T M a c).ends ∙ ap is_finished (sym (phase_is c))

  -- A waiting call has not ended, so the status has no receipt of it.
  waits_again : (c : ℕ) → c < n → (tally_after file workers ms).phase c ≡ waiting
      → (status_word r.status c outcome_word ≡ 0) × (status_word r.status c count_word ≡ 0)
  waits_again c l e = matching.no_receipt r.status c (M.call c) (stands.calls c l) (ended_is c ∙ ap is_finished e)

  counts : (c : ℕ) → c < n → wait_count r.status c ≡ unfinished_earlier (is_before file) (λ i. is_finished ((tally_after file workers ms).phase i)) c c
  counts c l = stands.waits c l ∙ count_same (is_before file) _ c (is_before file) _ c (λ i less. refl) (λ i less. ended_is i)

  -- The row has the earlier conflicting calls, and the states say which are finished.
  counted : (c : ℕ) → c < n → wait_count r.status c ≡ counted_waits r.plan r.status c
  counted c l =
      stands.waits c l
      ∙ sym
      (count_same (named_in r.plan) (finished_in r.status) c (is_before file) (λ i. is_ended (M.call i)) c
      (λ i less. row_read file workers n (is_before file) r₀ start M r stands i c less l)
      (λ i less. (call_read file workers n (is_before file) r₀ start M r stands i (omega arith)).ends))

  -- ---- finished calls

  receipts : (c : ℕ) → c < n → T.phase c ≡ finished → SameReceipt r (serial_run_of_file s file workers) c
  receipts c l e =
      let f = conf.finished_calls c e in
      let q =
      (ran_is Y laws s₀ good (λ i. true) (λ i j a b p d. refl)
      n (omega arith)).finished c l refl in
      let same : done f.receipt ≡ done q.receipt = sym f.serially ∙ q.serially in
      let one : q.receipt ≡ f.receipt = cc in
      same_receipt r (serial_run_of_file s file workers) c f.receipt
      (subst (matching.StatusSays r.status c) f.call (stands.calls c l))
      (subst (matching.StatusSays (serial_run_of_file s file workers).status c) (q.over ∙ ap ended one) (stands_serially.calls c l))

  finished_steps : (c : ℕ) → c < n → T.phase c ≡ finished → steps_since file workers ms c ≡ steps_in file workers c
  finished_steps c l e =
      since_is s file workers bytes after sized ms c
      ∙ (conf.finished_calls c e).steps
      ∙ sym (steps_in_lem s file workers bytes after sized ms c l)

  -- ---- cells

  -- The finished calls alone.
  alone_cells : (finished_alone s file workers ms).cells ≡ calls.alone Y (λ c. is_finished (T.phase c)) s₀ n
  alone_cells =
      ap (λ (t : Tally). (serial_run_of (λ c. is_finished (t.phase c)) file r₀).cells) tallied
      ∙ (alone_matches s file workers bytes after (λ c. is_finished (T.phase c)) closed).cells
      ∙ (ran_is Y laws s₀ good (λ c. is_finished (T.phase c))
      closed n (omega arith)).cells

  unwritten_cells : (x : ℕ) → x < r₀.head.cells
      → ((c k : ℕ) → c < call_count file → (tally_after file workers ms).phase c ≡ running k → may_write file r₀ c x ≡ false)
      → cell_at r.cells x ≡ cell_at (finished_alone s file workers ms).cells x
  unwritten_cells x h none =
      ap (λ (cells : List ℤ). cell_at cells x) stands.cells
      ∙ conf.unwritten_cells x (λ c k e. unwritten c k e)
      ∙ ap (λ (cells : List ℤ). cell_at cells x) (sym alone_cells)
    where
      unwritten : (c k : ℕ) → T.phase c ≡ running k → Y.wr c x ≡ false
      unwritten c k e =
          let l : c < n = valid.known c (ap has_begun e) in
          sym (may_write_lem s file workers after c l x h) ∙ none c k l (phase_is c ∙ e)

  -- ---- running calls

  running_call : (c k : ℕ) → c < n → T.phase c ≡ running k → (steps_since file workers ms c ≡ k) × AtSerialPoint s file workers ms c k
  running_call c k l e =
      let m = conf.running_calls c k e in
      let w = valid.worker c k e in
      let short : k ≤ calls.steps_in_serial Y s₀ c = omega (arith, m.short) in
      let u = underway_is Y s₀ (λ i. true) c k in
      let there : OpenedMatches s file workers (underway Y s₀ (λ i. true) c k) (serial_point_after s file workers c k) =
      stepped_matches s file workers bytes after c l k short in (
        since_is s file workers bytes after sized ms c ∙ m.steps,
        record {
          worker = w.0;
          there = valid.there w.0 c w.1;
          held = ap (λ (t : Tally). t.seat w.0) tallied ∙ w.1;
          local =
              local_is file workers n (is_before file) r₀ M r stands w.0 c m.local (Y.save c (calls.serial Y s₀ c))
              (conf.same_seats w.0 ∙ w.1) m.call
              ∙ sym
              (local_is file workers n (is_before file) r₀ (underway Y s₀ (λ i. true) c k) (serial_point_after s file workers c k) there 0 c m.local
              (Y.save c (calls.serial Y s₀ c)) (u.held m.short)
              (u.call ∙ ap (activity (Y.save c (calls.serial Y s₀ c))) m.serially));
          cells = λ x h q.
              ap (λ (cells : List ℤ). cell_at cells x) stands.cells
              ∙ m.cells x (wr_touches Y c x (sym (may_write_lem s file workers after c l x h) ∙ q))
              ∙ ap (λ (cells : List ℤ). cell_at cells x) (sym (there.cells ∙ u.cells));
        },
      )

  -- ---- progress and end

  progress : (c : ℕ) → c < n → is_finished (T.phase c) ≡ false → Forwards s file workers ms
  progress c l u =
      let a = conf.progress after.opened.some_workers c l u in
      record {
        next = a.next;
        forward = a.forward;
        accepted =
            accepted_number (move_of file r a.next).answer
            ((move_matches s file workers after M r a.next stands
            (whole_move s file workers bytes after T M (agreed s file workers bytes after sized ms) a.next)).0
            ∙ a.accepted);
      }

  module _ (all : (c : ℕ) → c < n → T.phase c ≡ finished) where
    close_cells : r.cells ≡ (serial_run_of_file s file workers).cells
    close_cells =
        same_cells r.cells (serial_run_of_file s file workers).cells
        (ap (λ (z : Sizes). z.cells) (stands.sizes ∙ sym stands_serially.sizes))
        (λ x. ap (λ (cells : List ℤ). cell_at cells x) stands.cells
        ∙ (conf.complete all).cells x
        ∙ ap (λ (cells : List ℤ). cell_at cells x)
        (sym
        (stands_serially.cells
        ∙ (ran_is Y laws s₀ good (λ i. true) (λ i j a b p d. refl)
        n (omega arith)).cells)))

    close_sheet : SameSheet r (serial_run_of_file s file workers)
    close_sheet =
        same_sheet r (serial_run_of_file s file workers) (stands.sizes ∙ sym stands_serially.sizes)
        (stands.call_count ∙ sym stands_serially.call_count) (stands.cell_count ∙ sym stands_serially.cell_count)
        (stands.keys ∙ sym stands_serially.keys) close_cells
        (λ c l. let z : r.head.calls ≡ n = stands.call_count in
        let l' : c < n = omega arith in receipts c l' (all c l'))

    closes : Closes s file workers ms
    closes =
        record {
          cells = close_cells;
          receipts = λ c l. receipts c l (all c l);
          sheet = close_sheet;
          written = λ output. close_sheet output ∙ serial_written s file workers bytes after output;
        }

  demand : Demand3 s file workers ms
  demand =
      record {
        answers = answers_are s file workers bytes after sized ms;
        states = λ c l. states c l;
        seats = seats;
        waiting_calls = waits_again;
        counts = counts;
        counted = counted;
        by_row = begin_by_row_lem file workers n (is_before file) r₀ start M r stands;
        never_damaged = no_twenty s file workers bytes after sized ms;
        receipts = λ c l e. receipts c l (phased c finished e);
        steps = λ c l e. finished_steps c l (phased c finished e);
        unwritten_cells = unwritten_cells;
        running_calls = λ c k l e. running_call c k l (phased c (running k) e);
        progress = λ c l u. progress c l (sym (ap is_finished (phase_is c)) ∙ u);
        bound = λ c l.
            let own : (run_view file r₀ c).call.fuel ≡ (call_of_block file c).fuel = ap (λ (d : Call). d.fuel) (record_is s file workers bytes after c l) in
            omega (arith, since_is s file workers bytes after sized ms c, conf.bounded c);
        unfinished = λ c l. unfinished_refused s file workers after M r stands (tally_after file workers ms).phase states c l;
        close = λ all. closes (λ c l. phased c finished (all c l));
      }

-- After every list of moves from an accepted opening, in buffers of any sizes.
pub demand_3 : Demand3Holds
demand_3 s file workers bytes accepted ms =
    demand s file workers bytes (after_opening s file workers bytes accepted) (steps_by_sizes s file workers bytes accepted) ms
