-- The closing sheet after an opening and moves: no test of 20 fails, so it is refused by 27 while a call is unfinished, and of the serial run it is
-- written, or refused by 28 where the output is too short.
use mathlib.Core.Path.{◌≡◌, sym, ap, subst, subst⁻¹, ◌∙◌}
use mathlib.Core.Bool.{true, false, true≢false}
use mathlib.Core.List.{List}
use Prim.Native.Nat.{ℕ, ◌-◌, ◌/◌, ◌%◌, ◌^◌, ◌≤◌, ◌<◌}
use native.Mathlib.Omega.{arith}
use borrow.Author.Tests.{eq-eqb}
use lib.IntN.{ℤ}
use lib.ListN.{length, get_or}
use lib.Signed.{non_neg}
use Rattle.wire.specs.Bytes.{repeated, padded}
use Rattle.block.specs.Key.{is_balance}
use Rattle.block.specs.Limits.{max_calls, max_keys}
use Rattle.block.specs.Record.{Block}
use Rattle.schedule.specs.Tally as tally
use Rattle.schedule.specs.Tally.{Phase, is_finished}
use Rattle.schedule.specs.Machine.{Machine}
use Rattle.block.specs.Encoding.{AreBytes}
use Rattle.footprint.specs.Conflict.{member}
use Rattle.footprint.specs.Plan.{high_word, table_words}
use Rattle.rule.specs.Rule.{State, state_within_limit, Left}
use Rattle.footprint.specs.KeyWords.{RisingKeys}
use Rattle.block.specs.BlockOfFile.{block_of, call_count}
use Rattle.footprint.proofs.TableLaws.{member_at, cell_at_lem}
use Rattle.machine.specs.Run.{Run, Sizes, sizes_of, large_enough, status_word, state_of, finished}
use Rattle.block.specs.Outcomes.{last_outcome, max_count}
use Rattle.machine.specs.CallInRun.{Hold}
use Rattle.machine.specs.Step.{cell_at}
use Rattle.machine.proofs.StepLaws.{ReceiptBounded}
use Rattle.machine.specs.declared.Answer.TheVariants.{CallUnfinished}
use Rattle.machine.specs.declared.Head.{Head}
use Rattle.sheet.specs.Sheet.{key_high, field_of, sheet_records, unwritten, written, sheet_of}
use Rattle.guarantees.specs.Agreement.{state_number, serial_run_of_file}
use Rattle.guarantees.proofs.AcceptedOpening.AfterOpening.{AfterOpening}
use Rattle.guarantees.specs.Demand1.{Large}
use Rattle.guarantees.proofs.AcceptedOpening.OpeningPassed.{large_sizes}
use Rattle.guarantees.proofs.NumbersByCondition.SheetNumbers.{sheet_unfinished, sheet_written}
use Rattle.guarantees.proofs.SerialAndRule.ChosenRun.{ran}
use Rattle.guarantees.proofs.Demand2Proof.{serial_receipt, serial_cells_lem}
use Rattle.guarantees.proofs.TheNextDay.KeyFits.{KeyFits, HoldsOfAll, table_fits}
use Rattle.guarantees.proofs.TheNextDay.NextCells.{balance_above}
use Rattle.guarantees.proofs.TheNextDay.NextDay.{words_at_lem}
use Rattle.guarantees.proofs.FollowingMachine.OpenedRuns.{opened_run, opened_calls, OpenedMatches, tidy, base}
use Rattle.guarantees.proofs.CallsOfRun.ViewCalls.{run_view}
use Rattle.guarantees.proofs.CallsOfRun.ViewEnds.{WithinBound, whole_within}
use Rattle.guarantees.proofs.SerialAndRule.SerialRule.{rule_state, rule_left, serial_cells, serial_follows}
use Rattle.guarantees.proofs.SerialAndRule.SerialRunOfFile.{serially_matches}
use Rattle.guarantees.specs.BlockTally.{is_before}

-- ---- balances

-- Cells that hold a state within the limit, at the keys of a rising table, have no balance below zero.
balances_above : (table : List ℕ) (σ : State) (room : ℕ) (cells : List ℤ) → RisingKeys table → HoldsOfAll KeyFits table → Hold table σ cells
    → state_within_limit σ ≡ true → (x : ℕ) → x < length table → field_of (padded room 0 (table_words table)) x ≡ 0 → non_neg (cell_at cells x) ≡ true
balances_above table σ room cells rising fit hold within x l e =
    let k : ℕ = get_or table x 0 in
    let known : member k table ≡ true = member_at table x l in
    let high : key_high (padded room 0 (table_words table)) x ≡ high_word k = (words_at_lem table (repeated (room - length (table_words table)) 0) x l).0 in
    let field : k / 2 ^ 32 / 2 ^ 32 % 2 ^ 16 ≡ k / 2 ^ 64 % 2 ^ 16 = omega arith in
    let own : is_balance k ≡ true = eq-eqb _ 0 (sym field ∙ ap (λ (h : ℕ). h / 2 ^ 32 % 2 ^ 16) (sym high) ∙ e) in
    let value : cell_at cells x ≡ σ k = ap (cell_at cells) (sym (cell_at_lem table x rising l)) ∙ hold.same k known in
    rw value (balance_above σ within k (fit k known) own)

-- ---- the state of a phase

-- It is one of the three, and the third only of a finished call.
state_allowed : (p : Phase) → state_number p ≤ finished
state_allowed tally.waiting = omega arith
state_allowed (tally.running k) = omega arith
state_allowed tally.finished = omega arith

state_unfinished : (p : Phase) → is_finished p ≡ false → ¬ (state_number p ≡ finished)
state_unfinished tally.waiting u e = omega arith
state_unfinished (tally.running k) u e = omega arith
state_unfinished tally.finished u e = true≢false u

-- ---- after an opening and moves

-- A run that stands for a state of the machine has the opening's sizes, numbers and keys.
module _ (s : Sizes) (file : List ℕ) (workers : ℕ) (after : AfterOpening s file workers) (M : Machine (opened_calls s file workers)) (r : Run)
    (stands : OpenedMatches s file workers M r) where
  large : Large (sizes_of r)
  large = large_sizes (sizes_of r) (ap large_enough stands.sizes ∙ (base s file workers after).large)

  pub few_calls_lem : r.head.calls ≤ max_calls
  few_calls_lem = subst⁻¹ (λ (n : ℕ). n ≤ max_calls) stands.call_count after.opened.few_calls

  cell_count_lem : r.head.cells ≡ length after.table
  cell_count_lem = stands.cell_count ∙ ap (λ (h : Head). h.cells) after.opened.head

  pub few_cells : r.head.cells ≤ max_keys
  few_cells = subst⁻¹ (λ (n : ℕ). n ≤ max_keys) cell_count_lem after.opened.few_keys

  ours : (c : ℕ) → c < r.head.calls → c < call_count file
  ours c l = let z : r.head.calls ≡ call_count file = stands.call_count in omega arith

  -- "27 sheet wanted with a call unfinished": the run's states are those of the calls' phases, and one of these is not finished.
  pub unfinished_refused : (phase : ℕ → Phase) → ((c : ℕ) → c < call_count file → state_of r.status c ≡ state_number (phase c))
      → (c : ℕ) → c < call_count file → is_finished (phase c) ≡ false → (output : List ℕ) → sheet_of r output ≡ unwritten output CallUnfinished
  unfinished_refused phase states c l u output =
      let known : c < r.head.calls = let z : r.head.calls ≡ call_count file = stands.call_count in omega arith in
      sheet_unfinished r output
      (record {
        large = large;
        calls = few_calls_lem;
        states = λ i h. subst⁻¹ (λ (q : ℕ). q ≤ finished) (states i (ours i h)) (state_allowed (phase i));
      })
      (c, known, λ e. state_unfinished (phase c) u (sym (states c l) ∙ e))

  -- The cells hold a state within the limit, and each call has the bounded receipt that a rule leaves.
  all_written : (σ : State) → HoldsOfAll KeyFits after.table → Hold after.table σ r.cells → state_within_limit σ ≡ true
      → (left : ℕ → Left) → ((c : ℕ) → c < call_count file → ReceiptBounded (left c).outcome (left c).count)
      → ((c : ℕ) → c < call_count file
      → (state_of r.status c ≡ finished) × (status_word r.status c 1 ≡ (left c).outcome) × (status_word r.status c 2 ≡ (left c).count))
      → (output : List ℕ) → sheet_of r output ≡ written output (sheet_records r)
  all_written σ fit hold within left bounded receipts output =
      sheet_written r output
      (record {
        so_far = record { large = large; calls = few_calls_lem; states = λ c l. omega (arith, (receipts c (ours c l)).0) };
        finished = λ c l. (receipts c (ours c l)).0;
        cells = few_cells;
        balances = λ x l e.
            balances_above after.table σ s.keys r.cells after.opened.rising fit hold within x (subst (λ (n : ℕ). x < n) cell_count_lem l)
            (subst (λ (keys : List ℕ). field_of keys x ≡ 0) (stands.keys ∙ after.opened.keys) e);
      })
      (λ c l.
      let q = receipts c (ours c l) in
      let b = bounded c (ours c l) in
      (subst⁻¹ (λ (o : ℕ). o ≤ last_outcome) q.1 b.0, subst⁻¹ (λ (n : ℕ). n ≤ max_count) q.2 b.1))

-- Of the serial run, by the rule that it follows.
pub serial_written : (s : Sizes) (file : List ℕ) (workers : ℕ) → AreBytes file → AfterOpening s file workers
    → (output : List ℕ) → sheet_of (serial_run_of_file s file workers) output ≡ written output (sheet_records (serial_run_of_file s file workers))
serial_written s file workers bytes after =
    all_written s file workers after (ran (opened_calls s file workers) (opened_run s file workers).cells (λ i. true) (call_count file))
    (serial_run_of_file s file workers) (serially_matches s file workers bytes after) (rule_state file b (call_count file)) (table_fits s file workers bytes after)
    (serial_cells_lem s file workers bytes after)
    ((serial_follows s file bytes workers after (is_before file)).limit (call_count file) (omega arith))
    (rule_left file b) bounded (serial_receipt s file workers bytes after)
  where
    b : Block
    b = block_of file

    -- The rule's receipt is that of the call's own run, which is in its range.
    bounded : (c : ℕ) → c < call_count file → ReceiptBounded (rule_left file b c).outcome (rule_left file b c).count
    bounded c l =
        let r₀ : Run = opened_run s file workers in
        subst (WithinBound (run_view file r₀ c) _) ((serial_follows s file bytes workers after (is_before file)).course c l)
        (whole_within (run_view file r₀) (call_count file) (is_before file) c (serial_cells file b r₀ (is_before file) c) (tidy s file workers after c l).code (tidy s file workers after c l).fuel)
