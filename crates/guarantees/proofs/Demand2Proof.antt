-- Demand 2 holds: each sentence from the rule for one call, the safe sets, the serial run and what an opening leaves.
use Rattle.std.specs.Prelude.{None, Some, slice_get}
use Rattle.std.proofs.lemmas.Option.{none-some}
use Rattle.std.proofs.lemmas.Option.{same_Some}
use mathlib.Core.Path.{◌≡◌, refl, sym, ap, ap₂, subst, subst⁻¹, ◌∙◌}
use mathlib.Core.Bool.{true, false}
use mathlib.Core.List.{List, [], ◌∷◌}
use Prim.Native.Nat.{ℕ, zero, suc, ◌+◌, ◌*◌, ◌<◌}
use native.Mathlib.Omega.{arith}
use lib.IntN.{ℤ, pos}
use lib.ListN.{length, drop}
use Rattle.block.specs.Record.{Function, Block, call_of, call_record_bytes, head_bytes}
use Rattle.block.proofs.ReaderLaws.{FunctionSound}
use Rattle.block.specs.declared.Call.{Call}
use Rattle.schedule.specs.Calls as calls
use Rattle.schedule.specs.Calls.{CallCourse}
use Rattle.schedule.specs.Machine.{Machine, ended}
use Rattle.footprint.specs.Access.{Access}
use Rattle.footprint.proofs.SetAccessLaws.{drop_bytes}
use Rattle.block.specs.Encoding.{AreBytes}
use Rattle.footprint.specs.Conflict.{member}
use Rattle.rule.specs.Rule.{State, Left, state_within_limit, steps_for, transaction, transactions}
use Rattle.footprint.proofs.RuleLimit.{read_call_bounded, limit_kept}
use Rattle.footprint.specs.SafeSets.{CallBounded, Safe}
use Rattle.footprint.proofs.SafeSetsProof.{safe_sets}
use Rattle.footprint.specs.Sets.{sets_of, read_set, write_set}
use Rattle.footprint.specs.KeyWords.{keys_in, RisingKeys}
use Rattle.block.specs.BlockOfFile.{block_of, call_count, opening_keys}
use Rattle.footprint.specs.BlockSets.{sets_at}
use Rattle.footprint.specs.Listed.{AllListed}
use Rattle.footprint.proofs.TableWordLaws.{keys_padded}
use Rattle.machine.specs.Run.{Run, Sizes, state_of, status_word, finished}
use Rattle.machine.specs.declared.Head.{Head}
use Rattle.machine.proofs.CallRule.{CallCompletes, call_rule}
use Rattle.machine.proofs.CodeLaws.{instr_of}
use Rattle.machine.specs.CallInRun.{InstrOf, Hold, steps_taken, LeavesAsRule}
use Rattle.machine.specs.Serial.{step_limit}
use Rattle.machine.specs.Step.{View, cell_at}
use Rattle.guarantees.proofs.CallsOfRun.ViewCalls.{Place, Receipt, receipt, run_view}
use Rattle.guarantees.proofs.FollowingMachine.RunMatches.{CallState, StatusSays}
use Rattle.guarantees.proofs.AcceptedOpening.OpenedCalls.{CallOpened}
use Rattle.guarantees.proofs.AcceptedOpening.AfterOpening.{AfterOpening, after_opening}
use Rattle.guarantees.specs.BlockTally.{is_before, steps_in}
use Rattle.guarantees.proofs.FollowingMachine.OpenedRuns.{opened_calls}
use Rattle.guarantees.specs.Agreement.{opened_in, may_write, serial_run_of_file}
use Rattle.guarantees.proofs.SerialAndRule.SerialRule.{found_in_lem, listed_in, rule_state, rule_left, left_listed, state_last, serial_follows}
use Rattle.guarantees.proofs.SerialAndRule.ChosenRun.{ChosenFinished, ran, ran_is}
use Rattle.guarantees.proofs.SerialAndRule.SerialRunOfFile.{opened_laws, opened_good, serially_matches, steps_are}
use Rattle.guarantees.proofs.RunAndTally.WriteSets.{may_write_lem}
use Rattle.guarantees.proofs.SerialAndRule.BySizes.{steps_by_sizes}
use Rattle.guarantees.proofs.RunAndTally.MovesAndTally.{StepsBySizes}
use Rattle.guarantees.proofs.SerialAndRule.RegisterLaws.{read_listed, write_listed, off_table, opening_elsewhere, lefts_keep, steps_keep, held_alike, cells_alike}
use Rattle.guarantees.specs.Demand2.{table_in, rule_for, opening_state, rule_lefts, closing_state, call_view, begun_call, whole_call, cells_after, Register, may_read, LeavesAlike, Receives, Demand2, Demand2Holds}
use Rattle.guarantees.specs.RuleRun.{body_call, call_of_block}

-- A call that ended with a receipt stands so.
receipt_stands : (status : List ℕ) (c : ℕ) (a : CallState) (r : Receipt) (outcome count : ℕ) → a ≡ ended r → r ≡ receipt outcome count
    → StatusSays status c a → StatusSays status c (ended (receipt outcome count))
receipt_stands status c a r outcome count over is = subst (StatusSays status c) (over ∙ ap ended is)

-- One end has one receipt.
same_receipt : (q : CallCourse Place Receipt) (r r' : Receipt) → q ≡ calls.done r → q ≡ calls.done r' → r ≡ r'
same_receipt q r r' e e' = cc

-- A place of a list that has an element is within it.
pub found_below : {A : Type 0} (l : List A) (i : ℕ) (x : A) → slice_get l i ≡ Some x → i < length l
found_below [] i x e = absurd (none-some x e)
found_below (y ∷ l) zero x e = omega arith
found_below (y ∷ l) (suc i) x e = let h : i < length l = found_below l i x e in omega arith

-- There is one for each call.
lefts_length : (file : List ℕ) (functions : List Function) (calls : List Call) (σ : State) → length (transactions file functions calls σ) ≡ length calls
unfolding transactions
lefts_length file functions [] σ = refl
lefts_length file functions (c ∷ cs) σ = ap suc (lefts_length file functions cs (transaction file functions c σ).state)

listed_below : (file : List ℕ) (functions : List Function) (calls : List Call) (σ : State) (c : ℕ) (l : Left)
    → slice_get (transactions file functions calls σ) c ≡ Some l → c < length calls
listed_below file functions calls σ c l e =
    let h : c < length (transactions file functions calls σ) = found_below (transactions file functions calls σ) c l e in
    omega (arith, lefts_length file functions calls σ)

module _ (s : Sizes) (file : List ℕ) (workers : ℕ) (bytes : AreBytes file) (after : AfterOpening s file workers) where
  abbrev r₀ : Run
  r₀ = opened_in s file workers

  abbrev b : Block
  b = block_of file

  -- ---- the table

  -- The keys in the opened run's buffer are the table of its block, which rises.
  pub table_is : table_in (opened_in s file workers) ≡ after.table
  table_is = ap₂ keys_in (ap (λ (h : Head). h.cells) after.opened.head) after.opened.keys ∙ keys_padded s.keys after.table

  rising : RisingKeys (table_in r₀)
  rising = subst⁻¹ RisingKeys table_is after.opened.rising

  -- ---- one call

  module _ (c : ℕ) (less : c < length b.calls) where
    abbrev x : Call
    x = call_of_block file c

    abbrev es : List Access
    es = sets_at file c

    -- What the opening has of it: its record, words and view; its ranges; and its sets, safe and with every key that it reads in the table.
    pub opened : CallOpened file b after.table s.keys r₀ c x
    opened =
        let o = after.opened.calls c less in
        subst⁻¹ (CallOpened file b after.table s.keys r₀ c) (found_in_lem b.calls c (body_call None) o.0 o.1.at) o.1

    -- Its record, as a step reads it.
    pub record_is : (run_view file r₀ c).call ≡ x
    unfolding body_call
    record_is =
        ap (λ (h : Head). body_call (call_of (drop (h.first_call + call_record_bytes * c + head_bytes) file))) after.opened.head
        ∙ ap body_call opened.body

    abbrev record_bytes_lem : List ℕ
    record_bytes_lem = drop (b.first_call + call_record_bytes * c + head_bytes) file

    pub fits : CallBounded x
    fits = read_call_bounded record_bytes_lem (drop_bytes (b.first_call + call_record_bytes * c + head_bytes) file bytes) x opened.body

    safe : Safe (read_set es) (write_set es) (rule_for file c)
    safe =
        subst⁻¹ (λ (l : List Access). Safe (read_set l) (write_set l) (rule_for file c)) opened.own (safe_sets file b.functions x fits)

    all_listed : AllListed (table_in r₀) es
    all_listed = subst⁻¹ (λ (t : List ℕ). AllListed t es) table_is (subst⁻¹ (AllListed after.table) opened.own opened.listed)

    -- It leaves what the rule gives, in as many steps, and keeps the limit.
    made_completes : (σ : State) → state_within_limit σ ≡ true → (cells : List ℤ) → Hold after.table σ cells
        → CallCompletes after.table (rule_for file c σ) (call_view s file workers c) cells
    made_completes σ within cells hold =
        subst⁻¹ (λ (v : View). CallCompletes after.table (rule_for file c σ) v cells) opened.view
        (call_rule file bytes b.functions after.whole.laws.codes x fits opened.fuel after.table after.opened.few_keys (listed_in after.table (sets_of file b.functions x) opened.listed) opened.few s.keys σ within cells hold)

    completes : (σ : State) → state_within_limit σ ≡ true → (cells : List ℤ) → Hold (table_in r₀) σ cells
        → CallCompletes (table_in r₀) (rule_for file c σ) (call_view s file workers c) cells
    completes σ within cells hold =
        subst⁻¹ (λ (t : List ℕ). CallCompletes t (rule_for file c σ) (call_view s file workers c) cells) table_is
        (made_completes σ within cells (subst (λ (t : List ℕ). Hold t σ cells) table_is hold))

    leaves : (σ : State) → state_within_limit σ ≡ true → (cells : List ℤ) → Hold (table_in r₀) σ cells
        → LeavesAsRule (table_in r₀) (rule_for file c σ) (whole_call s file workers c cells)
    leaves σ within cells hold = (completes σ within cells hold).leaves

    leaves_steps : (σ : State) → state_within_limit σ ≡ true → (cells : List ℤ) → Hold (table_in r₀) σ cells
        → steps_taken (step_limit (call_of_block file c).fuel) (call_view s file workers c) (begun_call s file workers c cells) ≡ steps_for (rule_for file c σ)
    leaves_steps σ within cells hold = (completes σ within cells hold).steps

    keeps_limit : (σ : State) → state_within_limit σ ≡ true → state_within_limit (rule_for file c σ).state ≡ true
    keeps_limit σ within = limit_kept x fits file bytes b.functions σ within

    -- A key that is not in the table is in no write set.
    keeps_elsewhere : (k : ℕ) → member k (table_in r₀) ≡ false → (σ : State) → (rule_for file c σ).state k ≡ σ k
    keeps_elsewhere k out σ = safe.frame σ k (off_table (write_set es) (table_in r₀) k (write_listed (table_in r₀) es all_listed k) out)

    -- "A call changes no cell outside its write set"
    framed : (cells : List ℤ) (k i : ℕ) → i < r₀.head.cells → may_write file r₀ c i ≡ false
        → cell_at (cells_after k (call_view s file workers c) cells (begun_call s file workers c cells)) i ≡ cell_at cells i
    framed cells k i inside out =
        (steps_keep (call_view s file workers c) cells k cells (begun_call s file workers c cells) (record { room = refl; frame = λ j o. refl })
        (record { room = refl; frame = λ j o. refl })).frame i (sym (may_write_lem s file workers after c less i inside) ∙ out)

    -- ".. and its course depends on no other cell than those it reads"
    stay_alike : (cells cells' : List ℤ) → Register s file workers cells → Register s file workers cells'
        → ((i : ℕ) → i < r₀.head.cells → may_read file r₀ c i ≡ true → cell_at cells i ≡ cell_at cells' i)
        → LeavesAlike r₀.head.cells cells cells' (whole_call s file workers c cells) (whole_call s file workers c cells')
    stay_alike cells cells' reg reg' same =
        cells_alike r₀.head.cells r₀.keys rising reg.state reg'.state (rule_for file c reg.state) (rule_for file c reg'.state)
        (safe.same reg.state reg'.state reg.limit reg'.limit
        (held_alike r₀.head.cells r₀.keys rising (read_set es) (read_listed (table_in r₀) es all_listed) reg.state reg'.state cells cells' reg.hold reg'.hold same))
        cells cells' reg.hold reg'.hold (whole_call s file workers c cells) (whole_call s file workers c cells')
        (leaves reg.state reg.limit cells reg.hold) (leaves reg'.state reg'.limit cells' reg'.hold)

  -- ---- the serial run

  -- The machine when every call has run.
  abbrev end : Machine (opened_calls s file workers)
  end = ran (opened_calls s file workers) r₀.cells (λ i. true) (call_count file)

  -- The receipt of each call, and the cells behind the last.
  pub serial_receipt : (c : ℕ) → c < call_count file
      → (state_of (serial_run_of_file s file workers).status c ≡ finished)
      × (status_word (serial_run_of_file s file workers).status c 1 ≡ (rule_left file (block_of file) c).outcome)
      × (status_word (serial_run_of_file s file workers).status c 2 ≡ (rule_left file (block_of file) c).count)
  serial_receipt c less =
      let f : ChosenFinished (opened_calls s file workers) r₀.cells (λ i. true) c (end.call c) =
      (ran_is (opened_calls s file workers) (opened_laws s file workers bytes after) r₀.cells (opened_good s file workers bytes after) (λ i. true)
      (λ i j l h e t. refl) (call_count file) (omega arith)).finished c less refl in
      let is : f.receipt ≡ receipt (rule_left file b c).outcome (rule_left file b c).count =
      same_receipt _ f.receipt _ f.alone_too ((serial_follows s file bytes workers after (is_before file)).course c less) in
      receipt_stands (serial_run_of_file s file workers).status c (end.call c) f.receipt (rule_left file b c).outcome (rule_left file b c).count
      f.over is ((serially_matches s file workers bytes after).calls c less)

  pub serial_cells_lem : Hold after.table (rule_state file (block_of file) (call_count file)) (serial_run_of_file s file workers).cells
  unfolding ran
  serial_cells_lem =
      subst⁻¹ (Hold after.table (rule_state file b (call_count file))) (serially_matches s file workers bytes after).cells
      ((serial_follows s file bytes workers after (is_before file)).hold (call_count file) (omega arith))

  closing_cells : Hold (table_in r₀) (closing_state file) (serial_run_of_file s file workers).cells
  closing_cells =
      subst⁻¹ (λ (t : List ℕ). Hold t (closing_state file) (serial_run_of_file s file workers).cells) table_is
      (subst (λ (σ : State). Hold after.table σ (serial_run_of_file s file workers).cells) (state_last file b.functions b.calls (opening_state file)) serial_cells_lem)

  -- What the fold of the rule lists of call c.
  listed_left : (c : ℕ) → c < call_count file → slice_get (rule_lefts file) c ≡ Some (rule_left file b c)
  listed_left = left_listed file b.functions b.calls (opening_state file)

  receives : (c : ℕ) → c < call_count file → Receives s file workers c
  receives c less =
      let q = serial_receipt c less in
      record { left = rule_left file b c; listed = listed_left c less; ended = q.0; outcome = q.1; count = q.2 }

  -- The tally's number of steps, by the rule.
  tallied_steps : StepsBySizes s file workers → (c : ℕ) (l : Left) → slice_get (rule_lefts file) c ≡ Some l → steps_in file workers c ≡ steps_for l
  tallied_steps sized c l e =
      let less : c < call_count file = listed_below file b.functions b.calls (opening_state file) c l e in
      let same : rule_left file b c ≡ l = same_Some (rule_left file b c) l (sym (listed_left c less) ∙ e) in
      sym (sized c less) ∙ steps_are s file workers bytes after c less
      ∙ (serial_follows s file bytes workers after (is_before file)).steps c less ∙ ap steps_for same

  -- The keys elsewhere.
  block_elsewhere : (k : ℕ) → member k (table_in r₀) ≡ false → (opening_state file k ≡ pos 0) × (closing_state file k ≡ pos 0)
  block_elsewhere k out =
      let opens : opening_state file k ≡ pos 0 = opening_elsewhere b.cells k (off_table (opening_keys b) (table_in r₀) k (opening_listed_lem k) out) in
      (opens, lefts_keep file b.functions (λ (σ : State). σ k ≡ pos 0) b.calls each (opening_state file) opens)
    where
      opening_listed_lem : (j : ℕ) → member j (opening_keys b) ≡ true → member j (table_in r₀) ≡ true
      opening_listed_lem =
          subst⁻¹ (λ (t : List ℕ). (j : ℕ) → member j (opening_keys b) ≡ true → member j t ≡ true) table_is after.opened.opening_listed

      each : (i : ℕ) (c : Call) → slice_get b.calls i ≡ Some c → (σ : State) → σ k ≡ pos 0 → (transaction file b.functions c σ).state k ≡ pos 0
      each i c e σ none' =
          let less : i < call_count file = found_below b.calls i c e in
          subst (λ (y : Call). (transaction file b.functions y σ).state k ≡ pos 0) (found_in_lem b.calls i (body_call None) c e)
          (keeps_elsewhere i less k out σ ∙ none')

  bodies : (i : ℕ) (f : Function) → slice_get b.functions i ≡ Some f → (p : ℕ) → p < f.size → InstrOf file f p
  bodies i f e p inside =
      instr_of file f
      (subst (FunctionSound file) (found_in_lem b.functions i f f e) (after.whole.laws.codes i f (found_below b.functions i f e))) p inside

  holds : StepsBySizes s file workers → Demand2 s file workers
  holds sized =
      record {
        call = leaves;
        call_steps = leaves_steps;
        limit = keeps_limit;
        bodies = bodies;
        receipts = receives;
        cells = closing_cells;
        call_elsewhere = keeps_elsewhere;
        elsewhere = block_elsewhere;
        steps = tallied_steps sized;
        frame = framed;
        alike = stay_alike;
        waits = after.opened.waits;
      }

-- ---- the demand

pub demand_2 : Demand2Holds
demand_2 s file workers bytes answer =
    holds s file workers bytes (after_opening s file workers bytes answer) (steps_by_sizes s file workers bytes answer)
