-- A call of a made run, stepped to its end, leaves what the published transaction rule gives: the outcome, the count, and cells that
-- hold the rule's state. "A call's steps are its entry, its counted instructions, and one for reaching the end"; M-104: "at most fuel plus 2".
use mathlib.Core.Path.{◌≡◌, refl, sym, ◌∙◌, subst}
use mathlib.Core.Bool.{Bool, true, false}
use mathlib.Core.List.{List, [], ◌∷◌, map}
use Prim.Native.Nat.{ℕ, zero, suc, ◌+◌, ◌*◌, ◌^◌, ◌≤◌, ◌<◌, suc-le-suc}
use native.Mathlib.Decide.{dec_lt, ℕ_discrete}
use native.Mathlib.Omega.{arith}
use borrow.Author.Tests.{eq-eqb, ne_eqb}
use lib.Dec.{eqb}
use lib.IntN.{ℤ, pos, ◌+ℤ◌, ◌-ℤ◌}
use lib.ListN.{length, get_or, drop}
use lib.Signed.{lt_z}
use Rattle.std.specs.Prelude.{if◌then◌else◌, None, Option, Some, slice_get}
use Rattle.arith.proofs.IntegerLaws.{equal, sum, diff, lt_z_true, lt_z_false, non_neg_true}
use Rattle.wire.specs.Bytes.{padded}
use Rattle.block.specs.Limits.{max_call_keys, max_keys}
use Rattle.block.specs.Outcomes.{out_of_fuel}
use Rattle.block.specs.Instruction.{instr_bytes, decode}
use Rattle.block.proofs.DecodeLaws.{InstrLawful, Decodes}
use Rattle.block.specs.Record.{Function, function_id, call_id, code_at}
use Rattle.block.proofs.ReaderLaws as reader
use Rattle.block.proofs.ReaderLaws.{FunctionSound}
use Rattle.block.specs.declared.Call.{Call}
use Rattle.block.specs.declared.Instr.{Instr}
use Rattle.footprint.specs.Access.{Access, changing, writing, entry_accesses}
use Rattle.footprint.proofs.SetAccessLaws.{drop_bytes, decode_sound, sets_used}
use Rattle.block.specs.Encoding.{AreBytes}
use Rattle.footprint.specs.Sets.{function_sets, sets_of, write_set}
use Rattle.block.specs.Naming.{function_of}
use Rattle.wire.specs.All.{All}
use Rattle.footprint.specs.Plan.{entry_word, code_words, table_words}
use Rattle.rule.specs.Rule.{State, update, credit, debit, state_within_limit, ends, Course, before, over, execute_at, unfuelled, run_body, body_of, settle, Left, steps_for, unbegun, run_function, transaction_by, transaction}
use Rattle.rule.proofs.LimitLaws.{update_same, update_other, balance_key, limit_balance, limit_move}
use Rattle.footprint.specs.SafeSets.{CallBounded}
use Rattle.footprint.proofs.SafeSetsProof.{no_amount}
use Rattle.rule.proofs.TurnLaws.{body_steps, OneMore, turn_one, last_one, body_over}
use Rattle.machine.specs.Run.{zero_registers}
use Rattle.machine.specs.Action.{entry_action}
use Rattle.machine.specs.Step.{View, Local, Stepped, damaged, more, done, saved_of, finish, concluded, perform, perform_action, step_entry, step_place, step_call}
use Rattle.machine.specs.CallInRun.{InstrOf, made_view, begun_local, step_times, steps_taken, Hold, LeavesAsRule}
use Rattle.machine.specs.Serial.{step_limit}
use Rattle.machine.proofs.CodeLaws.{instr_of, function_end}
use Rattle.machine.proofs.LookupLaws.{Covered, entry_covered, instr_covered, sets_distinct, lookup_covered, KeysInTable}
use Rattle.machine.proofs.RestoreLaws.{made_restorable}
use Rattle.machine.proofs.HoldLaws.{Now, moved_cells, hold_alike}
use Rattle.machine.proofs.StepLaws.{FuelInRange, Ranged, begun_ranged, Lowers, entry_leads, StepLowers}
use Rattle.machine.proofs.PlaceLaws.{step_lowers}
use Rattle.machine.proofs.CallStep.{view_in, body_step, step_instr_lem}
use Rattle.machine.proofs.StepRule.{Completes, MadeOf, rule_local, Match, transfer_short, transfer_moves, transfer_now, fails_match, instr_match}

-- ---- nothing moves

-- A key that takes its own value.
still : (σ : State) (k : ℕ) (x : ℤ) → x ≡ σ k → (l : ℕ) → update σ k x l ≡ σ l
still σ k x e l = go (ℕ_discrete l k)
  where
    go : Dec (l ≡ k) → update σ k x l ≡ σ l
    go (yes s) = rw s (update_same σ k x ∙ e)
    go (no d) = update_other σ k x l d

plus_zero : (x m : ℤ) → m ≡ pos 0 → x +ℤ m ≡ x
plus_zero x m z = rw z (equal (x +ℤ pos 0) x (omega (arith, sum x (pos 0))))

minus_zero : (x m : ℤ) → m ≡ pos 0 → x -ℤ m ≡ x
minus_zero x m z = rw z (equal (x -ℤ pos 0) x (omega (arith, diff x (pos 0))))

-- At value 0 the rule's entry leaves the state as it was.
zero_moved : (σ : State) (a b : ℕ) (m : ℤ) → m ≡ pos 0 → (l : ℕ) → credit (debit σ a m) b m l ≡ σ l
zero_moved σ a b m z l =
    still (debit σ a m) b (debit σ a m b +ℤ m) (plus_zero (debit σ a m b) m z) l ∙ still σ a (σ a -ℤ m) (minus_zero (σ a) m z) l

-- ---- steps and turns

-- A call begun in these cells comes to its end in at most fuel plus 2 steps, with what the rule leaves, in as many steps as the rule says.
pub record CallCompletes (table : List ℕ) (left : Left) (v : View) (cells : List ℤ) : Type 0 where
  pub leaves : LeavesAsRule table left (step_times (step_limit v.call.fuel) v (more (begun_local v cells) cells))
  pub steps : steps_taken (step_limit v.call.fuel) v (more (begun_local v cells) cells) ≡ steps_for left

-- The entry is one step.
by_entry : (table : List ℕ) (left : Left) (v : View) (cells : List ℤ)
    → Completes table left (suc v.call.fuel) v (step_call v (begun_local v cells) cells) 0
    → CallCompletes table left v cells
unfolding step_times steps_taken
by_entry table left v cells h = record { leaves = h.leaves; steps = omega (arith, h.steps) }

-- A view with the entries and the keys of a call's sets and table finds and restores its cells.
made_of : (file : List ℕ) (c : Call) (o : Option Function) (table : List ℕ) (room : ℕ) (v : View) → length table ≤ max_keys
    → KeysInTable table (function_sets file c o) → v.count ≤ max_call_keys
    → v.entries ≡ map (entry_word table) (function_sets file c o) → v.keys ≡ padded room 0 (table_words table)
    → MadeOf v table (function_sets file c o)
made_of file c o table room v few known small entries keys =
    record {
      few = few;
      known = known;
      found = λ a covered. lookup_covered v room table (function_sets file c o) a small keys entries few (sets_distinct file c o) known covered;
      able = rw entries (made_restorable table few (function_sets file c o) v.count small (sets_used file c o) known);
      entries = entries;
    }

-- A call of the function f, begun at a state that the old cells hold.
module _ (file : List ℕ) (bytes : AreBytes file) (c : Call) (fits : CallBounded c) (fuelled : FuelInRange c.fuel) (f : Function) (sound : FunctionSound file f) (table : List ℕ)
    (few : length table ≤ max_keys) (known : KeysInTable table (function_sets file c (Some f))) (small : length (function_sets file c (Some f)) ≤ max_call_keys)
    (room : ℕ) (start : State) (within : state_within_limit start ≡ true) (old : List ℤ) (first : Hold table start old) where
  abbrev es : List Access
  es = function_sets file c (Some f)

  abbrev view : View
  view = view_in file room table c f

  abbrev body : List Instr
  body = body_of f.size f.size (code_at file f.start f.size)

  made : MadeOf view table es
  made = made_of file c (Some f) table room view few known small refl refl

  abbrev at : ℕ → List ℤ → ℕ → Local
  at place ρ n = rule_local view table es start old place ρ n

  abbrev kept : List ℤ
  kept = saved_of view.entries old

  abbrev Matches : Course → Stepped → Type 0
  Matches = Match view table es start old

  abbrev Here : State → List ℤ → Type 0
  Here σ cells = Now table (write_set es) start σ cells

  -- ---- one step from an instruction

  lawful_file : (p : ℕ) (i : Instr) → decode f.size (drop (f.start + instr_bytes * p) file) ≡ Some i → InstrLawful (2 ^ 16) f.size i
  lawful_file p i e =
      subst (Decodes (InstrLawful (2 ^ 16) f.size)) e
      (decode_sound f.size (drop (f.start + instr_bytes * p) file) (drop_bytes (f.start + instr_bytes * p) file bytes))

  instr_step : (p : ℕ) (ρ : List ℤ) (n : ℕ) (σ : State) (cells : List ℤ) → p < f.size → n < c.fuel → Here σ cells
      → Matches (execute_at c p ρ n σ (slice_get body p)) (step_call view (at (p + 1) ρ n) cells)
  unfolding execute_at
  instr_step p ρ n σ cells l m now =
      let this : InstrOf file f p = instr_of file f sound p l in
      rw (this.listed, step_instr_lem file bytes c fits fuelled f sound table few known small room start within old first p ρ n cells this.instr l m this.decoded)
      (instr_match view table es made start old first p σ cells now ρ (n + 1) c fits this.instr
      (lawful_file p this.instr this.decoded).0 (instr_covered file c f p l this.instr this.decoded))

  -- "At place = length: outcome 0."; "Reaching the end needs no fuel."
  end_step : (ρ : List ℤ) (n : ℕ) (σ : State) (cells : List ℤ) → n ≤ c.fuel → Here σ cells
      → Matches (over (ends σ n true)) (step_call view (at (f.size + 1) ρ n) cells)
  unfolding concluded finish settle
  end_step ρ n σ cells m now =
      rw (body_step file bytes c fits fuelled f sound table few known small room start within old first f.size ρ n cells m, eq-eqb (f.size + 1) (f.size + 1) refl)
      (record { same_outcome = refl; same_count = refl; hold = now.hold })

  any_step : (p : ℕ) (ρ : List ℤ) (n : ℕ) (σ : State) (cells : List ℤ) → p ≤ f.size → n < c.fuel → Here σ cells
      → Matches (execute_at c p ρ n σ (slice_get body p)) (step_call view (at (p + 1) ρ n) cells)
  unfolding execute_at
  any_step p ρ n σ cells l m now = go (dec_lt p f.size)
    where
      go : Dec (p < f.size) → Matches (execute_at c p ρ n σ (slice_get body p)) (step_call view (at (p + 1) ρ n) cells)
      go (yes less) = instr_step p ρ n σ cells less m now
      go (no not_less) = let e : p ≡ f.size = omega arith in rw (e, function_end file f sound) (end_step ρ n σ cells (omega arith) now)

  -- "If the count already equals the fuel when an instruction is due, that instruction doesn't run".
  last_step : (p : ℕ) (ρ : List ℤ) (σ : State) (cells : List ℤ) → p ≤ f.size → Here σ cells
      → Matches (over (unfuelled c.fuel σ (slice_get body p))) (step_call view (at (p + 1) ρ c.fuel) cells)
  unfolding unfuelled
  last_step p ρ σ cells l now = go (dec_lt p f.size)
    where
      go : Dec (p < f.size) → Matches (over (unfuelled c.fuel σ (slice_get body p))) (step_call view (at (p + 1) ρ c.fuel) cells)
      go (yes less) =
          rw (
            (instr_of file f sound p less).listed,
            body_step file bytes c fits fuelled f sound table few known small room start within old first p ρ c.fuel cells (omega arith),
            ne_eqb (p + 1) (f.size + 1) (omega arith),
            eq-eqb c.fuel c.fuel refl,
          )
          (fails_match view table es made start old first σ cells now out_of_fuel c.fuel refl)
      go (no not_less) = let e : p ≡ f.size = omega arith in rw (e, function_end file f sound) (end_step ρ c.fuel σ cells (omega arith) now)

  -- ---- all steps

  -- Each turn of the rule is one step, and so is its end without fuel: with so much fuel left, the call takes at most one step more.
  run : (left p : ℕ) (ρ : List ℤ) (n : ℕ) (σ : State) (cells : List ℤ) → Ranged view (p + 1) n → n + left ≡ c.fuel → Here σ cells
      → Completes table (settle start (run_body left c body (before p ρ n σ))) (suc left) view (more (at (p + 1) ρ n) cells) n
  unfolding run_body step_times steps_taken
  run zero p ρ n σ cells range all now =
      let spent : c.fuel ≡ n = omega arith in
      let last : Matches (over (unfuelled n σ (slice_get body p))) (step_call view (at (p + 1) ρ n) cells) =
      subst (λ (m : ℕ). Matches (over (unfuelled m σ (slice_get body p))) (step_call view (at (p + 1) ρ m) cells)) spent
      (last_step p ρ σ cells (omega (arith, range.within)) now) in
      record { leaves = ended_there (step_call view (at (p + 1) ρ n) cells) last; steps = omega (arith, last_one start c p ρ n σ (slice_get body p)) }
    where
      ended_there : (s : Stepped) → Matches (over (unfuelled n σ (slice_get body p))) s
          → LeavesAsRule table (settle start (unfuelled n σ (slice_get body p))) s
      ended_there damaged match = absurd match
      ended_there (more l' cells') match = absurd match
      ended_there (done outcome count cells') match = match
  run (suc left) p ρ n σ cells range all now =
      let next =
      go (execute_at c p ρ n σ (slice_get body p)) (step_call view (at (p + 1) ρ n) cells)
      (any_step p ρ n σ cells (omega (arith, range.within)) (omega arith) now)
      (step_lowers view (at (p + 1) ρ n) cells range) (turn_one start c p ρ n σ (slice_get body p)) (run left) in
      record { leaves = next.0; steps = next.1 }
    where
      go : (t : Course) (s : Stepped) → Matches t s → StepLowers view (at (p + 1) ρ n) s → OneMore start n t
          → ((q : ℕ) (ρ' : List ℤ) (m : ℕ) (τ : State) (cells' : List ℤ) → Ranged view (q + 1) m → m + left ≡ c.fuel → Here τ cells'
          → Completes table (settle start (run_body left c body (before q ρ' m τ))) (suc left) view (more (at (q + 1) ρ' m) cells') m)
          → (LeavesAsRule table (settle start (run_body left c body t)) (step_times (suc left) view s))
          × (n + suc (steps_taken (suc left) view s) ≡ body_steps (settle start (run_body left c body t)))
      go (before q ρ' m τ) damaged match low one ih = absurd match
      go (before q ρ' m τ) (more l' cells') match low one ih =
          let next : Lowers view (p + 1) n (q + 1) m = subst (λ (l : Local). Lowers view (p + 1) n l.place l.count) match.here low.lowers in
          let rest = ih q ρ' m τ cells' next.range (omega (arith, one, all)) match.now in
          rw match.here (rest.leaves, omega (arith, rest.steps, one))
      go (before q ρ' m τ) (done outcome count cells') match low one ih = absurd match
      go (over r) damaged match low one ih = absurd match
      go (over r) (more l' cells') match low one ih = absurd match
      go (over r) (done outcome count cells') match low one ih =
          rw (body_over left c body r) (match, omega (arith, one))

  -- ---- the entry

  abbrev payer : ℕ
  payer = c.sender.0

  abbrev paid : ℕ
  paid = c.contract.0

  -- The rule's state when the body begins.
  abbrev entered : State
  entered = credit (debit start (balance_key payer) c.value) (balance_key paid) c.value

  began : Here start old
  began = record { hold = first; limit = within; outside = λ k out. refl }

  payer_small : payer < 65536
  payer_small = let low : c.sender.0 < 32768 = fits.account in omega arith

  apart : paid ≡ payer → ⊥
  apart e = let low : c.sender.0 < 32768 = fits.account in let high : 32768 ≤ c.contract.0 = fits.contract in omega arith

  -- The entry step, where the value is above 0 and where it is 0.
  step_entry_lem : step_call view (at 0 zero_registers 0) old ≡ concluded view kept old (perform_action view 0 0 (entry_accesses c) (entry_action c zero_registers) old)
  unfolding step_call step_place step_entry
  step_entry_lem = rw (ne_eqb (f.size + 1) 0 (omega arith))

  module _ (above : lt_z (pos 0) c.value ≡ true) where
    both_covered : Covered es (changing (balance_key payer)) × Covered es (writing (balance_key paid))
    unfolding entry_accesses
    both_covered =
        let all : All (Covered es) (changing (balance_key payer) ∷ writing (balance_key paid) ∷ []) = rw above at (entry_covered file c f) in
        (all.0, all.1.0)

    entry_short : lt_z (start (balance_key payer)) c.value ≡ true → step_call view (at 0 zero_registers 0) old ≡ done 2 0 old
    unfolding perform entry_action entry_accesses concluded finish
    entry_short less =
        step_entry_lem ∙ rw (
          above,
          transfer_short view table es made start old first start old began payer paid payer_small fits.ranges.contract apart
              both_covered.0 both_covered.1 0 0 zero_registers c.value 2 less,
        )

    entry_moves : lt_z (start (balance_key payer)) c.value ≡ false
        → step_call view (at 0 zero_registers 0) old ≡ more (at 1 zero_registers 0) (moved_cells table old (balance_key payer) (balance_key paid) c.value)
    unfolding perform entry_action entry_accesses concluded
    entry_moves enough =
        step_entry_lem ∙ rw (
          above,
          transfer_moves view table es made start old first start old began payer paid payer_small fits.ranges.contract apart
              both_covered.0 both_covered.1 0 0 zero_registers c.value 2 fits.value enough,
        )

    entry_now : lt_z (start (balance_key payer)) c.value ≡ false → Here entered (moved_cells table old (balance_key payer) (balance_key paid) c.value)
    entry_now enough =
        transfer_now view table es made start old first start old began payer paid payer_small fits.ranges.contract apart
        both_covered.0 both_covered.1 0 0 zero_registers c.value 2 fits.value enough

  module _ (none' : lt_z (pos 0) c.value ≡ false) where
    entry_passes : step_call view (at 0 zero_registers 0) old ≡ more (at 1 zero_registers 0) old
    unfolding perform entry_action entry_accesses concluded
    entry_passes = step_entry_lem ∙ rw none'

    -- A balance is not below zero, so it is not below the value.
    never_short : lt_z (start (balance_key payer)) c.value ≡ true → ⊥
    never_short less =
        omega (
          arith,
          lt_z_true (start (balance_key payer)) c.value less,
          lt_z_false (pos 0) c.value none',
          non_neg_true c.value fits.value,
          non_neg_true (start (balance_key payer)) (limit_balance start within payer payer_small).0,
        )

    passes_now : lt_z (start (balance_key payer)) c.value ≡ false → Here entered old
    passes_now enough =
        let same : (k : ℕ) → entered k ≡ start k =
        zero_moved start (balance_key payer) (balance_key paid) c.value (no_amount c.value fits.value none') in
        record {
          hold = hold_alike table start entered old (λ k. sym (same k)) first;
          limit = limit_move start within payer paid payer_small fits.ranges.contract c.value fits.value enough;
          outside = λ k out. same k;
        }

  -- ---- the call

  -- The body behind the entry, in the steps that are left.
  body_run : (cells : List ℤ) → Here entered cells
      → Completes table (run_function file c start f) (suc c.fuel) view (more (at 1 zero_registers 0) cells) 0
  unfolding run_function
  body_run cells now =
      let few' : f.size ≤ 64 = sound.few in
      let next : Lowers view 0 0 1 0 = entry_leads view 0 0 (λ e. omega arith) refl (begun_ranged view (omega arith) fuelled) in
      run c.fuel 0 zero_registers 0 entered cells next.range (omega arith) now

  entered_completes : Completes table (transaction_by file c start (Some f)) (suc c.fuel) view (step_call view (at 0 zero_registers 0) old) 0
  unfolding transaction_by step_times steps_taken
  entered_completes = go (lt_z (pos 0) c.value) refl (lt_z (start (balance_key payer)) c.value) refl
    where
      go : (t : Bool) → lt_z (pos 0) c.value ≡ t → (u : Bool) → lt_z (start (balance_key payer)) c.value ≡ u
          → Completes table (if u then unbegun start 2 else run_function file c start f) (suc c.fuel) view (step_call view (at 0 zero_registers 0) old) 0
      go true above true less =
          rw (entry_short above less) (record { leaves = record { same_outcome = refl; same_count = refl; hold = first }; steps = refl })
      go true above false enough =
          rw (entry_moves above enough) (body_run (moved_cells table old (balance_key payer) (balance_key paid) c.value) (entry_now above enough))
      go false none' true less = absurd (never_short none' less)
      go false none' false enough = rw (entry_passes none') (body_run old (passes_now none' enough))

  known_function : CallCompletes table (transaction_by file c start (Some f)) view old
  known_function = by_entry table (transaction_by file c start (Some f)) view old entered_completes

-- ---- the functions of a block

abbrev OfSound : List ℕ → Option Function → Type 0
OfSound file None = Unit {0}
OfSound file (Some f) = FunctionSound file f

-- The function that a call names is one of them.
found_sound : (file : List ℕ) (functions : List Function) (c : Call) → reader.EachAt (λ i f. FunctionSound file f) functions → OfSound file (function_of functions c)
unfolding function_of
found_sound file [] c all = tt
found_sound file (f ∷ fs) c all = go (eqb (function_id f) (call_id c)) (found_sound file fs c (λ i d h. all (suc i) d (suc-le-suc h)))
  where
    go : (t : Bool) → OfSound file (function_of fs c) → OfSound file (if t then Some f else function_of fs c)
    go true rest = all 0 f (omega arith)
    go false rest = rest

-- "unknown function, outcome 1"
unknown_function_lem : (file : List ℕ) (c : Call) (table : List ℕ) (σ : State) (v : View) (cells : List ℤ) → v.code ≡ 0 → Hold table σ cells
    → CallCompletes table (transaction_by file c σ None) v cells
unfolding transaction_by step_times steps_taken step_call step_place step_entry concluded finish
unknown_function_lem file c table σ v cells e first =
    by_entry table (transaction_by file c σ None) v cells
    (rw e (record { leaves = record { same_outcome = refl; same_count = refl; hold = first }; steps = refl }))

-- A call of any accepted block, begun in cells that hold a state within the balance limit and stepped at most fuel plus 2 times, has ended: its
-- outcome and count are those of the published rule at that state, its cells hold the state that the rule leaves, and its steps are as many
-- as the rule says.
pub call_rule : (file : List ℕ) → AreBytes file → (functions : List Function) → reader.EachAt (λ i f. FunctionSound file f) functions → (c : Call) → CallBounded c → FuelInRange c.fuel
    → (table : List ℕ) → length table ≤ max_keys → KeysInTable table (sets_of file functions c) → length (sets_of file functions c) ≤ max_call_keys → (room : ℕ)
    → (σ : State) → state_within_limit σ ≡ true → (cells : List ℤ) → Hold table σ cells
    → CallCompletes table (transaction file functions c σ) (made_view file room functions table c) cells
unfolding code_words
call_rule file bytes functions all c fits fuelled table few known small room σ within cells first =
    go (function_of functions c) (found_sound file functions c all) known small
  where
    view_by : Option Function → View
    view_by o =
        record {
          block = file;
          call = c;
          start = get_or (code_words o) 0 0;
          code = get_or (code_words o) 1 0;
          count = length (function_sets file c o);
          entries = map (entry_word table) (function_sets file c o);
          keys = padded room 0 (table_words table);
        }

    go : (o : Option Function) → OfSound file o → KeysInTable table (function_sets file c o) → length (function_sets file c o) ≤ max_call_keys
        → CallCompletes table (transaction_by file c σ o) (view_by o) cells
    go None sound known' small' = unknown_function_lem file c table σ (view_by None) cells refl first
    go (Some f) sound known' small' = known_function file bytes c fits fuelled f sound table few known' small' room σ within cells first
