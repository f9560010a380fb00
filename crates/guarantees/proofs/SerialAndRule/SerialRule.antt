-- The serial run of an opened block gives, call by call, what the published rule folds over its transactions; and each call alone, begun
-- in any cells that hold a state within the limit, gives its transaction.
use Rattle.std.specs.Prelude.{None, Option, Some, slice_get}
use Rattle.std.proofs.lemmas.Option.{none-some}
use Rattle.std.proofs.lemmas.Option.{same_Some}
use mathlib.Core.Path.{◌≡◌, refl, ap, ap₂, subst⁻¹, ◌∙◌}
use mathlib.Core.Bool.{Bool, true, false, ◌||◌, false≢true}
use mathlib.Core.List.{List, [], ◌∷◌}
use Prim.Native.Nat.{ℕ, zero, suc, ◌+◌, ◌*◌, ◌≤◌, ◌<◌}
use native.Mathlib.Omega.{arith}
use borrow.Author.Tests.{eqb-true}
use lib.Dec.{eqb}
use lib.IntN.{ℤ}
use lib.ListN.{length, get_or, drop}
use Rattle.schedule.specs.Calls as calls
use Rattle.schedule.specs.Calls.{Calls, done, trace, whole, alone, serial}
use Rattle.block.specs.Record.{Function, Block, head_bytes, call_record_bytes, call_of}
use Rattle.block.specs.declared.Call.{Call}
use Rattle.footprint.specs.Access.{Access}
use Rattle.footprint.proofs.SetAccessLaws.{drop_bytes}
use Rattle.block.specs.Encoding.{AreBytes}
use Rattle.footprint.specs.Sets.{sets_of, access_keys}
use Rattle.footprint.specs.Conflict.{member}
use Rattle.footprint.specs.Plan.{opening_value}
use Rattle.rule.specs.Rule.{State, state_within_limit, Left, steps_for, transaction, transactions, state_left}
use Rattle.footprint.proofs.RuleLimit.{read_call_bounded, limit_kept}
use Rattle.footprint.specs.SafeSets.{CallBounded}
use Rattle.block.specs.BlockOfFile.{block_of}
use Rattle.footprint.specs.Listed.{AllListed}
use Rattle.machine.specs.Run.{Run, Sizes}
use Rattle.machine.specs.declared.Head.{Head}
use Rattle.machine.specs.Opening.{opening_of}
use Rattle.machine.specs.Step as machine
use Rattle.machine.specs.Step.{View, Stepped}
use Rattle.machine.specs.Moves.{view_of}
use Rattle.machine.specs.CallInRun.{made_view, begun_local, step_times, Hold, LeavesAsRule}
use Rattle.machine.specs.Serial.{step_limit}
use Rattle.machine.proofs.LookupLaws.{KeysInTable}
use Rattle.machine.proofs.CallRule.{CallCompletes, call_rule}
use Rattle.guarantees.proofs.CallsOfRun.ViewCalls.{broken, receipt, view_calls, run_view}
use Rattle.guarantees.proofs.AcceptedOpening.OpenedCalls.{CallOpened}
use Rattle.guarantees.proofs.AcceptedOpening.AfterOpening.{AfterOpening}
use Rattle.guarantees.proofs.SerialAndRule.RuleSteps.{CallRuns, rule_steps}
use Rattle.guarantees.specs.RuleRun.{call_in, body_call}

-- ---- the transactions of a block, one by one

module _ (file : List ℕ) (functions : List Function) where
  -- The state after the first c transactions.
  unfoldable pub state_after : List Call → State → ℕ → State
  state_after [] σ c = σ
  state_after (x ∷ xs) σ zero = σ
  state_after (x ∷ xs) σ (suc c) = state_after xs (transaction file functions x σ).state c

  -- What transaction c leaves.
  abbrev pub left_at : List Call → State → ℕ → Left
  left_at calls σ c = transaction file functions (call_in calls c) (state_after calls σ c)

  pub state_first : (calls : List Call) (σ : State) → state_after calls σ 0 ≡ σ
  unfolding state_after
  state_first [] σ = refl
  state_first (x ∷ xs) σ = refl

  pub state_next : (calls : List Call) (σ : State) (c : ℕ) → c < length calls → state_after calls σ (suc c) ≡ (left_at calls σ c).state
  unfolding state_after
  state_next [] σ c h = absurd (omega arith)
  state_next (x ∷ xs) σ zero h = state_first xs (transaction file functions x σ).state
  state_next (x ∷ xs) σ (suc c) h = state_next xs (transaction file functions x σ).state c (omega arith)

  -- It stands at its place of the fold.
  pub left_listed : (calls : List Call) (σ : State) (c : ℕ) → c < length calls
      → slice_get (transactions file functions calls σ) c ≡ Some (left_at calls σ c)
  unfolding state_after transactions
  left_listed [] σ c h = absurd (omega arith)
  left_listed (x ∷ xs) σ zero h = refl
  left_listed (x ∷ xs) σ (suc c) h = left_listed xs (transaction file functions x σ).state c (omega arith)

module _ (file : List ℕ) (functions : List Function) where
  -- The state after all transactions is what the fold leaves.
  pub state_last : (calls : List Call) (σ : State)
      → state_after file functions calls σ (length calls) ≡ state_left σ (transactions file functions calls σ)
  unfolding state_after state_left transactions
  state_last [] σ = refl
  state_last (x ∷ xs) σ = state_last xs (transaction file functions x σ).state

-- ---- lists

pub found_in_lem : {A : Type 0} (l : List A) (j : ℕ) (d x : A) → slice_get l j ≡ Some x → get_or l j d ≡ x
found_in_lem [] j d x e = absurd (none-some x e)
found_in_lem (y ∷ l) zero d x e = same_Some y x e
found_in_lem (y ∷ l) (suc j) d x e = found_in_lem l j d x e

-- Keys that are listed are in the table.
pub listed_in : (table : List ℕ) (es : List Access) → AllListed table es → KeysInTable table es
unfolding member
listed_in table [] all k m = absurd (false≢true m)
listed_in table (e ∷ es) all k m = go (eqb k e.key) refl m (listed_in table es all.1 k)
  where
    go : (t : Bool) → eqb k e.key ≡ t → (t || member k (access_keys es)) ≡ true → (member k (access_keys es) ≡ true → member k table ≡ true)
        → member k table ≡ true
    go true same h later = subst⁻¹ (λ (l : ℕ). member l table ≡ true) (eqb-true k e.key same) all.0.in_table
    go false same h later = later h

-- ---- what holds

-- The calls of a run of the block b, as the theorem on schedules takes them.
abbrev pub block_calls : List ℕ → Block → Run → (before : ℕ → ℕ → Bool) → Calls
block_calls file b r before = view_calls (run_view file r) (length b.calls) before

-- Call c, begun in these cells and stepped to its end, has the receipt that the rule leaves, and its cells hold the state that the rule
-- leaves, which is within the limit; none of its steps finds the run damaged, and they are as many as the rule says.
pub record CallFollows (file : List ℕ) (b : Block) (table : List ℕ) (r : Run) (before : ℕ → ℕ → Bool) (c : ℕ) (cells : List ℤ) (left : Left) : Type 0 where
  pub course : (whole (block_calls file b r before) c cells).course ≡ done (receipt left.outcome left.count)
  pub hold : Hold table left.state (whole (block_calls file b r before) c cells).state
  pub limit : state_within_limit left.state ≡ true
  pub unbroken : (k : ℕ) → ¬ ((trace (block_calls file b r before) c cells k).course ≡ done broken)
  pub steps : calls.steps_of (block_calls file b r before) c cells ≡ steps_for left

-- The rule's state after the first c calls of the block, and what its call c leaves.
abbrev pub rule_state : List ℕ → Block → ℕ → State
rule_state file b c = state_after file b.functions b.calls (opening_value b.cells) c

abbrev pub rule_left : List ℕ → Block → ℕ → Left
rule_left file b c = left_at file b.functions b.calls (opening_value b.cells) c

-- The cells before call c of the serial run.
abbrev pub serial_cells : List ℕ → Block → Run → (before : ℕ → ℕ → Bool) → ℕ → List ℤ
serial_cells file b r before c = serial (block_calls file b r before) r.cells c

-- "Serial run: calls 0, 1, .. each begun and stepped to its end": behind each call its cells hold the rule's state, and each call follows the rule.
pub record SerialFollows (file : List ℕ) (b : Block) (table : List ℕ) (r : Run) (before : ℕ → ℕ → Bool) : Type 0 where
  pub limit : (c : ℕ) → c ≤ length b.calls → state_within_limit (rule_state file b c) ≡ true
  pub hold : (c : ℕ) → c ≤ length b.calls → Hold table (rule_state file b c) (serial_cells file b r before c)
  pub course : (c : ℕ) → c < length b.calls
      → (whole (block_calls file b r before) c (serial_cells file b r before c)).course ≡ done (receipt (rule_left file b c).outcome (rule_left file b c).count)
  pub unbroken : (c : ℕ) → c < length b.calls → (k : ℕ)
      → ¬ ((trace (block_calls file b r before) c (serial_cells file b r before c) k).course ≡ done broken)
  pub steps : (c : ℕ) → c < length b.calls
      → calls.steps_of (block_calls file b r before) c (serial_cells file b r before c) ≡ steps_for (rule_left file b c)

-- ---- an opened run

module _ (s : Sizes) (file : List ℕ) (bytes : AreBytes file) (workers : ℕ) (after : AfterOpening s file workers) (before : ℕ → ℕ → Bool) where
  abbrev b : Block
  b = block_of file

  abbrev r : Run
  r = (opening_of s file workers).run

  abbrev table : List ℕ
  table = after.table

  abbrev Opened : ℕ → Call → Type 0
  Opened c x = CallOpened file b table s.keys r c x

  abbrev Follows : ℕ → List ℤ → Left → Type 0
  Follows = CallFollows file b table r before

  abbrev rule : Call → State → Left
  rule x σ = transaction file b.functions x σ

  -- The view of a call is the one that the opening made.
  view_made : (c : ℕ) (x : Call) → Opened c x → run_view file r c ≡ made_view file s.keys b.functions table x
  unfolding body_call
  view_made c x o =
      ap (λ (h : Head). view_of file r c (body_call (call_of (drop (h.first_call + call_record_bytes * c + head_bytes) file)))) after.opened.head
      ∙ ap (λ (d : Option Call). view_of file r c (body_call d)) o.body
      ∙ o.view

  opened_fits : (c : ℕ) (x : Call) → Opened c x → CallBounded x
  opened_fits c x o = read_call_bounded (drop (b.first_call + call_record_bytes * c + head_bytes) file) (drop_bytes (b.first_call + call_record_bytes * c + head_bytes) file bytes) x o.body

  -- Its steps, by its view in the run.
  completes : (c : ℕ) (x : Call) → Opened c x → (σ : State) → state_within_limit σ ≡ true → (cells : List ℤ) → Hold table σ cells
      → CallCompletes table (rule x σ) (run_view file r c) cells
  completes c x o σ within cells hold =
      subst⁻¹ (λ (v : View). CallCompletes table (rule x σ) v cells) (view_made c x o)
      (call_rule file bytes b.functions after.whole.laws.codes x (opened_fits c x o) o.fuel
      table after.opened.few_keys (listed_in table (sets_of file b.functions x) o.listed) o.few s.keys σ within cells hold)

  opened_follows : (c : ℕ) (x : Call) → Opened c x → (σ : State) → state_within_limit σ ≡ true → (cells : List ℤ) → Hold table σ cells
      → Follows c cells (rule x σ)
  opened_follows c x o σ within cells hold =
      go (step_times (step_limit (run_view file r c).call.fuel) (run_view file r c) (machine.more (begun_local (run_view file r c) cells) cells)) refl whole_call_lem.leaves
    where
      whole_call_lem : CallCompletes table (rule x σ) (run_view file r c) cells
      whole_call_lem = completes c x o σ within cells hold

      limit : state_within_limit (rule x σ).state ≡ true
      limit =
          limit_kept x (opened_fits c x o) file bytes b.functions σ within

      go : (t : Stepped) → step_times (step_limit (run_view file r c).call.fuel) (run_view file r c) (machine.more (begun_local (run_view file r c) cells) cells) ≡ t
          → LeavesAsRule table (rule x σ) t → Follows c cells (rule x σ)
      go machine.damaged e h = absurd h
      go (machine.more l t) e h = absurd h
      go (machine.done outcome count t) e h =
          let run : CallRuns (run_view file r) (length b.calls) before c cells outcome count t =
          rule_steps (run_view file r) (length b.calls) before c cells outcome count t e in
          record {
            course = run.course ∙ ap₂ (λ (o m : ℕ). done (receipt o m)) h.same_outcome h.same_count;
            hold = subst⁻¹ (Hold table (rule x σ).state) run.state h.hold;
            limit = limit;
            unbroken = run.unbroken;
            steps = run.steps ∙ whole_call_lem.steps;
          }

  -- A call of the block, from any state within the limit and any cells that hold it.
  pub call_follows : (c : ℕ) → c < length b.calls → (σ : State) → state_within_limit σ ≡ true → (cells : List ℤ) → Hold table σ cells
      → CallFollows file (block_of file) after.table (opening_of s file workers).run before c cells
      (transaction file (block_of file).functions (call_in (block_of file).calls c) σ)
  call_follows c less σ within cells hold =
      let o : (x : Call) × Opened c x = after.opened.calls c less in
      subst⁻¹ (λ (x : Call). Follows c cells (rule x σ)) (found_in_lem b.calls c (body_call None) o.0 o.1.at)
      (opened_follows c o.0 o.1 σ within cells hold)

  -- ---- the serial run

  record Upto (c : ℕ) : Type 0 where
    limit : state_within_limit (rule_state file b c) ≡ true
    hold : Hold table (rule_state file b c) (serial_cells file b r before c)

  -- Call c behind the calls before it.
  next_follows : (c : ℕ) → c < length b.calls → Upto c → Follows c (serial_cells file b r before c) (rule_left file b c)
  next_follows c less u = call_follows c less (rule_state file b c) u.limit (serial_cells file b r before c) u.hold

  upto : (c : ℕ) → c ≤ length b.calls → Upto c
  unfolding alone
  upto zero h =
      let first : rule_state file b 0 ≡ opening_value b.cells = state_first file b.functions b.calls (opening_value b.cells) in
      record {
        limit = subst⁻¹ (λ (σ : State). state_within_limit σ ≡ true) first after.opened.limit;
        hold = subst⁻¹ (λ (σ : State). Hold table σ r.cells) first after.opened.hold;
      }
  upto (suc c) h =
      let next : rule_state file b (suc c) ≡ (rule_left file b c).state = state_next file b.functions b.calls (opening_value b.cells) c h in
      let follows : Follows c (serial_cells file b r before c) (rule_left file b c) = next_follows c h (upto c (omega arith)) in
      record {
        limit = subst⁻¹ (λ (σ : State). state_within_limit σ ≡ true) next follows.limit;
        hold = subst⁻¹ (λ (σ : State). Hold table σ (serial_cells file b r before (suc c))) next follows.hold;
      }

  pub serial_follows : SerialFollows file (block_of file) after.table (opening_of s file workers).run before
  serial_follows =
      record {
        limit = λ c h. (upto c h).limit;
        hold = λ c h. (upto c h).hold;
        course = λ c h. (next_follows c h (upto c (omega arith))).course;
        unbroken = λ c h. (next_follows c h (upto c (omega arith))).unbroken;
        steps = λ c h. (next_follows c h (upto c (omega arith))).steps;
      }
