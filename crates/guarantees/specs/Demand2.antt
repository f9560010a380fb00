-- Demand 2, sentence by sentence.
use Rattle.std.specs.Prelude.{◌≡◌, Bool, true, false, ◌&&◌, not, List, ℕ, zero, suc, ◌<◌, ℤ, pos, ltb, Ok, Some, slice_get}
use Rattle.wire.specs.Rows.{in_row}
use Rattle.block.specs.Record.{Function}
use Rattle.block.specs.Encoding.{AreBytes}
use Rattle.footprint.specs.Sets.{read_set}
use Rattle.footprint.specs.Conflict.{member, strong_swap}
use Rattle.footprint.specs.Plan.{opening_value}
use Rattle.rule.specs.Rule.{State, Left, state_within_limit, steps_for, transaction, transactions, state_left}
use Rattle.footprint.specs.KeyWords.{key_at, keys_in}
use Rattle.block.specs.BlockOfFile.{block_of, call_count}
use Rattle.footprint.specs.BlockSets.{sets_at}
use Rattle.machine.specs.Run.{Run, Sizes, state_of, status_word, row_in, finished, outcome_word, count_word}
use Rattle.machine.specs.Opening.{opening_of}
use Rattle.machine.specs.Step.{View, Stepped, damaged, more, done, cell_at, step_call}
use Rattle.machine.specs.Moves.{view_of}
use Rattle.machine.specs.Serial.{step_limit}
use Rattle.machine.specs.CallInRun.{InstrOf, begun_local, step_times, steps_taken, Hold, LeavesAsRule}
use Rattle.guarantees.specs.BlockTally.{steps_in}
use Rattle.guarantees.specs.Agreement.{opened_in, may_write, serial_run_of_file}
use Rattle.guarantees.specs.RuleRun.{call_of_block}

-- The keys of a run's cells, in the order of their numbers.
abbrev pub table_in : Run → List ℕ
table_in r = keys_in r.head.cells r.keys

-- The rule for a call of the block.
abbrev pub rule_for : List ℕ → ℕ → State → Left
rule_for file call σ = transaction file (block_of file).functions (call_of_block file call) σ

-- The state that a block opens with; what the rule, folded over the block's calls, leaves of each, and the state behind the last.
abbrev pub opening_state : List ℕ → State
opening_state file = opening_value (block_of file).cells

abbrev pub rule_lefts : List ℕ → List Left
rule_lefts file = transactions file (block_of file).functions (block_of file).calls (opening_state file)

abbrev pub closing_state : List ℕ → State
closing_state file = state_left (opening_state file) (rule_lefts file)

-- A call of the opened run; begun in a register with these cells; and stepped to its end, M-104: "at most fuel plus 2" times.
abbrev pub call_view : Sizes → List ℕ → (workers call : ℕ) → View
call_view s file workers call = view_of file (opened_in s file workers) call (call_of_block file call)

abbrev pub begun_call : Sizes → List ℕ → (workers call : ℕ) → List ℤ → Stepped
begun_call s file workers call cells = more (begun_local (call_view s file workers call) cells) cells

abbrev pub whole_call : Sizes → List ℕ → (workers call : ℕ) → List ℤ → Stepped
whole_call s file workers call cells = step_times (step_limit (call_of_block file call).fuel) (call_view s file workers call) (begun_call s file workers call cells)

-- The cells after k more steps of a call: a refused step changes nothing, and a call that has ended makes none.
abbrev pub cellsLeft : (before : List ℤ) → Stepped → List ℤ
cellsLeft before damaged = before
cellsLeft before (more l cells) = cells
cellsLeft before (done outcome count cells) = cells

unfoldable pub cells_after : (k : ℕ) → View → (before : List ℤ) → Stepped → List ℤ
cells_after zero v before s = cellsLeft before s
cells_after (suc k) v before damaged = before
cells_after (suc k) v before (more l cells) = cells_after k v cells (step_call v l cells)
cells_after (suc k) v before (done outcome count cells) = cells

-- A register within the balance limit: its cells hold a state that is.
pub record Register (s : Sizes) (file : List ℕ) (workers : ℕ) (cells : List ℤ) : Type 0 where
  pub state : State
  pub hold : Hold (table_in (opened_in s file workers)) state cells
  pub limit : state_within_limit state ≡ true

-- Whether the cell at a place of the table is in the read set of a call.
abbrev pub may_read : List ℕ → Run → (call cell : ℕ) → Bool
may_read file r call x = member (key_at r.keys x) (read_set (sets_at file call))

-- What a call leaves of two registers: one receipt; and each cell that was alike is alike.
abbrev pub EndsAlike : (cells : ℕ) (before before' : List ℤ) (outcome count : ℕ) (after : List ℤ) → Stepped → Type 0
EndsAlike n before before' outcome count after damaged = ⊥
EndsAlike n before before' outcome count after (more l after') = ⊥
EndsAlike n before before' outcome count after (done outcome' count' after') =
    (outcome ≡ outcome') × (count ≡ count')
    × ((x : ℕ) → x < n → cell_at before x ≡ cell_at before' x → cell_at after x ≡ cell_at after' x)

abbrev pub LeavesAlike : (cells : ℕ) (before before' : List ℤ) → Stepped → Stepped → Type 0
LeavesAlike n before before' damaged b = ⊥
LeavesAlike n before before' (more l after) b = ⊥
LeavesAlike n before before' (done outcome count after) b = EndsAlike n before before' outcome count after b

-- The receipt of a call in the serial run is what the rule leaves of it.
pub record Receives (s : Sizes) (file : List ℕ) (workers call : ℕ) : Type 0 where
  pub left : Left
  pub listed : slice_get (rule_lefts file) call ≡ Some left
  pub ended : state_of (serial_run_of_file s file workers).status call ≡ finished
  pub outcome : status_word (serial_run_of_file s file workers).status call outcome_word ≡ left.outcome
  pub count : status_word (serial_run_of_file s file workers).status call count_word ≡ left.count

-- What holds of an accepted block, opened in any buffers.
pub record Demand2 (s : Sizes) (file : List ℕ) (workers : ℕ) : Type 0 where
  -- "One call .. leave[s] exactly what the published transaction rule gives over our instruction set": state, outcome and count, in as many
  -- steps as document 01 says; and the balance limit is kept, whatever the outcome.
  pub call : (call : ℕ) → call < call_count file → (σ : State) → state_within_limit σ ≡ true → (cells : List ℤ)
      → Hold (table_in (opened_in s file workers)) σ cells
      → LeavesAsRule (table_in (opened_in s file workers)) (rule_for file call σ) (whole_call s file workers call cells)
  pub call_steps : (call : ℕ) → call < call_count file → (σ : State) → state_within_limit σ ≡ true → (cells : List ℤ)
      → Hold (table_in (opened_in s file workers)) σ cells
      → steps_taken (step_limit (call_of_block file call).fuel) (call_view s file workers call) (begun_call s file workers call cells) ≡ steps_for (rule_for file call σ)
  pub limit : (call : ℕ) → call < call_count file → (σ : State) → state_within_limit σ ≡ true → state_within_limit (rule_for file call σ).state ≡ true
  -- The rule's body of a function is its code, instruction by instruction.
  pub bodies : (i : ℕ) (f : Function) → slice_get (block_of file).functions i ≡ Some f → (p : ℕ) → p < f.size → InstrOf file f p
  -- ".. and a block run in order": the serial run has the receipt that the rule gives each call behind those before it, and the cells of the
  -- state that the last one leaves.
  pub receipts : (call : ℕ) → call < call_count file → Receives s file workers call
  pub cells : Hold (table_in (opened_in s file workers)) (closing_state file) (serial_run_of_file s file workers).cells
  -- A key that is not in the table keeps what it has through a call, and has 0 at the opening and behind the block.
  pub call_elsewhere : (call : ℕ) → call < call_count file → (k : ℕ) → member k (table_in (opened_in s file workers)) ≡ false
      → (σ : State) → (rule_for file call σ).state k ≡ σ k
  pub elsewhere : (k : ℕ) → member k (table_in (opened_in s file workers)) ≡ false
      → (opening_state file k ≡ pos 0) × (closing_state file k ≡ pos 0)
  -- "A call's steps are its entry, its counted instructions, and one for reaching the end", or by M-104 for running out of fuel: the number that the tally takes for it.
  pub steps : (call : ℕ) (l : Left) → slice_get (rule_lefts file) call ≡ Some l → steps_in file workers call ≡ steps_for l
  -- "A call changes no cell outside its write set": after any number of steps, from any cells.
  pub frame : (call : ℕ) → call < call_count file → (cells : List ℤ) (k x : ℕ) → x < (opened_in s file workers).head.cells
      → may_write file (opened_in s file workers) call x ≡ false
      → cell_at (cells_after k (call_view s file workers call) cells (begun_call s file workers call cells)) x ≡ cell_at cells x
  -- ".. and its course depends on no other cell than those it reads: two registers alike there, both within the balance limit, give it one
  -- receipt and stay alike wherever they were."
  pub alike : (call : ℕ) → call < call_count file → (cells cells' : List ℤ)
      → Register s file workers cells → Register s file workers cells'
      → ((x : ℕ) → x < (opened_in s file workers).head.cells → may_read file (opened_in s file workers) call x ≡ true → cell_at cells x ≡ cell_at cells' x)
      → LeavesAlike (opened_in s file workers).head.cells cells cells' (whole_call s file workers call cells) (whole_call s file workers call cells')
  -- "A later call waits for an earlier one exactly when the published strong-swap test fails on the sets of document 01."
  pub waits : (i j : ℕ) → j < call_count file
      → in_row (row_in (opened_in s file workers).plan j) i ≡ (ltb i j && not (strong_swap (sets_at file i) (sets_at file j)))

abbrev pub Demand2Holds : Type 0
Demand2Holds =
    (s : Sizes) (file : List ℕ) (workers : ℕ) → AreBytes file → (opening_of s file workers).answer ≡ (Ok tt) → Demand2 s file workers
