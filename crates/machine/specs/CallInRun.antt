-- A call of a block in a run that an opening has made: its view, its begin, and its steps to the end.
use Rattle.std.specs.Prelude.{◌≡◌, true, List, map, ℕ, zero, suc, ◌+◌, ◌*◌, ◌≤◌, ℤ, length, get_or, drop, Some, slice_get}
use Rattle.wire.specs.Bytes.{padded}
use Rattle.block.specs.Limits.{max_keys}
use Rattle.block.specs.Instruction.{instr_bytes, decode}
use Rattle.block.specs.Record.{Function, code_at}
use Rattle.block.specs.declared.Call.{Call}
use Rattle.block.specs.declared.Instr.{Instr}
use Rattle.footprint.specs.Sets.{sets_of}
use Rattle.block.specs.Naming.{function_of}
use Rattle.footprint.specs.Conflict.{member}
use Rattle.footprint.specs.Table.{cell_number}
use Rattle.footprint.specs.Plan.{entry_word, code_words, table_words}
use Rattle.rule.specs.Rule.{State, body_of, Left}
use Rattle.machine.specs.Run.{zero_registers}
use Rattle.machine.specs.Step.{View, Local, Stepped, damaged, more, done, cell_at, saved_of, step_call}

-- The instruction at an index of a function: a step decodes it from the file, and the rule's body has it there.
pub record InstrOf (file : List ℕ) (f : Function) (p : ℕ) : Type 0 where
  pub instr : Instr
  pub decoded : decode f.size (drop (f.start + instr_bytes * p) file) ≡ Some instr
  pub listed : slice_get (body_of f.size f.size (code_at file f.start f.size)) p ≡ Some instr

-- The view of a call: its code as the function table has it, its sets as entries by the table of keys, which stands in a buffer of `room` words.
abbrev pub made_view : (file : List ℕ) (room : ℕ) → List Function → (table : List ℕ) → Call → View
made_view file room functions table c =
    record {
      block = file;
      call = c;
      start = get_or (code_words (function_of functions c)) 0 0;
      code = get_or (code_words (function_of functions c)) 1 0;
      count = length (sets_of file functions c);
      entries = map (entry_word table) (sets_of file functions c);
      keys = padded room 0 (table_words table);
    }

-- A begun call stands at its entry, with the old values that its BEGIN kept.
abbrev pub begun_local : View → List ℤ → Local
begun_local v cells = record { place = 0; count = 0; regs = zero_registers; saved = saved_of v.entries cells }

-- At most n steps of a call, up to its end.
unfoldable pub step_times : ℕ → View → Stepped → Stepped
step_times zero v s = s
step_times (suc n) v damaged = damaged
step_times (suc n) v (more l cells) = step_times n v (step_call v l cells)
step_times (suc n) v (done outcome count cells) = done outcome count cells

-- How many they are.
unfoldable pub steps_taken : ℕ → View → Stepped → ℕ
steps_taken zero v s = 0
steps_taken (suc n) v damaged = 0
steps_taken (suc n) v (more l cells) = suc (steps_taken n v (step_call v l cells))
steps_taken (suc n) v (done outcome count cells) = 0

-- The cells hold what a state has for the keys of the table.
pub record Hold (table : List ℕ) (σ : State) (cells : List ℤ) : Type 0 where
  pub room : max_keys ≤ length cells
  pub same : (k : ℕ) → member k table ≡ true → cell_at cells (cell_number table k) ≡ σ k

-- A call at its end has the outcome and the count of what the rule leaves, and the cells hold the state that it leaves.
pub record EndsAsRule (table : List ℕ) (left : Left) (outcome count : ℕ) (cells : List ℤ) : Type 0 where
  pub same_outcome : outcome ≡ left.outcome
  pub same_count : count ≡ left.count
  pub hold : Hold table left.state cells

-- The call has ended, with what the rule leaves.
abbrev pub LeavesAsRule : List ℕ → Left → Stepped → Type 0
LeavesAsRule table left damaged = ⊥
LeavesAsRule table left (more l cells) = ⊥
LeavesAsRule table left (done outcome count cells) = EndsAsRule table left outcome count cells
