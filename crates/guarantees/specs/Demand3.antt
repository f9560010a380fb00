-- Demand 3, sentence by sentence.
use Rattle.std.specs.Prelude.{◌≡◌, true, false, List, ℕ, ◌+◌, ◌<◌, ◌≤◌, get_or, Ok}
use Rattle.schedule.specs.Tally.{waiting, running, finished, holds, is_finished, unfinished_earlier, Forward}
use Rattle.schedule.specs.declared.Move.{Move}
use Rattle.block.specs.Encoding.{AreBytes}
use Rattle.machine.specs.Run.{Run, Sizes, held_at, state_of, status_word, outcome_word, count_word, wait_count}
use Rattle.machine.specs.Opening.{opening_of}
use Rattle.machine.specs.Step.{cell_at}
use Rattle.machine.specs.Waits.{counted_waits}
use Rattle.machine.specs.Moves.{local_of, begin_of, move_of, answers_of}
use Rattle.machine.specs.ByRow.{begin_by_row}
use Rattle.machine.specs.declared.Answer.TheVariants.{CallUnfinished}
use Rattle.sheet.specs.Sheet.{sheet_records, unwritten, written, sheet_of}
use Rattle.guarantees.specs.BlockTally.{is_before, steps_in, tally_after, tally_answers}
use Rattle.guarantees.specs.Agreement.{state_number, seat_number, opened_in, run_after_moves, steps_since, may_write, serial_run_of_file, finished_alone, serial_point_after, SameSheet}
use Rattle.block.specs.BlockOfFile.{call_count}
use Rattle.guarantees.specs.RuleRun.{call_of_block}

-- The receipt of a call in two runs is one.
pub record SameReceipt (r r' : Run) (call : ℕ) : Type 0 where
  pub state : state_of r.status call ≡ state_of r'.status call
  pub outcome : status_word r.status call outcome_word ≡ status_word r'.status call outcome_word
  pub count : status_word r.status call count_word ≡ status_word r'.status call count_word

-- "A running call, and the cells it may write, stand where the serial run has them after as many of its steps": a call, with k steps, on
-- some worker. "A running call stands by its place, registers, count and old values."
pub record AtSerialPoint (s : Sizes) (file : List ℕ) (workers : ℕ) (ms : List Move) (call k : ℕ) : Type 0 where
  pub worker : ℕ
  pub there : worker < workers
  pub held : (tally_after file workers ms).seat worker ≡ holds call
  pub local : local_of (run_after_moves s file workers ms) worker call ≡ local_of (serial_point_after s file workers call k) 0 call
  pub cells : (x : ℕ) → x < (opened_in s file workers).head.cells → may_write file (opened_in s file workers) call x ≡ true
      → cell_at (run_after_moves s file workers ms).cells x ≡ cell_at (serial_point_after s file workers call k).cells x

-- A begin or a step that would be accepted.
pub record Forwards (s : Sizes) (file : List ℕ) (workers : ℕ) (ms : List Move) : Type 0 where
  pub next : Move
  pub forward : Forward next
  pub accepted : (move_of file (run_after_moves s file workers ms) next).answer ≡ Ok tt

-- "cells, receipts and the closing sheet .. equal the serial ones byte for byte"
pub record Closes (s : Sizes) (file : List ℕ) (workers : ℕ) (ms : List Move) : Type 0 where
  pub cells : (run_after_moves s file workers ms).cells ≡ (serial_run_of_file s file workers).cells
  pub receipts : (call : ℕ) → call < call_count file → SameReceipt (run_after_moves s file workers ms) (serial_run_of_file s file workers) call
  pub sheet : SameSheet (run_after_moves s file workers ms) (serial_run_of_file s file workers)
  -- It is written, or, where the output is too short, refused by 28: "20 .. (none after an opening and moves alone ..)".
  pub written : (output : List ℕ) → sheet_of (run_after_moves s file workers ms) output ≡ written output (sheet_records (serial_run_of_file s file workers))

-- What holds "after every list of begin, step and cancel moves from that opening, refused ones included, in whatever order".
pub record Demand3 (s : Sizes) (file : List ℕ) (workers : ℕ) (ms : List Move) : Type 0 where
  -- "Every answer, and the state of every call, is that of the tally in document 01": "every answer (accepted, or the number), each call's
  -- state (waiting, running or finished) and each worker's call".
  pub answers : answers_of file (opened_in s file workers) ms ≡ tally_answers file workers ms
  pub states : (call : ℕ) → call < call_count file
      → state_of (run_after_moves s file workers ms).status call ≡ state_number ((tally_after file workers ms).phase call)
  pub seats : (worker : ℕ) → worker < workers
      → held_at (run_after_moves s file workers ms).head worker ≡ seat_number ((tally_after file workers ms).seat worker)
  -- "the call waits again, count 0": a waiting call, never begun or cancelled, has no receipt.
  pub waiting_calls : (call : ℕ) → call < call_count file → (tally_after file workers ms).phase call ≡ waiting
      → (status_word (run_after_moves s file workers ms).status call outcome_word ≡ 0)
      × (status_word (run_after_moves s file workers ms).status call count_word ≡ 0)
  -- M-100: "Each call shall carry the number of its earlier conflicting calls still unfinished": by the block and the tally; "It .. stays equal to
  -- the counted number after every begin, step and cancel": by the row and the states of the run itself.
  pub counts : (call : ℕ) → call < call_count file
      → wait_count (run_after_moves s file workers ms).status call
      ≡ unfinished_earlier (is_before file) (λ i. is_finished ((tally_after file workers ms).phase i)) call call
  pub counted : (call : ℕ) → call < call_count file
      → wait_count (run_after_moves s file workers ms).status call
      ≡ counted_waits (run_after_moves s file workers ms).plan (run_after_moves s file workers ms).status call
  -- "After an opening and moves alone, every answer is that of the row": BEGIN answers and leaves what the test by the row would.
  pub by_row : (worker call : ℕ) → begin_of (run_after_moves s file workers ms) worker call ≡ begin_by_row (run_after_moves s file workers ms) worker call
  -- "(none after an opening and moves alone ..)": no answer is 20.
  pub never_damaged : (i : ℕ) → get_or (answers_of file (opened_in s file workers) ms) i 0 ≡ 20 → ⊥
  -- "Each finished call has its receipt of the serial run, in as many accepted steps, counted from its last begin."
  pub receipts : (call : ℕ) → call < call_count file → (tally_after file workers ms).phase call ≡ finished
      → SameReceipt (run_after_moves s file workers ms) (serial_run_of_file s file workers) call
  pub steps : (call : ℕ) → call < call_count file → (tally_after file workers ms).phase call ≡ finished
      → steps_since file workers ms call ≡ steps_in file workers call
  -- "Each cell that no running call may write holds what the finished calls alone, run in block order, leave."
  pub unwritten_cells : (x : ℕ) → x < (opened_in s file workers).head.cells
      → ((call k : ℕ) → call < call_count file → (tally_after file workers ms).phase call ≡ running k
      → may_write file (opened_in s file workers) call x ≡ false)
      → cell_at (run_after_moves s file workers ms).cells x ≡ cell_at (finished_alone s file workers ms).cells x
  -- "A running call, and the cells it may write, stand where the serial run has them after as many of its steps, counted likewise."
  pub running_calls : (call k : ℕ) → call < call_count file → (tally_after file workers ms).phase call ≡ running k
      → (steps_since file workers ms call ≡ k) × AtSerialPoint s file workers ms call k
  -- "While a call is unfinished, some begin or step would be accepted"
  pub progress : (call : ℕ) → call < call_count file → is_finished ((tally_after file workers ms).phase call) ≡ false
      → Forwards s file workers ms
  -- ".. and no call takes over 66 steps from its last begin", of which M-104 says: "In place of the 66 of demand 3, a call takes at most fuel plus 2 accepted steps
  -- between its last begin and its finish."
  pub bound : (call : ℕ) → call < call_count file → steps_since file workers ms call ≤ (call_of_block file call).fuel + 2
  -- "27 sheet wanted with a call unfinished"
  pub unfinished : (call : ℕ) → call < call_count file → is_finished ((tally_after file workers ms).phase call) ≡ false
      → (output : List ℕ) → sheet_of (run_after_moves s file workers ms) output ≡ unwritten output CallUnfinished
  -- "When all are finished, cells, receipts and the closing sheet that document 01 describes equal the serial ones byte for byte."
  pub close : ((call : ℕ) → call < call_count file → (tally_after file workers ms).phase call ≡ finished) → Closes s file workers ms

-- "Suppose a block is accepted and opened for 1 to 8 workers, and each move and the closing sheet are lent that block and that run": for
-- every file, number of workers and set of lent buffers.
abbrev pub Demand3Holds : Type 0
Demand3Holds =
    (s : Sizes) (file : List ℕ) (workers : ℕ) → AreBytes file → (opening_of s file workers).answer ≡ Ok tt
    → (ms : List Move) → Demand3 s file workers ms
