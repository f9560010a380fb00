-- What demand 3 compares: the run behind a list of moves with the tally, with the serial run and with the finished calls alone. "Demand 3
-- is one claim about the entire list and not a claim for each move."
use Rattle.std.specs.Prelude.{◌≡◌, Bool, List, ℕ, zero, suc}
use Rattle.wire.specs.Bytes.{below}
use Rattle.schedule.specs.Tally.{Phase, waiting, running, finished, Seat, idle, holds, is_finished}
use Rattle.schedule.specs.declared.Move.{Move}
use Rattle.schedule.specs.Taken.{taken}
use Rattle.footprint.specs.Sets.{write_set}
use Rattle.footprint.specs.Conflict.{member}
use Rattle.footprint.specs.KeyWords.{key_at}
use Rattle.machine.specs.Run as state
use Rattle.machine.specs.Run.{Run, Sizes}
use Rattle.machine.specs.Opening.{opening_of}
use Rattle.machine.specs.Moves.{begin_of, step_of, run_after}
use Rattle.machine.specs.Serial.{run_calls, serial_run, serial_run_of}
use Rattle.sheet.specs.Sheet.{sheet_of}
use Rattle.guarantees.specs.BlockTally.{is_before, steps_in, tally_after}
use Rattle.block.specs.BlockOfFile.{call_count}
use Rattle.footprint.specs.BlockSets.{sets_at}

-- A call's state and a worker's call as the run writes them.
abbrev pub state_number : Phase → ℕ
state_number waiting = state.waiting
state_number (running k) = state.running
state_number finished = state.finished

abbrev pub seat_number : Seat → ℕ
seat_number idle = 0
seat_number (holds call) = suc call

-- The run of a file opened for some workers in buffers of these sizes, before and behind a list of moves.
abbrev pub opened_in : Sizes → List ℕ → (workers : ℕ) → Run
opened_in s file workers = (opening_of s file workers).run

abbrev pub run_after_moves : Sizes → List ℕ → (workers : ℕ) → List Move → Run
run_after_moves s file workers ms = run_after file (opened_in s file workers) ms

-- "the steps since" the last begin, read on the tally.
abbrev pub steps_since : List ℕ → (workers : ℕ) → List Move → ℕ → ℕ
steps_since file workers ms = taken workers (call_count file) (is_before file) (steps_in file workers) ms

-- "The cells that a call may write are its write set": of the cell at a place of the table, by its key.
abbrev pub may_write : List ℕ → Run → (call cell : ℕ) → Bool
may_write file r call x = member (key_at r.keys x) (write_set (sets_at file call))

-- The serial run; and the finished calls alone: "the serial run of this same block in which only they are begun".
abbrev pub serial_run_of_file : Sizes → List ℕ → (workers : ℕ) → Run
serial_run_of_file s file workers = serial_run file (opened_in s file workers)

abbrev pub finished_alone : Sizes → List ℕ → (workers : ℕ) → List Move → Run
finished_alone s file workers ms =
    serial_run_of (λ call. is_finished ((tally_after file workers ms).phase call)) file (opened_in s file workers)

-- The serial run with a call begun on worker 0 and stepped k times: where a running call of k steps is to stand.
unfoldable pub stepped_run : ℕ → List ℕ → Run → Run
stepped_run zero file r = r
stepped_run (suc k) file r = stepped_run k file (step_of file r 0).run

abbrev pub serial_point_after : Sizes → List ℕ → (workers call steps : ℕ) → Run
serial_point_after s file workers call k = stepped_run k file (begin_of (run_calls file (opened_in s file workers) (below call)) 0 call).run

-- "The two closing sheets are asked for with equal outputs, and the answers and all output bytes are equal, at 28 too."
abbrev pub SameSheet : Run → Run → Type 0
SameSheet r r' = (output : List ℕ) → sheet_of r output ≡ sheet_of r' output
