-- "The tally of demand 3 is fed the block, the number of workers and the list of moves, nothing else."
use Rattle.std.specs.Prelude.{Bool, List, ℕ}
use Rattle.schedule.specs.Tally as tally
use Rattle.schedule.specs.Tally.{Tally}
use Rattle.schedule.specs.declared.Move.{Move}
use Rattle.footprint.specs.Conflict.{conflict}
use Rattle.block.specs.BlockOfFile.{call_count}
use Rattle.footprint.specs.BlockSets.{sets_at}
use Rattle.machine.specs.Opening.{opening_of}
use Rattle.machine.specs.Serial.{serial_steps}
use Rattle.machine.specs.Run.{fixed_sizes}

-- "Call i is before j": asked for i < j alone.
abbrev pub is_before : List ℕ → (i j : ℕ) → Bool
is_before file i j = conflict (sets_at file i) (sets_at file j)

-- "the number of steps that the serial run takes for that call"
abbrev pub steps_in : List ℕ → (workers : ℕ) → ℕ → ℕ
steps_in file workers call = serial_steps file (opening_of fixed_sizes file workers).run call

-- The tally after a list of moves, and its answers.
abbrev pub tally_after : List ℕ → (workers : ℕ) → List Move → Tally
tally_after file workers ms = tally.after workers (call_count file) (is_before file) (steps_in file workers) ms

abbrev pub tally_answers : List ℕ → (workers : ℕ) → List Move → List ℕ
tally_answers file workers ms = tally.answers workers (call_count file) (is_before file) (steps_in file workers) ms
