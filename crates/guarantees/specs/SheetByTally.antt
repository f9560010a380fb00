-- The closing sheet's bytes by the tally: what is written of a block, from the file and the input alone, and that the next day opens from it. No
-- run is mentioned but the serial one.
use Rattle.std.specs.Prelude.{◌≡◌, List, [], ℕ, Err, Ok, Option}
use Rattle.std.specs.Prelude.{if◌then◌else◌}
use Rattle.block.specs.Limits.{max_workers}
use Rattle.block.specs.Encoding.{AreBytes}
use Rattle.block.specs.declared.Refusal.{Refusal}
use Rattle.schedule.specs.declared.Move.{Move}
use Rattle.rule.specs.Rule.{State}
use Rattle.block.specs.BlockOfFile.{call_count}
use Rattle.machine.specs.Run.{Run, fixed_sizes}
use Rattle.machine.specs.Opening.{opening_of}
use Rattle.sheet.specs.Sheet.{sheet_bytes}
use Rattle.console.specs.SheetBytes.{written_sheet}
use Rattle.guarantees.specs.BlockTally.{tally_after}
use Rattle.guarantees.specs.Agreement.{serial_run_of_file}
use Rattle.guarantees.specs.Demand2.{closing_state}
use Rattle.guarantees.specs.RegisterByTally.{lines_of, moves_of, finished_below}
use Rattle.guarantees.specs.ClosedOpens.{OpensNext}

-- The sheet of the serial run; none while a call is unfinished.
unfoldable pub sheet_by_tally : List ℕ → List (Option Move) → List ℕ
sheet_by_tally file ls =
    if finished_below (tally_after file max_workers (moves_of ls)) (call_count file) then sheet_bytes (serial_run_of_file fixed_sizes file max_workers) else []

-- A sheet from which the next day opens with a state: that of some run whose kind 2 records do.
pub record OpensFrom (sheet : List ℕ) (σ : State) : Type 0 where
  pub run : Run
  pub bytes : sheet ≡ sheet_bytes run
  pub next : OpensNext run σ

pub record SheetByTally : Type 0 where
  -- For every accepted block and every input: whatever the order of the moves, what is written is what the tally and the serial run say.
  pub accepted : (file input : List ℕ) → AreBytes file → (opening_of fixed_sizes file max_workers).answer ≡ Ok tt
      → written_sheet file input ≡ sheet_by_tally file (lines_of input)
  -- Of a refused block nothing is written.
  pub refused : (file input : List ℕ) (why : Refusal) → (opening_of fixed_sizes file max_workers).answer ≡ Err why
      → written_sheet file input ≡ []
  -- From what is written the next day opens, with the state that the published rule leaves.
  pub opens : (file input : List ℕ) → AreBytes file → (opening_of fixed_sizes file max_workers).answer ≡ Ok tt
      → (written_sheet file input ≡ [] → ⊥) → OpensFrom (written_sheet file input) (closing_state file)
