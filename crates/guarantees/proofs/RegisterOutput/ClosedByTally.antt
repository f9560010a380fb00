-- How an accepted block closes behind an input: by demand 3, at the moves of the input's lines, with the sheet of the serial run, or with 27.
use mathlib.Core.Path.{◌≡◌, refl, ap, ◌∙◌}
use mathlib.Core.Bool.{Bool, true, false}
use mathlib.Core.List.{List, []}
use Prim.Native.Nat.{ℕ, ◌≤◌}
use lib.ListN.{length, take}
use Rattle.std.specs.Prelude.{if◌then◌else◌, Ok}
use Rattle.block.specs.Limits.{max_workers}
use Rattle.block.specs.Encoding.{AreBytes}
use Rattle.schedule.specs.declared.Move.{Move}
use Rattle.machine.specs.Run.{Run, fixed_sizes}
use Rattle.machine.specs.Opening.{opening_of}
use Rattle.machine.specs.declared.Answer.TheVariants.{CallUnfinished}
use Rattle.sheet.specs.Sheet.{sheet_records, sheet_bytes, offset_behind, Closed, unwritten, filled, sheet_of, max_sheet}
use Rattle.console.specs.Register.{Session, max_input}
use Rattle.console.specs.declared.Line.TheVariants.{Empty}
use Rattle.block.specs.BlockOfFile.{call_count}
use Rattle.guarantees.specs.BlockTally.{tally_after}
use Rattle.guarantees.specs.Agreement.{opened_in, run_after_moves, serial_run_of_file}
use Rattle.guarantees.specs.Demand3.{Demand3}
use Rattle.guarantees.specs.RegisterByTally.{lines_of, moves_of, finished_below}
use Rattle.guarantees.proofs.AcceptedOpening.AfterOpening.{AfterOpening, after_opening}
use Rattle.guarantees.proofs.SerialAndRule.SerialRunOfFile.{serially_matches}
use Rattle.guarantees.proofs.ClosingSheet.SheetWritten.{few_calls_lem, few_cells}
use Rattle.guarantees.proofs.Demand3Proof.{demand_3}
use Rattle.guarantees.proofs.RegisterOutput.SessionLines.{session_ended, input_comes, Comes}
use Rattle.guarantees.proofs.RegisterOutput.SheetPrinted.{room, sheet_at_most, sheet_front, sheet_fits}
use Rattle.guarantees.proofs.RegisterOutput.TallyEnd.{all_finished_lem, some_unfinished}

-- The serial run, and whether the tally has every call finished behind some moves.
abbrev pub serial : List ℕ → Run
serial file = serial_run_of_file fixed_sizes file max_workers

abbrev pub all_done : List ℕ → List Move → Bool
all_done file ms = finished_below (tally_after file max_workers ms) (call_count file)

-- ---- the session at the opening, and at the input's end

abbrev pub moves_in : List ℕ → List Move
moves_in input = moves_of (lines_of input)

abbrev pub session_start : List ℕ → Session
session_start file = record { number = 1; line = Empty; run = opened_in fixed_sizes file max_workers; output = [] }

abbrev pub session_end : List ℕ → List ℕ → Session
session_end file input = session_ended file (session_start file) (take max_input input)

pub session_comes : (file input : List ℕ) → Comes file (session_start file) (session_end file input) (lines_of input)
session_comes file input = input_comes file (session_start file) (take max_input input)

-- ---- the close

module _ (file : List ℕ) (bytes : AreBytes file) (accepted : (opening_of fixed_sizes file max_workers).answer ≡ (Ok tt)) where
  serial_short : length (sheet_bytes (serial file)) ≤ max_sheet
  serial_short =
      let after : AfterOpening fixed_sizes file max_workers = after_opening fixed_sizes file max_workers bytes accepted in
      let stands = serially_matches fixed_sizes file max_workers bytes after in
      sheet_at_most (serial file) (few_calls_lem fixed_sizes file max_workers after _ (serial file) stands) (few_cells fixed_sizes file max_workers after _ (serial file) stands)

  -- The serial run's sheet stands at the front of REGISTER's output.
  pub serial_front : take (offset_behind (sheet_records (serial file))) (filled room (sheet_records (serial file))).output ≡ sheet_bytes (serial file)
  serial_front = sheet_front (sheet_records (serial file)) serial_short

  -- The close behind a list of moves.
  abbrev closed_if : Bool → Closed
  closed_if done = if done then filled room (sheet_records (serial file)) else unwritten room CallUnfinished

  closed_after : (ms : List Move) → sheet_of (run_after_moves fixed_sizes file max_workers ms) room ≡ closed_if (all_done file ms)
  closed_after ms = go (all_done file ms) refl
    where
      d : Demand3 fixed_sizes file max_workers ms
      d = demand_3 fixed_sizes file max_workers bytes accepted ms

      go : (done : Bool) → all_done file ms ≡ done → sheet_of (run_after_moves fixed_sizes file max_workers ms) room ≡ closed_if done
      go true e =
          (d.close (all_finished_lem (tally_after file max_workers ms) (call_count file) e)).written room ∙ sheet_fits (sheet_records (serial file)) serial_short
      go false e =
          let u = some_unfinished (tally_after file max_workers ms) (call_count file) e in d.unfinished u.0 u.1 u.2 room

  -- What is made of the close at the input's end: of the serial run's sheet, or of 27.
  pub closed_by_tally : (f : Closed → List ℕ) (input : List ℕ)
      → f (sheet_of (session_end file input).run room)
      ≡ (if all_done file (moves_in input) then f (filled room (sheet_records (serial file))) else f (unwritten room CallUnfinished))
  closed_by_tally f input =
      ap (λ (r : Run). f (sheet_of r room)) (session_comes file input).run ∙ ap f (closed_after (moves_in input)) ∙ go (all_done file (moves_in input))
    where
      go : (done : Bool) → f (closed_if done) ≡ (if done then f (filled room (sheet_records (serial file))) else f (unwritten room CallUnfinished))
      go true = refl
      go false = refl
