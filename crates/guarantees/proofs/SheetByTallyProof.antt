-- What is written of a sheet is what the tally and the serial run say; the next day opens from it, since all calls are finished where it is not empty.
use mathlib.Core.Path.{◌≡◌, refl, ap, ◌∙◌}
use mathlib.Core.Bool.{Bool, true, false}
use mathlib.Core.List.{List, []}
use Prim.Native.Nat.{ℕ}
use Rattle.std.specs.Prelude.{if◌then◌else◌, Ok}
use Rattle.block.specs.Limits.{max_workers}
use Rattle.block.specs.Encoding.{AreBytes}
use Rattle.machine.specs.Run.{fixed_sizes}
use Rattle.machine.specs.Opening.{opening_of}
use Rattle.sheet.specs.Sheet.{sheet_bytes}
use Rattle.block.specs.BlockOfFile.{call_count}
use Rattle.console.specs.Register.{play_input}
use Rattle.console.specs.SheetBytes.{closing_bytes, close_bytes, sheet_opened, written_sheet}
use Rattle.guarantees.specs.BlockTally.{tally_after}
use Rattle.guarantees.specs.Agreement.{opened_in, run_after_moves}
use Rattle.guarantees.specs.Demand2.{closing_state}
use Rattle.guarantees.specs.RegisterByTally.{lines_of}
use Rattle.guarantees.specs.SheetByTally.{sheet_by_tally, OpensFrom, SheetByTally}
use Rattle.guarantees.proofs.ClosedOpensProof.{closed_opens}
use Rattle.guarantees.proofs.RegisterOutput.ClosedByTally.{serial, all_done, moves_in, session_end, session_comes, serial_front, closed_by_tally}
use Rattle.guarantees.proofs.RegisterOutput.SheetPrinted.{close_whole}
use Rattle.guarantees.proofs.RegisterOutput.TallyEnd.{all_finished_lem}

module _ (file : List ℕ) (bytes : AreBytes file) (accepted : (opening_of fixed_sizes file max_workers).answer ≡ (Ok tt)) (input : List ℕ) where
  -- What is written is the close of the session at the input's end.
  closed : written_sheet file input ≡ close_bytes (session_end file input).run
  unfolding written_sheet sheet_opened play_input
  closed = ap (sheet_opened file input (opened_in fixed_sizes file max_workers)) accepted

  by_tally : written_sheet file input ≡ sheet_by_tally file (lines_of input)
  unfolding closing_bytes sheet_by_tally
  by_tally =
      closed ∙ closed_by_tally file bytes accepted (λ c. closing_bytes c c.answer) input
      ∙ ap (λ (t : List ℕ). if all_done file (moves_in input) then t else []) (serial_front file bytes accepted)

  -- Where it is not empty all calls are finished.
  module _ (some : written_sheet file input ≡ [] → ⊥) where
    done : all_done file (moves_in input) ≡ true
    unfolding sheet_by_tally
    done = go (all_done file (moves_in input)) by_tally
      where
        go : (b : Bool) → written_sheet file input ≡ (if b then sheet_bytes (serial file) else []) → b ≡ true
        go true e = refl
        go false e = absurd (some e)

    is_behind : written_sheet file input ≡ close_bytes (run_after_moves fixed_sizes file max_workers (moves_in input))
    is_behind = closed ∙ ap close_bytes (session_comes file input).run

    opens_from : OpensFrom (written_sheet file input) (closing_state file)
    opens_from =
        record {
          run = run_after_moves fixed_sizes file max_workers (moves_in input);
          bytes = is_behind ∙ close_whole (run_after_moves fixed_sizes file max_workers (moves_in input)) (λ e. some (is_behind ∙ e));
          next =
              closed_opens fixed_sizes file max_workers bytes accepted (moves_in input)
              (all_finished_lem (tally_after file max_workers (moves_in input)) (call_count file) done);
        }

pub sheet_by_tally_lem : SheetByTally
unfolding written_sheet sheet_opened
sheet_by_tally_lem =
    record {
      accepted = λ file input bytes accepted. by_tally file bytes accepted input;
      refused = λ file input why refused. ap (sheet_opened file input (opened_in fixed_sizes file max_workers)) refused;
      opens = λ file input bytes accepted some. opens_from file bytes accepted input some;
    }
