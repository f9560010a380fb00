-- BEGIN by the row, as document 01 has it without M-100: "25 uses the states of all earlier conflicting calls". It serves the statement that after
-- an opening and moves alone the kept numbers answer and leave the same; no code makes it.
use Rattle.std.specs.Prelude.{Bool, true, false, ◌&&◌, ◌||◌, not, List, ℕ, zero, suc, eqb}
use Rattle.wire.specs.Rows.{in_row}
use Rattle.machine.specs.Run.{Run, row_in, state_of, is_state, finished}
use Rattle.machine.specs.Moves.{Moved, Waits, begin_by}

-- Among the first n calls of a row one is no state; and all are finished.
unfoldable pub earlier_broken : List ℕ → List ℕ → ℕ → Bool
earlier_broken row status zero = false
earlier_broken row status (suc n) = (in_row row n && not (is_state (state_of status n))) || earlier_broken row status n

unfoldable pub earlier_finished : List ℕ → List ℕ → ℕ → Bool
earlier_finished row status zero = true
earlier_finished row status (suc n) = (not (in_row row n) || eqb (state_of status n) finished) && earlier_finished row status n

abbrev pub waits_by_row : Run → ℕ → Waits
waits_by_row r call =
    record {
      broken = earlier_broken (row_in r.plan call) r.status call;
      unfinished = not (earlier_finished (row_in r.plan call) r.status call);
    }

abbrev pub begin_by_row : Run → ℕ → ℕ → Moved
begin_by_row = begin_by waits_by_row
