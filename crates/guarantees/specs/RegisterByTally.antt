-- REGISTER by the tally: what it prints of an accepted block, from the file and the input alone. No run is mentioned but the serial one.
use Rattle.std.specs.Prelude.{◌≡◌, Bool, true, false, ◌&&◌, List, [], ◌∷◌, ◌++◌, ℕ, zero, suc, eqb, take, None, Ok, Option, Some}
use Rattle.std.specs.Prelude.{if◌then◌else◌}
use Rattle.wire.specs.Decimal.{line_feed}
use Rattle.block.specs.Limits.{max_workers}
use Rattle.block.specs.Encoding.{AreBytes}
use Rattle.text.specs.Lines.{refused_text}
use Rattle.schedule.specs.Tally.{Tally, is_finished}
use Rattle.schedule.specs.declared.Move.{Move}
use Rattle.machine.specs.Run.{fixed_sizes}
use Rattle.machine.specs.Opening.{opening_of}
use Rattle.console.specs.Line.{read_byte, is_empty, line_move}
use Rattle.sheet.specs.Sheet.{sheet_bytes}
use Rattle.console.specs.Text.{sheet_text}
use Rattle.console.specs.Register.{answer_text, next_number, max_input, register_of}
use Rattle.console.specs.declared.Line.{Line}
use Rattle.console.specs.declared.Line.TheVariants.{Empty}
use Rattle.guarantees.specs.BlockTally.{tally_after, tally_answers}
use Rattle.guarantees.specs.Agreement.{serial_run_of_file}
use Rattle.block.specs.BlockOfFile.{call_count}

-- The lines of an input, each by its move; none for "a line in no such form". "A line ends at a line feed or, unless empty, at the input's
-- end".
abbrev pub lastLine : Line → List (Option Move)
lastLine l = if is_empty l then [] else line_move l ∷ []

unfoldable pub lines_from : Line → List ℕ → List (Option Move)
lines_from l [] = lastLine l
lines_from l (x ∷ xs) = elim (eqb x line_feed) [ true ↦ line_move l ∷ lines_from Empty xs | false ↦ lines_from (read_byte l x) xs ]

abbrev pub lines_of : List ℕ → List (Option Move)
lines_of input = lines_from Empty (take max_input input)

-- Their moves.
unfoldable pub moves_of : List (Option Move) → List Move
moves_of [] = []
moves_of (None ∷ ls) = moves_of ls
moves_of (Some m ∷ ls) = m ∷ moves_of ls

-- "A refused move prints `r`, its line from 1, its number .. A line in no such form .. moves nothing and prints `r`, its line, 0": of the
-- lines from number n on, whose moves are answered by these numbers.
unfoldable pub lines_text : ℕ → List (Option Move) → List ℕ → List ℕ
lines_text n [] answers = []
lines_text n (None ∷ ls) answers = refused_text n 0 ++ lines_text (next_number n) ls answers
lines_text n (Some m ∷ ls) [] = lines_text (next_number n) ls []
lines_text n (Some m ∷ ls) (a ∷ answers) = answer_text n a ++ lines_text (next_number n) ls answers

-- Whether the tally has the first n calls finished.
unfoldable pub finished_below : Tally → ℕ → Bool
finished_below t zero = true
finished_below t (suc n) = is_finished (t.phase n) && finished_below t n

-- The tally's answers, as refused lines; then the sheet of the serial run, as text, or "`r 0 27` in place of the k and t lines".
unfoldable pub register_by_tally : List ℕ → List (Option Move) → List ℕ
register_by_tally file ls =
    lines_text 1 ls (tally_answers file max_workers (moves_of ls))
    ++ (if finished_below (tally_after file max_workers (moves_of ls)) (call_count file)
    then sheet_text (sheet_bytes (serial_run_of_file fixed_sizes file max_workers))
    else refused_text 0 27)

-- For every accepted block and every input: whatever the order of the moves, REGISTER prints what the tally and the serial run say.
abbrev pub RegisterByTally : Type 0
RegisterByTally =
    (file input : List ℕ) → AreBytes file → (opening_of fixed_sizes file max_workers).answer ≡ Ok tt
    → register_of file input ≡ register_by_tally file (lines_of input)
