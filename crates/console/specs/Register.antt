-- The program REGISTER as one function from the bytes of block.bin and of standard input to the bytes of standard output.
use Rattle.block.specs.declared.Refusal.{Refusal}
use Rattle.machine.specs.declared.Answer.{Answer}
use Rattle.std.specs.Prelude.{true, false, List, [], ◌∷◌, ◌++◌, ℕ, zero, suc, ◌+◌, ◌-◌, ◌^◌, eqb, ltb, take, Err, None, Ok, Option, Result, Some}
use Rattle.std.specs.Prelude.{if◌then◌else◌}
use Rattle.wire.specs.Bytes.{repeated}
use Rattle.block.specs.Limits.{max_workers}
use Rattle.block.specs.Refusal.{number_of, offset_of}
use Rattle.schedule.specs.declared.Move.{Move}
use Rattle.machine.specs.Answer.{answer_number, refused_number}
use Rattle.machine.specs.Run.{Run, fixed_sizes}
use Rattle.machine.specs.Opening.{Opened, opening_of}
use Rattle.machine.specs.Moves.{Moved, move_of}
use Rattle.sheet.specs.Sheet.{Closed, max_sheet, sheet_of}
use Rattle.wire.specs.Decimal.{line_feed}
use Rattle.console.specs.Line.{read_byte, is_empty, line_move}
use Rattle.text.specs.Lines.{refused_text, block_refused_text}
use Rattle.console.specs.Text.{sheet_text}
use Rattle.console.specs.declared.Line.{Line}
use Rattle.console.specs.declared.Line.TheVariants.{Empty}

-- Where the reading of the input stands: the number of the line from 1, what is read of it, the run and the output so far.
pub record Session : Type 0 where
  pub number : ℕ
  pub line : Line
  pub run : Run
  pub output : List ℕ

-- The text of an answered line; an accepted move has none.
unfoldable pub answer_text : ℕ → ℕ → List ℕ
answer_text line zero = []
answer_text line (suc n) = refused_text line (suc n)

-- Lines are numbered from 1; an input of 2^32 - 1 bytes has no line of a number above 2^32.
unfoldable pub next_number : ℕ → ℕ
next_number n = if ltb n (2 ^ 32) then n + 1 else n

abbrev pub next_line : Session → Run → List ℕ → Session
next_line s r text = record { number = next_number s.number; line = Empty; run = r; output = s.output ++ text }

abbrev pub after_move : Session → Moved → Session
after_move s m = next_line s m.run (answer_text s.number (answer_number m.answer))

-- A whole line: its move, or, "in no such form", nothing moved and `r`, its line, 0.
unfoldable pub play_move : List ℕ → Session → Option Move → Session
play_move block s None = next_line s s.run (refused_text s.number 0)
play_move block s (Some m) = after_move s (move_of block s.run m)

abbrev pub play_line : List ℕ → Session → Session
play_line block s = play_move block s (line_move s.line)

-- One byte of the input. "A line ends at a line feed".
unfoldable pub play_byte : List ℕ → Session → ℕ → Session
play_byte block s x =
    elim (eqb x line_feed) [
      | true ↦ play_line block s
      | false ↦ record { number = s.number; line = read_byte s.line x; run = s.run; output = s.output }
    ]

-- The input byte by byte, so that pieces of it may be played one after another.
unfoldable pub play_bytes : List ℕ → Session → List ℕ → Session
play_bytes block s [] = s
play_bytes block s (x ∷ xs) = play_bytes block (play_byte block s x) xs

-- ".. or, unless empty, at the input's end"
unfoldable pub play_end : List ℕ → Session → Session
play_end block s = if is_empty s.line then s else play_line block s

-- The sheet as text, or "a refused sheet `r 0 27` in place of the k and t lines".
unfoldable pub closing_text : Closed → Result ℕ Answer → List ℕ
closing_text c (Ok n) = sheet_text (take n c.output)
closing_text c (Err a) = refused_text 0 (refused_number a)

abbrev pub close_run : Run → List ℕ
close_run r = let c : Closed = sheet_of r (repeated max_sheet 0) in closing_text c c.answer

-- "Standard input counts as ended after 2^32 - 1 bytes."
abbrev pub max_input : ℕ
max_input = 2 ^ 32 - 1

unfoldable pub play_input : List ℕ → Run → List ℕ → Session
play_input block r input =
    play_end block (play_bytes block (record { number = 1; line = Empty; run = r; output = [] }) (take max_input input))

unfoldable pub register_opened : List ℕ → List ℕ → Run → Result (Unit {0}) Refusal → List ℕ
register_opened block input r (Err why) = block_refused_text (number_of why) (offset_of why)
register_opened block input r (Ok tt) = let s : Session = play_input block r input in s.output ++ close_run s.run

-- "The program REGISTER reads P from the file block.bin and .. text lines on standard input (.. 8 workers)."
unfoldable pub register_of : List ℕ → List ℕ → List ℕ
register_of block input =
    let o : Opened = opening_of fixed_sizes block max_workers in register_opened block input o.run o.answer
