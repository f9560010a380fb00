-- What each exported function answers, and what it leaves in all that it was lent.
use Rattle.machine.specs.declared.Answer.{Answer}
use Rattle.std.specs.Prelude.{Bool, List, [], ◌∷◌, ℕ, ltb, length, get_or, Err, Ok, Result}
use Rattle.std.specs.Prelude.{if◌then◌else◌}
use Rattle.wire.specs.Bytes.{stored, repeated}
use Rattle.block.specs.Limits.{max_bytes}
use Rattle.block.specs.Refusal.{verdict_number, verdict_offset}
use Rattle.block.specs.declared.Refusal.TheVariants.{Buffers}
use Rattle.machine.specs.Answer.{answer_number}
use Rattle.machine.specs.Run.{Run, Sizes, sizes_of, fixed_sizes, large_enough}
use Rattle.machine.specs.Opening.{Opened, refused_run, opening_of}
use Rattle.machine.specs.Moves.{Moved, stay}
use Rattle.machine.specs.Serial.{serial_run}
use Rattle.machine.specs.declared.Answer.TheVariants.{Damaged}
use Rattle.sheet.specs.Sheet.{Closed, closing_number, max_sheet, unwritten, sheet_of}
use Rattle.exports.specs.Words.{Words, words, head_words, run_in, words_after}

-- A head of so many words is too short.
abbrev pub too_short : ℕ → Bool
too_short n = ltb n head_words

-- The fixed sizes, by number, of the head and of the buffers that a run takes, and the lengths of the longest sheet and of the longest
-- block; 0 for any other number.
unfoldable pub size_of : ℕ → ℕ
size_of which =
    get_or
    (head_words
    ∷ fixed_sizes.plan
    ∷ fixed_sizes.keys
    ∷ fixed_sizes.cells ∷ fixed_sizes.status ∷ fixed_sizes.seats ∷ fixed_sizes.frames ∷ max_sheet ∷ max_bytes ∷ [])
    which 0

-- An opening: its number, 0 if it is accepted, its offset, and the words.
pub record OpenedWords : Type 0 where
  pub number : ℕ
  pub offset : ℕ
  pub words : Words

-- A head that is too short is a buffer that is too short: "20 (.. here with offset 0 and buffers zero)".
unfoldable pub opening_for : (head : ℕ) → Sizes → List ℕ → (workers : ℕ) → Opened
opening_for n s file workers = if too_short n then refused_run s Buffers else opening_of s file workers

-- The words of a run that no move has changed, its head of n words: four numbers, and zero behind them. No worker holds a call.
abbrev pub opened_head : ℕ → Run → List ℕ
opened_head n r =
    stored (repeated n 0) 0 (r.head.workers ∷ r.head.calls ∷ r.head.cells ∷ r.head.first_call ∷ [])

abbrev pub opened_words : ℕ → Opened → OpenedWords
opened_words n o =
    record {
      number = verdict_number o.answer;
      offset = verdict_offset o.answer;
      words = words (opened_head n o.run) o.run.plan o.run.keys o.run.cells o.run.status o.run.seats o.run.frames;
    }

abbrev pub open_words : (head : ℕ) → Sizes → List ℕ → (workers : ℕ) → OpenedWords
open_words n s file workers = opened_words n (opening_for n s file workers)

-- A move: its number, 0 if it is accepted, and the words.
pub record MovedWords : Type 0 where
  pub number : ℕ
  pub words : Words

-- A move of a worker on the run that the words stand for; 20 for a head that is too short.
unfoldable pub move_for : (Run → Moved) → Words → Moved
move_for move l = if too_short (length l.head) then stay (run_in l) Damaged else move (run_in l)

abbrev pub moved_words : Words → ℕ → Moved → MovedWords
moved_words l worker m = record { number = answer_number m.answer; words = words_after l worker m.run }

abbrev pub move_words : (Run → Moved) → Words → (worker : ℕ) → MovedWords
move_words move l worker = moved_words l worker (move_for move l)

-- The serial run as a move of worker 0: it is refused by the sizes of the buffers alone.
unfoldable pub serial_move : List ℕ → Run → Moved
serial_move block r =
    if large_enough (sizes_of r)
    then record { answer = Ok tt; run = serial_run block r }
    else stay r Damaged

-- A sheet: its number, 0 if it is written, the lent length, and the output.
pub record ClosedWords : Type 0 where
  pub number : ℕ
  pub sheet_length : ℕ
  pub output : List ℕ

-- The lent length behind a closing: that of a written sheet; a refusal leaves it as it was, "nothing changes".
unfoldable pub length_after : Result ℕ Answer → (before : ℕ) → ℕ
length_after (Ok n) before = n
length_after (Err a) before = before

unfoldable pub sheet_for : Words → List ℕ → Closed
sheet_for l output = if too_short (length l.head) then unwritten output Damaged else sheet_of (run_in l) output

abbrev pub closed_words : (before : ℕ) → Closed → ClosedWords
closed_words before c = record { number = closing_number c.answer; sheet_length = length_after c.answer before; output = c.output }

abbrev pub sheet_words : Words → (output : List ℕ) → (before : ℕ) → ClosedWords
sheet_words l output before = closed_words before (sheet_for l output)
