-- What the exported functions answer and leave, computed on block P for three workers, its head of 13 words.
use Rattle.std.specs.Prelude.{◌≡◌, refl, List, [], ◌∷◌, map, ℕ, set, take}
use Rattle.wire.specs.Bytes.{repeated, below}
use Rattle.block.specs.Assemble.{text}
use Rattle.block.specs.Worked.{P}
use Rattle.machine.specs.Run.{fixed_sizes}
use Rattle.machine.specs.Moves.{begin_of, step_of, cancel_of}
use Rattle.exports.specs.Words.{Words, words}
use Rattle.exports.specs.Exports.{OpenedWords, open_words, MovedWords, move_words, serial_move, ClosedWords, sheet_words, size_of}
use Rattle.exports.specs.Computing.{computing}

-- The moves on words.
abbrev begins : ℕ → ℕ → Words → MovedWords
begins worker call l = move_words (λ r. begin_of r worker call) l worker

abbrev steps : ℕ → Words → MovedWords
steps worker l = move_words (λ r. step_of P r worker) l worker

abbrev cancels : ℕ → Words → MovedWords
cancels worker l = move_words (λ r. cancel_of r worker) l worker

-- The same words with another head, and with one of its words changed.
abbrev with_head : Words → List ℕ → Words
with_head l head = words head l.plan l.keys l.cells l.status l.seats l.frames

abbrev head_at : ℕ → ℕ → Words → Words
head_at i v l = with_head l (set l.head i v)

unfoldable pub opened_p : OpenedWords
opened_p = open_words 13 fixed_sizes P 3

unfoldable pub start_p : Words
start_p = opened_p.words

-- Worker 1 holds call 0.
unfoldable pub begun_p : MovedWords
begun_p = begins 1 0 start_p

-- Worker 2's word is beyond 16 bits.
unfoldable pub damaged_p : Words
damaged_p = head_at 6 65536 start_p

unfoldable pub ran_p : MovedWords
ran_p = move_words (serial_move P) start_p 0

-- Its sheet for an output of so many bytes; the lent length was 5.
abbrev sheet_p : ℕ → ClosedWords
sheet_p n = sheet_words ran_p.words (repeated n 7) 5

pub record Exported : Type 0 where
  -- Three workers, three calls, four cells, and the first call record at byte 120.
  pub opened : opened_p.number ∷ opened_p.offset ∷ opened_p.words.head ≡ 0 ∷ 0 ∷ 3 ∷ 3 ∷ 4 ∷ 120 ∷ repeated 9 0
  -- A head of 11 words is refused by 20, and a block that is cut in its first call by 2, there; every word is zero.
  pub short_opened : (open_words 11 fixed_sizes P 3).number ∷ (open_words 11 fixed_sizes P 3).offset ∷ (open_words 11 fixed_sizes P 3).words.head ≡ 20 ∷ 0 ∷ repeated 11 0
  pub refused : (open_words 12 fixed_sizes (take 123 P) 3).number ∷ (open_words 12 fixed_sizes (take 123 P) 3).offset ∷ (open_words 12 fixed_sizes (take 123 P) 3).words.head ≡ 2 ∷ 120 ∷ repeated 12 0
  -- BEGIN stores the call's number plus 1 in the worker's word; CANCEL, and the step that ends the call, store 0.
  pub begun : begun_p.number ∷ begun_p.words.head ≡ 0 ∷ set start_p.head 5 1
  pub cancelled : (cancels 1 begun_p.words).number ∷ (cancels 1 begun_p.words).words.head ≡ 0 ∷ start_p.head
  pub stepped : (steps 1 begun_p.words).number ∷ (steps 1 begun_p.words).words.head ≡ 0 ∷ begun_p.words.head
  -- A refused move leaves the words as they were.
  pub no_move : map (λ m. m.number) (begins 0 1 start_p ∷ begins 0 3 start_p ∷ steps 0 start_p ∷ steps 13 start_p ∷ []) ≡ 25 ∷ 22 ∷ 26 ∷ 21 ∷ []
  pub unmoved : (begins 0 1 start_p).words ≡ start_p
  -- A head that is too short.
  pub short : (begins 1 0 (with_head start_p (take 11 start_p.head))).number ∷ (begins 1 0 (with_head start_p (take 11 start_p.head))).words.head ≡ 20 ∷ take 11 start_p.head
  -- A word beyond 16 bits is 20 for its worker, and stays; it is nothing to another worker.
  pub damaged : (begins 2 0 damaged_p).number ∷ (begins 2 0 damaged_p).words.head ≡ 20 ∷ damaged_p.head
  pub beside : (begins 1 0 damaged_p).number ∷ (begins 1 0 damaged_p).words.head ≡ 0 ∷ set damaged_p.head 5 1
  -- The serial run, and its sheet: three cells, three receipts and the end are 100 bytes.
  pub ran : ran_p.number ∷ ran_p.words.head ≡ 0 ∷ start_p.head
  pub closed : (sheet_p 100).number ∷ (sheet_p 100).sheet_length ∷ [] ≡ 0 ∷ 100 ∷ []
  -- A refused sheet changes neither the output nor the lent length: 28, 27, and 20 for a head that is too short.
  pub unwritten : (sheet_p 99).number ∷ (sheet_p 99).sheet_length ∷ (sheet_p 99).output ≡ 28 ∷ 5 ∷ repeated 99 7
  pub unfinished : sheet_words start_p (repeated 100 7) 5 ≡ record { number = 27; sheet_length = 5; output = repeated 100 7 }
  pub headless : sheet_words (with_head ran_p.words (repeated 11 0)) (repeated 100 7) 5 ≡ record { number = 20; sheet_length = 5; output = repeated 100 7 }
  -- The fixed sizes.
  pub sizes : map size_of (below 10) ≡ 12 ∷ 8192 ∷ 2048 ∷ 1024 ∷ 1024 ∷ 128 ∷ 256 ∷ 26628 ∷ 65536 ∷ 0 ∷ []

pub exported : Exported
unfolding computing text P opened_p start_p begun_p damaged_p ran_p
exported =
    record {
      opened = refl;
      short_opened = refl;
      refused = refl;
      begun = refl;
      cancelled = refl;
      stepped = refl;
      no_move = refl;
      unmoved = refl;
      short = refl;
      damaged = refl;
      beside = refl;
      ran = refl;
      closed = refl;
      unwritten = refl;
      unfinished = refl;
      headless = refl;
      sizes = refl;
    }
