-- The words behind an exported function stand for the run that the register's definitions leave of the run that they stood for. So a run that is opened
-- and moved through these functions, each lent the words that the one before left, is the run of the theorems, and its answers are theirs.
use Rattle.std.specs.Prelude.{◌≡◌, List, ℕ, ◌≤◌, length}
use Rattle.machine.specs.Answer.{answer_number}
use Rattle.machine.specs.Run.{Sizes}
use Rattle.machine.specs.Opening.{opening_of}
use Rattle.machine.specs.Moves.{Moved, begin_of, step_of, cancel_of}
use Rattle.exports.specs.Words.{Words, head_words, run_in}
use Rattle.exports.specs.Exports.{MovedWords, open_words, move_words, serial_move}

-- A move on words that is the move on their run: its number, the run behind it, and a head as long as it was.
pub record IsMove (l : Words) (m : MovedWords) (o : Moved) : Type 0 where
  pub number : m.number ≡ answer_number o.answer
  pub run : run_in m.words ≡ o.run
  pub kept : length m.words.head ≡ length l.head

pub record WordsStand : Type 0 where
  pub opens : (n : ℕ) (s : Sizes) (file : List ℕ) (workers : ℕ) → head_words ≤ n → run_in (open_words n s file workers).words ≡ (opening_of s file workers).run
  pub long : (n : ℕ) (s : Sizes) (file : List ℕ) (workers : ℕ) → length (open_words n s file workers).words.head ≡ n
  pub begins : (l : Words) (worker call : ℕ) → head_words ≤ length l.head
      → IsMove l (move_words (λ r. begin_of r worker call) l worker) (begin_of (run_in l) worker call)
  pub steps : (block : List ℕ) (l : Words) (worker : ℕ) → head_words ≤ length l.head
      → IsMove l (move_words (λ r. step_of block r worker) l worker) (step_of block (run_in l) worker)
  pub cancels : (l : Words) (worker : ℕ) → head_words ≤ length l.head
      → IsMove l (move_words (λ r. cancel_of r worker) l worker) (cancel_of (run_in l) worker)
  pub runs : (block : List ℕ) (l : Words) → head_words ≤ length l.head → IsMove l (move_words (serial_move block) l 0) (serial_move block (run_in l))
