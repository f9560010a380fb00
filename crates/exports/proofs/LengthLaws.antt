-- What the number of the head's words decides: an opening and a move on too few of them, and on enough.
use mathlib.Core.Path.{◌≡◌}
use mathlib.Core.List.{List}
use Prim.Native.Nat.{ℕ, ◌<◌, ◌≤◌}
use lib.ListN.{length}
use borrow.Author.Tests.{lt-ltb, le-ltb}
use Rattle.block.specs.declared.Refusal.TheVariants.{Buffers}
use Rattle.machine.specs.Run.{Run, Sizes}
use Rattle.machine.specs.Opening.{refused_run, opening_of}
use Rattle.machine.specs.Moves.{Moved, stay}
use Rattle.machine.specs.declared.Answer.TheVariants.{Damaged}
use Rattle.exports.specs.Words.{Words, head_words, run_in}
use Rattle.exports.specs.Exports.{opening_for, move_for}

module _ (n : ℕ) (s : Sizes) (file : List ℕ) (workers : ℕ) where
  pub open_long : head_words ≤ n → opening_of s file workers ≡ opening_for n s file workers
  unfolding opening_for
  open_long long = rw (le-ltb n head_words long)

  pub open_short : n < head_words → refused_run s Buffers ≡ opening_for n s file workers
  unfolding opening_for
  open_short short = rw (lt-ltb n head_words short)

module _ (move : Run → Moved) (l : Words) where
  pub move_short : length l.head < head_words → stay (run_in l) Damaged ≡ move_for move l
  unfolding move_for
  move_short short = rw (lt-ltb (length l.head) head_words short)

  pub move_long : head_words ≤ length l.head → move (run_in l) ≡ move_for move l
  unfolding move_for
  move_long long = rw (le-ltb (length l.head) head_words long)
