-- A whole line played, its answer written, over plain variables.
use Rattle.std.specs.Prelude.{None, Option, Some, Result, Ok, Err}
use mathlib.Core.Path.{◌≡◌, refl, sym, ap, ◌∙◌}
use mathlib.Core.Bool.{false}
use mathlib.Core.List.{List, [], ◌∷◌}
use Prim.Native.Nat.{ℕ}
use Rattle.wire.specs.Bytes.{stored}
use Rattle.schedule.specs.declared.Move.{Move}
use Rattle.machine.specs.Answer.{answer_number, refused_number}
use Rattle.machine.specs.Run.{Run}
use Rattle.machine.specs.Moves.{Moved, move_of}
use Rattle.machine.specs.declared.Answer.{Answer}
use Rattle.machine.specs.declared.Answer.TheVariants.{Damaged, NoWorker, NoCall, WorkerBusy, NotWaiting, EarlierUnfinished, WorkerIdle, CallUnfinished, SheetTooLong}
use Rattle.moves.specs.Lent.{moved, moved_by}
use Rattle.machine.specs.declared.Head.{Head}
use Rattle.wire.specs.Decimal.{line_feed}
use Rattle.text.specs.Lines.{refused_text}
use Rattle.text.specs.Written.{Written}
use Rattle.console.specs.Line.{is_empty, line_move}
use Rattle.console.specs.Register.{answer_text, next_number, after_move, play_move, play_line, play_end, play_bytes, play_byte}
use Rattle.console.specs.declared.Line.{Line}
use Rattle.console.specs.declared.Line.TheVariants.{Empty, Named, Spaced, First, Between, Second, Malformed}
use Rattle.play.specs.Shown.{Shown, fresh_session, shown, shown_from}

-- A refusal's number is above 0, so its text is the line of a refused move.
pub refused_shown : (line : ℕ) (why : Answer) → answer_text line (refused_number why) ≡ refused_text line (refused_number why)
unfolding answer_text refused_number
refused_shown line Damaged = refl
refused_shown line NoWorker = refl
refused_shown line NoCall = refl
refused_shown line WorkerBusy = refl
refused_shown line NotWaiting = refl
refused_shown line EarlierUnfinished = refl
refused_shown line WorkerIdle = refl
refused_shown line CallUnfinished = refl
refused_shown line SheetTooLong = refl

module _ (block : List ℕ) (number : ℕ) (line : Line) (run : Run) (out after : List ℕ) (from end : ℕ) where
  -- A line in no such form.
  pub line_none : None ≡ line_move line → Written out after from end (refused_text number 0)
      → shown_from (next_number number) Empty run after end ≡ shown out from (play_line block (fresh_session number line run))
  unfolding play_move
  line_none e w =
      (λ i. shown_from (next_number number) Empty run (w.same i) (w.end i))
      ∙ ap (λ (m : Option Move). shown out from (play_move block (fresh_session number line run) m)) e

  -- A line that names a move.
  pub line_some : (m : Move) → Some m ≡ line_move line → {answer : Result (Unit {0}) Answer} {left : Run} → moved answer left ≡ move_of block run m
      → Written out after from end (answer_text number (answer_number answer))
      → shown_from (next_number number) Empty left after end ≡ shown out from (play_line block (fresh_session number line run))
  unfolding play_move
  line_some m e {answer} {left} made w =
      (λ i. shown_from (next_number number) Empty left (w.same i) (w.end i))
      ∙ ap (λ (r : Moved). shown out from (after_move (fresh_session number line run) r)) made
      ∙ ap (λ (o : Option Move). shown out from (play_move block (fresh_session number line run) o)) e

-- A move by value that is accepted, and one that is refused.
pub made_on : (head : Head) {r : Result Head Answer} (run : Head → Run) {m : Moved} {after : Head} → r ≡ Ok after → moved_by head r run ≡ m → moved (Ok tt) (run after) ≡ m
made_on head run is k = ap (λ (x : Result Head Answer). moved_by head x run) (sym is) ∙ k

pub made_off : (head : Head) {r : Result Head Answer} (run : Head → Run) {m : Moved} {why : Answer} → r ≡ Err why → moved_by head r run ≡ m → moved (Err why) (run head) ≡ m
made_off head run is k = ap (λ (x : Result Head Answer). moved_by head x run) (sym is) ∙ k

-- At the input's end a line that is not empty is played.
not_empty : (line : Line) → (line ≡ Empty → ⊥) → is_empty line ≡ false
unfolding is_empty
not_empty Empty h = absurd (h refl)
not_empty (Named l) h = refl
not_empty (Spaced l) h = refl
not_empty (First l digits n) h = refl
not_empty (Between w) h = refl
not_empty (Second w digits n) h = refl
not_empty Malformed h = refl

-- An empty rest is no line.
pub end_empty : (block : List ℕ) (number : ℕ) (line : Line) (run : Run) (out : List ℕ) → line ≡ Empty
    → shown_from number line run out 0 ≡ shown out 0 (play_end block (fresh_session number line run))
unfolding play_end is_empty stored
end_empty block number line run out e = rw e refl

-- Every other rest is played as a line feed behind it would play it.
pub end_line : (block : List ℕ) (number : ℕ) (line : Line) (run : Run) (out : List ℕ) → (line ≡ Empty → ⊥)
    → {w : Shown} → w ≡ shown out 0 (play_bytes block (fresh_session number line run) (line_feed ∷ [])) → w ≡ shown out 0 (play_end block (fresh_session number line run))
unfolding play_end play_bytes play_byte
end_line block number line run out h e = rw (not_empty line h) e
