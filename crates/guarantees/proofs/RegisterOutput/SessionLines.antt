-- A session and the lines of its input: the run behind the moves of the lines, and the text of their answers.
use mathlib.Core.Path.{◌≡◌, refl, sym, subst, ◌∙◌}
use mathlib.Core.Bool.{Bool, true, false}
use mathlib.Core.List.{List, [], ◌∷◌, ◌++◌, append_assoc, append-nil}
use Prim.Native.Nat.{ℕ}
use lib.Dec.{eqb}
use Rattle.std.specs.Prelude.{if◌then◌else◌, None, Option, Some}
use Rattle.arith.proofs.ChoiceLaws.{by_test}
use Rattle.wire.specs.Decimal.{line_feed}
use Rattle.schedule.specs.declared.Move.{Move}
use Rattle.machine.specs.Moves.{run_after, answers_of}
use Rattle.console.specs.Line.{read_byte, is_empty, line_move}
use Rattle.console.specs.Register.{Session, play_move, play_byte, play_bytes, play_end}
use Rattle.console.specs.declared.Line.{Line}
use Rattle.console.specs.declared.Line.TheVariants.{Empty}
use Rattle.guarantees.specs.RegisterByTally.{lines_from, moves_of, lines_text}

-- What a session comes to: the run behind the moves of these lines, and their answers' text behind its output.
pub record Comes (block : List ℕ) (s e : Session) (ls : List (Option Move)) : Type 0 where
  pub run : e.run ≡ run_after block s.run (moves_of ls)
  pub output : e.output ≡ s.output ++ lines_text s.number ls (answers_of block s.run (moves_of ls))

-- One line more, before others.
pub line_comes : (block : List ℕ) (s : Session) (m : Option Move) (e : Session) (ls : List (Option Move)) → Comes block (play_move block s m) e ls → Comes block s e (m ∷ ls)
unfolding play_move moves_of lines_text run_after answers_of
line_comes block s None e ls h = record { run = h.run; output = h.output ∙ append_assoc s.output _ _ }
line_comes block s (Some m) e ls h = record { run = h.run; output = h.output ∙ append_assoc s.output _ _ }

-- None is left.
pub none_comes : (block : List ℕ) (s : Session) → Comes block s s []
unfolding moves_of lines_text run_after answers_of
none_comes block s = record { run = refl; output = sym (append-nil s.output) }

-- The rest of the input is a line unless it is empty.
pub end_comes : (block : List ℕ) (s : Session) → Comes block s (play_end block s) (lines_from s.line [])
unfolding play_end lines_from
end_comes block s =
    by_test (λ (t : Bool). Comes block s (if t then s else last) (if t then [] else line_move s.line ∷ [])) (is_empty s.line)
    (λ e. none_comes block s)
    (λ e. line_comes block s (line_move s.line) last [] (none_comes block last))
  where
    last : Session
    last = play_move block s (line_move s.line)

-- Behind a whole line nothing of the next is read.
pub next_empty : (block : List ℕ) (s : Session) (m : Option Move) → (play_move block s m).line ≡ Empty
unfolding play_move
next_empty block s None = refl
next_empty block s (Some m) = refl

-- The session behind the rest of the input.
abbrev pub session_ended : List ℕ → Session → List ℕ → Session
session_ended block s xs = play_end block (play_bytes block s xs)

pub input_comes : (block : List ℕ) (s : Session) (xs : List ℕ) → Comes block s (session_ended block s xs) (lines_from s.line xs)
unfolding play_bytes play_byte play_end lines_from
input_comes block s [] = end_comes block s
input_comes block s (x ∷ xs) = go (eqb x line_feed) refl (λ v. input_comes block v xs)
  where
    t : Session
    t = play_move block s (line_move s.line)

    u : Session
    u = record { number = s.number; line = read_byte s.line x; run = s.run; output = s.output }

    go : (b : Bool) → eqb x line_feed ≡ b → ((v : Session) → Comes block v (session_ended block v xs) (lines_from v.line xs))
        → Comes block s (session_ended block (play_byte block s x) xs) (lines_from s.line (x ∷ xs))
    go true e rest = rw (e, play_byte, lines_from)
        (line_comes block s (line_move s.line) (session_ended block t xs) (lines_from Empty xs)
        (subst (λ (l : Line). Comes block t (session_ended block t xs) (lines_from l xs)) (next_empty block s (line_move s.line)) (rest t)))
    go false e rest = rw (e, play_byte, lines_from) (record { run = (rest u).run; output = (rest u).output })
