-- The input in pieces: any chunking of it gives the same answers, and the text of the answers only grows.
use Rattle.std.specs.Prelude.{None, Option, Some}
use mathlib.Core.Path.{◌≡◌, refl, ap, ◌∙◌}
use mathlib.Core.Bool.{Bool, true, false}
use mathlib.Core.List.{List, [], ◌∷◌, ◌++◌, append_assoc}
use Prim.Native.Nat.{ℕ}
use lib.Dec.{eqb}
use Rattle.wire.specs.Decimal.{line_feed}
use Rattle.schedule.specs.declared.Move.{Move}
use Rattle.console.specs.Line.{line_move}
use Rattle.console.specs.Register.{Session, play_move, play_byte, play_bytes}

-- Two pieces of the input, one after the other, are played as the whole is.
pub chunks : (block : List ℕ) (s : Session) (xs ys : List ℕ) → play_bytes block s (xs ++ ys) ≡ play_bytes block (play_bytes block s xs) ys
unfolding play_bytes
chunks block s [] ys = refl
chunks block s (x ∷ xs) ys = chunks block (play_byte block s x) xs ys

-- A session behind a text: the same, with the text before its output.
abbrev pub with_text_before : List ℕ → Session → Session
with_text_before text s = record { number = s.number; line = s.line; run = s.run; output = text ++ s.output }

-- What a session writes stands behind what was written before.
module _ (block text : List ℕ) where
  pub move_behind : (s : Session) (m : Option Move) → play_move block (with_text_before text s) m ≡ with_text_before text (play_move block s m)
  unfolding play_move
  move_behind s None = rw (append_assoc text)
  move_behind s (Some m) = rw (append_assoc text)

  byte_behind : (s : Session) (x : ℕ) → play_byte block (with_text_before text s) x ≡ with_text_before text (play_byte block s x)
  unfolding play_byte
  byte_behind s x = go (eqb x line_feed) refl
    where
      go : (b : Bool) → eqb x line_feed ≡ b → play_byte block (with_text_before text s) x ≡ with_text_before text (play_byte block s x)
      go true e = rw (e, play_byte) (move_behind s (line_move s.line))
      go false e = rw (e, play_byte) refl

  pub bytes_behind_lem : (s : Session) (xs : List ℕ) → play_bytes block (with_text_before text s) xs ≡ with_text_before text (play_bytes block s xs)
  unfolding play_bytes
  bytes_behind_lem s [] = refl
  bytes_behind_lem s (x ∷ xs) = ap (λ (t : Session). play_bytes block t xs) (byte_behind s x) ∙ bytes_behind_lem (play_byte block s x) xs
