-- How long the lines of text are at most.
use Rattle.std.specs.Prelude.{None, Option, Some}
use mathlib.Core.Path.{◌≡◌, refl}
use mathlib.Core.Bool.{Bool, true, false}
use mathlib.Core.List.{List, [], ◌∷◌}
use Prim.Native.Nat.{ℕ, zero, suc, ◌+◌, ◌-◌, ◌*◌, ◌^◌, ◌≤◌, ◌<◌}
use native.Mathlib.Omega.{arith}
use borrow.Author.Tests.{ltb-true, ltb-false}
use lib.Dec.{eqb, ltb}
use lib.IntN.{ℤ}
use lib.ListN.{length, get_or, length-append}
use Rattle.text.proofs.TextSizes.{line_fits, digits_fit}
use Rattle.arith.proofs.ChoiceLaws.{if_all}
use Rattle.arith.specs.Exact.{signed}
use Rattle.wire.specs.Bytes.{read_le}
use Rattle.wire.proofs.BytesLaws.{read_lt}
use Rattle.wire.specs.Decimal.{line_feed, decimal, signed_decimal, parts}
use Rattle.schedule.specs.declared.Move.{Move}
use Rattle.machine.specs.Answer.{answer_number}
use Rattle.machine.specs.Moves.{move_of}
use Rattle.text.specs.Lines.{refused_text}
use Rattle.text.proofs.Laws.{digits_length}
use Rattle.console.specs.Line.{is_empty, line_move}
use Rattle.console.specs.Text.{cell_line, receipt_line}
use Rattle.console.specs.Register.{Session, answer_text, play_move, play_line, play_byte, play_bytes, play_end}
use Rattle.play.specs.AnswerLength.{max_answer}
use Rattle.play.specs.Printed.{max_record_text}

refused_short : (line n : ℕ) → length (refused_text line n) ≤ max_answer
refused_short line n = line_fits 114 (line ∷ n ∷ [])

answer_short : (line n : ℕ) → length (answer_text line n) ≤ max_answer
unfolding answer_text
answer_short line zero = omega arith
answer_short line (suc n) = refused_short line (suc n)

-- A line, and so a byte, adds one answer at most; a piece of the input one for each byte, and its end one more.
line_grows : (block : List ℕ) (s : Session) → length (play_line block s).output ≤ length s.output + max_answer
unfolding play_move
line_grows block s = go (line_move s.line)
  where
    go : (m : Option Move) → length (play_move block s m).output ≤ length s.output + max_answer
    go None = simp length-append (omega (arith, refused_short s.number 0))
    go (Some m) =
        let h : length (answer_text s.number (answer_number (move_of block s.run m).answer)) ≤ max_answer = answer_short s.number (answer_number (move_of block s.run m).answer) in
        simp length-append (omega arith)

pub byte_grows : (block : List ℕ) (s : Session) (x : ℕ) → length (play_byte block s x).output ≤ length s.output + max_answer
unfolding play_byte
byte_grows block s x = go (eqb x line_feed) refl
  where
    go : (b : Bool) → eqb x line_feed ≡ b → length (play_byte block s x).output ≤ length s.output + max_answer
    go true e = rw (e, play_byte) (line_grows block s)
    go false e = rw (e, play_byte) (omega arith)

pub bytes_grow : (block : List ℕ) (s : Session) (xs : List ℕ) → length (play_bytes block s xs).output ≤ length s.output + max_answer * length xs
unfolding play_bytes
bytes_grow block s [] = omega arith
bytes_grow block s (x ∷ xs) = omega (arith, byte_grows block s x, bytes_grow block (play_byte block s x) xs)

pub end_grows : (block : List ℕ) (s : Session) → length (play_end block s).output ≤ length s.output + max_answer
unfolding play_end
end_grows block s =
    if_all (λ (t : Session). length t.output ≤ length s.output + max_answer) (is_empty s.line) (λ e. omega arith) (λ e. line_grows block s)

-- The longest value is the least, a sign and 19 digits.
value_short : (n : ℕ) → n < 2 ^ 64 → length (signed_decimal (signed 64 n)) ≤ 20
unfolding signed signed_decimal
value_short n h =
    if_all (λ (z : ℤ). length (signed_decimal z) ≤ 20) (ltb n (2 ^ 63))
    (λ e. let d : length (decimal n) ≤ 19 = digits_fit 20 18 n (omega (arith, ltb-true n (2 ^ 63) e)) in omega arith)
    (λ e. let d : length (decimal (suc (2 ^ 64 - 1 - n))) ≤ 19 = digits_fit 20 18 (suc (2 ^ 64 - 1 - n)) (omega (arith, ltb-false n (2 ^ 63) e)) in omega arith)

-- The line of a record, from a body of bytes: numbers of two and of four bytes, and a value of eight.
module _ (body : List ℕ) (bytes : (i : ℕ) → get_or body i 0 < 256) where
  two_short : (at : ℕ) → length (decimal (read_le 2 body at)) ≤ 5
  two_short at = digits_fit 20 4 (read_le 2 body at) (omega (arith, read_lt 2 body bytes at))

  four_short : (at : ℕ) → length (decimal (read_le 4 body at)) ≤ 10
  four_short at = digits_fit 20 9 (read_le 4 body at) (omega (arith, read_lt 4 body bytes at))

  pub cell_short : length (cell_line body) ≤ max_record_text
  unfolding parts
  cell_short =
      let v : length (signed_decimal (signed 64 (read_le 8 body 12))) ≤ 20 = value_short (read_le 8 body 12) (read_lt 8 body bytes 12) in
      simp length-append (omega (arith, two_short 0, two_short 2, four_short 4, four_short 8, v))

  pub receipt_short : (call : ℕ) → length (receipt_line call body) ≤ max_record_text
  unfolding parts
  receipt_short call = simp length-append (omega (arith, digits_length 20 call, two_short 0, two_short 2))
