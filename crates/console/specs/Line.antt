-- The move lines of standard input: `b worker call`, `s worker`, `c worker`. "one space divides its parts, and its numbers are of
-- decimal digits"; a number has 1 to 5 digits. A line is read byte by byte.
use Rattle.std.specs.Prelude.{Bool, true, false, ◌&&◌, ℕ, ◌+◌, ◌-◌, ◌*◌, eqb, leb, ltb, None, Option, Some}
use Rattle.std.specs.Prelude.{if◌then◌else◌}
use Rattle.wire.specs.Decimal.{space, zero_digit}
use Rattle.schedule.specs.declared.Move.{Move}
use Rattle.schedule.specs.declared.Move.TheVariants.{Begin, Step, Cancel}
use Rattle.console.specs.declared.Letter.{Letter}
use Rattle.console.specs.declared.Letter.TheVariants.{B, S, C}
use Rattle.console.specs.declared.Line.{Line}
use Rattle.console.specs.declared.Line.TheVariants.{Empty, Named, Spaced, First, Between, Second, Malformed}

abbrev pub is_digit : ℕ → Bool
is_digit x = leb zero_digit x && ltb x (zero_digit + 10)

-- "a number of over 5 digits": one more digit after five breaks the form.
abbrev pub max_digits : ℕ
max_digits = 5

-- A further digit of a number that has some. The digits that are read before make less than 100,000.
abbrev pub takes_digit : (digits n x : ℕ) → Bool
takes_digit digits n x = is_digit x && ltb digits max_digits && ltb n 100000

-- The first byte of a line: b, s or c.
unfoldable pub read_letter : ℕ → Line
read_letter x = if eqb x 98 then Named B else if eqb x 115 then Named S else if eqb x 99 then Named C else Malformed

-- Behind the first number of `b` a space leads to the second; the other lines have one number.
unfoldable pub read_gap : Letter → ℕ → Line
read_gap B n = Between n
read_gap S n = Malformed
read_gap C n = Malformed

-- One byte of a line, other than a line feed.
unfoldable pub read_byte : Line → ℕ → Line
read_byte Empty x = read_letter x
read_byte (Named l) x = if eqb x space then Spaced l else Malformed
read_byte (Spaced l) x = if is_digit x then First l 1 (x - zero_digit) else Malformed
read_byte (First l digits n) x =
    if takes_digit digits n x
    then First l (digits + 1) (n * 10 + (x - zero_digit))
    else if eqb x space
    then read_gap l n
    else Malformed
read_byte (Between w) x = if is_digit x then Second w 1 (x - zero_digit) else Malformed
read_byte (Second w digits n) x =
    if takes_digit digits n x then Second w (digits + 1) (n * 10 + (x - zero_digit)) else Malformed
read_byte Malformed x = Malformed

-- Whether nothing of the line is read.
unfoldable pub is_empty : Line → Bool
is_empty Empty = true
is_empty (Named l) = false
is_empty (Spaced l) = false
is_empty (First l digits n) = false
is_empty (Between w) = false
is_empty (Second w digits n) = false
is_empty Malformed = false

-- The move of a line with one number.
unfoldable pub move_for : Letter → ℕ → Option Move
move_for B n = None
move_for S n = Some (Step n)
move_for C n = Some (Cancel n)

-- The move of a whole line, or none where it is "in no such form".
unfoldable pub line_move : Line → Option Move
line_move Empty = None
line_move (Named l) = None
line_move (Spaced l) = None
line_move (First l digits n) = move_for l n
line_move (Between w) = None
line_move (Second w digits n) = Some (Begin w n)
line_move Malformed = None
