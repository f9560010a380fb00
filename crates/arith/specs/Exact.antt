-- Exact arithmetic on values: integers of 64 signed bits. Each operation is the exact one over ℤ, and then a test of its range.
use Rattle.std.specs.Prelude.{Bool, ℕ, zero, suc, ◌-◌, ◌/◌, ◌^◌, ℤ, pos, negsuc, neg_ℤ, ◌+ℤ◌, ◌-ℤ◌, ◌*ℤ◌, ltb, Result, Ok, Err}
use Rattle.std.specs.Int.Signed.{mag}
use Rattle.std.specs.Prelude.{if◌then◌else◌}
use Rattle.arith.specs.declared.NoResult.{NoResult}
use Rattle.arith.specs.declared.NoResult.TheVariants.{Overflow, ZeroDivisor}

-- "A value is signed, 64 bits": `mag` is n both of n and of -(n + 1), so one bound says both ends of the range.
abbrev pub fits64 : ℤ → Bool
fits64 z = ltb (mag z) (2 ^ 63)

-- An exact result, or none where it is outside 64 signed bits.
unfoldable pub checked : ℤ → Result ℤ NoResult
checked z = if fits64 z then Ok z else Err Overflow

abbrev pub add_of : ℤ → ℤ → Result ℤ NoResult
add_of a b = checked (a +ℤ b)

abbrev pub sub_of : ℤ → ℤ → Result ℤ NoResult
sub_of a b = checked (a -ℤ b)

abbrev pub mul_of : ℤ → ℤ → Result ℤ NoResult
mul_of a b = checked (a *ℤ b)

-- The quotient by a divisor above zero, rounded toward minus infinity: -(a + 1) by d is -(a / d + 1).
unfoldable pub floor_by : ℤ → ℕ → ℤ
floor_by (pos a) d = pos (a / d)
floor_by (negsuc a) d = negsuc (a / d)

-- "Division rounds toward minus infinity: -7 by 2 is -4": a negative divisor is made positive by negating both.
unfoldable pub div_of : ℤ → ℤ → Result ℤ NoResult
div_of a (pos zero) = Err ZeroDivisor
div_of a (pos (suc d)) = checked (floor_by a (suc d))
div_of a (negsuc d) = checked (floor_by (neg_ℤ a) (suc d))

-- The integer that k bits name in two's complement, and its bits again.
unfoldable pub signed : ℕ → ℕ → ℤ
signed k n = if ltb n (2 ^ (k - 1)) then pos n else negsuc (2 ^ k - 1 - n)

unfoldable pub unsigned : ℕ → ℤ → ℕ
unsigned k (pos n) = n
unsigned k (negsuc n) = 2 ^ k - 1 - n
