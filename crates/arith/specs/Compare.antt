-- Equality of two integers as a test, beside the library's `lt_z` and `le_z`.
use Rattle.std.specs.Prelude.{Bool, false, ℤ, pos, negsuc, eqb}

abbrev pub eq_z : ℤ → ℤ → Bool
eq_z (pos a) (pos b) = eqb a b
eq_z (pos a) (negsuc b) = false
eq_z (negsuc a) (pos b) = false
eq_z (negsuc a) (negsuc b) = eqb a b
