-- Choice of a statement by a test, as the library's `if` chooses a value: of the two statements, the one that the test names has to hold.
use Rattle.std.specs.Prelude.{Bool, true, false}

infixr 5 when◌then◌else◌
abbrev pub when◌then◌else◌ : Bool → Type 0 → Type 0 → Type 0
when true then A else B = A
when false then A else B = B
