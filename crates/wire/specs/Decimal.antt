-- Lines of text as bytes: decimal numbers, and parts divided by spaces.
use Rattle.std.specs.Prelude.{true, false, List, [], ◌∷◌, ◌++◌, ℕ, zero, suc, ◌+◌, ◌/◌, ◌%◌, ℤ, pos, negsuc, ltb}

abbrev pub line_feed : ℕ
line_feed = 10

abbrev pub space : ℕ
space = 32

abbrev pub minus : ℕ
minus = 45

abbrev pub zero_digit : ℕ
zero_digit = 48

-- A number in decimal digits; 20 digits hold every number of 64 bits.
abbrev pub decimal_digits : ℕ
decimal_digits = 20

unfoldable pub digits_of : ℕ → ℕ → List ℕ
digits_of zero n = []
digits_of (suc left) n =
    elim (ltb n 10) [ true ↦ (zero_digit + n) ∷ [] | false ↦ digits_of left (n / 10) ++ ((zero_digit + n % 10) ∷ []) ]

abbrev pub decimal : ℕ → List ℕ
decimal n = digits_of decimal_digits n

unfoldable pub signed_decimal : ℤ → List ℕ
signed_decimal (pos n) = decimal n
signed_decimal (negsuc n) = minus ∷ decimal (suc n)

-- A line: a letter, and each part behind a space.
unfoldable pub parts : List (List ℕ) → List ℕ
parts [] = line_feed ∷ []
parts (p ∷ ps) = space ∷ p ++ parts ps

abbrev pub text_line : ℕ → List (List ℕ) → List ℕ
text_line letter ps = letter ∷ parts ps
