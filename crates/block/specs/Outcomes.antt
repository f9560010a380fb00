-- The outcomes of a call: "unknown function, outcome 1; sender's balance below value, outcome 2"; "At place = length: outcome 0";
-- "STOP ends with 0, THROW with 3, a result outside 64 signed bits .. with 4, PAY with 5 .."; M-103: "DIV by zero shall end with outcome 6 ..,
-- and 4 keeps only results out of range."; M-104: "If the count already equals the fuel when an instruction is due, .. the outcome is 7". Below them the
-- ranges of a receipt.
use Rattle.std.specs.Prelude.{ℕ}
use Rattle.block.specs.Limits.{max_fuel}

abbrev pub ended : ℕ
ended = 0

abbrev pub unknown_function : ℕ
unknown_function = 1

abbrev pub balance_too_low : ℕ
balance_too_low = 2

abbrev pub thrown : ℕ
thrown = 3

abbrev pub out_of_range : ℕ
out_of_range = 4

abbrev pub not_paid : ℕ
not_paid = 5

abbrev pub zero_divisor : ℕ
zero_divisor = 6

abbrev pub out_of_fuel : ℕ
out_of_fuel = 7

-- The highest outcome that a receipt may hold, and the highest count of executed instructions.
abbrev pub last_outcome : ℕ
last_outcome = out_of_fuel

abbrev pub max_count : ℕ
max_count = max_fuel
