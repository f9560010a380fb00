-- The balance limit, over the list of all balances.
use Rattle.std.specs.Prelude.{Bool, true, ◌&&◌, List, [], ◌∷◌, ◌-◌, ◌^◌, ℤ, pos, ◌+ℤ◌}
use Rattle.std.specs.Int.Signed.{le_z, non_neg}

-- The largest value, 2^63 - 1.
abbrev pub largest : ℤ
largest = pos (2 ^ 63 - 1)

unfoldable pub total : List ℤ → ℤ
total [] = pos 0
total (b ∷ bs) = b +ℤ total bs

unfoldable pub none_below_zero : List ℤ → Bool
none_below_zero [] = true
none_below_zero (b ∷ bs) = non_neg b && none_below_zero bs

-- "The balance limit is: no balance below zero, their sum at most 2^63 - 1."
abbrev pub within_limit : List ℤ → Bool
within_limit bs = none_below_zero bs && le_z (total bs) largest
