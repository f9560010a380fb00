-- The blocks and moves of document 01's examples, besides block P.
use mathlib.Core.List.{List, [], ◌∷◌, flatten}
use Rattle.std.specs.Prelude.{ℕ, ◌^◌, ℤ, pos, neg_ℤ}
use Rattle.block.specs.Assemble.{text, THROW, SET, MUL, DIV, PUT, function, cell, call, end}

-- Divisions: -7 by 2 into field 1, 7 by -2 into field 2, -2^63 by -1, and 1 by 0. -2^63 is -2^31 times 2^16 times 2^16.
unfoldable pub divisions_block : List ℕ
divisions_block =
    flatten
    (function 32768 0 (SET 0 (neg_ℤ (pos 7)) ∷ SET 1 (pos 2) ∷ DIV 2 0 1 ∷ PUT 2 1 0 ∷ [])
    ∷ function 32768 1 (SET 0 (pos 7) ∷ SET 1 (neg_ℤ (pos 2)) ∷ DIV 2 0 1 ∷ PUT 2 2 0 ∷ [])
    ∷ function 32768 2
    (SET 0 (neg_ℤ (pos (2 ^ 31)))
    ∷ SET 1 (pos (2 ^ 16)) ∷ MUL 0 0 1 ∷ MUL 0 0 1 ∷ SET 1 (neg_ℤ (pos 1)) ∷ DIV 2 0 1 ∷ [])
    ∷ function 32768 3 (SET 0 (pos 1) ∷ DIV 2 0 1 ∷ [])
    ∷ call 5 32768 0 (pos 0)
    ∷ call 5 32768 1 (pos 0) ∷ call 5 32768 2 (pos 0) ∷ call 5 32768 3 (pos 0) ∷ end ∷ [])

-- Moves of worker 0 alone: the calls in block order, each stepped to its end.
unfoldable pub division_moves : List ℕ
division_moves =
    text "b 0 0\ns 0\ns 0\ns 0\ns 0\ns 0\ns 0\nb 0 1\ns 0\ns 0\ns 0\ns 0\ns 0\ns 0\nb 0 2\ns 0\ns 0\ns 0\ns 0\ns 0\ns 0\ns 0\nb 0 3\ns 0\ns 0\ns 0\n"

unfoldable pub division_text : List ℕ
division_text = text "k 32768 1 0 0 -4\nk 32768 2 0 0 -4\nt 0 0 4\nt 1 0 4\nt 2 4 6\nt 3 6 2\n"

-- Account 5 opens with 2 and calls a function of no instruction with the given value.
unfoldable pub value_call : ℤ → List ℕ
value_call value = flatten (function 32768 0 [] ∷ cell 5 0 0 0 (pos 2) ∷ call 5 32768 0 value ∷ end ∷ [])

-- A cell of 9, and a call that stores 0 there and throws.
unfoldable pub put_then_throw : List ℕ
put_then_throw =
    flatten (function 32768 0 (PUT 0 1 0 ∷ THROW ∷ []) ∷ cell 32768 1 0 0 (pos 9) ∷ call 5 32768 0 (pos 0) ∷ end ∷ [])
