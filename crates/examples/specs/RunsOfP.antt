-- Places of the run of block P, and two more blocks.
use mathlib.Core.List.{List, [], ◌∷◌, map, flatten}
use Rattle.std.specs.Prelude.{ℕ, pos}
use Rattle.schedule.specs.declared.Move.TheVariants.{Begin, Step}
use Rattle.block.specs.Assemble.{STOP, THROW, SET, PUT, function, cell, call, end}
use Rattle.block.specs.Worked.{P}
use Rattle.machine.specs.Answer.{answer_number}
use Rattle.machine.specs.Run.{Run}
use Rattle.machine.specs.Opening.{opened_for_eight}
use Rattle.machine.specs.Moves.{cancel_of, run_after}
use Rattle.machine.specs.Examples.{one}

-- Call 1 at its entry, and before its STOP; call 2 before its PAY.
unfoldable pub second : Run
second = run_after P one (Begin 0 1 ∷ [])

unfoldable pub second' : Run
second' = run_after P second (Step 0 ∷ Step 0 ∷ Step 0 ∷ [])

unfoldable pub at_pay : Run
at_pay = run_after P one (Begin 0 1 ∷ Step 0 ∷ Step 0 ∷ Step 0 ∷ Step 0 ∷ Begin 0 2 ∷ Step 0 ∷ Step 0 ∷ [])

-- A call before the THROW behind its PUT, and one that waits for it.
unfoldable pub thrower : List ℕ
thrower =
    flatten
    (function 32768 0 (PUT 0 1 0 ∷ THROW ∷ []) ∷ cell 32768 1 0 0 (pos 9) ∷ call 5 32768 0 (pos 0) ∷ call 5 32768 0 (pos 0) ∷ end ∷ [])

unfoldable pub at_throw : Run
at_throw = run_after thrower (opened_for_eight thrower) (Begin 0 0 ∷ Step 0 ∷ Step 0 ∷ [])

-- Calls that end by STOP, behind an instruction, by THROW and in a code of none; of an unknown function; and of an account without the value.
unfoldable pub endings : List ℕ
endings =
    flatten
    (function 32768 0 (STOP ∷ [])
    ∷ function 32768 1 (SET 0 (pos 1) ∷ [])
    ∷ function 32768 2 (THROW ∷ [])
    ∷ function 32768 3 []
    ∷ call 5 32768 0 (pos 0)
    ∷ call 5 32768 1 (pos 0)
    ∷ call 5 32768 2 (pos 0) ∷ call 5 32768 3 (pos 0) ∷ call 5 32768 4 (pos 0) ∷ call 5 32768 0 (pos 1) ∷ end ∷ [])

-- The answers of CANCEL in several runs.
abbrev pub cancels : List Run → List ℕ
cancels rs = map (λ r. answer_number (cancel_of r 0).answer) rs
