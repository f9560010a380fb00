-- "a balance needed by it below zero": the same balance, where a step needs it and where none does.
use Rattle.std.specs.Prelude.{◌≡◌, refl, ℕ, pos, negsuc}
use mathlib.Core.List.{List, [], ◌∷◌, flatten}
use Rattle.schedule.specs.declared.Move.TheVariants.{Begin, Step}
use Rattle.block.specs.Assemble.{SET, GET, PUT, BAL, function, cell, call, end}
use Rattle.machine.specs.Run.{Run}
use Rattle.machine.specs.Opening.{opened_for_eight}
use Rattle.machine.specs.Moves.{run_after, answers_of}
use Rattle.machine.specs.Damage.{value_at}
use Rattle.machine.specs.Computing.{computing}
use Rattle.machine.specs.Examples.{steps}

-- A contract that opens with 9 as cell 0 of the table, and a call of value 0 that runs `BAL 0` and no GET, at its entry and before its BAL.
unfoldable pub bal_block : List ℕ
bal_block = flatten (function 32768 0 (BAL 0 ∷ []) ∷ cell 32768 0 0 0 (pos 9) ∷ call 5 32768 0 (pos 0) ∷ end ∷ [])

unfoldable pub at_bal_entry : Run
at_bal_entry = run_after bal_block (opened_for_eight bal_block) (Begin 0 0 ∷ [])

unfoldable pub at_bal : Run
at_bal = run_after bal_block at_bal_entry (Step 0 ∷ [])

-- The same contract, with a call that uses its field 1, cell 1 of the table, and no balance: PUT of -1, and GET of it.
unfoldable pub plain_block : List ℕ
plain_block =
    flatten
    (function 32768 0 (SET 0 (negsuc 0) ∷ PUT 0 1 0 ∷ GET 1 1 0 ∷ []) ∷ cell 32768 0 0 0 (pos 9) ∷ call 5 32768 0 (pos 0) ∷ end ∷ [])

unfoldable pub plain_start : Run
plain_start = opened_for_eight plain_block

pub record NeededBalances : Type 0 where
  -- BAL needs the balance: below zero is 20, zero is a balance.
  pub bal : steps bal_block (value_at 0 (negsuc 0) at_bal ∷ value_at 0 (pos 0) at_bal ∷ at_bal ∷ []) ≡ 20 ∷ 0 ∷ 0 ∷ []
  -- At value 0 the entry does not need it.
  pub entry : steps bal_block (value_at 0 (negsuc 0) at_bal_entry ∷ []) ≡ 0 ∷ []
  -- No step of the other call needs a balance below zero, and a field below zero is no balance.
  pub unneeded : answers_of plain_block (value_at 0 (negsuc 0) plain_start) (Begin 0 0 ∷ Step 0 ∷ Step 0 ∷ Step 0 ∷ Step 0 ∷ Step 0 ∷ [])
      ≡ 0 ∷ 0 ∷ 0 ∷ 0 ∷ 0 ∷ 0 ∷ []

pub needed_balances : NeededBalances
unfolding computing bal_block at_bal_entry at_bal plain_block plain_start
needed_balances = record { bal = refl; entry = refl; unneeded = refl }
