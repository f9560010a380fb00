-- Payments to account 0, computed on a run of their block.
use Rattle.std.specs.Prelude.{◌≡◌, refl, [], ◌∷◌, ◌++◌, map, pos, negsuc, take}
use Rattle.wire.specs.Bytes.{below}
use Rattle.schedule.specs.declared.Move.TheVariants.{Begin, Step}
use Rattle.block.specs.Assemble.{text}
use Rattle.block.specs.Worked.{account0}
use Rattle.machine.specs.Run.{Run, outcome_word, count_word, wait_count}
use Rattle.machine.specs.Moves.{run_after, answers_of}
use Rattle.machine.specs.Damage.{value_at, status_at}
use Rattle.machine.specs.Computing.{computing}
use Rattle.machine.specs.WorkedRuns.{start0, closed0}
use Rattle.machine.specs.Examples.{steps}
use Rattle.examples.specs.OfCalls.{of_calls}

-- M-101, "Payments to account 0". The table of this block has the balances of 0, 7, 8, 32768 and 40000, and field 1 of 40000, as cells 0 to 5.
-- Call 0 before its PAY; and call 7, sent by account 0 with the value 2, before its own, begun ahead of 1 and 6: the number that it carries is set to 0.
unfoldable pub before0 : Run
before0 = run_after account0 start0 (Begin 0 0 ∷ Step 0 ∷ Step 0 ∷ [])

unfoldable pub before7 : Run
before7 =
    run_after account0 (status_at 31 0 start0) (Begin 0 7 ∷ Step 0 ∷ Step 0 ∷ Step 0 ∷ [])

pub record Account0 : Type 0 where
  -- "PAY to account 0 ends with outcome 5": by source 0, in another contract, by the constant with amount 0, by an argument and by the sender, counted, and
  -- restored; the sender 7 is paid. Account 0 sends 3; its 2 come back by outcome 5; and it has too little for 3 more.
  pub outcomes : of_calls outcome_word closed0 ≡ 5 ∷ 5 ∷ 5 ∷ 5 ∷ 5 ∷ 0 ∷ 0 ∷ 5 ∷ 2 ∷ []
  pub counts : of_calls count_word closed0 ≡ 2 ∷ 3 ∷ 1 ∷ 2 ∷ 2 ∷ 2 ∷ 2 ∷ 3 ∷ 0 ∷ []
  pub opened : take 6 start0.cells ≡ pos 5 ∷ pos 0 ∷ pos 0 ∷ pos 9 ∷ pos 9 ∷ pos 0 ∷ []
  pub closed : take 6 closed0.cells ≡ pos 2 ∷ pos 1 ∷ pos 1 ∷ pos 10 ∷ pos 9 ∷ pos 0 ∷ []
  -- Calls 0 and 1 pay account 0 and run together; 7 waits for 1 and for 6, by the balance that account 0 sends from.
  pub together : answers_of account0 start0 (Begin 0 0 ∷ Begin 1 1 ∷ Begin 2 2 ∷ []) ≡ 0 ∷ 0 ∷ 25 ∷ []
  pub waits : map (wait_count start0.status) (below 9) ≡ 0 ∷ 0 ∷ 1 ∷ 2 ∷ 3 ∷ 4 ∷ 5 ∷ 2 ∷ 7 ∷ []
  -- As for a target that is no account, no balance is looked at.
  pub unread : steps account0 (value_at 0 (negsuc 0) before0 ∷ value_at 3 (negsuc 0) before0 ∷ []) ≡ 0 ∷ 0 ∷ []
  -- The value that account 0 sent, and took back with the rest.
  pub sent : take 6 before7.cells ++ take 6 (run_after account0 before7 (Step 0 ∷ [])).cells ≡ pos 3 ∷ pos 0 ∷ pos 0 ∷ pos 9 ∷ pos 11 ∷ pos 1 ∷ pos 5 ∷ pos 0 ∷ pos 0 ∷ pos 9 ∷ pos 9 ∷ pos 0 ∷ []

pub payments_to_0 : Account0
unfolding computing text account0 start0 closed0 before0 before7
payments_to_0 =
    record {
      outcomes = refl;
      counts = refl;
      opened = refl;
      closed = refl;
      together = refl;
      waits = refl;
      unread = refl;
      sent = refl;
    }
