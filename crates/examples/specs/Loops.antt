-- Fuel and loops, computed on a run of their block.
use Rattle.std.specs.Prelude.{◌≡◌, refl, [], ◌∷◌, ◌++◌, map, ◌*◌, pos, negsuc, take, drop, set}
use Rattle.wire.specs.Bytes.{below}
use Rattle.schedule.specs.declared.Move.TheVariants.{Begin, Step}
use Rattle.block.specs.Worked.{fuelled}
use Rattle.machine.specs.Answer.{answer_number}
use Rattle.machine.specs.Run.{Run, outcome_word, count_word}
use Rattle.machine.specs.Opening.{opened_for_eight}
use Rattle.machine.specs.Moves.{step_of, run_after, answers_of}
use Rattle.machine.specs.Serial.{serial_steps}
use Rattle.machine.specs.Damage.{plan_at, frame_at, seat_as}
use Rattle.machine.specs.Computing.{computing}
use Rattle.machine.specs.WorkedRuns.{start_f, closed_f}
use Rattle.machine.specs.Examples.{steps}
use Rattle.examples.specs.RunsOfP.{endings}
use Rattle.examples.specs.OfCalls.{of_calls}

-- M-104, "Fuel and loops". The table of this block has the balances of 5 and 32768, and fields 1 and 2 of 32768, as cells 0 to 3. Call 6 loops over its PUT with the
-- fuel 9: its plan starts at word 192, and its fuel is bytes 554 and 555 of the block.
-- Call 6 at its entry; before the PUT for which it has two left; and before the one for which it has none: the value has moved, and field 1 is 7.
unfoldable pub begun_f : Run
begun_f = run_after fuelled start_f (Begin 0 6 ∷ [])

unfoldable pub two_left : Run
two_left = run_after fuelled begun_f (Step 0 ∷ Step 0 ∷ Step 0 ∷ Step 0 ∷ Step 0 ∷ Step 0 ∷ Step 0 ∷ Step 0 ∷ [])

unfoldable pub none_left : Run
none_left = run_after fuelled two_left (Step 0 ∷ Step 0 ∷ [])

-- It is finished.
unfoldable pub behind_fuel : Run
behind_fuel = run_after fuelled none_left (Step 0 ∷ [])

pub record Fuelled : Type 0 where
  -- Fuel for all instructions, for one fewer and for one more; STOP due without and with fuel for it; a jump to its own index; the loop; a jump to the code's length;
  -- interest, with just enough fuel and with one too little.
  pub outcomes : of_calls outcome_word closed_f ≡ 0 ∷ 7 ∷ 0 ∷ 7 ∷ 0 ∷ 7 ∷ 7 ∷ 0 ∷ 0 ∷ 7 ∷ 0 ∷ []
  pub counts : of_calls count_word closed_f ≡ 2 ∷ 1 ∷ 2 ∷ 1 ∷ 2 ∷ 5 ∷ 9 ∷ 1 ∷ 25 ∷ 24 ∷ 2 ∷ []
  -- "in a step of its own that counts nothing": one step more than by STOP, as for the end. Calls 0, 5, 6, 7 and 8 take "fuel plus 2".
  pub stepped : map (serial_steps fuelled start_f) (below 11) ≡ 4 ∷ 3 ∷ 4 ∷ 3 ∷ 3 ∷ 7 ∷ 11 ∷ 3 ∷ 27 ∷ 26 ∷ 4 ∷ []
  -- 1000 over three periods at 10 in 100; the other calls of the loop left no trace.
  pub opened : take 4 start_f.cells ≡ pos 7 ∷ pos 0 ∷ pos 9 ∷ pos 1000 ∷ []
  pub closed : take 4 closed_f.cells ≡ pos 0 ∷ pos 7 ∷ pos 9 ∷ pos 1331 ∷ []
  -- "all is restored": the value that moved at the entry, and field 1; the worker is free.
  pub changed : take 3 none_left.cells ≡ pos 0 ∷ pos 7 ∷ pos 7 ∷ []
  pub restored : take 3 behind_fuel.cells ≡ pos 7 ∷ pos 0 ∷ pos 9 ∷ []
  pub freed : answers_of fuelled behind_fuel (Step 0 ∷ Begin 0 10 ∷ []) ≡ 26 ∷ 0 ∷ []
  -- "a lent fuel of zero or a count above the fuel is 20"; another fuel is believed. At the code's length too; there a count that is the fuel ends well.
  pub lent_fuel : map (λ fuel. answer_number (step_of (set fuelled 554 fuel) none_left 0).answer) (0 ∷ 8 ∷ 9 ∷ 10 ∷ []) ≡ 20 ∷ 20 ∷ 0 ∷ 0 ∷ []
  pub lent_none : steps (set fuelled 554 0) (run_after fuelled begun_f (Step 0 ∷ []) ∷ []) ≡ 20 ∷ []
  pub lent_count : steps fuelled (seat_as 0 2 10 none_left ∷ seat_as 0 2 65536 none_left ∷ seat_as 0 2 8 none_left ∷ seat_as 0 4 10 none_left ∷ seat_as 0 4 9 none_left ∷ []) ≡ 20 ∷ 20 ∷ 0 ∷ 20 ∷ 0 ∷ []
  -- At the entry neither is looked at; behind it the count is 0, and in the receipt of a call that ends there.
  pub entry_fuel : steps (set fuelled 554 0) (begun_f ∷ []) ≡ 0 ∷ []
  pub entry_count : take 2 (run_after fuelled (seat_as 0 0 65536 begun_f) (Step 0 ∷ [])).seats ≡ 1 ∷ 0 ∷ []
  pub ended_at_entry : map (λ call. take 3 (drop (4 * call) (run_after endings (seat_as 0 0 9 (run_after endings (opened_for_eight endings) (Begin 0 call ∷ []))) (Step 0 ∷ [])).status)) (4 ∷ 5 ∷ []) ≡ (2 ∷ 1 ∷ 0 ∷ []) ∷ (2 ∷ 2 ∷ 0 ∷ []) ∷ []
  -- "that instruction doesn't run", and is not looked at: neither that its bytes hold none, nor that its code is not in the block.
  pub unseen : map (λ r. answer_number (step_of (set fuelled 80 16) r 0).answer) (two_left ∷ none_left ∷ []) ++ steps fuelled (plan_at 192 9999 two_left ∷ plan_at 192 9999 none_left ∷ []) ≡ 20 ∷ 0 ∷ 20 ∷ 0 ∷ []
  -- As on 4 the entries are needed, from word 195 of the plan on, and "kept old values are restored untested".
  pub damaged : steps fuelled (plan_at 194 25 none_left ∷ plan_at 195 0 none_left ∷ frame_at 8 (negsuc 4) none_left ∷ []) ≡ 20 ∷ 20 ∷ 0 ∷ []

pub fuel_and_loops : Fuelled
unfolding computing fuelled endings start_f closed_f begun_f two_left none_left behind_fuel
fuel_and_loops =
    record {
      outcomes = refl;
      counts = refl;
      stepped = refl;
      opened = refl;
      closed = refl;
      changed = refl;
      restored = refl;
      freed = refl;
      lent_fuel = refl;
      lent_none = refl;
      lent_count = refl;
      entry_fuel = refl;
      entry_count = refl;
      ended_at_entry = refl;
      unseen = refl;
      damaged = refl;
    }
