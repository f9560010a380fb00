-- Divisions by zero and out of range, computed on a run of their block.
use Rattle.std.specs.Prelude.{◌≡◌, refl, [], ◌∷◌, map, ◌-◌, ◌^◌, pos, negsuc, take}
use Rattle.wire.specs.Bytes.{below}
use Rattle.schedule.specs.declared.Move.TheVariants.{Begin, Step}
use Rattle.block.specs.Worked.{zero_divisors}
use Rattle.machine.specs.Run.{Run, outcome_word, count_word}
use Rattle.machine.specs.Moves.{run_after, answers_of}
use Rattle.machine.specs.Serial.{serial_steps}
use Rattle.machine.specs.Damage.{plan_at, frame_at}
use Rattle.machine.specs.Computing.{computing}
use Rattle.machine.specs.WorkedRuns.{start_d, closed_d}
use Rattle.machine.specs.Examples.{steps}
use Rattle.examples.specs.OfCalls.{of_calls}

-- M-103, "Zero divisors told apart". The table of this block has the balances of 5 and 32768, and fields 1, 2 and 3 of 32768, as cells 0 to 4.
-- Call 4, which divides by 0, before its DIV: the value has moved, and field 1 is 7.
unfoldable pub at_div : Run
at_div = run_after zero_divisors start_d (Begin 0 4 ∷ Step 0 ∷ Step 0 ∷ Step 0 ∷ Step 0 ∷ [])

-- It is finished.
unfoldable pub behind_div : Run
behind_div = run_after zero_divisors at_div (Step 0 ∷ [])

pub record Divisors : Type 0 where
  -- "DIV by zero shall end with outcome 6": 0 by 0, -2^63 by 0, and 7 by 0; "4 keeps only results out of range": -2^63 by -1. The DIV is counted, and there is no
  -- step behind it.
  pub outcomes : of_calls outcome_word closed_d ≡ 6 ∷ 6 ∷ 4 ∷ 0 ∷ 6 ∷ 0 ∷ []
  pub counts : of_calls count_word closed_d ≡ 1 ∷ 4 ∷ 4 ∷ 5 ∷ 4 ∷ 5 ∷ []
  pub stepped : map (serial_steps zero_divisors start_d) (below 6) ≡ 2 ∷ 5 ∷ 5 ∷ 7 ∷ 5 ∷ 7 ∷ []
  pub closed : take 5 closed_d.cells ≡ pos 0 ∷ pos 7 ∷ pos 3 ∷ negsuc (2 ^ 63 - 1) ∷ pos (2 ^ 62) ∷ []
  -- "restoring as 4 does": the value and field 1 are as at the opening; the worker is free.
  pub changed : take 3 at_div.cells ≡ pos 0 ∷ pos 7 ∷ pos 7 ∷ []
  pub restored : take 3 behind_div.cells ≡ pos 7 ∷ pos 0 ∷ pos 9 ∷ []
  pub freed : answers_of zero_divisors behind_div (Step 0 ∷ Begin 0 5 ∷ []) ≡ 26 ∷ 0 ∷ []
  -- As on 4 the entries are needed, from word 131 of the plan on, and "kept old values are restored untested".
  pub damaged : steps zero_divisors (plan_at 130 25 at_div ∷ plan_at 131 0 at_div ∷ frame_at 8 (negsuc 4) at_div ∷ []) ≡ 20 ∷ 20 ∷ 0 ∷ []

pub zero_divisors_lem : Divisors
unfolding computing zero_divisors start_d closed_d at_div behind_div
zero_divisors_lem =
    record {
      outcomes = refl;
      counts = refl;
      stepped = refl;
      closed = refl;
      changed = refl;
      restored = refl;
      freed = refl;
      damaged = refl;
    }
