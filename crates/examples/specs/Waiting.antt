-- The numbers that calls carry, computed on block P's run.
use Rattle.std.specs.Prelude.{◌≡◌, refl, [], ◌∷◌, ◌++◌, map, ◌-◌, ◌^◌, pos, take}
use Rattle.schedule.specs.declared.Move.TheVariants.{Step, Cancel}
use Rattle.block.specs.Assemble.{text}
use Rattle.block.specs.Worked.{P}
use Rattle.machine.specs.Answer.{answer_number}
use Rattle.machine.specs.Moves.{step_of, run_after}
use Rattle.machine.specs.ByRow.{begin_by_row}
use Rattle.machine.specs.Damage.{plan_at, status_at, calls_as}
use Rattle.machine.specs.Computing.{computing}
use Rattle.machine.specs.Examples.{start_p, begun_p, at_put, at_end, one, begins, steps, carried}
use Rattle.examples.specs.RunsOfP.{second, second', at_pay, thrower, at_throw, cancels}

-- M-100, "Waiting counts kept". In P call 1 waits for 0 and call 2 for 1, so at the opening the calls carry 0, 1 and 1. The number of call n is word 4 * n + 3 of the
-- status, and its row starts at word 32 * n + 27 of the plan.
pub record Carried : Type 0 where
  pub opened : carried start_p ≡ 0 ∷ 1 ∷ 1 ∷ []
  -- Begins and cancels leave them, and so does a step that finishes no call.
  pub begun : carried begun_p ++ carried at_end ++ carried (run_after P at_end (Cancel 0 ∷ [])) ≡ 0 ∷ 1 ∷ 1 ∷ 0 ∷ 1 ∷ 1 ∷ 0 ∷ 1 ∷ 1 ∷ []
  -- "a finish lowers it in each later call whose row names the finished one", whatever the outcome: call 0 of P with 0, the thrower with 3.
  pub lowered : carried one ++ carried second ++ carried at_pay ≡ 0 ∷ 0 ∷ 1 ∷ 0 ∷ 0 ∷ 1 ∷ 0 ∷ 0 ∷ 0 ∷ []
  pub lowered_thrown : carried at_throw ++ carried (run_after thrower at_throw (Step 0 ∷ [])) ≡ 0 ∷ 1 ∷ 0 ∷ 0 ∷ 0 ∷ 0 ∷ []
  -- BEGIN: "one above its call's number" is 20; a wrong one in its range is believed, either way.
  pub begin_above : begins 0 1 (status_at 7 2 one ∷ status_at 7 (2 ^ 64 - 1) one ∷ status_at 7 2 start_p ∷ []) ++ begins 0 0 (status_at 3 1 start_p ∷ []) ≡ 20 ∷ 20 ∷ 20 ∷ 20 ∷ []
  pub begin_believed : begins 0 1 (start_p ∷ status_at 7 0 start_p ∷ one ∷ status_at 7 1 one ∷ []) ++ begins 0 2 (status_at 11 2 start_p ∷ []) ≡ 25 ∷ 0 ∷ 0 ∷ 25 ∷ 25 ∷ []
  -- Neither the states of earlier calls nor the row are looked at; by the row these are answered otherwise.
  pub begin_unread : begins 0 1 (status_at 0 3 one ∷ status_at 0 1 one ∷ plan_at 59 0 start_p ∷ []) ≡ 0 ∷ 0 ∷ 25 ∷ []
  pub begin_by_row_lem : map (λ r. answer_number (begin_by_row r 0 1).answer) (status_at 0 3 one ∷ status_at 0 1 one ∷ plan_at 59 0 start_p ∷ start_p ∷ one ∷ []) ≡ 20 ∷ 25 ∷ 0 ∷ 25 ∷ 0 ∷ []
  -- What answers before is not followed by a look at the number: 22, 23, 24.
  pub begin_order : begins 0 3 (status_at 15 9 start_p ∷ []) ++ begins 0 1 (status_at 7 9 begun_p ∷ status_at 4 1 (status_at 7 9 start_p) ∷ []) ≡ 22 ∷ 23 ∷ 24 ∷ []
  -- A finish: "one above its call's number, or 0 where it is to be lowered, is 20"; any other is lowered.
  pub finish_damaged : steps P (status_at 7 0 at_end ∷ status_at 7 2 at_end ∷ status_at 7 1 at_end ∷ []) ≡ 20 ∷ 20 ∷ 0 ∷ []
  pub throw_damaged : steps thrower (status_at 7 0 at_throw ∷ status_at 7 2 at_throw ∷ status_at 7 1 at_throw ∷ []) ≡ 20 ∷ 20 ∷ 0 ∷ []
  -- "nothing changes": the THROW whose finish is 20 restores nothing.
  pub throw_stays : take 1 (step_of thrower (status_at 7 0 at_throw) 0).run.cells ++ take 1 (step_of thrower at_throw 0).run.cells ≡ pos 0 ∷ pos 9 ∷ []
  -- Calls that the row does not name are not looked at, nor earlier ones, nor the call itself, nor those that the run does not have; a row that
  -- names a call is believed, and so is the state of the call that waits.
  pub finish_unnamed : steps P (status_at 11 0 at_end ∷ status_at 11 9 at_end ∷ status_at 3 9 at_end ∷ status_at 7 0 (plan_at 59 0 at_end) ∷ status_at 7 0 (calls_as 1 at_end) ∷ []) ≡ 0 ∷ 0 ∷ 0 ∷ 0 ∷ 0 ∷ []
  pub finish_earlier : steps P (status_at 3 0 (plan_at 27 2 second') ∷ []) ≡ 0 ∷ []
  pub finish_by_row : carried (run_after P (plan_at 91 3 (status_at 11 2 (status_at 4 9 at_end))) (Step 0 ∷ [])) ≡ 0 ∷ 0 ∷ 1 ∷ []
  -- A step that goes on and a CANCEL look at none.
  pub onward_unread : steps P (status_at 7 0 at_put ∷ status_at 3 9 at_put ∷ []) ++ cancels (status_at 7 0 at_end ∷ status_at 3 9 at_end ∷ []) ≡ 0 ∷ 0 ∷ 0 ∷ 0 ∷ []

pub carried_counts : Carried
unfolding computing text P thrower start_p begun_p at_put at_end one second second' at_pay at_throw
carried_counts =
    record {
      opened = refl;
      begun = refl;
      lowered = refl;
      lowered_thrown = refl;
      begin_above = refl;
      begin_believed = refl;
      begin_unread = refl;
      begin_by_row_lem = refl;
      begin_order = refl;
      finish_damaged = refl;
      throw_damaged = refl;
      throw_stays = refl;
      finish_unnamed = refl;
      finish_earlier = refl;
      finish_by_row = refl;
      onward_unread = refl;
    }
