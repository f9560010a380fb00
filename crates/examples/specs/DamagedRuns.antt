-- The answers 20 of the three moves, computed on damaged runs of block P.
use Rattle.std.specs.Prelude.{◌≡◌, refl, [], ◌∷◌, ◌++◌, ◌-◌, ◌^◌, pos, negsuc, take, set}
use Rattle.block.specs.Assemble.{text}
use Rattle.block.specs.Worked.{P}
use Rattle.machine.specs.Damage.{too_short, plan_at, with_key_at, value_at, status_at, frame_at, workers_as, calls_as, first_as, held_as, seat_as}
use Rattle.machine.specs.Computing.{computing}
use Rattle.machine.specs.Examples.{start_p, begun_p, at_put, at_end, one, begins, steps}
use Rattle.examples.specs.RunsOfP.{second, at_pay, thrower, at_throw, cancels}

pub record Damaged : Type 0 where
  -- BEGIN: the sizes, the workers (then 21), the calls (then 22), the held call (then 23), the call's state (then 24), the number of
  -- calls that it waits for (then 25), the number of keys, and of each entry the flags and, where it is written, the cell number.
  pub begin_sizes : begins 0 0 (too_short start_p) ≡ 20 ∷ 20 ∷ 20 ∷ 20 ∷ 20 ∷ 20 ∷ []
  pub begin_head : begins 0 0 (workers_as 0 start_p ∷ workers_as 9 start_p ∷ calls_as 257 start_p ∷ held_as 0 4 start_p ∷ held_as 0 3 start_p ∷ []) ≡ 20 ∷ 20 ∷ 20 ∷ 20 ∷ 23 ∷ []
  pub begin_state : begins 0 0 (status_at 0 3 start_p ∷ status_at 0 2 start_p ∷ status_at 0 1 start_p ∷ []) ≡ 20 ∷ 24 ∷ 24 ∷ []
  pub begin_entries : begins 0 1 (plan_at 34 25 one ∷ plan_at 35 0 one ∷ plan_at 35 4098 one ∷ plan_at 37 4097 one ∷ []) ≡ 20 ∷ 20 ∷ 20 ∷ 0 ∷ []
  -- What a lower number answers first is not looked at: a damaged number of calls behind 21, a held call that is none behind 22, a damaged state behind 23.
  pub begin_order : begins 8 0 (calls_as 257 start_p ∷ []) ++ begins 0 3 (held_as 0 4 start_p ∷ []) ++ begins 0 0 (status_at 0 3 begun_p ∷ []) ≡ 21 ∷ 22 ∷ 23 ∷ []
  -- STEP: the held call, the place, the call's record; the state word is not looked at, and at the entry the count is not.
  pub step_sizes : steps P (too_short begun_p) ≡ 20 ∷ 20 ∷ 20 ∷ 20 ∷ 20 ∷ 20 ∷ []
  pub step_head : steps P (workers_as 0 begun_p ∷ workers_as 9 begun_p ∷ calls_as 257 begun_p ∷ held_as 0 4 begun_p ∷ status_at 0 7 begun_p ∷ []) ≡ 20 ∷ 20 ∷ 20 ∷ 20 ∷ 0 ∷ []
  pub step_place_lem : steps P (seat_as 0 4 0 begun_p ∷ seat_as 0 3 0 begun_p ∷ plan_at 1 66 begun_p ∷ seat_as 0 0 65 begun_p ∷ seat_as 0 1 65 begun_p ∷ seat_as 0 1 63 begun_p ∷ []) ≡ 20 ∷ 0 ∷ 20 ∷ 0 ∷ 20 ∷ 0 ∷ []
  pub step_record_lem : steps P (first_as 200 begun_p ∷ first_as 0 begun_p ∷ []) ++ steps (set P 125 128) (begun_p ∷ []) ≡ 20 ∷ 20 ∷ 20 ∷ []
  -- The record of call 0 is bytes 120 to 155: one byte fewer is no record.
  pub step_cut : steps (take 155 P) (begun_p ∷ []) ++ steps (take 156 P) (begun_p ∷ []) ≡ 20 ∷ 0 ∷ []
  -- At an instruction: the code stretch, the instruction, the cell among the entries with the flag that is wanted.
  pub step_code : steps P (plan_at 0 217 at_put ∷ []) ++ steps (set P 16 16) (at_put ∷ begun_p ∷ []) ≡ 20 ∷ 20 ∷ 0 ∷ []
  pub step_cell : steps P (with_key_at 6 0 at_put ∷ plan_at 3 13 at_put ∷ plan_at 3 4098 at_put ∷ plan_at 2 0 at_put ∷ plan_at 2 25 at_put ∷ at_put ∷ []) ≡ 20 ∷ 20 ∷ 20 ∷ 20 ∷ 20 ∷ 0 ∷ []
  -- At the entry of call 1: the sender's balance, and the contract's where the sender's suffices.
  pub step_entry_lem : steps P (value_at 0 (negsuc 0) second ∷ value_at 2 (negsuc 0) second ∷ value_at 2 (pos (2 ^ 63 - 1)) second ∷ value_at 2 (negsuc 0) (value_at 0 (pos 0) second) ∷ second ∷ []) ≡ 20 ∷ 20 ∷ 20 ∷ 0 ∷ 0 ∷ []
  -- At the PAY of call 2 likewise.
  pub step_pay : steps P (value_at 2 (negsuc 0) at_pay ∷ value_at 1 (negsuc 0) at_pay ∷ value_at 1 (pos (2 ^ 63 - 1)) at_pay ∷ at_pay ∷ []) ≡ 20 ∷ 20 ∷ 20 ∷ 0 ∷ []
  -- An abort needs the entries; "kept old values are restored untested".
  pub step_abort : steps thrower (plan_at 2 25 at_throw ∷ plan_at 3 0 at_throw ∷ plan_at 3 4098 at_throw ∷ frame_at 8 (negsuc 4) at_throw ∷ []) ≡ 20 ∷ 20 ∷ 20 ∷ 0 ∷ []
  -- CANCEL: the held call, the number of keys and the entries.
  pub cancel_sizes : cancels (too_short begun_p) ≡ 20 ∷ 20 ∷ 20 ∷ 20 ∷ 20 ∷ 20 ∷ []
  pub cancel_head : cancels (workers_as 0 begun_p ∷ calls_as 257 begun_p ∷ held_as 0 4 begun_p ∷ seat_as 0 99 99 begun_p ∷ start_p ∷ []) ≡ 20 ∷ 20 ∷ 20 ∷ 0 ∷ 26 ∷ []
  pub cancel_entries : cancels (plan_at 2 25 begun_p ∷ plan_at 3 0 begun_p ∷ plan_at 3 4098 begun_p ∷ frame_at 8 (negsuc 4) begun_p ∷ []) ≡ 20 ∷ 20 ∷ 20 ∷ 0 ∷ []

pub damaged : Damaged
unfolding computing text P thrower start_p begun_p at_put at_end one second at_pay at_throw too_short
damaged =
    record {
      begin_sizes = refl;
      begin_head = refl;
      begin_state = refl;
      begin_entries = refl;
      begin_order = refl;
      step_sizes = refl;
      step_head = refl;
      step_place_lem = refl;
      step_record_lem = refl;
      step_cut = refl;
      step_code = refl;
      step_cell = refl;
      step_entry_lem = refl;
      step_pay = refl;
      step_abort = refl;
      cancel_sizes = refl;
      cancel_head = refl;
      cancel_entries = refl;
    }
