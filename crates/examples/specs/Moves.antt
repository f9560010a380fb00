-- The answers 21 to 26 of the three moves, what a cancelled and a failed call leave, and the steps of calls, computed.
use Rattle.std.specs.Prelude.{◌≡◌, refl, [], ◌∷◌, map, pos, take}
use Rattle.schedule.specs.declared.Move.TheVariants.{Begin, Step, Cancel}
use Rattle.block.specs.Assemble.{text}
use Rattle.block.specs.Worked.{P}
use Rattle.machine.specs.Opening.{opened_for_eight}
use Rattle.machine.specs.Moves.{run_after, answers_of}
use Rattle.machine.specs.Serial.{serial_steps}
use Rattle.machine.specs.Computing.{computing}
use Rattle.machine.specs.Examples.{start_p, begun_p, at_put}
use Rattle.examples.specs.RunsOfP.{thrower, at_throw, endings}

pub record Moves-P : Type 0 where
  -- "BEGIN(1, 1) first: 25", "STEP on an idle worker: 26", and the other refusals in P.
  pub answered : answers_of P start_p (Begin 1 1 ∷ Step 0 ∷ Cancel 0 ∷ Begin 8 0 ∷ Step 8 ∷ Begin 0 3 ∷ Begin 0 0 ∷ Begin 0 2 ∷ Begin 1 0 ∷ []) ≡ 25 ∷ 26 ∷ 26 ∷ 21 ∷ 21 ∷ 22 ∷ 0 ∷ 23 ∷ 24 ∷ []
  -- "Freeing waiters when a call is cancelled": call 1 still waits for call 0.
  pub cancelled : answers_of P begun_p (Cancel 0 ∷ Begin 1 1 ∷ []) ≡ 0 ∷ 25 ∷ []
  -- A cancelled PUT leaves no trace: head, cells and status are as at the opening. The worker's seat and frame stand as its last step left them.
  pub restored_head : (run_after P at_put (Step 0 ∷ Cancel 0 ∷ [])).head ≡ start_p.head
  pub restored_cells : (run_after P at_put (Step 0 ∷ Cancel 0 ∷ [])).cells ≡ start_p.cells
  pub restored_status : (run_after P at_put (Step 0 ∷ Cancel 0 ∷ [])).status ≡ start_p.status
  pub left_seat : take 3 (run_after P at_put (Step 0 ∷ Cancel 0 ∷ [])).seats ≡ 3 ∷ 2 ∷ 0 ∷ []
  pub left_frame : take 2 (run_after P at_put (Step 0 ∷ Cancel 0 ∷ [])).frames ≡ pos 1 ∷ pos 0 ∷ []
  -- PUT then THROW: the cell is as before, outcome 3, count 2.
  pub thrown : take 2 (run_after thrower at_throw (Step 0 ∷ [])).cells ≡ pos 9 ∷ pos 0 ∷ []
  pub receipt : take 3 (run_after thrower at_throw (Step 0 ∷ [])).status ≡ 2 ∷ 3 ∷ 2 ∷ []
  -- "A call's steps are its entry, its counted instructions, and one for reaching the end": there is none behind STOP.
  pub stepped : map (serial_steps endings (opened_for_eight endings)) (0 ∷ 1 ∷ 2 ∷ 3 ∷ 4 ∷ 5 ∷ []) ≡ 2 ∷ 3 ∷ 2 ∷ 2 ∷ 1 ∷ 1 ∷ []

pub moves_of_p : Moves-P
unfolding computing text P thrower endings start_p begun_p at_put at_throw
moves_of_p = record { answered = refl; cancelled = refl; restored_head = refl; restored_cells = refl; restored_status = refl; left_seat = refl; left_frame = refl; thrown = refl; receipt = refl; stepped = refl }
