-- The calculator at work: four calls, two workers, and a list of moves with a cancel, a second begin of the cancelled
-- call, a call that fails, and a refusal of each number 21 to 26. Everything here is computed.
use Prim.Native.Nat.{ℕ}
use mathlib.Core.Path.{◌≡◌, refl}
use mathlib.Core.List.{List, [], ◌∷◌, ◌++◌}
use Rattle.schedule.specs.declared.Move.{Move}
use Rattle.schedule.specs.declared.Move.TheVariants.{Begin, Step, Cancel}
use Rattle.schedule.specs.Tally.{put, blocked, refusal, answer, next, place, step, cancel, accept, move, answers_from, answers}
use Rattle.schedule.specs.Calls.{Calls, done, trace, steps_from, steps_of, whole, alone, serial, steps_in_serial}
use Rattle.schedule.specs.Machine.{machine_opening, respond, settle_call, machine_begin, machine_step, cancel_call, step_worker, cancel_worker, perform_move, make, play, responses}
use Rattle.schedule.proofs.Confluence.{confluence}
use Rattle.schedule.specs.Confluent.{Confluent}
use Rattle.schedule.proofs.CallExchange.{block_order, receipts_of}
use Rattle.schedule.proofs.CalculatorLaws.{calculator_laws}
use Rattle.schedule.specs.Calculator.{Instr, const, load, add, store, fail, returned, failed, code_cells, is_member, some, conflicts, keep, put_back, calculator}

-- Call 1 waits for call 0, and call 3 for calls 1 and 2.
unfoldable pub block : List (List Instr)
block =
    (const 5 ∷ store 0 ∷ [])
    ∷ (load 0 ∷ add 2 ∷ store 1 ∷ [])
    ∷ (const 7 ∷ store 3 ∷ fail ∷ [])
    ∷ (load 3 ∷ store 2 ∷ [])
    ∷ []

-- The block over a register of four cells, and its opening.
abbrev pub example : Calls
example = calculator block 4

abbrev pub calculator_register : List ℕ
calculator_register = 10 ∷ 20 ∷ 30 ∷ 40 ∷ []

-- Refused: no such worker, no such call, no call held. Then call 0 on worker 0; refused: the worker holds a call, the
-- call is not waiting, an earlier conflicting call is unfinished. Then call 2 on worker 1.
unfoldable pub opening_moves : List Move
opening_moves = Begin 2 0 ∷ Begin 0 4 ∷ Step 0 ∷ Begin 0 0 ∷ Begin 0 1 ∷ Begin 1 0 ∷ Begin 1 1 ∷ Begin 1 2 ∷ []

-- Two steps of each: both calls have stored.
unfoldable pub store_moves : List Move
store_moves = opening_moves ++ (Step 0 ∷ Step 1 ∷ Step 0 ∷ Step 1 ∷ [])

-- Call 0 is cancelled, and does not free call 1, which is refused.
unfoldable pub cancel_moves : List Move
cancel_moves = store_moves ++ (Cancel 0 ∷ Begin 0 1 ∷ [])

-- Call 0 again, to its end; call 2 fails; then calls 1 and 3.
unfoldable pub played : List Move
played =
    cancel_moves
    ++ (Begin 0 0 ∷ Step 0 ∷ Step 0 ∷ Step 0 ∷ Step 1 ∷ Begin 1 1 ∷ Step 1 ∷ Step 1 ∷ Step 1 ∷ Step 1
    ∷ Begin 0 3 ∷ Step 0 ∷ Step 0 ∷ Step 0 ∷ [])

-- The answers, in the groups above.
unfoldable pub expected_answers : List ℕ
expected_answers =
    21 ∷ 22 ∷ 26 ∷ 0 ∷ 23 ∷ 24 ∷ 25 ∷ 0
    ∷ 0 ∷ 0 ∷ 0 ∷ 0
    ∷ 0 ∷ 25
    ∷ 0 ∷ 0 ∷ 0 ∷ 0 ∷ 0 ∷ 0 ∷ 0 ∷ 0 ∷ 0 ∷ 0 ∷ 0 ∷ 0 ∷ 0 ∷ 0
    ∷ []

-- What the moves give: the answers of the machine and of the tally; the cells when both calls have stored, after the
-- cancel, and at the end, which are those of the serial run; and the serial run's receipts.
pub record Computed : Type 0 where
  pub machine_answers : responses example 2 (machine_opening example calculator_register) played ≡ expected_answers
  pub tally_answers_lem : answers 2 4 example.before (steps_in_serial example calculator_register) played ≡ expected_answers
  pub stored_cells : (play example 2 (machine_opening example calculator_register) store_moves).cells ≡ 5 ∷ 20 ∷ 30 ∷ 7 ∷ []
  pub cancelled_cells : (play example 2 (machine_opening example calculator_register) cancel_moves).cells ≡ 10 ∷ 20 ∷ 30 ∷ 7 ∷ []
  pub played_cells : (play example 2 (machine_opening example calculator_register) played).cells ≡ 5 ∷ 35 ∷ 40 ∷ 40 ∷ []
  pub serial_cells_lem : serial example calculator_register 4 ≡ 5 ∷ 35 ∷ 40 ∷ 40 ∷ []
  pub serial_receipts :
      receipts_of example (block_order 4) calculator_register
      ≡ done (returned 5) ∷ done (returned 35) ∷ done failed ∷ done (returned 40) ∷ []

pub computed : Computed
unfolding block opening_moves store_moves cancel_moves played expected_answers put blocked refusal answer next place step cancel accept move answers_from answers trace steps_from steps_of whole alone respond settle_call machine_begin machine_step cancel_call step_worker cancel_worker perform_move make play responses code_cells is_member some conflicts keep put_back receipts_of block_order
computed =
    record {
      machine_answers = refl;
      tally_answers_lem = refl;
      stored_cells = refl;
      cancelled_cells = refl;
      played_cells = refl;
      serial_cells_lem = refl;
      serial_receipts = refl;
    }

-- And the theorem at this block, for every list of moves.
pub example_confluent : (moves : List Move) → Confluent example 2 calculator_register moves
example_confluent moves = confluence example (calculator_laws block 4) 2 calculator_register refl moves
