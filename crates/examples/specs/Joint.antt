-- The joint check: document 01's starred examples, shown of the definitions that the contracts cite, by computation.
use Rattle.std.specs.Prelude.{◌≡◌, refl, Bool, true, false, List, ℕ, pos}
use Rattle.wire.specs.Rows.{in_row}
use Rattle.machine.specs.Answer.{answer_number}
use Rattle.machine.specs.Run.{row_in}
use Rattle.machine.specs.Opening.{opened_for_eight}
use Rattle.machine.specs.Moves.{begin_of, step_of}
use Rattle.console.specs.Register.{register_of}
use Rattle.console.specs.Computing as console
use Rattle.block.specs.Assemble.{text}
use Rattle.block.specs.Worked.{P}
use Rattle.console.specs.Examples.{moves_p, printed_p}
use Rattle.examples.specs.Blocks.{divisions_block, division_moves, division_text, value_call, put_then_throw}

-- Whether a call waits for another in the opened run.
abbrev pub waits : List ℕ → (later earlier : ℕ) → Bool
waits block later earlier = in_row (row_in (opened_for_eight block).plan later) earlier

pub record Starred : Type 0 where
  -- "Rows: 1 waits for 0, 2 for 1, 2 not for 0."
  pub row_1_0 : waits P 1 0 ≡ true
  pub row_2_1 : waits P 2 1 ≡ true
  pub row_2_0 : waits P 2 0 ≡ false
  -- "BEGIN(1, 1) first: 25."
  pub begin_first : answer_number (begin_of (opened_for_eight P) 1 1).answer ≡ 25
  -- "STEP on an idle worker: 26."
  pub step_idle : answer_number (step_of P (opened_for_eight P) 0).answer ≡ 26
  -- "The program REGISTER .. prints in full".
  pub printed : register_of P moves_p ≡ printed_p
  -- "DIV -7 by 2: -4; 7 by -2: -4; -2^63 by -1: outcome 4; by 0: 4", of which M-103 says: "the division example by 0 now reads 6."
  pub divided : register_of divisions_block division_moves ≡ division_text
  -- "Value equal to the balance passes; one more: outcome 2."
  pub value_equal : register_of (value_call (pos 2)) (text "b 0 0\ns 0\ns 0\n") ≡ text "k 32768 0 0 0 2\nt 0 0 0\n"
  pub value_above : register_of (value_call (pos 3)) (text "b 0 0\ns 0\n") ≡ text "k 5 0 0 0 2\nt 0 2 0\n"
  -- "PUT then THROW: the cell is as before, count 2."
  pub thrown : register_of put_then_throw (text "b 0 0\ns 0\ns 0\ns 0\n") ≡ text "k 32768 1 0 0 9\nt 0 3 2\n"

pub starred : Starred
unfolding console.computing text P moves_p printed_p divisions_block division_moves division_text value_call put_then_throw
starred =
    record {
      row_1_0 = refl;
      row_2_1 = refl;
      row_2_0 = refl;
      begin_first = refl;
      step_idle = refl;
      printed = refl;
      divided = refl;
      value_equal = refl;
      value_above = refl;
      thrown = refl;
    }
