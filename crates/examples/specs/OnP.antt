-- Block P by four accounts that agree on it: its serial run, the published rule, a schedule on three workers with refused and cancelled
-- moves, and the tally of that schedule; and what REGISTER prints of it by the tally.
use Rattle.std.specs.Prelude.{◌≡◌, refl, List, [], ◌∷◌, ◌++◌, map, ℕ, ◌+◌, ◌*◌, ◌^◌, ℤ, pos, take, ltb}
use Rattle.schedule.specs.Tally as tally
use Rattle.schedule.specs.declared.Move.{Move}
use Rattle.schedule.specs.declared.Move.TheVariants.{Begin, Step, Cancel}
use Rattle.block.specs.Limits.{max_workers}
use Rattle.block.specs.Reader.{Read, accepted, refused, read_block}
use Rattle.machine.specs.Run.{Run}
use Rattle.footprint.specs.Plan.{opening_value}
use Rattle.machine.specs.Moves.{run_after, answers_of}
use Rattle.machine.specs.Serial.{serial_run, serial_run_of}
use Rattle.sheet.specs.Sheet.{sheet_bytes}
use Rattle.console.specs.Text.{sheet_text}
use Rattle.console.specs.Computing as console
use Rattle.block.specs.Assemble.{text}
use Rattle.block.specs.Worked.{P}
use Rattle.console.specs.Examples.{moves_p, printed_p}
use Rattle.machine.specs.Opening.{opened_for_eight}
use Rattle.rule.specs.Rule.{Left, transactions, update, assign_checked, transfer, execute, execute_at, unfuelled, run_body, with_instr, body_of, settle, run_function, transaction_by}
use Rattle.block.specs.BlockOfFile.{block_in}
use Rattle.guarantees.specs.BlockTally.{tally_answers, steps_in}
use Rattle.guarantees.specs.RegisterByTally.{lines_from, lines_of, moves_of, lines_text, finished_below, register_by_tally}

-- The text of the sheet of a run whose calls are all finished.
abbrev sheet_lines : Run → List ℕ
sheet_lines r = sheet_text (sheet_bytes r)

-- Every number of 21 to 26 occurs; call 0 is cancelled once and begun again on another worker.
unfoldable pub schedule : List Move
schedule =
    (Begin 1 1 ∷ Begin 8 0 ∷ Begin 0 3 ∷ Begin 0 0 ∷ Begin 0 2 ∷ Begin 1 0 ∷ Step 1 ∷ [])
    ++ (Step 0 ∷ Step 0 ∷ Cancel 0 ∷ Begin 2 1 ∷ Begin 1 0 ∷ Step 1 ∷ Step 1 ∷ Step 1 ∷ Cancel 9 ∷ Step 1 ∷ Begin 1 0 ∷ [])
    ++ (Begin 7 1 ∷ Step 7 ∷ Step 7 ∷ Step 7 ∷ Step 7 ∷ [])
    ++ (Begin 0 2 ∷ Step 0 ∷ Step 0 ∷ Step 0 ∷ Step 0 ∷ Cancel 0 ∷ [])

unfoldable pub schedule_answers : List ℕ
schedule_answers =
    (25 ∷ 21 ∷ 22 ∷ 0 ∷ 23 ∷ 24 ∷ 26 ∷ [])
    ++ (0 ∷ 0 ∷ 0 ∷ 25 ∷ 0 ∷ 0 ∷ 0 ∷ 0 ∷ 21 ∷ 0 ∷ 24 ∷ [])
    ++ (0 ∷ 0 ∷ 0 ∷ 0 ∷ 0 ∷ []) ++ (0 ∷ 0 ∷ 0 ∷ 0 ∷ 0 ∷ 26 ∷ [])

-- What the published rule leaves of each call of a file, from the file's opening.
unfoldable pub rule_on : List ℕ → Read → List Left
rule_on file (refused why) = []
rule_on file (accepted b) = transactions file b.functions b.calls (opening_value b.cells)

unfoldable pub rule_receipts : List Left → List (List ℕ)
rule_receipts [] = []
rule_receipts (l ∷ ls) = (l.outcome ∷ l.count ∷ []) ∷ rule_receipts ls

-- The balances of accounts 5 and 7 and of contract 32768, and its field 1, after each call.
unfoldable pub values_after : List Left → List (List ℤ)
values_after [] = []
values_after (l ∷ ls) =
    map l.state ((5 * 2 ^ 80) ∷ (7 * 2 ^ 80) ∷ (32768 * 2 ^ 80) ∷ (32768 * 2 ^ 80 + 2 ^ 64) ∷ []) ∷ values_after ls

pub record OnP : Type 0 where
  pub serial : sheet_lines (serial_run P (opened_for_eight P)) ≡ printed_p
  pub rule_receipts_lem : rule_receipts (rule_on P (read_block P)) ≡ (0 ∷ 2 ∷ []) ∷ (0 ∷ 3 ∷ []) ∷ (0 ∷ 2 ∷ []) ∷ []
  pub rule_values : values_after (rule_on P (read_block P)) ≡ (pos 2 ∷ pos 0 ∷ pos 0 ∷ pos 1 ∷ []) ∷ (pos 1 ∷ pos 0 ∷ pos 1 ∷ pos 1 ∷ []) ∷ (pos 0 ∷ pos 1 ∷ pos 1 ∷ pos 1 ∷ []) ∷ []
  pub scheduled : sheet_lines (run_after P (opened_for_eight P) schedule) ≡ printed_p
  pub answered : answers_of P (opened_for_eight P) schedule ≡ schedule_answers
  pub steps : map (steps_in P max_workers) (0 ∷ 1 ∷ 2 ∷ []) ≡ 4 ∷ 4 ∷ 4 ∷ []
  pub tallied : tally_answers P max_workers schedule ≡ schedule_answers
  -- REGISTER by the tally: on document 01's input, and on a refused move, a line in no such form and a last line without a line feed.
  pub printed : register_by_tally P (lines_of moves_p) ≡ printed_p
  pub unfinished : register_by_tally P (lines_of (text "b 0 1\nx\ns 3")) ≡ text "r 1 25\nr 2 0\nr 3 26\nr 0 27\n"
  -- Calls 0 and 1 alone, in block order: the first four cells of the table.
  pub alone : take 4 (serial_run_of (λ c. ltb c 2) P (opened_for_eight P)).cells ≡ pos 1 ∷ pos 0 ∷ pos 1 ∷ pos 1 ∷ []

pub on_p : OnP
unfolding console.computing tally.put tally.blocked tally.refusal tally.answer tally.next tally.place tally.step tally.cancel tally.accept tally.move tally.after_from tally.answers_from tally.after tally.answers text P moves_p printed_p schedule schedule_answers rule_on rule_receipts values_after block_in transactions update assign_checked transfer execute execute_at unfuelled run_body with_instr body_of settle run_function transaction_by lines_from moves_of lines_text finished_below register_by_tally
on_p =
    record {
      serial = refl;
      rule_receipts_lem = refl;
      rule_values = refl;
      scheduled = refl;
      answered = refl;
      steps = refl;
      tallied = refl;
      printed = refl;
      unfinished = refl;
      alone = refl;
    }
