-- Document 02, M-104, on the block of loops: what REGISTER prints of it, and what the published rule leaves of its calls.
use Rattle.std.specs.Prelude.{◌≡◌, refl, List, [], ◌∷◌, map, ℕ, ℤ, pos}
use Rattle.block.specs.Assemble.{text}
use Rattle.block.specs.Key.{key_of}
use Rattle.block.specs.Reader.{read_block}
use Rattle.block.specs.Worked.{fuelled}
use Rattle.console.specs.Register.{register_of}
use Rattle.console.specs.Computing as console
use Rattle.rule.specs.Rule.{Left, steps_for, transactions, update, assign_checked, transfer, execute, execute_at, unfuelled, run_body, with_instr, body_of, settle, run_function, transaction_by}
use Rattle.examples.specs.OnP.{rule_on, rule_receipts}

-- The loop of call 6 on worker 0, with call 10 begun once while it runs, for which it waits; beside it the jump to its own index and then the assignments, the two calls of
-- interest, and STOP with the jump to the code's length, each on a worker of its own.
unfoldable pub moves_f : List ℕ
moves_f =
    text "b 0 6\nb 3 10\ns 0\nb 1 5\nb 2 8\nb 3 4\ns 0\ns 1\ns 2\ns 3\ns 0\ns 1\ns 2\ns 3\ns 0\ns 1\ns 2\ns 3\ns 0\ns 1\ns 2\nb 3 7\ns 0\ns 1\ns 2\ns 3\ns 0\ns 1\ns 2\ns 3\ns 0\ns 1\ns 2\ns 3\ns 0\nb 1 0\ns 2\ns 0\ns 1\ns 2\ns 0\ns 1\ns 2\nb 0 10\ns 1\ns 2\ns 0\ns 1\ns 2\ns 0\nb 1 1\ns 2\ns 0\ns 1\ns 2\ns 0\ns 1\ns 2\ns 1\ns 2\nb 1 2\ns 2\ns 1\ns 2\ns 1\ns 2\ns 1\ns 2\ns 1\ns 2\nb 1 3\ns 2\ns 1\ns 2\ns 1\ns 2\ns 1\ns 2\ns 2\ns 2\nb 2 9\ns 2\ns 2\ns 2\ns 2\ns 2\ns 2\ns 2\ns 2\ns 2\ns 2\ns 2\ns 2\ns 2\ns 2\ns 2\ns 2\ns 2\ns 2\ns 2\ns 2\ns 2\ns 2\ns 2\ns 2\ns 2\ns 2\n"

unfoldable pub printed_f : List ℕ
printed_f =
    text "r 2 25\nk 32768 0 0 0 7\nk 32768 1 0 0 9\nk 32768 2 0 0 1331\nt 0 0 2\nt 1 7 1\nt 2 0 2\nt 3 7 1\nt 4 0 2\nt 5 7 5\nt 6 7 9\nt 7 0 1\nt 8 0 25\nt 9 7 24\nt 10 0 2\n"

-- The balances of account 5 and of the contract, and its fields 1 and 2, behind each call.
unfoldable pub left_in_f : List Left → List (List ℤ)
left_in_f ls = map (λ l. map l.state (key_of 5 0 0 0 ∷ key_of 32768 0 0 0 ∷ key_of 32768 1 0 0 ∷ key_of 32768 2 0 0 ∷ [])) ls

pub record OnFuel : Type 0 where
  pub printed : register_of fuelled moves_f ≡ printed_f
  pub rule_receipts_lem : rule_receipts (rule_on fuelled (read_block fuelled)) ≡ (0 ∷ 2 ∷ []) ∷ (7 ∷ 1 ∷ []) ∷ (0 ∷ 2 ∷ []) ∷ (7 ∷ 1 ∷ []) ∷ (0 ∷ 2 ∷ []) ∷ (7 ∷ 5 ∷ []) ∷ (7 ∷ 9 ∷ []) ∷ (0 ∷ 1 ∷ []) ∷ (0 ∷ 25 ∷ []) ∷ (7 ∷ 24 ∷ []) ∷ (0 ∷ 2 ∷ []) ∷ []
  pub rule_steps : map steps_for (rule_on fuelled (read_block fuelled)) ≡ 4 ∷ 3 ∷ 4 ∷ 3 ∷ 3 ∷ 7 ∷ 11 ∷ 3 ∷ 27 ∷ 26 ∷ 4 ∷ []
  pub rule_left_lem : left_in_f (rule_on fuelled (read_block fuelled)) ≡ (pos 7 ∷ pos 0 ∷ pos 9 ∷ pos 1000 ∷ []) ∷ (pos 7 ∷ pos 0 ∷ pos 9 ∷ pos 1000 ∷ []) ∷ (pos 7 ∷ pos 0 ∷ pos 9 ∷ pos 1000 ∷ []) ∷ (pos 7 ∷ pos 0 ∷ pos 9 ∷ pos 1000 ∷ []) ∷ (pos 7 ∷ pos 0 ∷ pos 9 ∷ pos 1000 ∷ []) ∷ (pos 7 ∷ pos 0 ∷ pos 9 ∷ pos 1000 ∷ []) ∷ (pos 7 ∷ pos 0 ∷ pos 9 ∷ pos 1000 ∷ []) ∷ (pos 7 ∷ pos 0 ∷ pos 9 ∷ pos 1000 ∷ []) ∷ (pos 7 ∷ pos 0 ∷ pos 9 ∷ pos 1331 ∷ []) ∷ (pos 7 ∷ pos 0 ∷ pos 9 ∷ pos 1331 ∷ []) ∷ (pos 0 ∷ pos 7 ∷ pos 9 ∷ pos 1331 ∷ []) ∷ []

pub on_fuel : OnFuel
unfolding console.computing text fuelled moves_f printed_f left_in_f rule_on rule_receipts transactions update assign_checked transfer execute execute_at unfuelled run_body with_instr body_of settle run_function transaction_by
on_fuel = record { printed = refl; rule_receipts_lem = refl; rule_steps = refl; rule_left_lem = refl }
