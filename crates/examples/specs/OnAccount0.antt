-- Document 02, M-101, on the block of payments to account 0: what REGISTER prints of it, and what the published rule leaves of its calls.
use Rattle.std.specs.Prelude.{◌≡◌, refl, List, [], ◌∷◌, map, ℕ, ℤ, pos}
use Rattle.block.specs.Assemble.{text}
use Rattle.block.specs.Key.{balance_of0}
use Rattle.block.specs.Reader.{read_block}
use Rattle.block.specs.Worked.{account0}
use Rattle.console.specs.Register.{register_of}
use Rattle.console.specs.Computing as console
use Rattle.rule.specs.Rule.{Left, transactions, update, assign_checked, transfer, execute, execute_at, unfuelled, run_body, with_instr, body_of, settle, run_function, transaction_by}
use Rattle.examples.specs.OnP.{rule_on, rule_receipts}

-- Calls 0 and 1, which pay account 0 from two contracts, together; then the others in order. Call 7 is begun once while call 6 runs, for which it waits, as
-- account 0 sends both.
unfoldable pub moves0 : List ℕ
moves0 =
    text "b 0 0\nb 1 1\ns 0\ns 1\ns 0\ns 1\ns 1\ns 0\ns 1\nb 0 2\ns 0\ns 0\nb 0 3\ns 0\ns 0\ns 0\nb 0 4\ns 0\ns 0\ns 0\nb 0 5\ns 0\ns 0\ns 0\ns 0\nb 0 6\nb 1 7\ns 0\ns 0\ns 0\ns 0\nb 1 7\ns 1\ns 1\ns 1\ns 1\nb 0 8\ns 0\n"

unfoldable pub printed0 : List ℕ
printed0 = text "r 27 25\nk 0 0 0 0 2\nk 7 0 0 0 1\nk 8 0 0 0 1\nk 32768 0 0 0 10\nk 40000 0 0 0 9\nt 0 5 2\nt 1 5 3\nt 2 5 1\nt 3 5 2\nt 4 5 2\nt 5 0 2\nt 6 0 2\nt 7 5 3\nt 8 2 0\n"

-- The balance of account 0 behind each call.
unfoldable pub left_in0 : List Left → List ℤ
left_in0 ls = map (λ l. l.state balance_of0) ls

pub record OnAccount0 : Type 0 where
  pub printed : register_of account0 moves0 ≡ printed0
  pub rule_receipts_lem : rule_receipts (rule_on account0 (read_block account0)) ≡ (5 ∷ 2 ∷ []) ∷ (5 ∷ 3 ∷ []) ∷ (5 ∷ 1 ∷ []) ∷ (5 ∷ 2 ∷ []) ∷ (5 ∷ 2 ∷ []) ∷ (0 ∷ 2 ∷ []) ∷ (0 ∷ 2 ∷ []) ∷ (5 ∷ 3 ∷ []) ∷ (2 ∷ 0 ∷ []) ∷ []
  pub rule_left_lem : left_in0 (rule_on account0 (read_block account0)) ≡ pos 5 ∷ pos 5 ∷ pos 5 ∷ pos 5 ∷ pos 5 ∷ pos 5 ∷ pos 2 ∷ pos 2 ∷ pos 2 ∷ []

pub on_account0 : OnAccount0
unfolding console.computing text account0 moves0 printed0 left_in0 rule_on rule_receipts transactions update assign_checked transfer execute execute_at unfuelled run_body with_instr body_of settle run_function transaction_by
on_account0 = record { printed = refl; rule_receipts_lem = refl; rule_left_lem = refl }
