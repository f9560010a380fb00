-- Document 02, M-103, on the block of divisions: what REGISTER prints of it, and what the published rule leaves of its calls.
use Rattle.std.specs.Prelude.{◌≡◌, refl, List, [], ◌∷◌, map, ℕ, ℤ, pos}
use Rattle.block.specs.Assemble.{text}
use Rattle.block.specs.Key.{key_of}
use Rattle.block.specs.Reader.{read_block}
use Rattle.block.specs.Worked.{zero_divisors}
use Rattle.console.specs.Register.{register_of}
use Rattle.console.specs.Computing as console
use Rattle.rule.specs.Rule.{Left, transactions, update, assign_checked, transfer, execute, execute_at, unfuelled, run_body, with_instr, body_of, settle, run_function, transaction_by}
use Rattle.examples.specs.OnP.{rule_on, rule_receipts}

-- Calls 0, 1 and 4, which divide by zero, together; call 5 is begun once while call 4 runs, for which it waits; then 5 and 2 together, and 3.
unfoldable pub moves_d : List ℕ
moves_d =
    text "b 0 0\nb 1 1\nb 2 4\ns 0\ns 1\ns 2\ns 0\ns 1\ns 2\ns 1\ns 2\ns 1\ns 2\nb 0 5\ns 2\ns 1\nb 2 5\nb 1 2\ns 1\ns 2\ns 1\ns 2\ns 1\ns 2\ns 1\ns 2\ns 1\ns 2\ns 2\ns 2\nb 0 3\ns 0\ns 0\ns 0\ns 0\ns 0\ns 0\ns 0\n"

unfoldable pub printed_d : List ℕ
printed_d =
    text "r 14 25\nk 32768 0 0 0 7\nk 32768 1 0 0 3\nk 32768 2 0 0 -9223372036854775808\nk 32768 3 0 0 4611686018427387904\nt 0 6 1\nt 1 6 4\nt 2 4 4\nt 3 0 5\nt 4 6 4\nt 5 0 5\n"

-- The balances of account 5 and of the contract, and its field 1, behind each call.
unfoldable pub left_in_d : List Left → List (List ℤ)
left_in_d ls = map (λ l. map l.state (key_of 5 0 0 0 ∷ key_of 32768 0 0 0 ∷ key_of 32768 1 0 0 ∷ [])) ls

pub record OnZeroDivisors : Type 0 where
  pub printed : register_of zero_divisors moves_d ≡ printed_d
  pub rule_receipts_lem : rule_receipts (rule_on zero_divisors (read_block zero_divisors)) ≡ (6 ∷ 1 ∷ []) ∷ (6 ∷ 4 ∷ []) ∷ (4 ∷ 4 ∷ []) ∷ (0 ∷ 5 ∷ []) ∷ (6 ∷ 4 ∷ []) ∷ (0 ∷ 5 ∷ []) ∷ []
  pub rule_left_lem : left_in_d (rule_on zero_divisors (read_block zero_divisors)) ≡ (pos 7 ∷ pos 0 ∷ pos 9 ∷ []) ∷ (pos 7 ∷ pos 0 ∷ pos 9 ∷ []) ∷ (pos 7 ∷ pos 0 ∷ pos 9 ∷ []) ∷ (pos 7 ∷ pos 0 ∷ pos 9 ∷ []) ∷ (pos 7 ∷ pos 0 ∷ pos 9 ∷ []) ∷ (pos 0 ∷ pos 7 ∷ pos 3 ∷ []) ∷ []

pub on_zero_divisors : OnZeroDivisors
unfolding console.computing text zero_divisors moves_d printed_d left_in_d rule_on rule_receipts transactions update assign_checked transfer execute execute_at unfuelled run_body with_instr body_of settle run_function transaction_by
on_zero_divisors = record { printed = refl; rule_receipts_lem = refl; rule_left_lem = refl }
