-- Edges that are executed too: a byte beside the digits in the place of one, 12 by a key behind the 1,024th of the same call, and a
-- preparation in buffers that are too short, which an opening refuses before it prepares.
use Rattle.std.specs.Prelude.{◌≡◌, refl, List, [], ◌∷◌, ℕ, zero, suc, ◌*◌, ◌^◌, length}
use Rattle.wire.specs.Bytes.{repeated}
use Rattle.block.specs.Refusal.{number_of, offset_of, verdict_number}
use Rattle.block.specs.Reader.{Read, accepted, refused, read_block}
use Rattle.block.specs.Assemble.{text}
use Rattle.block.specs.Worked.{P}
use Rattle.footprint.specs.Examples.{gets, keys_block}
use Rattle.footprint.specs.Table as table
use Rattle.footprint.specs.Table.{Analysis, analyse}
use Rattle.footprint.specs.Plan.{Prepared, prepared_of}
use Rattle.console.specs.Register.{register_of}
use Rattle.console.specs.Computing as console

-- The keys of n opening balances, of accounts from this one on.
unfoldable pub balances_from : (address n : ℕ) → List ℕ
balances_from address zero = []
balances_from address (suc n) = address * 2 ^ 80 ∷ balances_from (suc address) n

-- The calls of a block behind the keys of so many opening cells: the number of keys, or the number and offset of a refusal.
unfoldable pub counted : Analysis → List ℕ
counted (table.refused why) = number_of why ∷ offset_of why ∷ []
counted (table.analysed sets keys) = length keys ∷ []

unfoldable pub behind : ℕ → List ℕ → Read → List ℕ
behind cells file (refused why) = []
behind cells file (accepted b) = counted (analyse file b.functions b.calls b.first_call [] (balances_from 0 cells))

abbrev prepared : (plan keys cells : ℕ) → Prepared
prepared p k c = prepared_of (record { plan = p; keys = k; cells = c }) (keys_block 1)

pub record Edges : Type 0 where
  -- The bytes before `0` and behind `9`.
  pub digits : register_of P (text "s /\ns :\ns 0:\nc :\nb : 9\nb 9 :\n") ≡ text "r 1 0\nr 2 0\nr 3 0\nr 4 0\nr 5 0\nr 6 0\nr 0 27\n"
  -- A call of 20 keys: behind 1,004 cells they are 1,024, and behind 1,010 the table is full at the 14th.
  pub keys_1024 : behind 1004 (keys_block 20) (read_block (keys_block 20)) ≡ 1024 ∷ []
  pub keys_1030 : behind 1010 (keys_block 20) (read_block (keys_block 20)) ≡ 12 ∷ 168 ∷ []
  -- A plan, keys or values that are short by one, and everything is zero.
  pub plan_right : verdict_number (prepared 8192 2048 1024).verdict ∷ (prepared 8192 2048 1024).calls ∷ [] ≡ 0 ∷ 1 ∷ []
  pub plan_short : verdict_number (prepared 8191 2048 1024).verdict ∷ (prepared 8191 2048 1024).calls ∷ (prepared 8191 2048 1024).plan ≡ 20 ∷ 0 ∷ repeated 8191 0
  pub keys_short : verdict_number (prepared 8192 2047 1024).verdict ∷ (prepared 8192 2047 1024).keys ≡ 20 ∷ repeated 2047 0
  pub values_short : verdict_number (prepared 8192 2048 1023).verdict ∷ (prepared 8192 2048 1023).keys ≡ 20 ∷ repeated 2048 0

pub edges : Edges
unfolding console.computing text P gets keys_block balances_from counted behind
edges =
    record {
      digits = refl;
      keys_1024 = refl;
      keys_1030 = refl;
      plan_right = refl;
      plan_short = refl;
      keys_short = refl;
      values_short = refl;
    }
