-- The sets and rows of block P, and of other small blocks, computed.
use Rattle.std.specs.Prelude.{◌≡◌, refl, ℕ, zero, suc, ◌+◌, ◌*◌, ◌^◌, pos, get_or, take, drop}
use mathlib.Core.List.{List, [], ◌∷◌, ◌++◌, map, flatten}
use Rattle.block.specs.Reader.{Read, accepted, refused, read_block}
use Rattle.block.specs.Refusal.{number_of, offset_of}
use Rattle.block.specs.Assemble.{GET, PUT, PAY, BAL, function, call, end}
use Rattle.block.specs.Worked.{P, account0}
use Rattle.footprint.specs.Access.{Access}
use Rattle.footprint.specs.Sets.{read_set, write_set}
use Rattle.footprint.specs.Conflict.{row_for}
use Rattle.footprint.specs.Table as table
use Rattle.footprint.specs.Table.{Analysis, analyse}
use Rattle.footprint.specs.Computing.{computing}

unfoldable pub analysis : List ℕ → Read → Analysis
analysis file (refused why) = table.refused why
analysis file (accepted b) = analyse file b.functions b.calls b.first_call [] (map (λ c. c.key) b.cells)

-- The first word of each call's row, behind the sets of the calls before it.
unfoldable pub first_words : List (List Access) → List (List Access) → List (List ℕ)
first_words earlier [] = []
first_words earlier (s ∷ ss) = row_for earlier s ∷ first_words (earlier ++ (s ∷ [])) ss

unfoldable pub rows_of : Analysis → List (List ℕ)
rows_of (table.refused why) = (number_of why ∷ offset_of why ∷ []) ∷ []
rows_of (table.analysed sets keys) = first_words [] sets

-- The read set and the write set of each call, and the table.
unfoldable pub both_sets : List (List Access) → List (List ℕ)
both_sets [] = []
both_sets (s ∷ ss) = read_set s ∷ write_set s ∷ both_sets ss

unfoldable pub sets_and_table : Analysis → List (List ℕ)
sets_and_table (table.refused why) = (number_of why ∷ offset_of why ∷ []) ∷ []
sets_and_table (table.analysed sets keys) = both_sets sets ++ (keys ∷ [])

abbrev rows : List ℕ → List (List ℕ)
rows file = rows_of (analysis file (read_block file))

abbrev sets : List ℕ → List (List ℕ)
sets file = sets_and_table (analysis file (read_block file))

-- The first word of a row.
abbrev first : List ℕ → ℕ
first row = get_or row 0 0

-- Keys: a balance, and a cell of contract 32768.
abbrev balance : ℕ → ℕ
balance address = address * 2 ^ 80

abbrev field_key : ℕ → ℕ
field_key field = 32768 * 2 ^ 80 + field * 2 ^ 64

-- n instructions, each reading a key of its own.
unfoldable pub gets : ℕ → List (List ℕ)
gets zero = []
gets (suc n) = gets n ++ (GET 0 (suc n) 1 ∷ [])

unfoldable pub keys_block : ℕ → List ℕ
keys_block n = flatten (function 32768 0 (gets n) ∷ call 5 32768 0 (pos 0) ∷ end ∷ [])

-- Two calls without a value that store into cells of their own, and a third that reads both and its contract's balance.
unfoldable pub readers : List ℕ
readers =
    flatten
    (function 32768 0 (PUT 0 1 0 ∷ [])
    ∷ function 32768 1 (PUT 0 2 0 ∷ [])
    ∷ function 32768 2 (GET 0 1 0 ∷ GET 0 2 0 ∷ BAL 0 ∷ [])
    ∷ function 32768 3 (PAY 0 7 ∷ PAY 0 32768 ∷ [])
    ∷ call 5 32768 0 (pos 0)
    ∷ call 5 32768 1 (pos 0)
    ∷ call 5 32768 2 (pos 0) ∷ call 5 32768 2 (pos 0) ∷ call 5 32768 3 (pos 0) ∷ call 5 32768 9 (pos 1) ∷ end ∷ [])

pub record Sets-P : Type 0 where
  -- "Rows: 1 waits for 0, 2 for 1, 2 not for 0."
  pub rows_p : rows P ≡ (0 ∷ 0 ∷ 0 ∷ 0 ∷ []) ∷ (1 ∷ 0 ∷ 0 ∷ 0 ∷ []) ∷ (2 ∷ 0 ∷ 0 ∷ 0 ∷ []) ∷ []
  pub sets_p : sets P ≡ [] ∷ (field_key 1 ∷ []) ∷ (balance 5 ∷ balance 32768 ∷ field_key 1 ∷ []) ∷ (balance 5 ∷ balance 32768 ∷ balance 7 ∷ []) ∷ (balance 5 ∷ balance 32768 ∷ []) ∷ (balance 5 ∷ balance 32768 ∷ balance 7 ∷ []) ∷ (balance 5 ∷ balance 7 ∷ balance 32768 ∷ field_key 1 ∷ []) ∷ []
  -- Readers of one cell do not wait for each other; a target that is no account, and an unknown function, add nothing.
  pub rows_readers : rows readers ≡ (0 ∷ 0 ∷ 0 ∷ 0 ∷ []) ∷ (0 ∷ 0 ∷ 0 ∷ 0 ∷ []) ∷ (3 ∷ 0 ∷ 0 ∷ 0 ∷ []) ∷ (3 ∷ 0 ∷ 0 ∷ 0 ∷ []) ∷ (12 ∷ 0 ∷ 0 ∷ 0 ∷ []) ∷ (0 ∷ 0 ∷ 0 ∷ 0 ∷ []) ∷ []
  -- "24 keys accepted, 25 refused 11"
  pub keys_24 : rows (keys_block 24) ≡ (0 ∷ 0 ∷ 0 ∷ 0 ∷ []) ∷ []
  pub keys_25 : rows (keys_block 25) ≡ (11 ∷ 208 ∷ []) ∷ []

pub sets_of_p : Sets-P
unfolding computing P gets keys_block readers analysis first_words rows_of both_sets sets_and_table
sets_of_p = record { rows_p = refl; sets_p = refl; rows_readers = refl; keys_24 = refl; keys_25 = refl }

-- Balances: of the two contracts of the block of payments to account 0, and of account 0, whose key is 0.
abbrev own : ℕ
own = balance 32768

abbrev own' : ℕ
own' = balance 40000

abbrev of0 : ℕ
of0 = balance 0

-- Two contracts pay one account, with the amount 0.
unfoldable pub two_pay : ℕ → List ℕ
two_pay target =
    flatten
    (function 32768 0 (PAY 0 target ∷ [])
    ∷ function 40000 0 (PAY 0 target ∷ []) ∷ call 5 32768 0 (pos 0) ∷ call 5 40000 0 (pos 0) ∷ end ∷ [])

-- M-101. Calls 0 to 4 pay account 0, and use the contract's balance alone, with the PUT of call 1; call 5 pays account 7, and 6 account 8. Calls 6 to 8 are
-- sent by account 0 with a value, which reads and writes its balance.
pub record Sets-account0 : Type 0 where
  -- Two calls that pay account 0 and share nothing else do not wait for one another; any other account they share.
  pub two_0 : map first (rows (two_pay 0)) ≡ 0 ∷ 0 ∷ []
  pub two_1 : map first (rows (two_pay 1)) ≡ 0 ∷ 1 ∷ []
  pub rows_0 : map first (rows account0) ≡ 0 ∷ 0 ∷ 1 ∷ 5 ∷ 13 ∷ 29 ∷ 61 ∷ 66 ∷ 253 ∷ []
  pub sets_0 : take 10 (sets account0) ≡ (own ∷ []) ∷ (own ∷ []) ∷ (own' ∷ []) ∷ ((own' + 2 ^ 64) ∷ own' ∷ []) ∷ (own ∷ []) ∷ (own ∷ []) ∷ (own ∷ []) ∷ (own ∷ []) ∷ (own ∷ []) ∷ (own ∷ []) ∷ []
  pub sets_5 : take 8 (drop 10 (sets account0)) ≡ (own ∷ []) ∷ (own ∷ balance 7 ∷ []) ∷ (of0 ∷ own ∷ []) ∷ (of0 ∷ own ∷ balance 8 ∷ []) ∷ (of0 ∷ own' ∷ []) ∷ (of0 ∷ own' ∷ (own' + 2 ^ 64) ∷ []) ∷ (of0 ∷ own ∷ []) ∷ (of0 ∷ own ∷ []) ∷ []

pub sets_of_account0 : Sets-account0
unfolding computing account0 two_pay analysis first_words rows_of both_sets sets_and_table
sets_of_account0 = record { two_0 = refl; two_1 = refl; rows_0 = refl; sets_0 = refl; sets_5 = refl }
