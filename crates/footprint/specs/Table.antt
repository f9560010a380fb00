-- The table of all keys in opening and sets together, rising; a cell's number is its key's place in it.
use Rattle.std.specs.Prelude.{true, false, List, [], ◌∷◌, ◌++◌, ℕ, suc, ◌+◌, eqb, ltb, length}
use Rattle.std.specs.Prelude.{if◌then◌else◌}
use Rattle.block.specs.Limits.{max_call_keys, max_keys}
use Rattle.block.specs.Record.{Function, call_record_bytes}
use Rattle.block.specs.declared.Call.{Call}
use Rattle.block.specs.declared.Refusal.{Refusal}
use Rattle.block.specs.declared.Refusal.TheVariants.{CallKeys, AllKeys}
use Rattle.footprint.specs.Access.{Access}
use Rattle.footprint.specs.Sets.{sets_of}

-- A rising list with one more key, or unchanged where the key is in it.
unfoldable pub insert_key : List ℕ → ℕ → List ℕ
insert_key [] k = k ∷ []
insert_key (l ∷ ls) k = if ltb k l then k ∷ l ∷ ls else if eqb k l then l ∷ ls else l ∷ insert_key ls k

unfoldable pub insert_keys : List ℕ → List Access → List ℕ
insert_keys table [] = table
insert_keys table (e ∷ es) = insert_keys (insert_key table e.key) es

-- The place of a key in the table.
unfoldable pub cell_number : List ℕ → ℕ → ℕ
cell_number [] k = 0
cell_number (l ∷ ls) k = if eqb k l then 0 else suc (cell_number ls k)

-- The sets of all calls, in block order, and the table; or 11 or 12.
pub data Analysis : Type 0 where
  analysed : (sets : List (List Access)) (table : List ℕ) → Analysis
  refused : Refusal → Analysis

-- "then by call 11, 12": the calls from offset `at` on, behind those whose sets and table are given.
unfoldable pub analyse : List ℕ → List Function → List Call → ℕ → List (List Access) → List ℕ → Analysis
analyse block functions [] at sets table = analysed sets table
analyse block functions (c ∷ cs) at sets table =
    let es : List Access = sets_of block functions c in
    let keys : List ℕ = insert_keys table es in
    elim (ltb max_call_keys (length es)) [
      | true ↦ refused (CallKeys at)
      | false ↦ elim (ltb max_keys (length keys)) [
        | true ↦ refused (AllKeys at)
        | false ↦ analyse block functions cs (at + call_record_bytes) (sets ++ (es ∷ [])) keys
      ]
    ]
