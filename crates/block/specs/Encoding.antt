-- "Block file": a block by itself, with the code of its functions, and the bytes of the file that holds it; and what document 01 asks of a
-- block: ranges, orders and limits. Nothing here reads a file.
use Rattle.std.specs.Prelude.{◌≡◌, true, List, [], ◌∷◌, ◌++◌, map, ℕ, ◌+◌, ◌*◌, ◌/◌, ◌^◌, ◌<◌, ◌≤◌, pos, length, get_or, drop}
use Rattle.std.specs.Int.Signed.{mag, le_z, lt_z, non_neg}
use Rattle.arith.specs.Balance.{total, largest}
use Rattle.arith.specs.Exact.{unsigned}
use Rattle.wire.specs.Bytes.{bytes_of}
use Rattle.wire.specs.All.{All}
use Rattle.block.specs.Limits.{max_bytes, max_functions, max_code, max_cells, max_calls, max_fuel}
use Rattle.block.specs.Key.{first_contract, address_of, address_in, field_in, a_in, b_in, is_balance, key_allowed}
use Rattle.block.specs.Instruction.{instr_bytes}
use Rattle.block.specs.InstructionBytes.{HoldsInstr}
use Rattle.block.specs.Record.{Function, Cell, Block, head_bytes, function_kind, cell_kind, call_kind, end_kind, id_of, recordOf}
use Rattle.block.specs.Reader.{balances, accepted, read_block}
use Rattle.block.specs.declared.address.Contract.{Contract}
use Rattle.block.specs.declared.Call.{Call}

-- "1, function: contract 2, function number 2, then 0 to 64 instructions of 8 bytes", with the bytes of its instructions.
pub record Routine : Type 0 where
  pub contract : Contract
  pub number : ℕ
  pub code : List ℕ

-- What a desk sends: functions, opening cells and calls, each in its order.
pub record Contents : Type 0 where
  pub functions : List Routine
  pub cells : List Cell
  pub calls : List Call

-- ---- its bytes

abbrev pub function_record : Routine → List ℕ
function_record f = recordOf function_kind (bytes_of 2 f.contract.0 ++ bytes_of 2 f.number ++ f.code)

-- "2, opening cell: key 12, value 8 (two's complement)", the key being "address (16 bits), field (16), a (32), b (32)".
abbrev pub cell_record : Cell → List ℕ
cell_record c =
    recordOf cell_kind
    (bytes_of 2 (address_in c.key)
    ++ bytes_of 2 (field_in c.key) ++ bytes_of 4 (a_in c.key) ++ bytes_of 4 (b_in c.key) ++ bytes_of 8 (unsigned 64 c.value))

-- "3, call: sender account 2, contract 2, function 2, value 8 (signed, 0 or more), four arguments of 4 (unsigned)."; M-104: "fuel, 2 bytes after the
-- arguments".
abbrev pub call_record : Call → List ℕ
call_record c =
    recordOf call_kind
    (bytes_of 2 c.sender.0
    ++ bytes_of 2 c.contract.0
    ++ bytes_of 2 c.function
    ++ bytes_of 8 (unsigned 64 c.value) ++ bytes_of 4 c.arg1 ++ bytes_of 4 c.arg2 ++ bytes_of 4 c.arg3 ++ bytes_of 4 c.arg4 ++ bytes_of 2 c.fuel)

-- One record for each element of a list, one behind the other.
unfoldable pub records : {A : Type 0} → (A → List ℕ) → List A → List ℕ
records of [] = []
records of (x ∷ xs) = of x ++ records of xs

-- "Kinds never fall", "4, end: empty, nothing after".
unfoldable pub file_of : Contents → List ℕ
file_of t =
    records function_record t.functions ++ records cell_record t.cells ++ records call_record t.calls ++ recordOf end_kind []

-- ---- what is asked of it

-- The numbers of a file are bytes.
abbrev pub AreBytes : List ℕ → Type 0
AreBytes s = (i : ℕ) → get_or s i 0 < 256

-- "strictly rising"
unfoldable pub Ascending : List ℕ → Type 0
Ascending [] = Unit {0}
Ascending (m ∷ []) = Unit {0}
Ascending (m ∷ n ∷ ns) = (m < n) × Ascending (n ∷ ns)

-- The number of a function's instructions.
abbrev pub size_of : Routine → ℕ
size_of f = length f.code / instr_bytes

-- A function is a contract's, and its code keeps the rules of instructions.
pub record FunctionKeeps (f : Routine) : Type 0 where
  pub contract : (first_contract ≤ f.contract.0) × (f.contract.0 < 2 ^ 16)
  pub number : f.number < 2 ^ 16
  pub bytes : AreBytes f.code
  -- "0 to 64 instructions of 8 bytes", each the bytes of an instruction whose parts are in range.
  pub whole : length f.code ≡ instr_bytes * size_of f
  pub few : size_of f ≤ max_code
  pub valid : (i : ℕ) → i < size_of f → HoldsInstr (size_of f) (drop (instr_bytes * i) f.code)

-- "Field 0 has only a = b = 0 and is the balance; an account has no other key"; the value is "not zero, a balance above zero".
pub record CellKeeps (c : Cell) : Type 0 where
  pub key : c.key < 2 ^ 96
  pub allowed : key_allowed (address_of (address_in c.key)) (field_in c.key) (a_in c.key) (b_in c.key) ≡ true
  pub value : mag c.value < 2 ^ 63
  pub some : c.value ≡ pos 0 → ⊥
  pub above : is_balance c.key ≡ true → lt_z (pos 0) c.value ≡ true

-- "sender account", "contract", "value 8 (signed, 0 or more)"; M-104: fuel "1 to 65,535".
pub record CallKeeps (c : Call) : Type 0 where
  pub sender : c.sender.0 < first_contract
  pub contract : (first_contract ≤ c.contract.0) × (c.contract.0 < 2 ^ 16)
  pub function : c.function < 2 ^ 16
  pub value : (non_neg c.value ≡ true) × (mag c.value < 2 ^ 63)
  pub arguments : (c.arg1 < 2 ^ 32) × (c.arg2 < 2 ^ 32) × (c.arg3 < 2 ^ 32) × (c.arg4 < 2 ^ 32)
  pub fuel : (0 < c.fuel) × (c.fuel ≤ max_fuel)

-- "strictly rising by (contract, function)": the two as one number.
abbrev pub routine_id : Routine → ℕ
routine_id f = id_of f.contract f.number

-- "At most 64 records, strictly rising"; "At most 1,024, keys strictly rising", balances of at most 2^63 - 1 together; "At most 256".
pub record FunctionsKeep (fs : List Routine) : Type 0 where
  pub each : All FunctionKeeps fs
  pub rising : Ascending (map routine_id fs)
  pub few : length fs ≤ max_functions

pub record CellsKeep (cs : List Cell) : Type 0 where
  pub each : All CellKeeps cs
  pub rising : Ascending (map (λ c. c.key) cs)
  pub few : length cs ≤ max_cells
  pub sum : le_z (total (balances cs)) largest ≡ true

pub record CallsKeep (cs : List Call) : Type 0 where
  pub each : All CallKeeps cs
  pub few : length cs ≤ max_calls

-- "At most 65,536 bytes", and each kind's own.
pub record KeepsRules (t : Contents) : Type 0 where
  pub functions : FunctionsKeep t.functions
  pub cells : CellsKeep t.cells
  pub calls : CallsKeep t.calls
  pub size : length (file_of t) ≤ max_bytes

-- ---- what has bytes

-- Contents whose numbers fit the fields that hold them: those that have a file, whether or not it is accepted.
abbrev pub FunctionFits : Routine → Type 0
FunctionFits f = (f.contract.0 < 2 ^ 16) × (f.number < 2 ^ 16)

abbrev pub CellFits : Cell → Type 0
CellFits c = (c.key < 2 ^ 96) × (mag c.value < 2 ^ 63)

pub record CallFits (c : Call) : Type 0 where
  pub addresses : (c.sender.0 < 2 ^ 16) × (c.contract.0 < 2 ^ 16) × (c.function < 2 ^ 16)
  pub value : mag c.value < 2 ^ 63
  pub arguments : (c.arg1 < 2 ^ 32) × (c.arg2 < 2 ^ 32) × (c.arg3 < 2 ^ 32) × (c.arg4 < 2 ^ 32)
  pub fuel : c.fuel < 2 ^ 16

pub record Fits (t : Contents) : Type 0 where
  pub functions : All FunctionFits t.functions
  pub cells : All CellFits t.cells
  pub calls : All CallFits t.calls

-- ---- as the reader holds it

-- "The code of a function is that stretch of the block itself": functions whose records begin at an offset.
unfoldable pub placed : ℕ → List Routine → List Function
placed at [] = []
placed at (f ∷ fs) =
    record { contract = f.contract; number = f.number; start = at + head_bytes + 4; size = size_of f }
    ∷ placed (at + length (function_record f)) fs

unfoldable pub block_for : Contents → Block
block_for t =
    let opening : ℕ = length (records function_record t.functions) in
    record {
      functions = placed 0 t.functions;
      cells = t.cells;
      calls = t.calls;
      opening = opening;
      first_call = opening + length (records cell_record t.cells);
    }

-- The file is the bytes of these contents, which keep document 01's ranges, orders and limits.
pub record HoldsContents (file : List ℕ) (t : Contents) : Type 0 where
  pub keeps : KeepsRules t
  pub bytes : file ≡ file_of t

-- A file is read as a block exactly if it is that block's bytes and the block keeps the rules: whatever keeps them is accepted, nothing
-- else is, and a file holds one block, as a block has one file. The last is asked of all contents that have a file, accepted or not.
pub record ReaderExact : Type 0 where
  pub whole : (t : Contents) → KeepsRules t → read_block (file_of t) ≡ accepted (block_for t)
  pub only : (file : List ℕ) → AreBytes file → (b : Block) → read_block file ≡ accepted b
      → (t : Contents) × HoldsContents file t × (b ≡ block_for t)
  pub one : (t t' : Contents) → Fits t → Fits t' → length (file_of t) ≤ max_bytes → file_of t ≡ file_of t' → t ≡ t'
