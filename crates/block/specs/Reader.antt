-- The reader: a file's bytes to the block it holds, or the first refusal of 1 to 10. The rest of the file is carried along with
-- its position.
use Rattle.block.specs.declared.Call.{Call}
use Rattle.std.specs.Prelude.{Bool, true, ◌||◌, not, List, [], ◌∷◌, ◌++◌, map, ℕ, zero, suc, ◌+◌, ◌-◌, ◌*◌, ◌/◌, ℤ, eqb, leb, ltb, length, drop, None, Option, Some}
use Rattle.std.specs.Int.Signed.{le_z}
use Rattle.std.specs.Prelude.{if◌then◌else◌}
use Rattle.arith.specs.Balance.{total, largest}
use Rattle.wire.specs.Bytes.{number, read_le}
use Rattle.block.specs.Limits.{max_bytes, max_functions, max_cells, max_calls}
use Rattle.block.specs.Key.{first_contract, is_balance}
use Rattle.block.specs.Instruction.{instr_bytes, first_invalid}
use Rattle.block.specs.Record.{Function, Cell, Block, function_id, head_bytes, function_kind, cell_kind, call_kind, end_kind, length_allowed, cell_of, cell_allowed, call_of, function_bytes}
use Rattle.block.specs.declared.Refusal.{Refusal}
use Rattle.block.specs.declared.Refusal.TheVariants.{InputTooLong, Missing, Kind, Length, Field, NotRising, BeyondLimit, Behind, Balances, Code}

-- What a file is: a block, or refused.
pub data Read : Type 0 where
  accepted : Block → Read
  refused : Refusal → Read

-- Where the reader stands: before a record, behind one of the given kind; or at its answer.
pub data Reading : Type 0 where
  due : (kind at : ℕ) (rest : List ℕ) → Block → Reading
  ended : Read → Reading

abbrev pub refuse : Refusal → Reading
refuse why = ended (refused why)

abbrev pub empty_block : Block
empty_block = record { functions = []; cells = []; calls = []; opening = 0; first_call = 0 }

-- "strictly rising": whether a number is above the last of the numbers before it.
unfoldable pub rises : List ℕ → ℕ → Bool
rises [] n = true
rises (m ∷ []) n = ltb m n
rises (m ∷ l ∷ ms) n = rises (l ∷ ms) n

-- The balances among cells.
unfoldable pub balances : List Cell → List ℤ
balances [] = []
balances (c ∷ cs) = if is_balance c.key then c.value ∷ balances cs else balances cs

-- A function's body of length len: 7, 5, 10, 6. "At most 64 records, strictly rising by (contract, function)."
unfoldable pub read_function : ℕ → ℕ → List ℕ → Block → Reading
read_function at len body b =
    let f : Function = record {
      contract = record { 0 = number 2 body };
      number = read_le 2 body 2;
      start = at + head_bytes + function_bytes;
      size = (len - function_bytes) / instr_bytes;
    } in
    let i : ℕ = first_invalid f.size 0 f.size (drop function_bytes body) in
    if leb max_functions (length b.functions)
    then refuse (BeyondLimit at)
    else if ltb (number 2 body) first_contract
    then refuse (Field at)
    else if ltb i f.size
    then refuse (Code (f.start + instr_bytes * i))
    else if not (rises (map function_id b.functions) (function_id f))
    then refuse (NotRising at)
    else
    due function_kind (at + head_bytes + len) (drop len body)
    (record {
      functions = b.functions ++ (f ∷ []);
      cells = b.cells;
      calls = b.calls;
      opening = at + head_bytes + len;
      first_call = at + head_bytes + len;
    })

-- An opening cell's body: 7, 5, 6, 9. "At most 1,024, keys strictly rising."
unfoldable pub read_cell : ℕ → ℕ → List ℕ → Block → Reading
read_cell at len body b =
    let cells : List Cell = b.cells ++ (cell_of body ∷ []) in
    if leb max_cells (length b.cells)
    then refuse (BeyondLimit at)
    else if not (cell_allowed body)
    then refuse (Field at)
    else if not (rises (map (λ c. c.key) b.cells) (cell_of body).key)
    then refuse (NotRising at)
    else if not (le_z (total (balances cells)) largest)
    then refuse (Balances at)
    else
    due cell_kind (at + head_bytes + len) (drop len body)
    (record { functions = b.functions; cells = cells; calls = b.calls; opening = b.opening; first_call = at + head_bytes + len })

-- A call's body: 7, 5. "in block order, numbered from 0"; M-104: fuel "zero is refusal 5".
unfoldable pub withCall : ℕ → ℕ → List ℕ → Block → Option Call → Reading
withCall at len body b None = refuse (Field at)
withCall at len body b (Some c) =
    if eqb c.fuel 0
    then refuse (Field at)
    else
    due call_kind (at + head_bytes + len) (drop len body)
    (record { functions = b.functions; cells = b.cells; calls = b.calls ++ (c ∷ []); opening = b.opening; first_call = b.first_call })

unfoldable pub read_call : ℕ → ℕ → List ℕ → Block → Reading
read_call at len body b = if leb max_calls (length b.calls) then refuse (BeyondLimit at) else withCall at len body b (call_of body)

-- "4, end: empty, nothing after": 8.
unfoldable pub read_end : ℕ → ℕ → Block → Reading
read_end size at b = if ltb (at + head_bytes) size then refuse (Behind (at + head_bytes)) else ended (accepted b)

unfoldable pub read_body : ℕ → ℕ → ℕ → ℕ → List ℕ → Block → Reading
read_body size kind at len body b =
    if eqb kind function_kind
    then read_function at len body b
    else if eqb kind cell_kind
    then read_cell at len body b
    else if eqb kind call_kind
    then read_call at len body b
    else read_end size at b

-- One record of a file of `size` bytes. "by record 2 (head), 3, 4, 2 (body), 7, 5, 10, 6, 9"; "Kinds never fall."
unfoldable pub read_record : ℕ → ℕ → ℕ → List ℕ → Block → Reading
read_record size before at rest b =
    let len : ℕ = number 2 rest in
    let kind : ℕ = read_le 2 rest 2 in
    if ltb (size - at) head_bytes
    then refuse (Missing at)
    else if ltb kind function_kind || ltb end_kind kind || ltb kind before
    then refuse (Kind at)
    else if not (length_allowed kind len)
    then refuse (Length at)
    else if ltb (size - (at + head_bytes)) len
    then refuse (Missing at)
    else read_body size kind at len (drop head_bytes rest) b

-- Records one after another; each takes four bytes at least, so there are fewer turns than bytes.
unfoldable pub read_from : ℕ → ℕ → Reading → Read
read_from zero size (due kind at rest b) = refused (Missing at)
read_from zero size (ended r) = r
read_from (suc turns) size (due kind at rest b) = read_from turns size (read_record size kind at rest b)
read_from (suc turns) size (ended r) = r

-- The block in a file, or 1 to 10 in document 01's order.
unfoldable pub read_block : List ℕ → Read
read_block file =
    if ltb max_bytes (length file)
    then refused InputTooLong
    else read_from (length file + 1) (length file) (due 0 0 file empty_block)
