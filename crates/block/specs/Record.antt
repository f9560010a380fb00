-- "Block file": what the bodies of its records hold, and the block they make.
use Rattle.std.specs.Prelude.{Bool, ◌&&◌, not, List, ◌++◌, ℕ, ◌+◌, ◌-◌, ◌*◌, ◌%◌, ℤ, pos, eqb, leb, ltb, length, take, drop, None, Option, Some}
use Rattle.std.specs.Int.Signed.{lt_z, non_neg}
use Rattle.std.specs.Prelude.{if◌then◌else◌}
use Rattle.arith.specs.Exact.{signed}
use Rattle.wire.specs.Bytes.{number, read_le, bytes_of}
use Rattle.block.specs.Limits.{max_code}
use Rattle.block.specs.Key.{first_contract, address_of, key_of, key_allowed}
use Rattle.block.specs.Instruction.{instr_bytes}
use Rattle.block.specs.declared.address.Contract.{Contract}
use Rattle.block.specs.declared.Call.{Call}

-- "little-endian records: length (2 bytes, of the body), kind (2), body"
abbrev pub head_bytes : ℕ
head_bytes = 4

abbrev pub recordOf : (kind : ℕ) → List ℕ → List ℕ
recordOf kind body = bytes_of 2 (length body) ++ bytes_of 2 kind ++ body

-- The kinds: "1, function", "2, opening cell", "3, call", "4, end"; kind 5 is a receipt of the closing sheet.
abbrev pub function_kind : ℕ
function_kind = 1

abbrev pub cell_kind : ℕ
cell_kind = 2

abbrev pub call_kind : ℕ
call_kind = 3

abbrev pub end_kind : ℕ
end_kind = 4

abbrev pub receipt_kind : ℕ
receipt_kind = 5

-- The length of what stands before a function's code, and of the longest function's body.
abbrev pub function_bytes : ℕ
function_bytes = 4

abbrev pub longest_function : ℕ
longest_function = function_bytes + instr_bytes * max_code

-- The length of an opening cell's body.
abbrev pub cell_bytes : ℕ
cell_bytes = 20

-- "3, call: sender account 2, contract 2, function 2, value 8 (signed, 0 or more), four arguments of 4 (unsigned)."; M-104: "A call record gains
-- fuel, 2 bytes after the arguments, .. so its body has 32 bytes".
abbrev pub call_bytes : ℕ
call_bytes = 32

-- The length of a call's record, its head included.
abbrev pub call_record_bytes : ℕ
call_record_bytes = head_bytes + call_bytes

-- The length of a receipt's body: "outcome 2, count 2".
abbrev pub receipt_bytes : ℕ
receipt_bytes = 4

-- "1, function: contract 2, function number 2, then 0 to 64 instructions of 8 bytes." Its code is the stretch of the block
-- of `size` instructions at `start`.
pub record Function : Type 0 where
  pub contract : Contract
  pub number : ℕ
  pub start : ℕ
  pub size : ℕ

-- "2, opening cell: key 12, value 8 (two's complement)"
pub record Cell : Type 0 where
  pub key : ℕ
  pub value : ℤ

-- What an accepted file holds, in its order, with the offsets at which its opening cells and its calls begin, or would.
pub record Block : Type 0 where
  pub functions : List Function
  pub cells : List Cell
  pub calls : List Call
  pub opening : ℕ
  pub first_call : ℕ

-- "strictly rising by (contract, function)": the two as one number.
abbrev pub id_base : ℕ
id_base = 65536

abbrev pub id_of : Contract → ℕ → ℕ
id_of contract function = contract.0 * id_base + function

-- The number of a function, and of the one that a call names.
abbrev pub function_id : Function → ℕ
function_id f = id_of f.contract f.number

abbrev pub call_id : Call → ℕ
call_id c = id_of c.contract c.function

-- "4 length not the kind's"
unfoldable pub length_allowed : ℕ → ℕ → Bool
length_allowed kind len =
    if eqb kind function_kind
    then leb function_bytes len && leb len longest_function && eqb ((len - function_bytes) % instr_bytes) 0
    else if eqb kind cell_kind
    then eqb len cell_bytes
    else if eqb kind call_kind
    then eqb len call_bytes
    else eqb len 0

-- The key and value of an opening cell's body, which starts at the front of the bytes.
abbrev pub cell_of : List ℕ → Cell
cell_of s = record { key = key_of (number 2 s) (read_le 2 s 2) (read_le 4 s 4) (read_le 4 s 8); value = signed 64 (read_le 8 s 12) }

-- 5 for an opening cell: its key is one, and its value is "not zero, a balance above zero".
unfoldable pub cell_allowed : List ℕ → Bool
cell_allowed s =
    key_allowed (address_of (number 2 s)) (read_le 2 s 2) (read_le 4 s 4) (read_le 4 s 8)
    && (if eqb (read_le 2 s 2) 0 then lt_z (pos 0) (signed 64 (read_le 8 s 12)) else not (eqb (read_le 8 s 12) 0))

-- A call's body at the front of the bytes, all of it there, with 5 for it: "sender account", "contract", "value 8 (signed, 0 or more)". Its fuel is
-- not asked here: the reader asks it, and a step behind the entry does.
unfoldable pub call_of : List ℕ → Option Call
call_of s =
    if leb call_bytes (length s) && ltb (number 2 s) first_contract && leb first_contract (read_le 2 s 2) && non_neg (signed 64 (read_le 8 s 6))
    then
    Some
    (record {
      sender = record { 0 = number 2 s };
      contract = record { 0 = read_le 2 s 2 };
      function = read_le 2 s 4;
      value = signed 64 (read_le 8 s 6);
      arg1 = read_le 4 s 14;
      arg2 = read_le 4 s 18;
      arg3 = read_le 4 s 22;
      arg4 = read_le 4 s 26;
      fuel = read_le 2 s 30;
    })
    else None

-- Argument 1 to 4 of a call.
unfoldable pub argument : Call → ℕ → ℕ
argument c k = if eqb k 1 then c.arg1 else if eqb k 2 then c.arg2 else if eqb k 3 then c.arg3 else c.arg4

-- "The code of a function is that stretch of the block itself."
abbrev pub code_at : List ℕ → ℕ → ℕ → List ℕ
code_at block start size = take (instr_bytes * size) (drop start block)
