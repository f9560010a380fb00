-- "Stopped by the input", 1 to 10 by condition, over the bytes of a file and apart from the reader: up to some offset the file is whole records that
-- keep every rule, and what stands there breaks the number's rule and none of those before it in document 01's order. `RefusalsExact` says that
-- the reader refuses by these and by nothing else.
use Rattle.std.specs.Prelude.{◌≡◌, true, List, [], ◌∷◌, ◌++◌, map, ℕ, ◌+◌, ◌*◌, ◌<◌, ◌≤◌, length, drop}
use Rattle.std.specs.Int.Signed.{le_z}
use Rattle.arith.specs.Balance.{total, largest}
use Rattle.wire.specs.Bytes.{number, read_le}
use Rattle.block.specs.Limits.{max_bytes, max_functions, max_code, max_cells, max_calls}
use Rattle.block.specs.Key.{first_contract}
use Rattle.block.specs.Instruction.{instr_bytes}
use Rattle.block.specs.InstructionBytes.{HoldsInstr}
use Rattle.block.specs.Record.{Cell, head_bytes, function_kind, cell_kind, call_kind, end_kind, function_bytes, cell_bytes, call_bytes, recordOf}
use Rattle.block.specs.Reader.{Read, accepted, refused, balances, read_block}
use Rattle.block.specs.Refusal.{number_of, offset_of}
use Rattle.block.specs.Encoding.{Routine, Contents, function_record, cell_record, call_record, records, AreBytes, Ascending, size_of, CellKeeps, CallKeeps, routine_id, FunctionsKeep, CellsKeep, CallsKeep, FunctionFits, CellFits, CallFits}
use Rattle.block.specs.declared.Call.{Call}

-- ---- what stands in front of an offset

-- The records of contents, one behind the other, without an end.
unfoldable pub records_of : Contents → List ℕ
records_of t = records function_record t.functions ++ records cell_record t.cells ++ records call_record t.calls

-- The file begins with whole records that keep every rule, and these bytes stand behind them.
pub record Stands (file : List ℕ) (t : Contents) (rest : List ℕ) : Type 0 where
  pub functions : FunctionsKeep t.functions
  pub cells : CellsKeep t.cells
  pub calls : CallsKeep t.calls
  pub bytes : file ≡ records_of t ++ rest

-- The kind of the last of these records, 0 where there is none: behind records of a kind it is theirs.
abbrev pub behind_kind : {A : Type 0} → (kind before : ℕ) → List A → ℕ
behind_kind kind before [] = before
behind_kind kind before (x ∷ xs) = kind

abbrev pub last_kind : Contents → ℕ
last_kind t = behind_kind call_kind (behind_kind cell_kind (behind_kind function_kind 0 t.functions) t.cells) t.calls

-- ---- what stands there

-- "little-endian records: length (2 bytes, of the body), kind (2), body"
abbrev pub length_in : List ℕ → ℕ
length_in rest = number 2 rest

abbrev pub kind_in : List ℕ → ℕ
kind_in rest = read_le 2 rest 2

-- One record's contents, and its bytes.
pub data Element : Type 0 where
  a_function : Routine → Element
  a_cell : Cell → Element
  a_call : Call → Element
  the_end : Element

abbrev pub element_bytes : Element → List ℕ
element_bytes (a_function f) = function_record f
element_bytes (a_cell c) = cell_record c
element_bytes (a_call c) = call_record c
element_bytes the_end = recordOf end_kind []

abbrev pub ElementFits : Element → Type 0
ElementFits (a_function f) = FunctionFits f
ElementFits (a_cell c) = CellFits c
ElementFits (a_call c) = CallFits c
ElementFits the_end = Unit {0}

-- The bytes begin with this record.
pub record Holds (rest : List ℕ) (e : Element) : Type 0 where
  pub fits : ElementFits e
  pub more : List ℕ
  pub bytes : rest ≡ element_bytes e ++ more

-- ---- the rules of one record

-- 3: "kind not 1 to 4, or falling" is not so.
pub record KindRight (t : Contents) (kind : ℕ) : Type 0 where
  pub known : (function_kind ≤ kind) × (kind ≤ end_kind)
  pub falling : last_kind t ≤ kind

-- 4: "length not the kind's" is not so.
pub record LengthRight (kind len : ℕ) : Type 0 where
  pub function : kind ≡ function_kind → (n : ℕ) × (n ≤ max_code) × (len ≡ function_bytes + instr_bytes * n)
  pub cell : kind ≡ cell_kind → len ≡ cell_bytes
  pub call : kind ≡ call_kind → len ≡ call_bytes
  pub end : kind ≡ end_kind → len ≡ 0

-- 7: "a record beyond its kind's limit" is not so.
pub record Room (t : Contents) (kind : ℕ) : Type 0 where
  pub function : kind ≡ function_kind → length t.functions < max_functions
  pub cell : kind ≡ cell_kind → length t.cells < max_cells
  pub call : kind ≡ call_kind → length t.calls < max_calls

-- 5: no field is outside its range: a function's contract, a cell's key and value, a call's sender, contract, value and fuel.
abbrev pub FieldsRight : Element → Type 0
FieldsRight (a_function f) = first_contract ≤ f.contract.0
FieldsRight (a_cell c) = CellKeeps c
FieldsRight (a_call c) = CallKeeps c
FieldsRight the_end = Unit {0}

-- 10: "code breaks a rule": the first of its instructions that does, and how far behind the record's beginning it stands.
abbrev pub InstructionRight : Routine → ℕ → Type 0
InstructionRight f i = HoldsInstr (size_of f) (drop (instr_bytes * i) f.code)

pub record FirstWrong (f : Routine) (into : ℕ) : Type 0 where
  pub index : ℕ
  pub there : index < size_of f
  pub wrong : InstructionRight f index → ⊥
  pub before : (i : ℕ) → i < index → InstructionRight f i
  pub place : into ≡ head_bytes + function_bytes + instr_bytes * index

abbrev pub CodeWrong : Element → (into : ℕ) → Type 0
CodeWrong (a_function f) into = FirstWrong f into
CodeWrong (a_cell c) into = ⊥
CodeWrong (a_call c) into = ⊥
CodeWrong the_end into = ⊥

-- 6: "strictly rising", with the records before it.
abbrev pub RisesWith : Contents → Element → Type 0
RisesWith t (a_function f) = Ascending (map routine_id (t.functions ++ (f ∷ [])))
RisesWith t (a_cell c) = Ascending (map (λ d. d.key) (t.cells ++ (c ∷ [])))
RisesWith t (a_call c) = Unit {0}
RisesWith t the_end = Unit {0}

-- 9: the opening balances, this one's with those before it, have a sum of at most 2^63 - 1.
abbrev pub SumWithin : Contents → Element → Type 0
SumWithin t (a_function f) = Unit {0}
SumWithin t (a_cell c) = le_z (total (balances (t.cells ++ (c ∷ [])))) largest ≡ true
SumWithin t (a_call c) = Unit {0}
SumWithin t the_end = Unit {0}

-- ---- the numbers, in their order

-- "by record 2 (head), 3, 4, 2 (body), 7, 5, 10, 6, 9; after the end 8"
pub data Fault : Type 0 where
  head_cut : Fault
  kind_wrong : Fault
  length_wrong : Fault
  body_cut : Fault
  limit_passed : Fault
  field_wrong : Fault
  code_wrong : Fault
  not_rising : Fault
  sum_passed : Fault
  bytes_behind : Fault

unfoldable pub fault_number : Fault → ℕ
fault_number head_cut = 2
fault_number kind_wrong = 3
fault_number length_wrong = 4
fault_number body_cut = 2
fault_number limit_passed = 7
fault_number field_wrong = 5
fault_number code_wrong = 10
fault_number not_rising = 6
fault_number sum_passed = 9
fault_number bytes_behind = 8

-- Which comes first.
unfoldable pub fault_place : Fault → ℕ
fault_place head_cut = 0
fault_place kind_wrong = 1
fault_place length_wrong = 2
fault_place body_cut = 3
fault_place limit_passed = 4
fault_place field_wrong = 5
fault_place code_wrong = 6
fault_place not_rising = 7
fault_place sum_passed = 8
fault_place bytes_behind = 9

-- What stands behind these contents has the fault, at so many bytes behind its beginning: "record offset", but for 10 "at the instruction's offset",
-- and for 8 "the first extra byte".
unfoldable pub HasFault : Contents → (rest : List ℕ) → Fault → (into : ℕ) → Type 0
HasFault t rest head_cut into = (into ≡ 0) × (length rest < head_bytes)
HasFault t rest kind_wrong into = (into ≡ 0) × (KindRight t (kind_in rest) → ⊥)
HasFault t rest length_wrong into = (into ≡ 0) × (LengthRight (kind_in rest) (length_in rest) → ⊥)
HasFault t rest body_cut into = (into ≡ 0) × (length rest < head_bytes + length_in rest)
HasFault t rest limit_passed into = (into ≡ 0) × (Room t (kind_in rest) → ⊥)
HasFault t rest field_wrong into = (into ≡ 0) × ((e : Element) × Holds rest e × (FieldsRight e → ⊥))
HasFault t rest code_wrong into = (e : Element) × Holds rest e × CodeWrong e into
HasFault t rest not_rising into = (into ≡ 0) × ((e : Element) × Holds rest e × (RisesWith t e → ⊥))
HasFault t rest sum_passed into = (into ≡ 0) × ((e : Element) × Holds rest e × (SumWithin t e → ⊥))
HasFault t rest bytes_behind into = (into ≡ head_bytes) × ((h : Holds rest the_end) × (0 < length h.more))

-- None of the faults before a place.
abbrev pub NoneBefore : Contents → (rest : List ℕ) → (place : ℕ) → Type 0
NoneBefore t rest place = (f : Fault) → fault_place f < place → (into : ℕ) → HasFault t rest f into → ⊥

-- A file of at most 65,536 bytes has the fault of this number at this offset, and none before it.
pub record Faulty (file : List ℕ) (n offset : ℕ) : Type 0 where
  pub short : length file ≤ max_bytes
  pub before : Contents
  pub rest : List ℕ
  pub stands : Stands file before rest
  pub fault : Fault
  pub into : ℕ
  pub has : HasFault before rest fault into
  pub none : NoneBefore before rest (fault_place fault)
  pub number : n ≡ fault_number fault
  pub place : offset ≡ length (records_of before) + into

-- ---- the statement

-- A file is refused by a number with an offset.
abbrev pub RefusedBy : Read → (n offset : ℕ) → Type 0
RefusedBy (accepted b) n offset = ⊥
RefusedBy (refused why) n offset = (number_of why ≡ n) × (offset_of why ≡ offset)

-- A file of bytes is refused by a number from 2 to 10 at an offset exactly if it has that fault there, and by 1 exactly if it is too long; so no file
-- has two of them, and one that is accepted has none.
pub record RefusalsExact : Type 0 where
  pub tooLong : (file : List ℕ) → AreBytes file → (offset : ℕ) → RefusedBy (read_block file) 1 offset → (max_bytes < length file) × (offset ≡ 0)
  pub long_refused : (file : List ℕ) → max_bytes < length file → RefusedBy (read_block file) 1 0
  pub only_faulty : (file : List ℕ) → AreBytes file → (n offset : ℕ) → 2 ≤ n → RefusedBy (read_block file) n offset → Faulty file n offset
  pub faulty_refused : (file : List ℕ) → AreBytes file → (n offset : ℕ) → Faulty file n offset → RefusedBy (read_block file) n offset
  pub one : (file : List ℕ) → AreBytes file → (n n' offset offset' : ℕ) → Faulty file n offset → Faulty file n' offset' → (n ≡ n') × (offset ≡ offset')
