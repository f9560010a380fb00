-- "Instructions": an instruction by itself, what document 01 asks of its parts, and its eight bytes. Nothing here reads bytes.
use Rattle.std.specs.Prelude.{◌≡◌, List, ◌∷◌, ℕ, ◌+◌, ◌*◌, ◌^◌, ◌<◌, ◌≤◌, take}
use Rattle.std.specs.Int.Signed.{mag}
use Rattle.arith.specs.Exact.{unsigned}
use Rattle.wire.specs.Bytes.{bytes_of}
use Rattle.block.specs.Instruction.{instr_bytes}
use Rattle.block.specs.declared.Source.{Source}
use Rattle.block.specs.declared.Source.TheVariants as source
use Rattle.block.specs.declared.Instr.{Instr}
use Rattle.block.specs.declared.Instr.TheVariants.{Stop, Throw, Set, Arg, Sender, Value, Add, Sub, Mul, Div, Get, Put, Bal, Pay, Jeq, Jlt}

-- "Bytes: op, x, y, z, then w (32 bits)."
abbrev pub instr : (op x y z w : ℕ) → List ℕ
instr op x y z w = op ∷ x ∷ y ∷ z ∷ bytes_of 4 w

-- "Sources: 0 is zero, 1 to 4 an argument, 5 the sender, 6 the constant w div 65536"
abbrev pub source_number : Source → ℕ
source_number source.Zero = 0
source_number (source.Argument k) = k
source_number source.Sender = 5
source_number (source.Constant n) = 6

-- The constant w div 65536 is that of a source which is 6, or else another one's, and in the end "zero if no source is 6".
abbrev pub constant_or : Source → ℕ → ℕ
constant_or source.Zero other = other
constant_or (source.Argument k) other = other
constant_or source.Sender other = other
constant_or (source.Constant n) other = n

-- GET and PUT have one constant for both of their sources.
abbrev pub cell_constant : (a b : Source) → ℕ
cell_constant a b = constant_or a (constant_or b 0)

abbrev pub pay_constant : (target : Source) → ℕ
pay_constant target = constant_or target 0

-- ---- its bytes

-- "field w mod 65536", "the constant w div 65536"
abbrev pub cell_bits : (field : ℕ) (a b : Source) → ℕ
cell_bits field a b = field + 65536 * cell_constant a b

-- "0 STOP; 1 THROW; 2 SET x to w read as signed; 3 ARG x from argument y (1 to 4); 4 SENDER x; 5 VALUE x; 6 ADD, 7 SUB, 8 MUL, 9 DIV: x from y and z;
-- 10 GET x; 11 PUT x; 12 BAL x, the contract's own balance; 13 PAY amount x to the account that source y names; 14 JEQ, 15 JLT: to instruction w if x = y,
-- or x < y." GET and PUT have "field w mod 65536 .., a from source y, b from source z", and "PAY's w mod 65536 is zero". "Unused parts are zero."
abbrev pub instruction_bytes : Instr → List ℕ
instruction_bytes Stop = instr 0 0 0 0 0
instruction_bytes Throw = instr 1 0 0 0 0
instruction_bytes (Set x value) = instr 2 x 0 0 (unsigned 32 value)
instruction_bytes (Arg x k) = instr 3 x k 0 0
instruction_bytes (Sender x) = instr 4 x 0 0 0
instruction_bytes (Value x) = instr 5 x 0 0 0
instruction_bytes (Add x y z) = instr 6 x y z 0
instruction_bytes (Sub x y z) = instr 7 x y z 0
instruction_bytes (Mul x y z) = instr 8 x y z 0
instruction_bytes (Div x y z) = instr 9 x y z 0
instruction_bytes (Get x field a b) = instr 10 x (source_number a) (source_number b) (cell_bits field a b)
instruction_bytes (Put x field a b) = instr 11 x (source_number a) (source_number b) (cell_bits field a b)
instruction_bytes (Bal x) = instr 12 x 0 0 0
instruction_bytes (Pay x target) = instr 13 x (source_number target) 0 (65536 * pay_constant target)
instruction_bytes (Jeq x y to) = instr 14 x y 0 to
instruction_bytes (Jlt x y to) = instr 15 x y 0 to

-- ---- what is asked of its parts

-- "x, y, z name registers 0 to 7"
abbrev pub Register : ℕ → Type 0
Register n = n ≤ 7

-- "1 to 4 an argument"
abbrev pub Argument : ℕ → Type 0
Argument k = (1 ≤ k) × (k ≤ 4)

-- A source of an instruction with this constant.
abbrev pub SourceKeeps : (constant : ℕ) → Source → Type 0
SourceKeeps constant source.Zero = Unit {0}
SourceKeeps constant (source.Argument k) = Argument k
SourceKeeps constant source.Sender = Unit {0}
SourceKeeps constant (source.Constant n) = n ≡ constant

-- "10 GET x; 11 PUT x", "field w mod 65536 (not 0), a from source y, b from source z"
pub record CellPartsKeep (x field : ℕ) (a b : Source) : Type 0 where
  pub register : Register x
  pub named : (0 < field) × (field < 65536)
  pub constant : cell_constant a b < 65536
  pub first : SourceKeeps (cell_constant a b) a
  pub second : SourceKeeps (cell_constant a b) b

-- "13 PAY amount x to the account that source y names"
pub record PayPartsKeep (x : ℕ) (target : Source) : Type 0 where
  pub register : Register x
  pub constant : pay_constant target < 65536
  pub source : SourceKeeps (pay_constant target) target

-- An instruction of a code of `size` instructions. "w read as signed": 32 bits. M-104: "Jumps may go to any index from 0 to the code's length."
abbrev pub InstrKeeps : (size : ℕ) → Instr → Type 0
InstrKeeps size Stop = Unit {0}
InstrKeeps size Throw = Unit {0}
InstrKeeps size (Set x value) = Register x × (mag value < 2 ^ 31)
InstrKeeps size (Arg x k) = Register x × Argument k
InstrKeeps size (Sender x) = Register x
InstrKeeps size (Value x) = Register x
InstrKeeps size (Add x y z) = Register x × Register y × Register z
InstrKeeps size (Sub x y z) = Register x × Register y × Register z
InstrKeeps size (Mul x y z) = Register x × Register y × Register z
InstrKeeps size (Div x y z) = Register x × Register y × Register z
InstrKeeps size (Get x field a b) = CellPartsKeep x field a b
InstrKeeps size (Put x field a b) = CellPartsKeep x field a b
InstrKeeps size (Bal x) = Register x
InstrKeeps size (Pay x target) = PayPartsKeep x target
InstrKeeps size (Jeq x y to) = Register x × Register y × (to ≤ size)
InstrKeeps size (Jlt x y to) = Register x × Register y × (to ≤ size)

-- The bytes begin with those of an instruction whose parts are in range.
pub record HoldsInstr (size : ℕ) (s : List ℕ) : Type 0 where
  pub instruction : Instr
  pub keeps : InstrKeeps size instruction
  pub bytes : take instr_bytes s ≡ instruction_bytes instruction
