-- "Instructions": eight bytes and what they say. Everything that these bytes can break is refusal 10.
use Rattle.std.specs.Prelude.{Bool, true, false, ◌&&◌, ◌||◌, not, List, ℕ, zero, suc, ◌+◌, ◌/◌, ◌%◌, eqb, leb, ltb, drop, None, Option, Some}
use Rattle.std.specs.Prelude.{if◌then◌else◌}
use Rattle.arith.specs.Exact.{signed}
use Rattle.wire.specs.Bytes.{number}
use Rattle.block.specs.declared.Source.{Source}
use Rattle.block.specs.declared.Source.TheVariants as source
use Rattle.block.specs.declared.Instr.{Instr}
use Rattle.block.specs.declared.Instr.TheVariants.{Stop, Throw, Set, Arg, Sender, Value, Add, Sub, Mul, Div, Get, Put, Bal, Pay, Jeq, Jlt}

-- The length of an instruction in bytes.
abbrev pub instr_bytes : ℕ
instr_bytes = 8

-- "x, y, z name registers 0 to 7 (signed 64 bits, 0 at start) unless said."
abbrev pub is_register : ℕ → Bool
is_register n = leb n 7

-- "argument y (1 to 4)"
abbrev pub is_argument : ℕ → Bool
is_argument n = leb 1 n && leb n 4

-- "Sources: 0 is zero, 1 to 4 an argument, 5 the sender, 6 the constant w div 65536 (PAY too; zero if no source is 6; PAY's w mod
-- 65536 is zero)."
abbrev pub is_source : ℕ → Bool
is_source n = leb n 6

unfoldable pub source_of : ℕ → ℕ → Source
source_of n w =
    if eqb n 0
    then source.Zero
    else if eqb n 5
    then source.Sender
    else if eqb n 6
    then source.Constant (w / 65536)
    else source.Argument n

-- An instruction whose parts keep its rule. "Unused parts are zero."
abbrev pub allowed : Bool → Instr → Option Instr
allowed true i = Some i
allowed false i = None

-- "0 STOP; 1 THROW"
unfoldable pub decode_end : ℕ → ℕ → ℕ → ℕ → ℕ → Option Instr
decode_end op x y z w = allowed (eqb x 0 && eqb y 0 && eqb z 0 && eqb w 0) (if eqb op 0 then Stop else Throw)

-- "2 SET x to w read as signed"
unfoldable pub decode_set : ℕ → ℕ → ℕ → ℕ → Option Instr
decode_set x y z w = allowed (is_register x && eqb y 0 && eqb z 0) (Set x (signed 32 w))

-- "3 ARG x from argument y (1 to 4)"
unfoldable pub decode_arg : ℕ → ℕ → ℕ → ℕ → Option Instr
decode_arg x y z w = allowed (is_register x && is_argument y && eqb z 0 && eqb w 0) (Arg x y)

-- "4 SENDER x; 5 VALUE x", "12 BAL x, the contract's own balance"
unfoldable pub decode_fact : ℕ → ℕ → ℕ → ℕ → Instr → Option Instr
decode_fact x y z w i = allowed (is_register x && eqb y 0 && eqb z 0 && eqb w 0) i

-- "6 ADD, 7 SUB, 8 MUL, 9 DIV: x from y and z"
unfoldable pub decode_arith : ℕ → ℕ → ℕ → ℕ → ℕ → Option Instr
decode_arith op x y z w =
    allowed (is_register x && is_register y && is_register z && eqb w 0)
    (if eqb op 6 then Add x y z else if eqb op 7 then Sub x y z else if eqb op 8 then Mul x y z else Div x y z)

-- "10 GET x; 11 PUT x", "field w mod 65536 (not 0), a from source y, b from source z", the constant "zero if no source is 6"
unfoldable pub decode_cell : ℕ → ℕ → ℕ → ℕ → ℕ → Option Instr
decode_cell op x y z w =
    allowed
    (is_register x && is_source y && is_source z && not (eqb (w % 65536) 0) && (eqb y 6 || eqb z 6 || eqb (w / 65536) 0))
    (if eqb op 10 then Get x (w % 65536) (source_of y w) (source_of z w) else Put x (w % 65536) (source_of y w) (source_of z w))

-- "13 PAY amount x to the account that source y names", "PAY's w mod 65536 is zero"
unfoldable pub decode_pay : ℕ → ℕ → ℕ → ℕ → Option Instr
decode_pay x y z w =
    allowed (is_register x && is_source y && eqb z 0 && eqb (w % 65536) 0 && (eqb y 6 || eqb (w / 65536) 0))
    (Pay x (source_of y w))

-- "14 JEQ, 15 JLT: to instruction w if x = y, or x < y"; M-104: "Jumps may go to any index from 0 to the code's length."
unfoldable pub decode_jump : ℕ → ℕ → ℕ → ℕ → ℕ → ℕ → Option Instr
decode_jump size op x y z w =
    allowed (is_register x && is_register y && eqb z 0 && leb w size)
    (if eqb op 14 then Jeq x y w else Jlt x y w)

-- An instruction of a code of `size` instructions, from its parts.
unfoldable pub decode_parts : ℕ → ℕ → ℕ → ℕ → ℕ → ℕ → Option Instr
decode_parts size op x y z w =
    if ltb op 2
    then decode_end op x y z w
    else if eqb op 2
    then decode_set x y z w
    else if eqb op 3
    then decode_arg x y z w
    else if ltb op 6
    then decode_fact x y z w (if eqb op 4 then Sender x else Value x)
    else if ltb op 10
    then decode_arith op x y z w
    else if ltb op 12
    then decode_cell op x y z w
    else if eqb op 12
    then decode_fact x y z w (Bal x)
    else if eqb op 13
    then decode_pay x y z w
    else if ltb op 16
    then decode_jump size op x y z w
    else None

-- "Bytes: op, x, y, z, then w (32 bits)": the instruction that stands at the front of the bytes.
abbrev pub decode : ℕ → List ℕ → Option Instr
decode size s =
    decode_parts size (number 1 s) (number 1 (drop 1 s)) (number 1 (drop 2 s)) (number 1 (drop 3 s)) (number 4 (drop 4 s))

abbrev pub is_valid : Option Instr → Bool
is_valid (Some i) = true
is_valid None = false

-- The index of the first of the `left` instructions from `index` on that breaks a rule, or the index behind the last.
unfoldable pub first_invalid : ℕ → ℕ → ℕ → List ℕ → ℕ
first_invalid zero index size s = index
first_invalid (suc left) index size s =
    elim (is_valid (decode size s)) [ true ↦ first_invalid left (index + 1) size (drop instr_bytes s) | false ↦ index ]
