-- Blocks and texts from their parts, for the worked examples of this crate and those above it.
use mathlib.Core.List.{List, [], ◌∷◌, ◌++◌, flatten}
use Rattle.std.specs.Prelude.{ℕ, zero, suc, ◌*◌, ℤ}
use Prim.Native.Char.{code}
use Prim.Native.String as string
use Prim.Native.String.{String}
use Rattle.arith.specs.Exact.{unsigned}
use Rattle.wire.specs.Bytes.{bytes_of}
use Rattle.block.specs.InstructionBytes.{instr}
use Rattle.block.specs.Record.{recordOf}

-- The bytes of a text.
unfoldable pub text : String → List ℕ
text string.[] = []
text (string.◌∷◌ c s) = code c ∷ text s

-- The same part several times.
unfoldable pub times : ℕ → List ℕ → List ℕ
times zero p = []
times (suc n) p = p ++ times n p

-- The instructions, by their names.
abbrev pub STOP : List ℕ
STOP = instr 0 0 0 0 0

abbrev pub THROW : List ℕ
THROW = instr 1 0 0 0 0

abbrev pub SET : ℕ → ℤ → List ℕ
SET x value = instr 2 x 0 0 (unsigned 32 value)

abbrev pub ARG : ℕ → (k : ℕ) → List ℕ
ARG x k = instr 3 x k 0 0

abbrev pub VALUE : ℕ → List ℕ
VALUE x = instr 5 x 0 0 0

abbrev pub ADD : ℕ → ℕ → ℕ → List ℕ
ADD x y z = instr 6 x y z 0

abbrev pub SUB : ℕ → ℕ → ℕ → List ℕ
SUB x y z = instr 7 x y z 0

abbrev pub MUL : ℕ → ℕ → ℕ → List ℕ
MUL x y z = instr 8 x y z 0

abbrev pub DIV : ℕ → ℕ → ℕ → List ℕ
DIV x y z = instr 9 x y z 0

-- GET and PUT with a from a source and b zero.
abbrev pub GET : ℕ → (field a : ℕ) → List ℕ
GET x field a = instr 10 x a 0 field

abbrev pub PUT : ℕ → (field a : ℕ) → List ℕ
PUT x field a = instr 11 x a 0 field

abbrev pub BAL : ℕ → List ℕ
BAL x = instr 12 x 0 0 0

-- PAY to a constant, and to what another source names.
abbrev pub PAY : ℕ → (target : ℕ) → List ℕ
PAY x target = instr 13 x 6 0 (target * 65536)

abbrev pub PAYTO : ℕ → (source : ℕ) → List ℕ
PAYTO x source = instr 13 x source 0 0

abbrev pub JEQ : ℕ → ℕ → (to : ℕ) → List ℕ
JEQ x y to = instr 14 x y 0 to

abbrev pub JLT : ℕ → ℕ → (to : ℕ) → List ℕ
JLT x y to = instr 15 x y 0 to

-- The records of a block.
abbrev pub function : (contract number : ℕ) → List (List ℕ) → List ℕ
function contract number instrs = recordOf 1 (bytes_of 2 contract ++ bytes_of 2 number ++ flatten instrs)

abbrev pub cell : (address field a b : ℕ) → ℤ → List ℕ
cell address field a b value =
    recordOf 2 (bytes_of 2 address ++ bytes_of 2 field ++ bytes_of 4 a ++ bytes_of 4 b ++ bytes_of 8 (unsigned 64 value))

-- A call with its first argument and its fuel; the other arguments are zero. M-104: "Old examples use fuel 64".
abbrev pub call_fuelled : (sender contract number : ℕ) → ℤ → (argument fuel : ℕ) → List ℕ
call_fuelled sender contract number value argument fuel =
    recordOf 3
    (bytes_of 2 sender
    ++ bytes_of 2 contract ++ bytes_of 2 number ++ bytes_of 8 (unsigned 64 value) ++ bytes_of 4 argument ++ bytes_of 12 0 ++ bytes_of 2 fuel)

abbrev pub call_with : (sender contract number : ℕ) → ℤ → ℕ → List ℕ
call_with sender contract number value argument = call_fuelled sender contract number value argument 64

abbrev pub call : (sender contract number : ℕ) → ℤ → List ℕ
call sender contract number value = call_with sender contract number value 0

abbrev pub end : List ℕ
end = recordOf 4 []
