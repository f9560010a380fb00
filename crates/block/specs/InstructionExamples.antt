-- What `decode` makes of each kind of instruction in a code of 64, computed: of its own bytes, and of bytes with one unused part not zero.
use Rattle.std.specs.Prelude.{◌≡◌, refl, List, [], ◌∷◌, map, ℕ, pos, negsuc, length, None, Some}
use Rattle.wire.specs.Bytes.{repeated}
use Rattle.block.specs.Instruction.{decode}
use Rattle.block.specs.InstructionBytes.{instr, instruction_bytes}
use Rattle.block.specs.Computing.{computing}
use Rattle.block.specs.declared.Source.TheVariants as source
use Rattle.block.specs.declared.Instr.{Instr}
use Rattle.block.specs.declared.Instr.TheVariants.{Stop, Throw, Set, Arg, Sender, Value, Add, Sub, Mul, Div, Get, Put, Bal, Pay, Jeq, Jlt}

-- At the ends of its ranges.
abbrev pub kinds : List Instr
kinds =
    Stop
    ∷ Throw
    ∷ Set 7 (negsuc 2147483647)
    ∷ Set 0 (pos 2147483647)
    ∷ Arg 7 4
    ∷ Sender 7
    ∷ Value 7
    ∷ Add 7 7 7
    ∷ Sub 7 7 7
    ∷ Mul 7 7 7
    ∷ Div 7 7 7
    ∷ Get 7 65535 (source.Constant 65535) (source.Constant 65535)
    ∷ Get 7 1 source.Sender (source.Constant 0)
    ∷ Put 7 65535 (source.Argument 4) (source.Constant 65535)
    ∷ Put 7 1 source.Zero (source.Argument 1)
    ∷ Bal 7
    ∷ Pay 7 (source.Constant 65535)
    ∷ Pay 7 (source.Constant 0)
    ∷ Pay 7 source.Sender
    ∷ Jeq 7 7 64
    ∷ Jlt 7 7 0 ∷ []

-- With one unused part that is not zero.
abbrev pub unused : List (List ℕ)
unused =
    instr 0 1 0 0 0
    ∷ instr 0 0 1 0 0
    ∷ instr 0 0 0 1 0
    ∷ instr 0 0 0 0 1
    ∷ instr 1 1 0 0 0
    ∷ instr 1 0 1 0 0
    ∷ instr 1 0 0 1 0
    ∷ instr 1 0 0 0 1
    ∷ instr 2 0 1 0 0
    ∷ instr 2 0 0 1 0
    ∷ instr 3 0 1 1 0
    ∷ instr 3 0 1 0 1
    ∷ instr 4 0 1 0 0
    ∷ instr 4 0 0 1 0
    ∷ instr 4 0 0 0 1
    ∷ instr 5 0 1 0 0
    ∷ instr 5 0 0 1 0
    ∷ instr 5 0 0 0 1
    ∷ instr 6 0 0 0 1
    ∷ instr 7 0 0 0 1
    ∷ instr 8 0 0 0 1
    ∷ instr 9 0 0 0 1
    ∷ instr 10 0 5 0 65537
    ∷ instr 11 0 0 4 65537
    ∷ instr 12 0 1 0 0
    ∷ instr 12 0 0 1 0
    ∷ instr 12 0 0 0 1
    ∷ instr 13 0 6 1 0
    ∷ instr 13 0 6 0 1
    ∷ instr 13 0 5 0 65536
    ∷ instr 14 0 0 1 0
    ∷ instr 15 0 0 1 0 ∷ []

pub record Decoded-Kinds : Type 0 where
  pub own : map (λ i. decode 64 (instruction_bytes i)) kinds ≡ map Some kinds
  pub not_zero : map (decode 64) unused ≡ repeated (length unused) None

pub decoded_kinds : Decoded-Kinds
unfolding computing
decoded_kinds = record { own = refl; not_zero = refl }
