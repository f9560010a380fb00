-- What `decode` makes of eight bytes, by instructions and their bytes alone.
use Rattle.std.specs.Prelude.{◌≡◌, List, ◌++◌, ℕ, ◌≤◌, length, take, Some}
use Rattle.block.specs.Limits.{max_code}
use Rattle.block.specs.Instruction.{instr_bytes, decode}
use Rattle.block.specs.InstructionBytes.{instruction_bytes, InstrKeeps}
use Rattle.block.specs.Encoding.{AreBytes}
use Rattle.block.specs.declared.Instr.{Instr}

-- Bytes are decoded as an instruction exactly if they begin with its own eight and its parts are in range: an instruction's own bytes are decoded as it,
-- whatever follows them, no others are, and eight bytes are one instruction's.
pub record DecoderExact : Type 0 where
  pub whole : (size : ℕ) → size ≤ max_code → (i : Instr) → InstrKeeps size i → (more : List ℕ) → decode size (instruction_bytes i ++ more) ≡ Some i
  pub only : (size : ℕ) (s : List ℕ) → AreBytes s → instr_bytes ≤ length s → (i : Instr) → decode size s ≡ Some i
      → InstrKeeps size i × (take instr_bytes s ≡ instruction_bytes i)
  pub one : (size : ℕ) → size ≤ max_code → (i i' : Instr) → InstrKeeps size i → InstrKeeps size i' → instruction_bytes i ≡ instruction_bytes i' → i ≡ i'
