-- M-104: "Jumps may go to any index from 0 to the code's length": the bound, of an instruction that was decoded.
use Rattle.std.specs.Prelude.{Some}
use mathlib.Core.Path.{◌≡◌, subst}
use mathlib.Core.List.{List}
use Prim.Native.Nat.{ℕ, ◌≤◌}
use native.Mathlib.Omega.{arith}
use Rattle.block.specs.Instruction.{decode}
use Rattle.block.proofs.DecodeLaws.{JumpsWithin, Decodes}
use Rattle.block.proofs.DecodeOwn.{decode_within}
use Rattle.block.specs.declared.Instr.{Instr}
use Rattle.block.specs.declared.Instr.TheVariants.{Stop, Throw, Set, Arg, Sender, Value, Add, Sub, Mul, Div, Get, Put, Bal, Pay, Jeq, Jlt}
use Rattle.action.specs.Acted.{jump_of}

within_bounded : (size : ℕ) (i : Instr) → JumpsWithin size i → jump_of i ≤ size
unfolding jump_of
within_bounded size Stop f = omega arith
within_bounded size Throw f = omega arith
within_bounded size (Set x value) f = omega arith
within_bounded size (Arg x k) f = omega arith
within_bounded size (Sender x) f = omega arith
within_bounded size (Value x) f = omega arith
within_bounded size (Add x y z) f = omega arith
within_bounded size (Sub x y z) f = omega arith
within_bounded size (Mul x y z) f = omega arith
within_bounded size (Div x y z) f = omega arith
within_bounded size (Get x field a b) f = omega arith
within_bounded size (Put x field a b) f = omega arith
within_bounded size (Bal x) f = omega arith
within_bounded size (Pay x target) f = omega arith
within_bounded size (Jeq x y to) f = f
within_bounded size (Jlt x y to) f = f

-- The jump of an instruction that bytes hold is at most the code's length.
pub decode_bounded : (size : ℕ) (s : List ℕ) {i : Instr} → decode size s ≡ Some i → jump_of i ≤ size
decode_bounded size s {i} e = within_bounded size i (subst (Decodes (JumpsWithin size)) e (decode_within size s))
