-- What eight bytes of code do at a place of a call.
use Rattle.std.specs.Prelude.{List, ℕ, ℤ, None, Option, Some}
use Rattle.block.specs.declared.Call.{Call}
use Rattle.block.specs.declared.Instr.{Instr}
use Rattle.block.specs.declared.Instr.TheVariants.{Stop, Throw, Set, Arg, Sender, Value, Add, Sub, Mul, Div, Get, Put, Bal, Pay, Jeq, Jlt}
use Rattle.machine.specs.Action.{doing, instr_action}
use Rattle.machine.specs.declared.Action.{Action}
use Rattle.machine.specs.declared.Next.TheVariants.{Go}
use Rattle.action.specs.declared.Acted.{Acted}

-- The action of what the bytes hold; where that is no instruction, the call stays at its place.
unfoldable pub action_of : Call → ℕ → List ℤ → Option Instr → Action
action_of c place regs (Some i) = instr_action c place regs i
action_of c place regs None = doing regs (Go place)

-- What the bytes hold, with its action.
abbrev pub acted_of : Call → ℕ → List ℤ → Option Instr → Acted
acted_of c place regs d = record { decoded = d; action = action_of c place regs d }

-- The instruction that a jump goes to; 0 for an instruction that is no jump.
unfoldable pub jump_of : Instr → ℕ
jump_of Stop = 0
jump_of Throw = 0
jump_of (Set x value) = 0
jump_of (Arg x k) = 0
jump_of (Sender x) = 0
jump_of (Value x) = 0
jump_of (Add x y z) = 0
jump_of (Sub x y z) = 0
jump_of (Mul x y z) = 0
jump_of (Div x y z) = 0
jump_of (Get x field a b) = 0
jump_of (Put x field a b) = 0
jump_of (Bal x) = 0
jump_of (Pay x target) = 0
jump_of (Jeq x y to) = to
jump_of (Jlt x y to) = to
