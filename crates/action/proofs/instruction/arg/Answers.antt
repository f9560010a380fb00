-- `action::instruction::arg` meets its contract: the four arguments have 32 bits, so a register holds them.
use mathlib.Core.Path.{ap, ◌∙◌}
use lib.IntN.{pos}
use native.Mathlib.Omega.{arith}
use Rattle.arith.proofs.Laws.{read_back}
use Rattle.block.specs.declared.Call.{Call}
use Rattle.footprint.proofs.SetAccessLaws.{argument_below}
use Rattle.footprint.specs.SafeSets.{InRanges}
use Rattle.action.proofs.instruction.arg.Goals as goal

pub overflow_cast-argument : goal.overflow_cast-argument
overflow_cast-argument c =
    let call : Call = c.args.c in
    let ranges : InRanges call =
    record { sender = omega arith; contract = omega arith; arg1 = omega arith; arg2 = omega arith; arg3 = omega arith; arg4 = omega arith } in
    record { sfits = rw c.argument.ensures (omega (arith, argument_below call c.args.k ranges)) }

pub returns : goal.returns
returns c = c.assign.ensures ∙ simp (read_back {z = pos c.argument.result} (overflow_cast-argument c.before) ∙ ap pos c.argument.ensures)
