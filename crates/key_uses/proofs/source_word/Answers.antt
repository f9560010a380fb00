-- `key_uses::source_word` meets its contract: the four arguments fit 32 bits.
use Prim.Native.Nat.{◌^◌, ◌<◌}
use native.Mathlib.Omega.{arith}
use Rattle.block.specs.Record.{argument}
use Rattle.block.specs.declared.Call.{Call}
use Rattle.footprint.proofs.SetAccessLaws.{argument_below}
use Rattle.footprint.specs.SafeSets.{InRanges}
use Rattle.key_uses.proofs.source_word.Goals as goal

pub overflow_cast-result : goal.overflow_cast-result
overflow_cast-result c =
    let call : Call = c.args.c in
    let ranges : InRanges call =
    record { sender = omega arith; contract = omega arith; arg1 = omega arith; arg2 = omega arith; arg3 = omega arith; arg4 = omega arith } in
    let below : argument call c.in-Argument.k < 2 ^ 32 = argument_below call c.in-Argument.k ranges in
    record { fits = rw c.argument.ensures below }
