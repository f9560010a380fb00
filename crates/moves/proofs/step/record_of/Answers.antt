-- `moves::step::record_of` meets its contract: where the record's body would start behind the block there is none, and else it is read there.
use native.Mathlib.Omega.{arith}
use Rattle.moves.proofs.LentRunLaws.{record_short}
use Rattle.moves.proofs.step.record_of.Goals as goal

pub returns-in_err-rest : goal.returns-in_err-rest
returns-in_err-rest c =
    let a = c.args in
    rw c.from_residual.ensures (record_short a.block.now a.start a.call (omega (arith, c.in_err-rest.ensures)))

pub returns-then-rest-start : goal.returns-then-rest-start
returns-then-rest-start c =
    let a = c.args in
    record_short a.block.now a.start a.call (omega (arith, c.in_ok-rest.ensures, c.if-rest-start.true))
