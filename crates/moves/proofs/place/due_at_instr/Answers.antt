-- `moves::place::due_at_instr` meets its contract: in a code stretch that the block holds the instruction is decoded.
use native.Mathlib.Omega.{arith}
use Rattle.moves.proofs.StepCodeLaws.{instr_inside}
use Rattle.moves.proofs.place.due_at_instr.Goals as goal

pub returns-clause-by_index : goal.returns-clause-by_index
returns-clause-by_index c =
    let a = c.args in
    λ keys cells. instr_inside a.block.now a.plan.now keys a.site.call a.body a.site.place a.regs cells a.site.count c.due_decoded.result c.plan_word-start.ensures c.plan_word.ensures (omega (arith, c.in_ok-rest.ensures, c.if-rest-start.false)) (omega arith) c.code_at-code.ensures (c.due_decoded.ensures.by_index a.block.now a.plan.now keys cells)
