-- `moves::place::due` meets its contract: the place decides, as in the definition, and with fuel left no test of the fuel does.
use native.Mathlib.Omega.{arith}
use Rattle.std.specs.Prelude.{Some}
use Rattle.moves.proofs.StepCodeLaws.{place_body, body_ended, end_doable}
use Rattle.moves.proofs.place.due.Goals as goal

pub returns-then-site-plan_word : goal.returns-then-site-plan_word
returns-then-site-plan_word c =
    let a = c.args in record { by_index = (λ keys cells. place_body a.block.now a.plan.now keys a.site.call a.body a.site.place a.regs cells a.site.count (Some c.end_due.result) c.if-site-eq0.false (body_ended a.block.now a.plan.now keys a.site.call a.body a.site.place a.regs cells a.site.count c.if-body-site.false c.plan_word.ensures c.if-site-plan_word.true c.end_due.ensures)); due_doable = end_doable c.end_due.ensures (omega (arith, c.requires.site_in_range.code, c.requires.site_in_range.place)) }
