-- `moves::place::due_at_entry` meets its contract: an unknown function ends the call, and else the entry's action is due.
use native.Mathlib.Omega.{arith}
use Rattle.footprint.specs.Access.{entry_accesses}
use Rattle.moves.proofs.StepCodeLaws.{entry_known, end_doable, worded_first, worded_second, entry_payable}
use Rattle.moves.proofs.place.due_at_entry.Goals as goal

pub returns-then-plan_word-eq0-clause-due_doable : goal.returns-then-plan_word-eq0-clause-due_doable
returns-then-plan_word-eq0-clause-due_doable c = end_doable c.end_due.ensures (omega (arith, c.requires))

pub returns : goal.returns
returns c =
    let a = c.args in record {
      by_index = (λ block keys cells. entry_known block a.plan.now keys a.site.call a.body a.site.place a.regs cells c.plan_word.ensures c.if-plan_word-eq0.false c.entry_uses.ensures c.enter.ensures);
      due_doable = record {
        early = omega (arith, c.requires);
        first = worded_first (entry_accesses a.body) c.entry_uses.ensures;
        second = worded_second (entry_accesses a.body) c.entry_uses.ensures;
        payable = entry_payable a.body a.regs c.enter.ensures;
      };
    }
