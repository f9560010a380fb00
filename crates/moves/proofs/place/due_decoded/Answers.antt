-- `moves::place::due_decoded` meets its contract: the action of an instruction that decodes is due.
use native.Mathlib.Omega.{arith}
use Rattle.moves.proofs.StepCodeLaws.{decoded_valid, worded_first, worded_second, acted_payable}
use Rattle.moves.proofs.place.due_decoded.Goals as goal

pub returns : goal.returns
returns c =
    let a = c.args in record {
      by_index = (λ block plan keys cells. decoded_valid block plan keys a.site.call a.body a.site.place a.regs cells a.site.count c.requires.place_nonzero.0 _ c.act_at-acted.ensures _ c.in_ok-i.was c.step_uses.ensures);
      due_doable = record {
        early = omega (arith, c.requires);
        first = worded_first _ c.step_uses.ensures;
        second = worded_second _ c.step_uses.ensures;
        payable = acted_payable a.body a.site.place a.regs _ c.act_at-acted.ensures _ c.in_ok-i.was c.requires.place_nonzero.0;
      };
    }
