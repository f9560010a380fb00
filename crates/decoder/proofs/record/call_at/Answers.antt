-- `decoder::record::call_at` meets its contract: a cut body is none, and a whole one is read from its own bytes.
use mathlib.Core.Path.{ap, ◌∙◌}
use native.Mathlib.Omega.{arith}
use Rattle.block.specs.Record.{call_of}
use Rattle.decoder.proofs.Laws.{call_cut, call_taken}
use Rattle.decoder.proofs.record.call_at.Goals as goal

pub returns-in_default : goal.returns-in_default
returns-in_default c = call_cut c.from.result.now (grind arith) ∙ ap call_of c.from.ensures

pub returns : goal.returns
returns c =
    let body = c.in-Some.ensures.lookup.0 in
    c.call_in.ensures ∙ ap call_of body.2 ∙ call_taken c.from.result.now body.1 ∙ ap call_of c.from.ensures
