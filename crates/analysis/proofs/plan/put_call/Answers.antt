-- `analysis::plan::put_call` meets its contract: three words, the entries, the row and a zero, one behind the other.
use borrow.Author.Rules.{rules}
use Rattle.analysis.proofs.PlanLoops.{call_stored}
use Rattle.analysis.proofs.plan.put_call.Goals as goal

pub returns : goal.returns
returns c =
    call_stored _ _ _ _ _ _ _ (search rules) (search rules) c.put_words.ensures c.put_words-2.ensures c.put_words-3.ensures
