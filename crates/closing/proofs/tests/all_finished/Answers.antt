-- `closing::tests::all_finished` meets its contract: every call's state is compared.
use mathlib.Core.Path.{refl, ◌∙◌}
use Rattle.std.proofs.Common.{rules, tests}
use Rattle.std.proofs.lemmas.Iterator.{YieldsList-from_range}
use Rattle.std.proofs.lemmas.Iterator.Search.{all_from_yields_List}
use Rattle.machine.specs.Run.{state_of, finished}
use lib.Dec.{eqb}
use Rattle.sheet.specs.Sheet.{all_finished}
use Rattle.closing.proofs.Counting.{each_below, finished_none, finished_turn}
use Rattle.closing.proofs.tests.all_finished.Goals as goal

pub returns : goal.returns
returns c =
    all_from_yields_List (λ n. eqb (state_of c.args.status.now n) finished) _ _ _ c.all.ensures.ran (YieldsList-from_range 0 c.args.calls c.args.calls refl (search rules)) (λ x b q k. search (tests, rules))
    ∙ each_below (all_finished c.args.status.now) _ (finished_none c.args.status.now) (finished_turn c.args.status.now) c.args.calls
