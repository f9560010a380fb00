-- `closing::tests::states_allowed` meets its contract: every call's state is tested.
use mathlib.Core.Path.{refl, ◌∙◌}
use Rattle.std.proofs.Common.{rules, tests}
use Rattle.std.proofs.lemmas.Iterator.{YieldsList-from_range}
use Rattle.std.proofs.lemmas.Iterator.Search.{all_from_yields_List}
use Rattle.machine.specs.Run.{state_of, is_state}
use Rattle.sheet.specs.Sheet.{states_allowed}
use Rattle.closing.proofs.Counting.{each_below, states_none, states_turn}
use Rattle.closing.proofs.tests.states_allowed.Goals as goal

pub returns : goal.returns
returns c =
    all_from_yields_List (λ n. is_state (state_of c.args.status.now n)) _ _ _ c.all.ensures.ran (YieldsList-from_range 0 c.args.calls c.args.calls refl (search rules)) (λ x b q k. search (tests, rules))
    ∙ each_below (states_allowed c.args.status.now) _ (states_none c.args.status.now) (states_turn c.args.status.now) c.args.calls
