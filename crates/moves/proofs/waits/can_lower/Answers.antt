-- `moves::waits::can_lower` meets its contract: the test of each later call is the definition's.
use borrow.Author.Rules.{rules}
use borrow.Author.Tests.{tests}
use Prim.Native.Nat.{◌+◌, ◌-◌}
use mathlib.Core.Path.{refl}
use Rattle.std.proofs.lemmas.Iterator.{YieldsList-from_range}
use Rattle.std.proofs.lemmas.Iterator.Search.{all_from_yields_List}
use Rattle.moves.proofs.WaitCodeLaws.{lowerable_at, lowerable_each}
use Rattle.moves.proofs.waits.can_lower.Goals as goal

pub returns : goal.returns
returns c =
    let a = c.args in
    lowerable_each a.plan.now a.call a.status.now a.calls c.requires.call_lt_calls
    (all_from_yields_List (lowerable_at a.plan.now a.call a.status.now) _ _ _ c.all.ensures.ran (YieldsList-from_range (a.call + 1) a.calls (a.calls - (a.call + 1)) refl refl) (λ x b q k. search (rules, tests)))
