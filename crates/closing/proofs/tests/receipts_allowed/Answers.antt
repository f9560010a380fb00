-- `closing::tests::receipts_allowed` meets its contract: every call's receipt is tested.
use mathlib.Core.Path.{refl, ◌∙◌}
use Rattle.std.proofs.Common.{rules, tests}
use Rattle.std.proofs.lemmas.Iterator.{YieldsList-from_range}
use Rattle.std.proofs.lemmas.Iterator.Search.{all_from_yields_List}
use Rattle.sheet.specs.Sheet.{receipts_allowed}
use Rattle.closing.proofs.Counting.{each_below, receipt_allowed, allowed_none, allowed_turn}
use Rattle.closing.proofs.tests.receipts_allowed.Goals as goal

pub returns : goal.returns
returns c =
    all_from_yields_List (receipt_allowed c.args.status.now) _ _ _ c.all.ensures.ran (YieldsList-from_range 0 c.args.calls c.args.calls refl (search rules)) (λ x b q k. search (tests, rules))
    ∙ each_below (receipts_allowed c.args.status.now) _ (allowed_none c.args.status.now) (allowed_turn c.args.status.now) c.args.calls
