-- `moves::entries::restorable` meets its contract: the test of each entry is the definition's.
use borrow.Author.Rules.{rules}
use borrow.Author.Tests.{tests}
use Rattle.std.proofs.lemmas.Iterator.{YieldsList-from_slice}
use Rattle.std.proofs.lemmas.Iterator.Search.{all_from_yields_List}
use Rattle.moves.proofs.EntryLaws.{entry_allowed, restorable_each}
use Rattle.moves.proofs.entries.restorable.Goals as goal

pub returns-then-n-le-MAX_CALL_KEYS : goal.returns-then-n-le-MAX_CALL_KEYS
returns-then-n-le-MAX_CALL_KEYS c =
    restorable_each c.args.n c.if-n-le-MAX_CALL_KEYS.true c.entries_of.ensures
    (all_from_yields_List entry_allowed _ _ _ c.all.ensures.ran (YieldsList-from_slice c.entries_of.result.now cc) (λ x b q k. search (rules, tests)))
