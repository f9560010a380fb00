-- `reader::function::first_invalid` meets its contract: the first number that `find` gives is the definition's.
use Rattle.std.proofs.Common.{◌≡◌, ℕ, ◌+◌, ◌*◌, true, false, drop, rules, tests}
use Rattle.std.proofs.lemmas.Iterator.{first_from_Range}
use Rattle.block.specs.Instruction.{decode, is_valid}
use Rattle.reader.proofs.Laws.{first_is}
use Rattle.reader.proofs.function.first_invalid.Goals as goal

pub returns-clause-first : goal.returns-clause-first
returns-clause-first c =
    let s = c.args.body.now in
    let n = c.args.size in
    first_is s n c.find.result
    (first_from_Range _ _ _ _ (λ (i : ℕ). is_valid (decode n (drop (4 + 8 * i) s)) ≡ false) (λ (i : ℕ). is_valid (decode n (drop (4 + 8 * i) s)) ≡ true)
    c.find.ensures.ran (λ x q k. search (rules, tests)) (λ x q k. search (rules, tests)))
