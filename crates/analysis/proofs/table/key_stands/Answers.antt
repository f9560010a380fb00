-- `table::key_stands` meets its contract: past the table no key stands, and two keys are equal if both their words are.
use mathlib.Core.Path.{sym, ◌∙◌}
use borrow.Author.Tests.{eqb-true, eqb-false, le-ltb}
use Rattle.std.proofs.lemmas.Bool.{false≢true}
use Rattle.analysis.proofs.KeyWordLaws.{stands_past, stands_other, stands_equal}
use Rattle.analysis.proofs.table.key_stands.Goals.{then-at-n, else-at-n}
use Rattle.analysis.proofs.table.key_stands.Goals as goal

pub returns-then-keys-at : goal.returns-then-keys-at
returns-then-keys-at c =
    elim c.if-at-n.branch [
      | then-at-n w ↦
          sym
          (stands_equal _ _ _ _ _ c.requires.sorted c.requires.low_bound w.if-at-n.true
          (eqb-true _ _ (sym w.value-is ∙ c.if-keys-at.true)))
      | else-at-n w ↦ absurd (false≢true (sym (w.value-is ∙ le-ltb c.args.at c.args.n w.if-at-n.false) ∙ c.if-keys-at.true))
    ]

pub returns-else-keys-at : goal.returns-else-keys-at
returns-else-keys-at c =
    elim c.if-at-n.branch [
      | then-at-n w ↦
          c.if-keys-at.false
          ∙ sym
          (stands_other _ _ _ _ _ c.requires.sorted c.requires.low_bound w.if-at-n.true
          (eqb-false _ _ (sym w.value-is ∙ c.if-keys-at.false)))
      | else-at-n w ↦ c.if-keys-at.false ∙ sym (stands_past _ _ _ _ w.if-at-n.false)
    ]
