-- `table::key_insert` meets its contract: a key that stands at its place is in the table; any other goes to its place, behind which the
-- later keys move up.
use mathlib.Core.Path.{sym, ◌∙◌}
use Prim.Native.Nat.{◌*◌}
use native.Mathlib.Omega.{arith}
use Rattle.analysis.proofs.TableWords.{tabled_sorted}
use Rattle.analysis.proofs.KeyWordLaws.{moved_by_copy, answer_present, answer_full, answer_new}
use Rattle.analysis.proofs.table.key_insert.Goals as goal

pub key_place-at-requires-clause-sorted : goal.key_place-at-requires-clause-sorted
key_place-at-requires-clause-sorted c = tabled_sorted _ _ c.requires.tabled

pub key_stands-requires-clause-sorted : goal.key_stands-requires-clause-sorted
key_stands-requires-clause-sorted c = tabled_sorted _ _ c.requires.tabled

pub returns-then-key_stands : goal.returns-then-key_stands
returns-then-key_stands c =
    answer_present _ _ _ _ _ c.requires.tabled c.requires.low_bound c.key_place-at.ensures.place
    (sym c.key_stands.ensures ∙ c.if-key_stands.true)

pub returns-then-n-eq-MAX_KEYS : goal.returns-then-n-eq-MAX_KEYS
returns-then-n-eq-MAX_KEYS c =
    answer_full _ _ _ _ _ c.requires.tabled c.requires.low_bound c.key_place-at.ensures.place
    (sym c.key_stands.ensures ∙ c.if-key_stands.false) c.if-n-eq-MAX_KEYS.true

pub returns : goal.returns
returns c =
    answer_new _ _ _ _ _ c.requires.tabled c.requires.low_bound c.key_place-at.ensures.place
    (sym c.key_stands.ensures ∙ c.if-key_stands.false) c.if-n-eq-MAX_KEYS.false _
    (c.copy_within.ensures.after ∙ moved_by_copy c.args.keys.now (2 * c.key_place-at.result) (2 * c.args.n) (omega arith))
