-- `moves::lookup::lookup` meets its contract: the search among all entries goes on from the loop's place.
use native.Mathlib.Omega.{arith}
use mathlib.Core.Path.{sym, ◌∙◌}
use Rattle.moves.proofs.LookupCodeLaws.{find_past, find_here, find_next, find_end}
use Rattle.moves.specs.Turn.{access_of}
use Rattle.moves.proofs.lookup.lookup.Goals as goal

pub returns-then-cell_of-ge-MAX_KEYS : goal.returns-then-cell_of-ge-MAX_KEYS
returns-then-cell_of-ge-MAX_KEYS c =
    sym (c.loop-e.invariant ∙ find_past c.args.keys.now c.entries_of-e-items.result.now (access_of c.args.u) c.loop-e.e-index c.loop-e-test.true (omega arith))

pub returns-then-has_key : goal.returns-then-has_key
returns-then-has_key c =
    c.kept.ensures
    ∙ sym (c.loop-e.invariant ∙ find_here c.args.keys.now c.entries_of-e-items.result.now (access_of c.args.u) c.loop-e.e-index c.loop-e-test.true (omega arith) (sym c.has_key.ensures ∙ c.if-has_key.true))

pub loop-e-preserved : goal.loop-e-preserved
loop-e-preserved c =
    c.loop-e.invariant ∙ find_next c.args.keys.now c.entries_of-e-items.result.now (access_of c.args.u) c.loop-e.e-index c.loop-e-test.true (omega arith) (sym c.has_key.ensures ∙ c.if-has_key.false)

pub returns : goal.returns
returns c = sym (c.loop-e.invariant ∙ find_end c.args.keys.now c.entries_of-e-items.result.now (access_of c.args.u) c.loop-e.e-index c.loop-e-test.false)
