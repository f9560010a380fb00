use mathlib.Core.Path.{◌≡◌}
use lib.ListN.{drop}
use Rattle.machine.specs.Step.{find_entry}
use Rattle.moves.specs.Turn.{access_of, lookup_in}
use Rattle.moves.proofs.lookup.lookup.Given as goal

abbrev pub invariant-loop-e : goal.invariant-loop-e
invariant-loop-e l = lookup_in l.plan l.keys l.call (access_of l.u) ≡ find_entry l.keys (drop l.e-index l.e-items) (access_of l.u)
