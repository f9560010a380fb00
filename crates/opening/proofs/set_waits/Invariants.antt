use mathlib.Core.Path.{◌≡◌}
use Rattle.machine.specs.Waits.{waits_set}
use Rattle.opening.proofs.set_waits.Given as goal

abbrev pub invariant-loop-call : goal.invariant-loop-call
invariant-loop-call l = l.status ≡ waits_set l.plan l.call l.initial.status
