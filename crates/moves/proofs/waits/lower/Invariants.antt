use mathlib.Core.Path.{◌≡◌}
use Rattle.machine.specs.Waits.{waits_lowered}
use Rattle.moves.proofs.waits.lower.Given as goal

abbrev pub invariant-loop-later : goal.invariant-loop-later
invariant-loop-later l = l.status ≡ waits_lowered l.plan l.call l.later l.initial.status
