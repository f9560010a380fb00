use lib.ListN.{length}
use Rattle.footprint.specs.KeyWords.{keys_in}
use Rattle.analysis.proofs.PlanLaws.{PlannedTo}
use Rattle.analysis.proofs.plan.plan_calls.Given as goal

abbrev pub invariant-loop-call : goal.invariant-loop-call
invariant-loop-call l = PlannedTo l.file (keys_in l.n l.keys) l.call (length l.initial.plan) l.plan l.touched l.writers
