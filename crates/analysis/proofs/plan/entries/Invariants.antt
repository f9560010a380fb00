use Rattle.footprint.specs.KeyWords.{keys_in}
use Rattle.analysis.proofs.PlanLoops.{EntriesTo}
use Rattle.analysis.proofs.plan.entries.Given as goal

abbrev pub invariant-loop-k : goal.invariant-loop-k
invariant-loop-k l = EntriesTo (keys_in l.n l.keys) l.s l.words l.k
