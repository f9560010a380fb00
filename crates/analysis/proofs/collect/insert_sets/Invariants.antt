use Rattle.analysis.proofs.CallLaws.{Filling}
use Rattle.analysis.proofs.collect.insert_sets.Given as goal

abbrev pub invariant-loop-key : goal.invariant-loop-key
invariant-loop-key l = Filling l.n l.initial.keys l.s l.keys l.count l.key-index
