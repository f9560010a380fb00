use Rattle.analysis.specs.Gathered.{Holds}
use Rattle.analysis.proofs.GatherLaws.{first_accesses}
use Rattle.analysis.proofs.gather.function_sets.Given as goal

abbrev pub invariant-loop-index : goal.invariant-loop-index
invariant-loop-index l = Holds l.s (first_accesses l.c l.size l.code l.index)
