use Rattle.analysis.proofs.CallLaws.{Collecting}
use Rattle.analysis.proofs.collect.call_keys.Given as goal

abbrev pub invariant-loop-call : goal.invariant-loop-call
invariant-loop-call l = Collecting l.file l.initial.keys l.keys l.n l.call
