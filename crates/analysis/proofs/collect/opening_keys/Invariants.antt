use Rattle.analysis.proofs.OpeningKeyLaws.{OpeningKeysIn}
use Rattle.analysis.proofs.collect.opening_keys.Given as goal

abbrev pub invariant-loop-i : goal.invariant-loop-i
invariant-loop-i l = OpeningKeysIn l.file l.initial.keys l.keys l.i
