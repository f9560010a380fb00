use Rattle.closing.proofs.Finding.{Looked}
use Rattle.closing.proofs.tests.cells_found.Given as goal

abbrev pub invariant-loop-n : goal.invariant-loop-n
invariant-loop-n l = Looked l.keys l.cells l.count l.records l.n
