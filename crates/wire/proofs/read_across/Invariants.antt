use mathlib.Core.Path.{◌≡◌}
use Rattle.wire.specs.Bytes.{read_le}
use Rattle.wire.proofs.read_across.Given as goal

abbrev pub invariant-loop-i : goal.invariant-loop-i
invariant-loop-i l = l.number ≡ read_le l.i l.s l.at
