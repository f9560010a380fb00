use Prim.Native.Nat.{◌+◌, ◌-◌}
use mathlib.Core.Path.{◌≡◌}
use Rattle.wire.specs.Bytes.{write_le}
use Rattle.wire.proofs.write_across.Given as goal

-- What is written and what is left make up the whole.
abbrev pub invariant-loop-i : goal.invariant-loop-i
invariant-loop-i l = write_le (l.n - l.i) l.s (l.at + l.i) l.rest ≡ write_le l.n l.initial.s l.at l.v
