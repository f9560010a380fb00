use Prim.Native.Nat.{◌*◌}
use mathlib.Core.Path.{◌≡◌}
use Rattle.wire.specs.Rows.{in_row}
use Rattle.wire.specs.RowOps.{count_of}
use Rattle.wire.proofs.count_within.Given as goal

abbrev pub invariant-loop-w : goal.invariant-loop-w
invariant-loop-w l = l.count ≡ count_of (in_row l.row) (64 * l.w)
