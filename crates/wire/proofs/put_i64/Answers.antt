-- `wire::put_i64` meets its contract: the bits of the value are written as a number of eight bytes.
use mathlib.Core.Path.{ap, ◌∙◌}
use mir.Facts.{to_z-of_z}
use Rattle.arith.specs.Exact.{unsigned}
use Rattle.wire.specs.Bytes.{write_le}
use Rattle.wire.proofs.put_i64.Goals as goal

pub returns : goal.returns
returns c =
    c.write_le.ensures
    ∙ ap (write_le 8 c.args.s.now c.args.at) (c.unsigned64.ensures ∙ ap (unsigned 64) (to_z-of_z c.ranges.v))
