-- `analysis::rows::row_at` meets its contract: the row's words stand in the buffer.
use mathlib.Core.Path.{◌∙◌}
use Prim.Native.Nat.{◌+◌, ◌-◌, ◌*◌}
use native.Mathlib.Omega.{arith}
use Rattle.wire.proofs.RowLaws.{row_part}
use Rattle.analysis.proofs.rows.row_at.Goals as goal

pub returns : goal.returns
returns c =
    c.row_from.ensures
    ∙ row_part c.args.masks.now (4 * c.args.cell) (4 * c.args.cell + 4 - 4 * c.args.cell) (omega arith) (omega (arith, c.requires))
