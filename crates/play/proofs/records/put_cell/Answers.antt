-- `play::records::put_cell` meets its contract: the numbers of the line are those of the body.
use Rattle.arith.proofs.Laws.{read_back}
use mathlib.Core.Path.{◌∙◌}
use Rattle.play.proofs.RecordLaws.{cell_put}
use Rattle.play.proofs.records.put_cell.Goals as goal

pub returns : goal.returns
returns c =
    cell_put c.args.sheet.now c.args.body c.read_le-address.ensures c.read_le-field.ensures c.read_le-a.ensures c.read_le-b.ensures (read_back (record { sfits = c.get_i64-value.type_inv }) ∙ c.get_i64-value.ensures) c.cell_line.ensures
