-- `analysis::plan::open_cell` meets its contract: it reads the parts of the cell's key and its value, and stores the one at the number of the
-- other.
use Rattle.arith.proofs.Laws.{read_back}
use Rattle.decoder.proofs.Laws.{high_named}
use Rattle.analysis.proofs.PlanLoops.{cell_stored}
use Rattle.analysis.proofs.plan.open_cell.Goals as goal

pub returns : goal.returns
returns c =
    cell_stored _ _ c.args.values.now _ c.short.ensures c.short-2.ensures c.long.ensures c.long-low.ensures
    (high_named c.short.result c.short-2.result c.long.result c.address_of.ensures c.high_of-high.ensures) c.cell_number-number.ensures c.get_i64.ensures
    (read_back {z = c.get_i64.result} (record { sfits = c.get_i64.type_inv })) c.put.ensures
