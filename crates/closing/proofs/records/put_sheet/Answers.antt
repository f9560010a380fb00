-- `closing::records::put_sheet` meets its contract. Each turn of a loop is at a record k, and `at` is its offset: in the first loop k is the number
-- of the records of the cells before cell n, in the second of those of all cells and of the calls before.
use native.Mathlib.Omega.{arith}
use mathlib.Core.Path.{refl}
use Rattle.closing.proofs.Carrying.{carried_first, carried_cell, cells_within, cells_carried, carried_between, carried_receipt, receipts_within, carried_end}
use Rattle.closing.proofs.records.put_sheet.Goals as goal

pub loop-n-init : goal.loop-n-init
loop-n-init c = carried_first c.args.keys.now c.args.cells.now c.args.status.now c.args.count c.args.calls c.args.output.now

pub put_cell-at-requires-clause-at_bound : goal.put_cell-at-requires-clause-at_bound
put_cell-at-requires-clause-at_bound c =
    omega (arith, c.loop-n-test.true, cells_within c.args.keys.now c.args.cells.now c.args.status.now c.args.count c.args.calls c.args.output.now c.loop-n.n c.loop-n.at c.loop-n.output c.loop-n.invariant c.loop-n.auto.n-end)

pub loop-n-preserved : goal.loop-n-preserved
loop-n-preserved c =
    carried_cell c.args.keys.now c.args.cells.now c.args.status.now c.args.count c.args.calls c.args.output.now c.loop-n.n c.loop-n.at c.loop-n.output c.loop-n.invariant c.loop-n-test.true c.put_cell-at.ensures.output_after c.put_cell-at.ensures.value

pub loop-call-init : goal.loop-call-init
loop-call-init c = λ before. carried_between c.args.keys.now c.args.cells.now c.args.status.now c.args.count c.args.calls before c.loop-n.at c.loop-n.output

pub put_receipt-at-requires-clause-at_bound : goal.put_receipt-at-requires-clause-at_bound
put_receipt-at-requires-clause-at_bound c =
    let cells = cells_carried c.args.keys.now c.args.cells.now c.args.status.now c.args.count c.args.calls c.args.output.now c.loop-n.n c.loop-n.at c.loop-n.output c.loop-n.invariant c.loop-n.auto.n-end c.loop-n-test.false in
    omega (arith, c.loop-call-test.true, receipts_within c.args.keys.now c.args.cells.now c.args.status.now c.args.count c.args.calls c.args.output.now c.loop-call.call c.loop-call.at c.loop-call.output (c.loop-call.invariant c.args.output.now cells) c.loop-call.auto.call-end)

pub loop-call-preserved : goal.loop-call-preserved
loop-call-preserved c =
    let turn = c.loop-call in
    λ before first. carried_receipt c.args.keys.now c.args.cells.now c.args.status.now c.args.count c.args.calls before turn.call turn.at turn.output (turn.invariant before first) c.loop-call-test.true c.put_receipt-at.ensures.output_after c.put_receipt-at.ensures.value

pub put_head-requires-clause-at_bound : goal.put_head-requires-clause-at_bound
put_head-requires-clause-at_bound c =
    let cells = cells_carried c.args.keys.now c.args.cells.now c.args.status.now c.args.count c.args.calls c.args.output.now c.loop-n.n c.loop-n.at c.loop-n.output c.loop-n.invariant c.loop-n.auto.n-end c.loop-n-test.false in
    omega (arith, c.loop-call.auto.call-end, receipts_within c.args.keys.now c.args.cells.now c.args.status.now c.args.count c.args.calls c.args.output.now c.loop-call.call c.loop-call.at c.loop-call.output (c.loop-call.invariant c.args.output.now cells) c.loop-call.auto.call-end)

pub overflow_add-result : goal.overflow_add-result
overflow_add-result c =
    let cells = cells_carried c.args.keys.now c.args.cells.now c.args.status.now c.args.count c.args.calls c.args.output.now c.loop-n.n c.loop-n.at c.loop-n.output c.loop-n.invariant c.loop-n.auto.n-end c.loop-n-test.false in
    omega (arith, c.loop-call.auto.call-end, receipts_within c.args.keys.now c.args.cells.now c.args.status.now c.args.count c.args.calls c.args.output.now c.loop-call.call c.loop-call.at c.loop-call.output (c.loop-call.invariant c.args.output.now cells) c.loop-call.auto.call-end)

pub returns : goal.returns
returns c =
    let cells = cells_carried c.args.keys.now c.args.cells.now c.args.status.now c.args.count c.args.calls c.args.output.now c.loop-n.n c.loop-n.at c.loop-n.output c.loop-n.invariant c.loop-n.auto.n-end c.loop-n-test.false in
    let turn = c.loop-call in
    let end = carried_end c.args.keys.now c.args.cells.now c.args.status.now c.args.count c.args.calls c.args.output.now turn.call turn.at turn.output (turn.invariant c.args.output.now cells) turn.auto.call-end c.loop-call-test.false c.put_head.ensures refl in
    record { output_after = end.0; value = end.1 }
