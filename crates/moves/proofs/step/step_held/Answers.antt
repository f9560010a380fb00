-- `moves::step::step_held` meets its contract: behind the definition's tests the record that is read is stepped.
use Rattle.moves.proofs.LentRunLaws.{held_stepped, place_settled}
use Rattle.moves.proofs.step.step_held.Goals as goal

pub returns : goal.returns
returns c =
    let a = c.args in
    λ head status starts. held_stepped head a.block.now a.plan.now a.keys.now a.cells.now status a.seats.now a.frames.now a.hold.worker a.hold.call c.place_of.ensures c.in_range.ensures (c.if-not-in_range.false) starts c.record_of.ensures c.in_ok-body.was (place_settled head a.block.now a.plan.now a.keys.now a.cells.now status a.seats.now a.frames.now a.hold.worker a.hold.call c.in_ok-body.body c.place_of.ensures c.count_of.ensures c.regs_of-regs.ensures c.step_place.ensures)
