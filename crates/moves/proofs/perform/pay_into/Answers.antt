-- `moves::perform::pay_into` meets its contract: the room above the second balance is the definition's test, and both values fit.
use borrow.Author.Rules.{rules}
use Rattle.moves.proofs.PerformLaws.{deposit_done}
use Rattle.moves.proofs.perform.pay_into.Goals as goal

pub returns : goal.returns
returns c =
    let a = c.args in
    rw c.next.ensures
    (deposit_done a.site.place a.site.count a.regs c.ranges.amount a.n a.m a.cells.now (search rules) c.get_or-there.ensures c.if-there-lt0.false c.if-there-amount.false c.requires.amount_value
    {held = c.get_or-held.result} (search rules) c.get_or-held.ensures (rw c.get_or-held.ensures c.requires.amount_value_2) c.put.ensures c.put-2.ensures)
