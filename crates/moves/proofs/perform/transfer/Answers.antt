-- `moves::perform::transfer` meets its contract: behind the tests of the first cell the second takes the amount.
use borrow.Author.Rules.{rules}
use mathlib.Core.Path.{sym, ◌∙◌}
use Rattle.moves.proofs.PerformLaws.{transfer_enough}
use Rattle.moves.specs.Turn.{access_of}
use Rattle.moves.proofs.perform.transfer.Goals as goal

pub returns : goal.returns
returns c =
    let a = c.args in
    transfer_enough a.plan.now a.keys.now a.site.call a.site.place a.site.count a.regs c.ranges.amount a.short (access_of a.uses.second) a.cells.now (sym c.lookup.ensures ∙ c.in_ok-n.was) (search rules) c.get_or-held.ensures c.if-held-lt0.false c.if-held-amount.false c.deposit.ensures
