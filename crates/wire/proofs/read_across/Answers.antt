-- `wire::read_across` meets its contract: each turn puts one byte more at its place value.
use mathlib.Core.Path.{◌∙◌}
use native.Mathlib.Omega.{arith}
use Rattle.wire.proofs.Laws.{read_none, read_more, read_more_lt}
use Rattle.wire.proofs.read_across.Goals as goal

pub loop-i-init : goal.loop-i-init
loop-i-init c = read_none c.args.s.now c.args.at

pub overflow_add-number : goal.overflow_add-number
overflow_add-number c =
    omega (arith, read_more_lt c.args.s.now c.args.at c.loop-i.i c.loop-i.invariant (c.from.ensures ∙ c.get_or.ensures) (omega (arith, c.loop-i-test.true, c.requires.short)) (λ k. (c.type_inv.s k).fits))

pub loop-i-preserved : goal.loop-i-preserved
loop-i-preserved c =
    read_more c.args.s.now c.args.at c.loop-i.i c.loop-i.invariant (c.from.ensures ∙ c.get_or.ensures) (omega (arith, c.loop-i-test.true, c.requires.short)) (λ k. (c.type_inv.s k).fits)
