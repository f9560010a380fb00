-- `wire::write_within` meets its contract: each turn writes one byte more of the number and leaves the rest of it.
use mathlib.Core.Path.{◌∙◌}
use Rattle.wire.proofs.Laws.{write_more, write_done}
use Rattle.wire.proofs.write_within.Goals as goal

pub loop-i-preserved : goal.loop-i-preserved
loop-i-preserved c = write_more c.loop-i.s c.args.at c.args.n c.loop-i.i c.loop-i.rest c.loop-i-test.true ∙ c.loop-i.invariant

pub returns : goal.returns
returns c = write_done c.loop-i.s _ c.args.n c.loop-i.i c.loop-i.rest c.loop-i-test.false c.loop-i.invariant
