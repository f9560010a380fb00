-- `wire::read_le` meets its contract: past the end it is 0.
use mathlib.Core.Path.{sym}
use Rattle.wire.proofs.BytesLaws.{read_past}
use Rattle.wire.proofs.read_le.Goals as goal

pub returns-then-s-at : goal.returns-then-s-at
returns-then-s-at g c = sym (read_past _ c.args.s.now c.args.at c.if-s-at.true)
