-- `wire::write_le` meets its contract: past the end nothing is written.
use mathlib.Core.Path.{sym}
use Rattle.wire.proofs.BytesLaws.{write_past}
use Rattle.wire.proofs.write_le.Goals as goal

pub returns-then-s-at : goal.returns-then-s-at
returns-then-s-at g c = sym (write_past _ c.args.s.now c.args.at c.args.v c.if-s-at.true)
