-- `wire::get_i64` meets its contract: it is the eight bytes' number, read in two's complement.
use borrow.Author.Rules.{rules}
use mathlib.Core.Path.{ap, ◌∙◌}
use mir.Syntax.{w64}
use mir.Facts.{to_z-of_z}
use Rattle.arith.specs.Exact.{signed}
use Rattle.wire.proofs.get_i64.Goals as goal

pub returns : goal.returns
returns c = to_z-of_z {w = w64} {z = c.signed64.result} (search rules) ∙ c.signed64.ensures ∙ ap (signed 64) c.read_le.ensures
