-- `arith::unsigned64` meets its contract: the library names a number by the bits of the definition.
use mathlib.Core.Path.{◌∙◌, sym, ap}
use mir.Syntax.{w64}
use Rattle.arith.specs.Exact.{unsigned}
use Rattle.arith.proofs.Laws.{read_back}
use Rattle.arith.proofs.IntegerLaws.{unsigned_of_z}
use Rattle.arith.proofs.unsigned64.Goals as goal

pub returns : goal.returns
returns c = c.cast_unsigned.ensures ∙ sym (unsigned_of_z w64 _) ∙ ap (unsigned 64) (read_back c.ranges.z)
