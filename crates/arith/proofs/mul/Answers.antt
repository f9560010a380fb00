-- `arith::mul` meets its contract: the library tells whether the exact product fits.
use mathlib.Core.Path.{◌∙◌, ap₂}
use Rattle.arith.specs.Exact.{mul_of}
use Rattle.arith.proofs.Laws.{read_back, answered}
use Rattle.arith.proofs.mul.Goals as goal

pub returns : goal.returns
returns c = c.ok_or.ensures.value ∙ answered _ _ c.checked_mul.ensures ∙ ap₂ mul_of (read_back c.ranges.a) (read_back c.ranges.b)
