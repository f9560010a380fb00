-- `arith::add` meets its contract: the library tells whether the exact sum fits.
use mathlib.Core.Path.{◌∙◌, ap₂}
use Rattle.arith.specs.Exact.{add_of}
use Rattle.arith.proofs.Laws.{read_back, answered}
use Rattle.arith.proofs.add.Goals as goal

pub returns : goal.returns
returns c = c.ok_or.ensures.value ∙ answered _ _ c.checked_add.ensures ∙ ap₂ add_of (read_back c.ranges.a) (read_back c.ranges.b)
