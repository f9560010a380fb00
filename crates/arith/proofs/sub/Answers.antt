-- `arith::sub` meets its contract: the library tells whether the exact difference fits.
use mathlib.Core.Path.{◌∙◌, ap₂}
use Rattle.arith.specs.Exact.{sub_of}
use Rattle.arith.proofs.Laws.{read_back, answered}
use Rattle.arith.proofs.sub.Goals as goal

pub returns : goal.returns
returns c = c.ok_or.ensures.value ∙ answered _ _ c.checked_sub.ensures ∙ ap₂ sub_of (read_back c.ranges.a) (read_back c.ranges.b)
