-- `table::cell_number` meets its contract: in a rising table a cell's number is how many keys are below its key.
use mathlib.Core.Path.{◌∙◌}
use Rattle.analysis.proofs.PlaceLaws.{place_cell}
use Rattle.analysis.proofs.table.cell_number.Goals as goal

pub returns : goal.returns
returns c = c.key_place.ensures.place ∙ place_cell _ _ c.requires.sorted.rising
