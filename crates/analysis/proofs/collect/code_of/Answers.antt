-- `analysis::collect::code_of` meets its contract: the place of the id tells the code, if the id is there.
use mathlib.Core.Path.{sym, ◌∙◌}
use Rattle.block.specs.Record.{call_id}
use Rattle.analysis.proofs.CollectLaws.{code_there, code_none}
use Rattle.analysis.proofs.collect.code_of.Goals as goal

pub returns-in-Some : goal.returns-in-Some
returns-in-Some c =
    code_there c.args.l (call_id c.args.c) (sym c.in-Some.is ∙ rw c.id_of.ensures at c.id_place.ensures)

pub returns-in-None : goal.returns-in-None
returns-in-None c =
    code_none c.args.l (call_id c.args.c) (sym c.in-None.is ∙ rw c.id_of.ensures at c.id_place.ensures)
