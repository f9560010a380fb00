-- `analysis::collect::call_code` meets its contract: the record of call j holds a call, and the tables tell the code of its function.
use mathlib.Core.Path.{ap, ◌∙◌}
use Rattle.analysis.specs.Coded.{words_of}
use Rattle.analysis.proofs.LayoutLaws.{laid_narrow, call_within, call_there, call_coded}
use Rattle.analysis.proofs.CollectLaws.{read_at}
use Rattle.analysis.proofs.collect.call_code.Goals as goal

pub call_place-requires : goal.call_place-requires
call_place-requires c =
    call_within c.args.file.now c.args.l c.requires.layout_of_block c.args.call c.requires.call_in_bounds

pub code_of-requires : goal.code_of-requires
code_of-requires c =
    laid_narrow c.args.file.now c.args.l c.requires.layout_of_block

pub returns-in-Some : goal.returns-in-Some
returns-in-Some c =
    let read = read_at c.args.file.now c.call_place.ensures c.call_at.ensures in
    ap words_of c.code_of.ensures ∙ call_coded c.args.file.now c.args.l c.requires.layout_of_block c.args.call c.requires.call_in_bounds _ read c.in-Some.is

pub returns-in-None : goal.returns-in-None
returns-in-None c =
    let read = read_at c.args.file.now c.call_place.ensures c.call_at.ensures in
    absurd (call_there c.args.file.now c.args.l c.requires.layout_of_block c.args.call c.requires.call_in_bounds read c.in-None.is)
