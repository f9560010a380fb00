-- `analysis::collect::call_sets` meets its contract: the record of call j holds a call, and its set is that of the code of its function.
use mathlib.Core.Path.{subst, ap, ◌∙◌}
use Rattle.analysis.specs.declared.Code.{Code}
use Rattle.analysis.specs.Coded.{code_sets}
use Rattle.analysis.specs.Gathered.{Gathered}
use Rattle.analysis.proofs.LayoutLaws.{laid_narrow, call_within, call_there, call_set}
use Rattle.analysis.proofs.CollectLaws.{read_at, code_short}
use Rattle.analysis.proofs.collect.call_sets.Goals as goal

pub call_place-requires : goal.call_place-requires
call_place-requires c =
    call_within c.args.file.now c.args.l c.requires.layout_of_block c.args.call c.requires.call_in_bounds

pub code_of-requires : goal.code_of-requires
code_of-requires c =
    laid_narrow c.args.file.now c.args.l c.requires.layout_of_block

pub sets_of-requires : goal.sets_of-requires
sets_of-requires c =
    code_short c.args.l _ (laid_narrow c.args.file.now c.args.l c.requires.layout_of_block) c.code_of.ensures

pub returns-in-Some : goal.returns-in-Some
returns-in-Some c =
    let read = read_at c.args.file.now c.call_place.ensures c.call_at.ensures in
    subst (Gathered c.sets_of.result)
    (ap (λ (code : Code). code_sets c.args.file.now code c.in-Some.c) c.code_of.ensures
    ∙ call_set c.args.file.now c.args.l c.requires.layout_of_block c.args.call c.requires.call_in_bounds _ read c.in-Some.is)
    c.sets_of.ensures

pub returns-in-None : goal.returns-in-None
returns-in-None c =
    let read = read_at c.args.file.now c.call_place.ensures c.call_at.ensures in
    absurd (call_there c.args.file.now c.args.l c.requires.layout_of_block c.args.call c.requires.call_in_bounds read c.in-None.is)
