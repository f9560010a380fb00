-- `analysis::prepare_read` meets its contract: a refused file changes no buffer, and an accepted one has its layout.
use Rattle.analysis.proofs.PrepareLaws.{read_laid, read_left}
use Rattle.analysis.proofs.prepare_read.Goals as goal

pub prepare_laid-requires : goal.prepare_laid-requires
prepare_laid-requires c =
    record { layout_of_block = read_laid c.args.file.now _ c.in_ok-l.ensures; blank = c.requires }

pub returns-in_err-l : goal.returns-in_err-l
returns-in_err-l c =
    read_left c.args.file.now c.from_residual.result c.args.plan.now c.args.keys.now c.args.values.now c.requires c.from_residual.ensures.1 c.in_err-l.ensures
