-- `register_run::finish` meets its contract: the answer of the last line is said, and the close behind it.
use mathlib.Core.Path.{sym}
use native.Mathlib.Omega.{arith}
use lib.Seq.{length-take-le}
use Rattle.moves.specs.Buffers.{run_of}
use Rattle.register_run.proofs.Laws.{end_fits, finish_handed}
use Rattle.register_run.proofs.finish.Goals as goal

pub slice_bounds-answers-end : goal.slice_bounds-answers-end
slice_bounds-answers-end g c =
    let a = c.args in
    omega (arith, end_fits a.block.now a.s.number a.s.line (run_of a.s.head a.run.now) _ c.play_end-p.ensures.played)

pub slice_bounds-say-end : goal.slice_bounds-say-end
slice_bounds-say-end g c =
    let a = c.args in
    sym (length-take-le _ _ (omega (arith, end_fits a.block.now a.s.number a.s.line (run_of a.s.head a.run.now) _ c.play_end-p.ensures.played)))

pub returns-clause-text : goal.returns-clause-text
returns-clause-text g c =
    let a = c.args in
    finish_handed a.block.now a.s.number a.s.line (run_of a.s.head a.run.now) _ c.play_end-p.ensures.played a.output (omega (arith, end_fits a.block.now a.s.number a.s.line (run_of a.s.head a.run.now) _ c.play_end-p.ensures.played)) c.say-after.ensures.text c.close.ensures.text
