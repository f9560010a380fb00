-- `play::input::play_line` meets its contract: the line names a move, which is made and answered, or none.
use mathlib.Core.Path.{sym, ◌∙◌}
use Rattle.console.specs.declared.Line.TheVariants.{Empty}
use Rattle.moves.specs.Buffers.{run_of}
use Rattle.play.specs.Shown.{shown_from}
use Rattle.play.proofs.AnswerLaws.{line_none, line_some, made_on, made_off}
use Rattle.play.proofs.input.play_line.Goals as goal

pub returns-in_default-clause-played : goal.returns-in_default-clause-played
returns-in_default-clause-played c =
    let a = c.args in
    (λ i. shown_from (c.next_number-s.ensures i) Empty (run_of a.s.now.head a.run.now) c.refused_line.new.out c.refused_line.result)
    ∙ line_none a.block.now a.s.now.number a.s.now.line _ _ _ _ _ (sym c.in_default.is ∙ c.line_move-named.ensures) c.refused_line.ensures

pub returns-in-Ok-clause-played : goal.returns-in-Ok-clause-played
returns-in-Ok-clause-played c =
    let a = c.args in
    let made = made_on a.s.now.head (λ h. run_of h c.apply_move.new.run) c.in-Ok.is c.apply_move.ensures.made in
    rw c.next_number-s.ensures (line_some a.block.now a.s.now.number a.s.now.line _ _ _ _ _ c.in-Some.m (sym c.in-Some.is ∙ c.line_move-named.ensures) made c.answer_line.ensures)

pub returns-in-Err-clause-played : goal.returns-in-Err-clause-played
returns-in-Err-clause-played c =
    let a = c.args in
    let made = made_off a.s.now.head (λ h. run_of h c.apply_move.new.run) c.in-Err.is c.apply_move.ensures.made in
    rw c.next_number-s.ensures (line_some a.block.now a.s.now.number a.s.now.line _ _ _ _ _ c.in-Some.m (sym c.in-Some.is ∙ c.line_move-named.ensures) made c.answer_line-in-Err.ensures)
