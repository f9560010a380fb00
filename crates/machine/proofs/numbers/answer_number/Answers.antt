-- `machine::numbers::answer_number` meets its contract: 0 for an accepted move, and the number of a refusal.
use mathlib.Core.Path.{◌∙◌}
use Rattle.machine.specs.Answer.{answer_number}
use Rattle.machine.proofs.numbers.answer_number.Goals as goal

pub returns-in-Ok : goal.returns-in-Ok
unfolding answer_number
returns-in-Ok c = simp c.in-Ok.is

pub returns-in-Err : goal.returns-in-Err
unfolding answer_number
returns-in-Err c = c.refused_number.ensures ∙ simp c.in-Err.is
