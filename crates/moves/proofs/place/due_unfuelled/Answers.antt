-- `moves::place::due_unfuelled` meets its contract: an end can be done.
use native.Mathlib.Omega.{arith}
use Rattle.moves.proofs.StepCodeLaws.{end_doable}
use Rattle.moves.proofs.place.due_unfuelled.Goals as goal

pub returns-then-site-plan_word-clause-due_doable : goal.returns-then-site-plan_word-clause-due_doable
returns-then-site-plan_word-clause-due_doable c = end_doable c.end_due.ensures (omega (arith, c.requires))

pub returns-clause-due_doable : goal.returns-clause-due_doable
returns-clause-due_doable c = end_doable c.end_due-2.ensures (omega (arith, c.requires))
