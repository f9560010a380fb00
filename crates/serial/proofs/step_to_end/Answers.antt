-- `serial::step_to_end` meets its contract: the steps that are left, from the run so far, lead where all steps lead from the start, and behind a refused one
-- they lead nowhere else.
use native.Mathlib.Omega.{arith}
use mathlib.Core.Path.{refl, sym, ◌∙◌}
use Prim.Native.Nat.{◌-◌}
use borrow.Author.Tests.{eq-eqb, ne_eqb}
use Rattle.machine.specs.Serial.{max_steps}
use Rattle.serial.proofs.SerialLaws.{steps_over, steps_idle, steps_next, steps_refused}
use Rattle.serial.proofs.step_to_end.Goals as goal

pub returns-then-head-eq0-clause-run : goal.returns-then-head-eq0-clause-run
returns-then-head-eq0-clause-run c =
    sym (c.loop.invariant.1 ∙ steps_idle c.args.block.now _ (max_steps - c.loop.counter) (omega (arith, c.loop-test.true)) (sym (eq-eqb _ _ c.if-head-eq0.true)))

pub returns-in_default-clause-run : goal.returns-in_default-clause-run
returns-in_default-clause-run c = sym (c.loop.invariant.1 ∙ steps_refused c.args.block.now _ (max_steps - c.loop.counter) c.in_default.ensures refl)

pub loop-preserved : goal.loop-preserved
loop-preserved c =
    let i = c.loop.invariant.0 in (
      record { plan = i.plan; keys = i.keys; cells = i.cells; status = i.status; seats = i.seats; frames = i.frames },
      c.loop.invariant.1
          ∙ steps_next c.args.block.now _ (max_steps - c.loop.counter) (omega (arith, c.loop-test.true)) (sym (ne_eqb _ _ c.if-head-eq0.false)) c.in-Ok.ensures _ (omega (arith, c.loop-test.true)),
    )

pub returns-clause-run : goal.returns-clause-run
returns-clause-run c = sym (c.loop.invariant.1 ∙ steps_over c.args.block.now _ (max_steps - c.loop.counter) (omega (arith, c.loop-test.false)))
