-- `text::put_bits` meets its contract: what is written and what is left make up the whole text at every turn.
use mathlib.Core.Path.{sym, ◌∙◌}
use native.Mathlib.Omega.{arith}
use Rattle.text.proofs.Bits.{bits_start, going_set, going_clear, bits_end}
use Rattle.text.proofs.put_bits.Goals.{then-row_test, else-row_test}
use Rattle.text.proofs.put_bits.Goals as goal

pub loop-call-init : goal.loop-call-init
loop-call-init c = bits_start _ _ _

pub put_part-end-requires : goal.put_part-end-requires
put_part-end-requires c = omega (arith, c.loop-call.invariant.short, c.loop-call-test.true, c.requires)

pub loop-call-preserved : goal.loop-call-preserved
loop-call-preserved c =
    let inv = c.loop-call.invariant in
    let asked = c.row_test.ensures in
    elim c.if-row_test.branch [
      | then-row_test w ↦ rw (w.out-is, w.end-is) (going_set c.args.row _ _ _ _ _ inv _ _ c.loop-call-test.true (sym asked ∙ w.if-row_test.true) (w.put_part-end.ensures.text, w.put_part-end.ensures.end))
      | else-row_test w ↦ rw (w.out-is, w.end-is) (going_clear c.args.row _ _ _ _ _ inv c.loop-call-test.true (sym asked ∙ w.if-row_test.false))
    ]

pub returns : goal.returns
returns c = record { text = (bits_end _ _ _ _ _ _ c.loop-call.invariant c.loop-call-test.false).0; end = (bits_end _ _ _ _ _ _ c.loop-call.invariant c.loop-call-test.false).1 }
