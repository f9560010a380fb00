-- `text::put_value_part` meets its contract: the sign, where there is one, and the digits of the magnitude.
use Rattle.text.proofs.Laws.{value_below, value_above}
use Rattle.arith.proofs.Laws.{read, read_back}
use Rattle.text.proofs.put_value_part.Goals as goal

pub returns-then-z-lt0 : goal.returns-then-z-lt0
returns-then-z-lt0 c =
    record { text = (value_below _ _ _ (read c.args.z) _ (read_back c.ranges.z) c.magnitude.ensures _ _ _ _ c.if-z-lt0.true c.put.ensures c.put-then-z-lt0.ensures (c.put_digits.ensures.text, c.put_digits.ensures.end)).0; end = (value_below _ _ _ (read c.args.z) _ (read_back c.ranges.z) c.magnitude.ensures _ _ _ _ c.if-z-lt0.true c.put.ensures c.put-then-z-lt0.ensures (c.put_digits.ensures.text, c.put_digits.ensures.end)).1 }

pub returns : goal.returns
returns c =
    record { text = (value_above _ _ _ (read c.args.z) _ (read_back c.ranges.z) c.magnitude-2.ensures _ _ c.if-z-lt0.false (c.put_part.ensures.text, c.put_part.ensures.end)).0; end = (value_above _ _ _ (read c.args.z) _ (read_back c.ranges.z) c.magnitude-2.ensures _ _ c.if-z-lt0.false (c.put_part.ensures.text, c.put_part.ensures.end)).1 }
