-- `text::put_digits` meets its contract: the last digit stands behind those of the tenth part.
use Prim.Native.Nat.{◌-◌, ◌/◌}
use native.Mathlib.Omega.{arith}
use Rattle.text.proofs.Laws.{digits_length, put_none, put_one, put_more}
use Rattle.text.proofs.+put_digits.Goals as goal

pub returns-then-left-eq0 : goal.returns-then-left-eq0
returns-then-left-eq0 t c =
    let a = c.args in
    let both = put_none a.out.now a.at a.left a.n c.if-left-eq0.true in
    record { text = both.0; end = both.1 }

pub returns-then-n-lt10 : goal.returns-then-n-lt10
returns-then-n-lt10 t c =
    let both = put_one _ _ _ _ c.if-left-eq0.false _ _ c.if-n-lt10.true c.digit.ensures c.put.ensures in
    record { text = both.0; end = both.1 }

pub overflow_add-result-2 : goal.overflow_add-result-2
overflow_add-result-2 t c =
    omega (arith, c.put_digits-next.ensures.end, digits_length (c.args.left - 1) (c.args.n / 10))

pub returns : goal.returns
returns t c =
    let both = put_more _ _ _ _ c.if-left-eq0.false _ _ _ _ c.if-n-lt10.false (c.put_digits-next.ensures.text, c.put_digits-next.ensures.end) c.digit-2.ensures c.put-2.ensures in
    record { text = both.0; end = both.1 }
