-- `reader::record::read_call` meets its contract: each way through it is the definition's.
use mathlib.Core.Path.{sym, ◌∙◌}
use Rattle.reader.proofs.Steps.{call_limit_lem, call_field, call_unfuelled, call_more}
use Rattle.reader.proofs.record.read_call.Goals as goal

pub returns-then-p-ge-MAX_CALLS : goal.returns-then-p-ge-MAX_CALLS
returns-then-p-ge-MAX_CALLS c = λ b h. call_limit_lem c.args.p b h c.args.len c.args.body.now c.if-p-ge-MAX_CALLS.true

pub returns-in_default : goal.returns-in_default
returns-in_default c =
    λ b h. call_field c.args.p b h c.args.len c.args.body.now c.if-p-ge-MAX_CALLS.false (sym c.call_at.ensures ∙ c.in_default.is)

pub returns-then-c-eq0 : goal.returns-then-c-eq0
returns-then-c-eq0 c =
    λ b h. call_unfuelled c.args.p b h c.args.len c.args.body.now c.if-p-ge-MAX_CALLS.false _ (sym c.call_at.ensures ∙ c.in-Some.is) c.if-c-eq0.true

pub returns : goal.returns
returns c =
    λ b h. call_more c.args.p b h c.args.len c.args.body.now c.if-p-ge-MAX_CALLS.false _ (sym c.call_at.ensures ∙ c.in-Some.is) c.if-c-eq0.false
