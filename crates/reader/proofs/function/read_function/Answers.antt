-- `reader::function::read_function` meets its contract: each way through it is the definition's.
use mathlib.Core.Path.{ap, ◌∙◌}
use Prim.Native.Nat.{ℕ}
use native.Mathlib.Omega.{arith}
use Rattle.decoder.proofs.Laws.{address_read}
use Rattle.block.proofs.KeyLaws.{account_below, contract_above}
use Rattle.block.specs.Record.{id_of}
use Rattle.reader.proofs.Steps.{function_limit_lem, function_field, function_code_refused, function_rising, function_more}
use Rattle.reader.proofs.function.read_function.Goals as goal

pub returns-then-p-ge-MAX_FUNCTIONS : goal.returns-then-p-ge-MAX_FUNCTIONS
returns-then-p-ge-MAX_FUNCTIONS c = λ b h. function_limit_lem c.args.p b h c.args.len c.args.body.now c.if-p-ge-MAX_FUNCTIONS.true

pub returns-in_default : goal.returns-in_default
returns-in_default c =
    let low = account_below _ _ (address_read c.address_of.ensures c.short.ensures c.in_default.is) in
    λ b h. function_field c.args.p b h c.args.len c.args.body.now c.if-p-ge-MAX_FUNCTIONS.false low.0 low.1

pub returns-in-Some : goal.returns-in-Some
returns-in-Some c =
    let high = contract_above _ _ (address_read c.address_of.ensures c.short.ensures c.in-OfContract.is) in
    λ b h. function_code_refused c.args.p b h c.args.len c.args.body.now c.if-p-ge-MAX_FUNCTIONS.false high.0 high.1 c.in-Some.ensures.first c.in-Some.ensures.within

pub returns-then-id-p : goal.returns-then-id-p
returns-then-id-p c =
    let high = contract_above _ _ (address_read c.address_of.ensures c.short.ensures c.in-OfContract.is) in
    λ b h. function_rising c.args.p b h c.args.len c.args.body.now c.if-p-ge-MAX_FUNCTIONS.false high.0 high.1 c.in_default-first_invalid.ensures.first (omega arith) (c.id_of-id.ensures ∙ ap (λ (n : ℕ). id_of c.in-OfContract.contract n) c.short-2.ensures) c.if-id-p.true

pub returns : goal.returns
returns c =
    let high = contract_above _ _ (address_read c.address_of.ensures c.short.ensures c.in-OfContract.is) in
    λ b h. function_more c.args.p b h c.args.len c.args.body.now c.if-p-ge-MAX_FUNCTIONS.false high.0 high.1 c.in_default-first_invalid.ensures.first (omega arith) (c.id_of-id.ensures ∙ ap (λ (n : ℕ). id_of c.in-OfContract.contract n) c.short-2.ensures) c.if-id-p.false
