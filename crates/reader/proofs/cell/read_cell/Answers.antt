-- `reader::cell::read_cell` meets its contract: each way through it is the definition's.
use native.Mathlib.Omega.{arith}
use mathlib.Core.Path.{sym, ap, ◌∙◌}
use Rattle.decoder.proofs.Laws.{high_named}
use Rattle.block.specs.Key.{key_allowed}
use Rattle.block.specs.declared.address.Address.{Address}
use Rattle.reader.proofs.Steps.{cell_limit_lem, cell_key_refused, cell_value, balance_bits, cell_rising, cell_sum, cell_more}
use Rattle.reader.proofs.cell.read_cell.Goals as goal

pub returns-then-p-ge-MAX_CELLS : goal.returns-then-p-ge-MAX_CELLS
returns-then-p-ge-MAX_CELLS c = λ b h. cell_limit_lem c.args.p b h c.args.len c.args.body.now c.if-p-ge-MAX_CELLS.true

pub returns-then-not-key_allowed : goal.returns-then-not-key_allowed
returns-then-not-key_allowed c =
    λ b h. cell_key_refused c.args.p b h c.args.len c.args.body.now c.if-p-ge-MAX_CELLS.false c.short.ensures c.short-field.ensures c.long-a.ensures c.long-b.ensures c.read_le-bits.ensures (sym (c.key_allowed.ensures ∙ ap (λ (x : Address). key_allowed x c.short-field.result c.long-a.result c.long-b.result) c.address_of-address.ensures) ∙ c.if-not-key_allowed.true)

pub returns-then-not-value_allowed : goal.returns-then-not-value_allowed
returns-then-not-value_allowed c =
    λ b h. cell_value c.args.p b h c.args.len c.args.body.now c.if-p-ge-MAX_CELLS.false c.short.ensures c.short-field.ensures c.long-a.ensures c.long-b.ensures c.read_le-bits.ensures (sym (c.key_allowed.ensures ∙ ap (λ (x : Address). key_allowed x c.short-field.result c.long-a.result c.long-b.result) c.address_of-address.ensures) ∙ c.if-not-key_allowed.false) (sym c.value_allowed.ensures ∙ c.if-not-value_allowed.true)

pub returns-then-not-rises : goal.returns-then-not-rises
returns-then-not-rises c =
    λ b h. cell_rising c.args.p b h c.args.len c.args.body.now c.if-p-ge-MAX_CELLS.false c.short.ensures c.short-field.ensures c.long-a.ensures c.long-b.ensures c.read_le-bits.ensures (sym (c.key_allowed.ensures ∙ ap (λ (x : Address). key_allowed x c.short-field.result c.long-a.result c.long-b.result) c.address_of-address.ensures) ∙ c.if-not-key_allowed.false) (sym c.value_allowed.ensures ∙ c.if-not-value_allowed.false) (high_named c.short.result c.short-field.result c.long-a.result c.address_of-address.ensures c.high_of-high.ensures) (sym c.rises.ensures ∙ c.if-not-rises.true)

pub sum_with-sum-requires : goal.sum_with-sum-requires
sum_with-sum-requires c =
    (omega arith, balance_bits c.short-field.result c.read_le-bits.result (sym c.value_allowed.ensures ∙ c.if-not-value_allowed.false))

pub returns-then-sum-gt-LARGEST_SUM : goal.returns-then-sum-gt-LARGEST_SUM
returns-then-sum-gt-LARGEST_SUM c =
    λ b h. cell_sum c.args.p b h c.args.len c.args.body.now c.if-p-ge-MAX_CELLS.false c.short.ensures c.short-field.ensures c.long-a.ensures c.long-b.ensures c.read_le-bits.ensures (sym (c.key_allowed.ensures ∙ ap (λ (x : Address). key_allowed x c.short-field.result c.long-a.result c.long-b.result) c.address_of-address.ensures) ∙ c.if-not-key_allowed.false) (sym c.value_allowed.ensures ∙ c.if-not-value_allowed.false) (high_named c.short.result c.short-field.result c.long-a.result c.address_of-address.ensures c.high_of-high.ensures) (sym c.rises.ensures ∙ c.if-not-rises.false) c.short-field.type_inv c.long-a.type_inv c.long-b.type_inv c.sum_with-sum.ensures c.if-sum-gt-LARGEST_SUM.true

pub returns : goal.returns
returns c =
    λ b h. cell_more c.args.p b h c.args.len c.args.body.now c.if-p-ge-MAX_CELLS.false c.short.ensures c.short-field.ensures c.long-a.ensures c.long-b.ensures c.read_le-bits.ensures (sym (c.key_allowed.ensures ∙ ap (λ (x : Address). key_allowed x c.short-field.result c.long-a.result c.long-b.result) c.address_of-address.ensures) ∙ c.if-not-key_allowed.false) (sym c.value_allowed.ensures ∙ c.if-not-value_allowed.false) (high_named c.short.result c.short-field.result c.long-a.result c.address_of-address.ensures c.high_of-high.ensures) (sym c.rises.ensures ∙ c.if-not-rises.false) c.short-field.type_inv c.long-a.type_inv c.long-b.type_inv c.sum_with-sum.ensures c.if-sum-gt-LARGEST_SUM.false
