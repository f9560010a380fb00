-- `analysis::prepare_laid` meets its contract: the analysis refuses with the keys zero, or leaves the table that the plan and the values are made by.
use mathlib.Core.Path.{ap, ◌∙◌}
use Prim.Native.Nat.{ℕ}
use Rattle.wire.specs.Bytes.{repeated}
use Rattle.analysis.proofs.PrepareLaws.{opened_keys, laid_holding, laid_refused, laid_accepted}
use Rattle.analysis.proofs.TableWords.{tabled_sorted}
use Rattle.analysis.proofs.prepare_laid.Goals as goal

pub call_keys-requires : goal.call_keys-requires
call_keys-requires c =
    let o = c.opening_keys in
    let ready = opened_keys c.args.file.now c.args.keys.now o.new.keys c.args.l c.requires.layout_of_block c.requires.blank o.auto.keys o.ensures in
    record { layout_of_block = ready.0; max_keys_in_bounds = ready.1.0; keys_value = ready.1.1 }

pub opening_values-requires : goal.opening_values-requires
opening_values-requires c =
    let b = c.requires.blank in
    let o = c.opening_keys in
    let k = c.call_keys in
    let held = laid_holding c.args.file.now c.args.l c.requires.layout_of_block c.args.plan.now c.args.keys.now c.args.values.now b o.new.keys o.auto.keys k.new.keys _ c.in-Ok.ensures in
    record { layout_of_block = c.requires.layout_of_block; table_of = held.table; sorted = tabled_sorted _ _ held.tabled; max_keys_in_bounds = b.cells_room; values_value = b.values_zero }

pub plan_calls-requires : goal.plan_calls-requires
plan_calls-requires c =
    let b = c.requires.blank in
    let o = c.opening_keys in
    let k = c.call_keys in
    let held = laid_holding c.args.file.now c.args.l c.requires.layout_of_block c.args.plan.now c.args.keys.now c.args.values.now b o.new.keys o.auto.keys k.new.keys _ c.in-Ok.ensures in
    record { layout_of_block = c.requires.layout_of_block; table_of = held.table; sorted = tabled_sorted _ _ held.tabled; plan_words_in_bounds = b.plan_room; plan_value = b.plan_zero }

pub returns-in-Err : goal.returns-in-Err
returns-in-Err c =
    let b = c.requires.blank in
    let o = c.opening_keys in
    let k = c.call_keys in
    laid_refused c.args.file.now c.args.l c.requires.layout_of_block c.args.plan.now c.args.keys.now c.args.values.now b o.new.keys o.auto.keys k.new.keys _ _ c.in-Err.ensures (c.clear.ensures ∙ ap (λ (n : ℕ). repeated n 0) (k.auto.keys ∙ o.auto.keys))

pub returns-in-Ok : goal.returns-in-Ok
returns-in-Ok c =
    let b = c.requires.blank in
    let o = c.opening_keys in
    let k = c.call_keys in
    laid_accepted c.args.file.now c.args.l c.requires.layout_of_block c.args.plan.now c.args.keys.now c.args.values.now b o.new.keys o.auto.keys k.new.keys _ c.in-Ok.ensures _ _ c.plan_calls.ensures c.opening_values.ensures
