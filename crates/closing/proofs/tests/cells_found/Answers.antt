-- `closing::tests::cells_found` meets its contract: cell by cell, no balance so far is below zero, and the records are counted.
use native.Mathlib.Omega.{arith}
use mathlib.Core.Path.{sym, ap, ap₂, ◌∙◌}
use mathlib.Core.Bool.{◌||◌, not}
use Prim.Native.Nat.{ℕ, ◌/◌, ◌%◌, ◌^◌}
use lib.Dec.{eqb}
use lib.IntN.{ℤ}
use lib.Signed.{non_neg}
use mir.Syntax.{w64}
use Rattle.arith.specs.Exact.{unsigned}
use Rattle.arith.proofs.IntegerLaws.{unsigned_of_z}
use Rattle.arith.proofs.Laws.{read_back}
use Rattle.closing.proofs.Finding.{looked_few, looked_none, looked_zero, looked_one, looked_below}
use Rattle.closing.proofs.tests.cells_found.Goals as goal
use Rattle.closing.proofs.tests.cells_found.Goals.{then-value-ne0, else-value-ne0}

pub loop-n-init : goal.loop-n-init
loop-n-init c = looked_none c.args.keys.now c.args.cells.now c.args.count

pub returns-then-not-balance_allowed : goal.returns-then-not-balance_allowed
returns-then-not-balance_allowed c =
    looked_below c.args.keys.now c.args.cells.now c.args.count _ _ c.loop-n.invariant c.loop-n-test.true
    (sym (c.balance_allowed.ensures ∙ ap₂ (λ (h : ℕ) (z : ℤ). not (eqb (h / 2 ^ 32 % 2 ^ 16) 0) || non_neg z) c.get_or-high.ensures (read_back {z = c.get_or-value.result} (record { sfits = c.get_or-value.type_inv }) ∙ c.get_or-value.ensures)) ∙ c.if-not-balance_allowed.true)

pub overflow_add-records : goal.overflow_add-records
overflow_add-records c = omega (arith, looked_few c.args.keys.now c.args.cells.now c.args.count _ _ c.loop-n.invariant)

pub loop-n-preserved : goal.loop-n-preserved
loop-n-preserved c =
    let bits = sym (unsigned_of_z w64 c.get_or-value.result) ∙ ap (unsigned 64) c.get_or-value.ensures in
    let allowed = sym (c.balance_allowed.ensures ∙ ap₂ (λ (h : ℕ) (z : ℤ). not (eqb (h / 2 ^ 32 % 2 ^ 16) 0) || non_neg z) c.get_or-high.ensures (read_back {z = c.get_or-value.result} (record { sfits = c.get_or-value.type_inv }) ∙ c.get_or-value.ensures)) ∙ c.if-not-balance_allowed.false in
    elim c.if-value-ne0.branch [
      | then-value-ne0 w ↦ looked_one c.args.keys.now c.args.cells.now c.args.count _ _ c.loop-n.invariant c.loop-n-test.true allowed bits w.if-value-ne0.true w.records-is
      | else-value-ne0 w ↦ looked_zero c.args.keys.now c.args.cells.now c.args.count _ _ c.loop-n.invariant c.loop-n-test.true allowed bits w.if-value-ne0.false w.records-is
    ]
