-- `wire::count_within` meets its contract: the bits of the words that the loop has passed, and behind it those of the word that n ends in.
use native.Mathlib.Omega.{arith}
use Prim.Native.Nat.{ℕ, ◌*◌, ◌/◌, ◌%◌, ◌≤◌}
use mathlib.Core.Path.{◌≡◌, refl, sym, ap, ◌∙◌}
use lib.Count.{ones, ones-le}
use lib.ListN.{get_or}
use Rattle.wire.specs.Rows.{in_row}
use Rattle.wire.specs.RowOps.{count_of}
use Rattle.wire.proofs.CountLaws.{count_most, part_few, row_whole, row_last}
use Rattle.wire.proofs.count_within.Goals as goal

pub loop-w-init : goal.loop-w-init
unfolding count_of
loop-w-init c = refl

pub overflow_add-count : goal.overflow_add-count
overflow_add-count c =
    let few : ones (get_or c.args.row c.loop-w.w 0) ≤ 64 = ones-le 64 (get_or c.args.row c.loop-w.w 0) c.loop-w-test.element_fits.fits in
    omega (arith, c.from-count.ensures, c.loop-w.invariant, c.loop-w-test.true, count_most (in_row c.args.row) (64 * c.loop-w.w))

pub loop-w-preserved : goal.loop-w-preserved
loop-w-preserved c = row_whole c.args.row c.loop-w.w c.loop-w-test.element_fits.fits c.loop-w.invariant c.from-count.ensures

pub overflow_add-result : goal.overflow_add-result
overflow_add-result c =
    let few = part_few (get_or c.args.row (c.args.n / 64) 0) c.args.n c.mask.ensures in
    omega (arith, c.from.ensures, c.loop-w.invariant, count_most (in_row c.args.row) (64 * c.loop-w.w))

pub returns : goal.returns
returns c =
    let all : c.loop-w.w ≡ c.args.n / 64 = omega arith in
    row_last c.args.row c.args.n c.loop-w.w all c.loop-w.invariant c.mask.ensures (c.from.ensures ∙ ap (λ (k : ℕ). ones (get_or c.args.row k 0 % c.mask.result)) (sym all))
