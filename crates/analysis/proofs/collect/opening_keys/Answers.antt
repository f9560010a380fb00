-- `analysis::collect::opening_keys` meets its contract: after i cells the buffer holds the first i keys of the opening.
use native.Mathlib.Omega.{arith}
use mathlib.Core.Path.{refl}
use Prim.Native.Nat.{◌+◌, ◌*◌, ◌≤◌, ◌<◌}
use lib.ListN.{length, length-set}
use Rattle.block.specs.Limits.{max_bytes, max_keys}
use Rattle.analysis.proofs.OpeningKeyLaws.{keys_opened_none, opened_inside, keys_opened_more, keys_opened_all}
use Rattle.analysis.proofs.collect.opening_keys.Goals.{In-loop-i}
use Rattle.analysis.proofs.collect.opening_keys.Goals as goal

-- A cell lies within the file, and its key's words within the buffer.
inside : (c : In-loop-i)
    → (c.args.l.opening + 24 * c.loop-i.i + 4 ≤ max_bytes) × (c.loop-i.i < max_keys) × (2 * c.loop-i.i + 2 ≤ length c.loop-i.keys)
inside c =
    let g = c.loop-i in
    opened_inside c.args.file.now c.args.l c.requires.layout_of_block c.args.keys.now c.requires.max_keys_in_bounds g.keys g.i g.invariant c.loop-i-test.true

pub loop-i-init : goal.loop-i-init
loop-i-init c =
    keys_opened_none c.args.file.now c.args.keys.now c.requires.keys_value

pub overflow_mul-at : goal.overflow_mul-at
overflow_mul-at c = omega (arith, inside (goal.at.overflow_mul-at c).In-loop-i)

pub overflow_add-at-in-loop-i : goal.overflow_add-at-in-loop-i
overflow_add-at-in-loop-i c = omega (arith, inside (goal.at.overflow_add-at-in-loop-i c).In-loop-i)

pub overflow_add-at-in-loop-i-2 : goal.overflow_add-at-in-loop-i-2
overflow_add-at-in-loop-i-2 c = omega (arith, inside (goal.at.overflow_add-at-in-loop-i-2 c).In-loop-i)

pub overflow_mul-keys : goal.overflow_mul-keys
overflow_mul-keys c = omega (arith, inside (goal.at.overflow_mul-keys c).In-loop-i)

pub offset_bounds-keys-i : goal.offset_bounds-keys-i
offset_bounds-keys-i c = omega (arith, inside (goal.at.offset_bounds-keys-i c).In-loop-i)

pub bounds-keys-i : goal.bounds-keys-i
bounds-keys-i c = omega (arith, inside (goal.at.bounds-keys-i c).In-loop-i)

pub overflow_mul-keys-in-loop-i : goal.overflow_mul-keys-in-loop-i
overflow_mul-keys-in-loop-i c = omega (arith, inside (goal.at.overflow_mul-keys-in-loop-i c).In-loop-i)

pub overflow_add-keys : goal.overflow_add-keys
overflow_add-keys c = omega (arith, inside (goal.at.overflow_add-keys c).In-loop-i)

pub offset_bounds-keys-i-in-loop-i : goal.offset_bounds-keys-i-in-loop-i
offset_bounds-keys-i-in-loop-i c = omega (arith, inside (goal.at.offset_bounds-keys-i-in-loop-i c).In-loop-i)

pub bounds-keys-i-in-loop-i : goal.bounds-keys-i-in-loop-i
bounds-keys-i-in-loop-i c = simp length-set (omega (arith, inside (goal.at.bounds-keys-i-in-loop-i c).In-loop-i))

pub loop-i-preserved : goal.loop-i-preserved
loop-i-preserved c =
    let g = c.loop-i in
    keys_opened_more c.args.file.now c.args.l c.requires.layout_of_block c.args.keys.now c.requires.max_keys_in_bounds g.keys g.i g.invariant c.loop-i-test.true refl c.cell_high.ensures c.cell_low.ensures

pub returns : goal.returns
returns c =
    let g = c.loop-i in
    keys_opened_all c.args.file.now c.args.l c.requires.layout_of_block c.args.keys.now c.requires.max_keys_in_bounds g.keys g.i g.invariant c.loop-i-test.false
