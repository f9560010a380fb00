-- `analysis::collect::call_keys` meets its contract: after j calls the analysis goes on from the table in the buffer.
use native.Mathlib.Omega.{arith}
use mathlib.Core.Path.{◌≡◌, refl}
use mathlib.Core.List.{List}
use Prim.Native.Nat.{◌+◌, ◌*◌, ◌≤◌, ◌<◌}
use lib.ListN.{length}
use Rattle.block.specs.Limits.{max_bytes}
use Rattle.block.specs.Record.{call_record_bytes}
use Rattle.block.specs.BlockOfFile.{block_of}
use Rattle.std.specs.Prelude.{Option, Some}
use Rattle.footprint.specs.Access.{Access}
use Rattle.analysis.specs.declared.Sets.{Sets}
use Rattle.analysis.specs.Gathered.{Gathered, Holds}
use Rattle.analysis.proofs.CallLaws.{collecting_start, going_place, set_words, going_over, going_full, collecting_more, collecting_end, going_refused}
use Rattle.analysis.proofs.collect.call_keys.Goals.{In-loop-call}
use Rattle.analysis.proofs.collect.call_keys.Goals as goal

-- A call's record lies within the file.
inside : (c : In-loop-call)
    → (c.args.l.first_call + call_record_bytes * c.loop-call.call + 4 ≤ max_bytes) × (c.loop-call.call < length (block_of c.args.file.now).calls)
inside c =
    let g = c.loop-call in
    going_place c.args.file.now c.args.l c.requires.layout_of_block c.args.keys.now g.keys g.n g.call g.invariant c.loop-call-test.true

pub loop-call-init : goal.loop-call-init
loop-call-init c =
    collecting_start c.args.file.now c.args.l c.requires.layout_of_block c.args.keys.now c.requires.max_keys_in_bounds c.requires.keys_value

pub overflow_mul-at : goal.overflow_mul-at
overflow_mul-at c = omega (arith, inside (goal.at.overflow_mul-at c).In-loop-call)

pub overflow_add-at : goal.overflow_add-at
overflow_add-at c = omega (arith, inside (goal.at.overflow_add-at c).In-loop-call)

pub call_sets-requires-clause-call_in_bounds : goal.call_sets-requires-clause-call_in_bounds
call_sets-requires-clause-call_in_bounds c = (inside (goal.at.call_sets-requires-clause-call_in_bounds c).In-loop-call).1

pub returns-in_err-s : goal.returns-in_err-s
unfolding Gathered
returns-in_err-s c =
    let g = c.loop-call in
    let h = (inside (goal.at.returns-in_err-s c).In-loop-call).1 in
    let over = rw c.in_err-s.ensures.ok_part at c.call_sets.ensures in
    going_refused c.args.file.now _ g.keys c.from_residual.result c.call_sets.result c.from_residual.ensures.1 c.in_err-s.ensures.value
    (going_over c.args.file.now c.args.l c.requires.layout_of_block c.args.keys.now g.keys g.n g.call g.invariant h _ refl over)

-- The set that a call has.
held : (o : Option Sets) {s : Sets} {es : List Access} → o ≡ Some s → Gathered o es → Holds s es
unfolding Gathered
held o e g = rw e at g

pub insert_sets-requires-clause-worded : goal.insert_sets-requires-clause-worded
insert_sets-requires-clause-worded c =
    let g = c.loop-call in
    let h = (inside (goal.at.insert_sets-requires-clause-worded c).In-loop-call).1 in
    set_words c.args.file.now c.args.l c.requires.layout_of_block c.args.keys.now g.keys g.n g.call g.invariant h _ (held c.call_sets.result c.in_ok-s.ensures.ok_part c.call_sets.ensures)

pub returns-in_err-n : goal.returns-in_err-n
returns-in_err-n c =
    let g = c.loop-call in
    let h = (inside (goal.at.returns-in_err-n c).In-loop-call).1 in
    going_refused c.args.file.now _ c.insert_sets.new.keys c.from_residual-in_err-n.result c.insert_sets.result c.from_residual-in_err-n.ensures.1 c.in_err-n.ensures.value
    (going_full c.args.file.now c.args.l c.requires.layout_of_block c.args.keys.now g.keys g.n g.call g.invariant h _ (held c.call_sets.result c.in_ok-s.ensures.ok_part c.call_sets.ensures) _ _ c.insert_sets.ensures _ refl c.in_err-n.ensures.ok_part)

pub loop-call-preserved : goal.loop-call-preserved
loop-call-preserved c =
    let g = c.loop-call in
    let h = (inside (goal.at.loop-call-preserved c).In-loop-call).1 in
    collecting_more c.args.file.now c.args.l c.requires.layout_of_block c.args.keys.now g.keys g.n g.call g.invariant h _ (held c.call_sets.result c.in_ok-s.ensures.ok_part c.call_sets.ensures) _ _ c.insert_sets.ensures c.in_ok-n.ensures.ok_part

pub returns : goal.returns
returns c =
    let g = c.loop-call in
    collecting_end c.args.file.now c.args.l c.requires.layout_of_block c.args.keys.now g.keys g.n g.call g.invariant c.loop-call-test.false
