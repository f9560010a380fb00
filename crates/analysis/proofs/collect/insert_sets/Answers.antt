-- `analysis::collect::insert_sets` meets its contract: what the keys that are left lead to, all of them lead to.
use native.Mathlib.Omega.{arith}
use Rattle.analysis.proofs.CallLaws.{filling_full, filling_more, filling_end}
use Rattle.analysis.proofs.collect.insert_sets.Goals as goal

pub returns-then-count-gt-MAX_KEYS : goal.returns-then-count-gt-MAX_KEYS
returns-then-count-gt-MAX_KEYS c =
    let g = c.loop-key in
    filling_full c.args.n c.args.keys.now c.args.s.now g.keys g.count g.key-index g.invariant (omega arith) _ _ c.key_insert-count.ensures c.if-count-gt-MAX_KEYS.true

pub loop-key-preserved : goal.loop-key-preserved
loop-key-preserved c =
    let g = c.loop-key in
    filling_more c.args.n c.args.keys.now c.args.s.now g.keys g.count g.key-index g.invariant (omega arith) _ _ c.key_insert-count.ensures c.if-count-gt-MAX_KEYS.false

pub returns : goal.returns
returns c =
    let g = c.loop-key in
    filling_end c.args.n c.args.keys.now c.args.s.now g.keys g.count g.key-index g.invariant (omega arith)
