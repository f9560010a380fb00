-- `analysis::gather::function_sets` meets its contract: after n instructions the set is that of the entry and of the first n.
use native.Mathlib.Omega.{arith}
use Prim.Native.Nat.{ℕ, ◌+◌, ◌<◌}
use mathlib.Core.List.{List, []}
use mathlib.Core.Path.{◌≡◌, subst}
use lib.ListN.{length}
use Rattle.block.specs.Limits.{max_call_keys}
use Rattle.footprint.proofs.SetAccessLaws.{entry_few, decoded_few}
use Rattle.footprint.specs.Access.{Access, entry_accesses}
use Rattle.footprint.specs.Sets.{merge_all, code_accesses}
use Rattle.analysis.specs.Gathered.{Gathered, Holds}
use Rattle.analysis.proofs.GatherLaws.{first_accesses, next_accesses, walk_more, walk_over}
use Rattle.analysis.proofs.gather.function_sets.Goals as goal

pub returns-in_err-with_uses : goal.returns-in_err-with_uses
unfolding Gathered merge_all code_accesses
returns-in_err-with_uses c =
    let a = c.args in
    rw c.from_residual.ensures
    (walk_over a.c a.size a.code.now 0 (omega arith)
    (c.in_err-with_uses.ensures [] (entry_accesses a.c) (entry_few a.c) c.no_keys-s.ensures c.entry_uses.ensures))

pub loop-index-init : goal.loop-index-init
unfolding Gathered merge_all code_accesses
loop-index-init c =
    let a = c.args in
    c.in_ok-with_uses.ensures [] (entry_accesses a.c) (entry_few a.c) c.no_keys-s.ensures c.entry_uses.ensures

pub returns-in_err-with_uses-2 : goal.returns-in_err-with_uses-2
unfolding Gathered
returns-in_err-with_uses-2 c =
    let a = c.args in
    let l = c.loop-index in
    rw c.from_residual-in_err-with_uses-2.ensures
    (walk_over a.c a.size a.code.now (l.index + 1) (omega arith)
    (subst (λ (es : List Access). max_call_keys < length es) (walk_more a.c a.size a.code.now l.index)
    (c.in_err-with_uses-2.ensures (first_accesses a.c a.size a.code.now l.index) (next_accesses a.c a.size a.code.now l.index)
    (decoded_few _ _) l.invariant c.uses_at.ensures)))

pub loop-index-preserved : goal.loop-index-preserved
unfolding Gathered
loop-index-preserved c =
    let a = c.args in
    let l = c.loop-index in
    subst (Holds _) (walk_more a.c a.size a.code.now l.index)
    (c.in_ok-with_uses-2.ensures (first_accesses a.c a.size a.code.now l.index) (next_accesses a.c a.size a.code.now l.index)
    (decoded_few _ _) l.invariant c.uses_at.ensures)

pub returns : goal.returns
unfolding Gathered
returns c =
    let a = c.args in
    let l = c.loop-index in
    let end : l.index ≡ a.size = omega arith in
    subst (λ (n : ℕ). Holds l.s (first_accesses a.c a.size a.code.now n)) end l.invariant
