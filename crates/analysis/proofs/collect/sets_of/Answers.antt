-- `analysis::collect::sets_of` meets its contract: an unknown function has no keys, and any other is walked.
use mathlib.Core.Path.{subst}
use Rattle.analysis.specs.Gathered.{Gathered, Holds}
use Rattle.analysis.proofs.CollectLaws.{set_none, set_some}
use Rattle.analysis.proofs.collect.sets_of.Goals as goal

pub returns-then-code-eq0 : goal.returns-then-code-eq0
unfolding Gathered
returns-then-code-eq0 c =
    let a = c.args in
    subst (Holds c.no_keys.result) (set_none a.file.now a.code a.c c.if-code-eq0.true) c.no_keys.ensures

pub returns : goal.returns
returns c =
    let a = c.args in
    subst (Gathered c.function_sets.result) (set_some a.file.now a.code a.c c.if-code-eq0.false c.code_at.ensures) c.function_sets.ensures
