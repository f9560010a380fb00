-- `analysis::gather::with_uses` meets its contract: the uses that stand are taken one after the other.
use Rattle.std.specs.Prelude.{option_map}
use Rattle.analysis.specs.Gathered.{Gathered}
use Rattle.analysis.proofs.GatherLaws.{uses_none, uses_over, uses_one, uses_two}
use Rattle.analysis.proofs.gather.with_uses.Goals as goal

pub returns-then-us-eq0 : goal.returns-then-us-eq0
unfolding Gathered
returns-then-us-eq0 c es more few h e = uses_none es more e c.if-us-eq0.true h

pub returns-in_err-with_use : goal.returns-in_err-with_use
unfolding Gathered
returns-in_err-with_use c es more few h e =
    rw c.from_residual.ensures (uses_over es more e c.if-us-eq0.false (λ a first. c.in_err-with_use.ensures es a h first))

pub returns-then-us-eq1 : goal.returns-then-us-eq1
unfolding Gathered
returns-then-us-eq1 c es more few h e =
    uses_one es more e c.if-us-eq1.true (λ a first. c.in_ok-with_use.ensures es a h first)

pub returns : goal.returns
unfolding Gathered
returns c es more few h e =
    uses_two es more few e c.if-us-eq0.false c.if-us-eq1.false (λ a first. c.in_ok-with_use.ensures es a h first)
    (Gathered (option_map (λ _. c.with_use-2.new.s) c.with_use-2.result)) c.with_use-2.ensures
