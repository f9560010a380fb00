-- `analysis::gather::with_use` meets its contract: a use joins that of its key, or its key is a new one.
use native.Mathlib.Omega.{arith}
use mathlib.Core.Path.{sym, ◌∙◌}
use Rattle.analysis.specs.Gathered.{Gathered}
use Rattle.analysis.proofs.GatheredLaws.{use_joins, use_joined, new_count, new_keys}
use Rattle.analysis.proofs.gather.with_use.Goals as goal

pub returns-in-Some : goal.returns-in-Some
unfolding Gathered
returns-in-Some c es a h e =
    let found = sym c.in-Some.is ∙ c.place.ensures in
    record { count = use_joined c.args.s.now es a h e c.in-Some.at found; keys = use_joins c.args.s.now es a h e c.in-Some.at found }

pub returns-then-s-eq-MAX_CALL_KEYS : goal.returns-then-s-eq-MAX_CALL_KEYS
unfolding Gathered
returns-then-s-eq-MAX_CALL_KEYS c es a h e =
    omega (arith, new_count c.args.s.now es a h e (sym c.in_default.is ∙ c.place.ensures), c.if-s-eq-MAX_CALL_KEYS.true)

pub returns : goal.returns
unfolding Gathered
returns c es a h e =
    let none = sym c.in_default.is ∙ c.place.ensures in
    record { count = new_count c.args.s.now es a h e none; keys = new_keys c.args.s.now es a h e none (omega arith) }
