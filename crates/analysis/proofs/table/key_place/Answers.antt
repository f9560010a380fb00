-- `table::key_place` meets its contract: the point between the keys below it and the others is its place.
use Rattle.std.proofs.Common.{rules, of_calls}
use Rattle.std.proofs.lemmas.Fn.{always_returns_same}
use Rattle.analysis.proofs.KeyWordLaws.{pair_below, pairs_parted, point_is_place}
use Rattle.analysis.proofs.table.key_place.Goals as goal

pub returns : goal.returns
returns c =
    let a = c.args in
    let found = c.partition_point.ensures in
    let parted = pairs_parted a.n a.keys.now a.high a.low c.requires.sorted c.requires.low_bound _ c.as_chunks.ensures.front in
    let point = found.partitioned (pair_below a.high a.low) (always_returns_same _ _ _ (λ a r f k. search (rules, of_calls))) parted in
    let is = point_is_place a.n a.keys.now a.high a.low c.requires.sorted c.requires.low_bound _ c.as_chunks.ensures.front _ found.bound point in
    record { place = is.0; bound = is.1 }
