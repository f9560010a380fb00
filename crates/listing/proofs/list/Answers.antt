-- `listing::list` meets its contract: what is opened and what is read make the listing; each arm is a clause of its definition.
use Rattle.std.specs.Prelude.{Ok, Err}
use Rattle.reader.specs.declared.Layout.{Layout}
use mathlib.Core.Path.{refl, ap}
use native.Mathlib.Omega.{arith}
use Rattle.listing.proofs.Laws.{all_listed, counts_length, listed, plan_opened, block_read, block_laid, unlisted}
use Rattle.listing.proofs.list.Goals as goal

pub unwrap-l-requires : goal.unwrap-l-requires
unwrap-l-requires c =
    rw (block_read _ _ c.in-Ok.ensures.same c.read_block.ensures) refl

pub rows-requires-clause-plan_in_bounds : goal.rows-requires-clause-plan_in_bounds
rows-requires-clause-plan_in_bounds c =
    omega (arith, plan_opened _ _ c.in-Ok.ensures.same, c.open.auto.plan)

pub rows-requires-clause-from_bound : goal.rows-requires-clause-from_bound
rows-requires-clause-from_bound c =
    let l = c.unwrap-l.result in
    let head = c.in-Ok.head in
    omega (arith, c.counts_line-at.ensures.end, counts_length l.functions l.cells head.calls head.cells)

pub returns-in-Err : goal.returns-in-Err
returns-in-Err c =
    all_listed _ _ _ _ _ _ _ _ _ _ _ (Err c.in-Err.why) c.in-Err.ensures.same refl refl
    (unlisted _ _ _ _ _ _ _ _ _ _ _ c.number_of.ensures c.offset_of.ensures c.block_refused_line.ensures)

pub returns-in-Ok : goal.returns-in-Ok
returns-in-Ok c =
    let laid = block_laid _ _ c.in-Ok.ensures.same c.read_block.ensures c.unwrap-l.ensures in
    all_listed _ _ _ _ _ _ _ _ _ _ _ (Ok c.in-Ok.head) c.in-Ok.ensures.same (ap (λ (l : Layout). l.functions) laid) (ap (λ (l : Layout). l.cells) laid)
    (listed _ _ _ _ _ _ _ _ _ _ _ c.min.ensures c.counts_line-at.ensures c.rows.ensures)
