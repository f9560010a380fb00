-- `analysis::collect::cell_high` meets its contract: address, field and a are the high word of a key.
use Rattle.analysis.proofs.OpeningKeyLaws.{cell_high}
use native.Mathlib.Omega.{arith}
use Rattle.decoder.proofs.Laws.{high_named}
use Rattle.analysis.proofs.collect.cell_high.Goals as goal

pub returns : goal.returns
returns c =
    let a = c.args in
    cell_high a.file.now a.at c.from-s.ensures (λ i. omega (arith, c.shared_slice_known-1.given i)) c.short.ensures c.short-2.ensures c.long.ensures
    (high_named c.short.result c.short-2.result c.long.result c.address_of.ensures c.high_of.ensures)
