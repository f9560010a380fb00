-- `decoder::part::short` meets its contract: a number of 2 bytes is below 256 ^ 2.
use Rattle.wire.proofs.BytesLaws.{read_lt}
use Rattle.decoder.proofs.part.short.Goals as goal

pub overflow_cast-result : goal.overflow_cast-result
overflow_cast-result c = record { fits = rw c.read_le.ensures (read_lt 2 c.args.s.now (λ i. (c.type_inv.s i).fits) c.args.at) }
