-- `decoder::part::long` meets its contract: a number of 4 bytes is below 256 ^ 4.
use Rattle.wire.proofs.BytesLaws.{read_lt}
use Rattle.decoder.proofs.part.long.Goals as goal

pub overflow_cast-result : goal.overflow_cast-result
overflow_cast-result c = record { fits = rw c.read_le.ensures (read_lt 4 c.args.s.now (λ i. (c.type_inv.s i).fits) c.args.at) }
