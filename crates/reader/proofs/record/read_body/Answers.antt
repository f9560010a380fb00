-- `reader::record::read_body` meets its contract: it goes by the kind as the definition does.
use Rattle.block.proofs.ReaderLaws.{function_length_range}
use Rattle.reader.proofs.record.read_body.Goals as goal

pub read_function-requires : goal.read_function-requires
read_function-requires c = ((function_length_range c.args.kind c.args.len c.requires.0 c.in-1.is).0, c.requires.1, c.requires.3)
