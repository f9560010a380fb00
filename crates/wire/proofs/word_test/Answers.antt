-- `wire::word_test` meets its contract: the masked word is not 0 exactly when the bit is set.
use Rattle.wire.proofs.MaskedBits.{test_by_mask}
use Rattle.wire.proofs.word_test.Goals as goal

pub returns : goal.returns
returns c = test_by_mask c.args.word c.args.i c.mask.ensures
