-- `wire::mask` meets its contract: 1 shifted by less than 64 loses no bit.
use Rattle.wire.proofs.MaskedBits.{mask_is}
use Rattle.wire.proofs.mask.Goals as goal

pub returns : goal.returns
returns c = mask_is c.args.i
