-- Names every definition of this crate that computes, so that a worked example opens them all by one name.
use Rattle.arith.specs.Balance.{total, none_below_zero}
use Rattle.arith.specs.Exact.{checked, floor_by, div_of, signed, unsigned}

unfoldable pub computing : Unit {0}
unfolding total none_below_zero checked floor_by div_of signed unsigned
computing = tt
