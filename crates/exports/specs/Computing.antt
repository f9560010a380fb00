-- Names every definition of this crate that computes, so that a worked example opens them all by one name.
use Rattle.sheet.specs.Computing as sheet
use Rattle.exports.specs.Words.{held_in, held_stored}
use Rattle.exports.specs.Exports.{size_of, opening_for, move_for, serial_move, length_after, sheet_for}

unfoldable pub computing : Unit {0}
unfolding sheet.computing held_in held_stored size_of opening_for move_for serial_move length_after sheet_for
computing = tt
