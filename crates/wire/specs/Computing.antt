-- Names every definition of this crate that computes, so that a worked example opens them all by one name.
use mathlib.Core.List.{flatten, sum}
use Rattle.wire.specs.Bytes.{number, bytes_of, stored, repeated, below}
use Rattle.wire.specs.Decimal.{digits_of, signed_decimal, parts}
use Rattle.wire.specs.RowOps.{row_from, with_bit, union_of, first_of, count_of}
use Rattle.wire.specs.Rows.{word_of, row_of, in_row}
use Rattle.arith.specs.Computing as arith

unfoldable pub computing : Unit {0}
unfolding arith.computing number bytes_of stored flatten sum repeated below digits_of signed_decimal parts row_from with_bit union_of first_of count_of word_of row_of in_row
computing = tt
