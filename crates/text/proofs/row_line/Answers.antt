-- `text::row_line` meets its contract: the call, its bits, and the end of the line behind them.
use Rattle.text.proofs.WrittenLaws.{written_letter, written_part, written_parts, written_end}
use Rattle.text.proofs.Bits.{bits_length}
use Rattle.text.proofs.Laws.{digits_length}
use mathlib.Core.List.{[], ◌∷◌}
use native.Mathlib.Omega.{arith}
use Rattle.text.proofs.row_line.Goals as goal

pub put_bits-at-requires : goal.put_bits-at-requires
put_bits-at-requires c =
    omega (arith, c.put_part-first.ensures.end, digits_length 20 c.args.call, c.ranges.from.fits)

pub put_end-requires : goal.put_end-requires
put_end-requires c =
    omega (arith, c.put_part-first.ensures.end, digits_length 20 c.args.call, c.put_bits-at.ensures.end, bits_length c.args.row, c.ranges.from.fits)

pub returns : goal.returns
returns c =
    written_end _ _ _ _ _ _ _ (_ ∷ _) (written_parts _ _ _ _ _ _ _ (_ ∷ []) (written_part _ _ _ _ _ _ _ [] (written_letter _ _ _ _ c.put.ensures) _ (c.put_part-first.ensures.text, c.put_part-first.ensures.end)) _ (c.put_bits-at.ensures.text, c.put_bits-at.ensures.end)) (c.put_end.ensures.text, c.put_end.ensures.end)
