-- `text::put_two` meets its contract: each part is written behind the one before.
use Rattle.text.proofs.WrittenLaws.{written_letter, written_part}
use Rattle.text.proofs.Laws.{digits_length}
use mathlib.Core.List.{[], ◌∷◌}
use native.Mathlib.Omega.{arith}
use Rattle.text.proofs.put_two.Goals as goal

pub put_part-requires : goal.put_part-requires
put_part-requires c =
    omega (arith, c.put_part-at.ensures.end, digits_length 20 c.args.a, c.requires)

pub returns : goal.returns
returns c =
    written_part _ _ _ _ _ _ _ (_ ∷ []) (written_part _ _ _ _ _ _ _ [] (written_letter _ _ _ _ c.put.ensures) _ (c.put_part-at.ensures.text, c.put_part-at.ensures.end)) _ (c.put_part.ensures.text, c.put_part.ensures.end)
