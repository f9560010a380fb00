-- `text::put_four` meets its contract: each part is written behind the one before.
use Rattle.text.proofs.WrittenLaws.{written_part}
use Rattle.text.proofs.Laws.{spaced_length, digits_length}
use mathlib.Core.List.{[], ◌∷◌}
use native.Mathlib.Omega.{arith}
use Rattle.text.proofs.put_four.Goals as goal

pub put_part-three-requires : goal.put_part-three-requires
put_part-three-requires c =
    omega (arith, c.requires, c.put_two-two.ensures.end, spaced_length (c.args.a ∷ c.args.b ∷ []))

pub put_part-requires : goal.put_part-requires
put_part-requires c =
    omega (arith, c.requires, c.put_two-two.ensures.end, spaced_length (c.args.a ∷ c.args.b ∷ []), c.put_part-three.ensures.end, digits_length 20 c.args.c)

pub returns : goal.returns
returns c =
    written_part _ _ _ _ _ _ _ (_ ∷ _ ∷ _ ∷ []) (written_part _ _ _ _ _ _ _ (_ ∷ _ ∷ []) c.put_two-two.ensures _ (c.put_part-three.ensures.text, c.put_part-three.ensures.end)) _ (c.put_part.ensures.text, c.put_part.ensures.end)
