-- `text::put_part` meets its contract: the digits stand behind the space.
use Rattle.text.proofs.Laws.{put_before}
use Rattle.text.proofs.put_part.Goals as goal

pub returns : goal.returns
returns c =
    record { text = (put_before _ _ _ _ _ _ _ c.put.ensures (c.put_digits.ensures.text, c.put_digits.ensures.end)).0; end = (put_before _ _ _ _ _ _ _ c.put.ensures (c.put_digits.ensures.text, c.put_digits.ensures.end)).1 }
