-- `text::put_end` meets its contract: the line feed is stored, and the line ends behind it.
use Rattle.text.proofs.Laws.{put_last}
use Rattle.text.proofs.put_end.Goals as goal

pub returns : goal.returns
returns c = record { text = (put_last _ _ _ _ c.put.ensures).0; end = (put_last _ _ _ _ c.put.ensures).1 }
