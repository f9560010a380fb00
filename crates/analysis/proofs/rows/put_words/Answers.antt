-- `analysis::rows::put_words` meets its contract: what is copied is stored.
use native.Mathlib.Omega.{arith}
use Rattle.analysis.proofs.RowLoops.{stored_by_copy}
use Rattle.analysis.proofs.rows.put_words.Goals as goal

pub returns : goal.returns
returns c = stored_by_copy _ _ _ _ _ c.copy_from_slice.ensures.after (omega arith) (omega (arith, c.requires))
