-- `arith::signed64` meets its contract: the library reads 64 bits as the definition does.
use mathlib.Core.Path.{◌∙◌, sym}
use mir.Syntax.{w64}
use Rattle.arith.proofs.Laws.{read_back}
use Rattle.arith.proofs.IntegerLaws.{signed_to_z}
use Rattle.arith.proofs.signed64.Goals as goal

pub returns : goal.returns
returns c = read_back (record { sfits = c.cast_signed.type_inv }) ∙ c.cast_signed.ensures ∙ sym (signed_to_z w64 c.args.n)
