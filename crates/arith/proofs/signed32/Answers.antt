-- `arith::signed32` meets its contract: the library reads 32 bits as the definition does, and the wider type keeps the number.
use mathlib.Core.Path.{◌∙◌, sym}
use mir.Syntax.{w32}
use mir.ValLaws.{to_z-of_z}
use Rattle.arith.proofs.Laws.{read_back}
use Rattle.arith.proofs.IntegerLaws.{signed_to_z}
use Rattle.arith.proofs.signed32.Goals as goal

pub returns : goal.returns
returns c =
    read_back (record { sfits = c.from.type_inv }) ∙ c.from.ensures ∙ to_z-of_z w32 _ (record { sfits = c.cast_signed.type_inv }) ∙ c.cast_signed.ensures
    ∙ sym (signed_to_z w32 c.args.n)
