-- `decoder::instruction::decode` meets its contract: the parts are those of the eight bytes.
use mathlib.Core.Path.{◌∙◌}
use Rattle.decoder.proofs.Laws.{decode_word}
use Rattle.decoder.proofs.instruction.decode.Goals as goal

pub returns : goal.returns
returns c =
    let a = c.args in
    simp c.to_le_bytes.ensures at c.decode_parts.ensures
    ∙ decode_word a.size a.code.now a.at (λ i. (c.type_inv.code i).fits) c.read_le.ensures (simp c.to_le_bytes.ensures at c.from_le_bytes-w.ensures)
