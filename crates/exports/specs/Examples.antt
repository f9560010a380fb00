-- What a held word names, and the lent length behind a sheet, computed.
use Rattle.std.specs.Prelude.{◌≡◌, refl, [], ◌∷◌, map, Err, Ok}
use Rattle.machine.specs.declared.Answer.TheVariants.{Damaged}
use Rattle.exports.specs.Words.{held_number}
use Rattle.exports.specs.Exports.{length_after}

-- A call's number plus 1, and beyond 16 bits a call that no run has.
pub held_words : map held_number (0 ∷ 1 ∷ 256 ∷ 65535 ∷ 65536 ∷ 65537 ∷ []) ≡ 0 ∷ 1 ∷ 256 ∷ 65535 ∷ 65535 ∷ 65535 ∷ []
held_words = refl

-- A sheet of 4 bytes, and a refused one: 5 was lent.
pub lent_lengths : length_after (Ok 4) 5 ∷ length_after (Err Damaged) 5 ∷ [] ≡ 4 ∷ 5 ∷ []
unfolding length_after
lent_lengths = refl
