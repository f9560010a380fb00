-- What the analysis of a block answers and leaves in the buffer of the keys.
use Rattle.std.specs.Prelude.{◌≡◌, List, ℕ, length, Err, Ok, Result}
use Rattle.wire.specs.Bytes.{padded}
use Rattle.block.specs.declared.Refusal.{Refusal}
use Rattle.footprint.specs.Plan.{table_words}
use Rattle.footprint.specs.Table.{Analysis, analysed, refused}

-- The number of the keys, with the words of their table and zeros behind them in a buffer of this length; or the refusal.
unfoldable pub CollectedAs : (room : ℕ) → Result ℕ Refusal → List ℕ → Analysis → Type 0
CollectedAs room (Ok n) keys (analysed sets table) = (n ≡ length table) × (keys ≡ padded room 0 (table_words table))
CollectedAs room (Ok n) keys (refused why) = ⊥
CollectedAs room (Err why) keys (analysed sets table) = ⊥
CollectedAs room (Err why) keys (refused told) = why ≡ told
