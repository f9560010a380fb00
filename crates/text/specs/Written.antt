-- A text that grows from a position of a buffer, part by part.
use Rattle.std.specs.Prelude.{◌≡◌, List, [], ◌∷◌, ◌++◌, ℕ, ◌+◌, length}
use Rattle.wire.specs.Bytes.{stored}
use Rattle.wire.specs.Decimal.{space}

-- The buffer holds the text from a position on, and it ends before `at`.
pub record Written (before after : List ℕ) (from at : ℕ) (text : List ℕ) : Type 0 where
  pub same : after ≡ stored before from text
  pub end : at ≡ from + length text

-- Parts divided by spaces, and the line that they make.
unfoldable pub spaced : List (List ℕ) → List ℕ
spaced [] = []
spaced (p ∷ ps) = space ∷ p ++ spaced ps
