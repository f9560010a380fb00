-- The eight workers' calls, read one by one, are those of the head.
use mathlib.Core.Path.{◌≡◌}
use mathlib.Core.List.{List, [], ◌∷◌}
use Prim.Native.Nat.{ℕ}
use native.Mathlib.Omega.{arith}
use lib.ListN.{length, get_or}
use Rattle.wire.specs.Bytes.{below}
use Rattle.exports.specs.Words.{held_in, held_number}

pub held_each : (held words : List ℕ) → length held ≡ 8
    → get_or held 0 0 ≡ held_number (get_or words 4 0) → get_or held 1 0 ≡ held_number (get_or words 5 0)
    → get_or held 2 0 ≡ held_number (get_or words 6 0) → get_or held 3 0 ≡ held_number (get_or words 7 0)
    → get_or held 4 0 ≡ held_number (get_or words 8 0) → get_or held 5 0 ≡ held_number (get_or words 9 0)
    → get_or held 6 0 ≡ held_number (get_or words 10 0) → get_or held 7 0 ≡ held_number (get_or words 11 0)
    → held ≡ held_in words
unfolding held_in below
held_each (a ∷ b ∷ c ∷ d ∷ e ∷ f ∷ g ∷ h ∷ []) words l p0 p1 p2 p3 p4 p5 p6 p7 = λ i. p0 i ∷ p1 i ∷ p2 i ∷ p3 i ∷ p4 i ∷ p5 i ∷ p6 i ∷ p7 i ∷ []
held_each _ words l p0 p1 p2 p3 p4 p5 p6 p7 = absurd (omega arith)
