-- When a later call waits for an earlier one.
use Rattle.std.specs.Prelude.{Bool, true, false, ◌&&◌, ◌||◌, not, List, [], ◌∷◌, ◌++◌, ℕ, eqb}
use Rattle.wire.specs.Rows.{row_of}
use Rattle.footprint.specs.Access.{Access}
use Rattle.footprint.specs.Sets.{read_set, write_set}

unfoldable pub member : ℕ → List ℕ → Bool
member k [] = false
member k (l ∷ ls) = eqb k l || member k ls

-- Whether two sets have no key in common.
unfoldable pub apart : List ℕ → List ℕ → Bool
apart [] ls = true
apart (k ∷ ks) ls = not (member k ls) && apart ks ls

-- Document 003, definition 7: (R(T) ∪ W(T)) ∩ W(T') = ∅ = (R(T') ∪ W(T')) ∩ W(T).
unfoldable pub strong_swap : List Access → List Access → Bool
strong_swap t t' = apart (read_set t ++ write_set t) (write_set t') && apart (read_set t' ++ write_set t') (write_set t)

-- "Call i is before j if i < j and either one's write set meets the other's reads or writes": for calls in that order, the
-- strong-swap test fails. "Unlike document 003, two equal calls are compared by position."
abbrev pub conflict : List Access → List Access → Bool
conflict earlier later = not (strong_swap earlier later)

-- "Each call's earlier conflicting calls are kept as a row of 256 bits": a bit for each earlier call, from call 0 on.
unfoldable pub conflict_bits : List (List Access) → List Access → List Bool
conflict_bits [] later = []
conflict_bits (e ∷ es) later = conflict e later ∷ conflict_bits es later

abbrev pub row_for : List (List Access) → List Access → List ℕ
row_for earlier later = row_of (conflict_bits earlier later)
