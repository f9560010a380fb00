-- How the entries of calls use cells.
use Rattle.std.specs.Prelude.{Bool, true, false, ◌&&◌, ◌||◌, List, [], ◌∷◌, map, ℕ, eqb}
use Rattle.std.specs.Prelude.{if◌then◌else◌}
use Rattle.footprint.specs.Access.{Access}
use Rattle.footprint.specs.Plan.{entry_cell, entry_writes, entry_word}

-- Every entry touches its cell; some write it.
abbrev pub entry_touches_cell : ℕ → Bool
entry_touches_cell e = true

-- Against which uses of its cell an entry stands: any use if it writes the cell, else only writes.
abbrev pub against : ℕ → ℕ → Bool
against e = if entry_writes e then entry_touches_cell else entry_writes

unfoldable pub any_of : (ℕ → Bool) → List ℕ → Bool
any_of p [] = false
any_of p (e ∷ es) = p e || any_of p es

-- Whether one of a call's entries uses a cell in a way, given as a test of entries.
abbrev pub some_entry_uses : (ℕ → Bool) → ℕ → List ℕ → Bool
some_entry_uses how x es = any_of (λ e. how e && eqb (entry_cell e) x) es

-- The entry words of a call's set.
abbrev pub entry_words : List ℕ → List Access → List ℕ
entry_words keys s = map (entry_word keys) s
