-- The keys of a call's set inserted into the table one after another, up to the first that does not fit.
use Rattle.std.specs.Prelude.{◌≡◌, List, [], ◌∷◌, map, ℕ, leb, length, take, Option}
use Rattle.std.specs.declared.option.Option.TheVariants.{None, Some}
use Rattle.std.specs.Prelude.{if◌then◌else◌}
use Rattle.wire.specs.Bytes.{padded}
use Rattle.block.specs.Limits.{max_keys}
use Rattle.footprint.specs.Plan.{table_words}
use Rattle.footprint.specs.Table.{insert_key}
use Rattle.footprint.specs.KeyWords.{key_from, keys_in}
use Rattle.key_uses.specs.declared.KeyUse.{KeyUse}
use Rattle.analysis.specs.declared.Sets.{Sets}

-- The keys that stand in a set.
abbrev pub set_key : KeyUse → ℕ
set_key u = key_from u.high u.low

abbrev pub set_keys : Sets → List ℕ
set_keys s = map set_key (take s.count s.keys)

-- A table with all keys of a list.
unfoldable pub insert_all : List ℕ → List ℕ → List ℕ
insert_all table [] = table
insert_all table (k ∷ ks) = insert_all (insert_key table k) ks

-- A table with those before the first that has no room.
unfoldable pub fitting : List ℕ → List ℕ → List ℕ
fitting table [] = table
fitting table (k ∷ ks) = if leb (length (insert_key table k)) max_keys then fitting (insert_key table k) ks else table

-- The number of keys of a table that keeps the limit.
unfoldable pub count_of : List ℕ → Option ℕ
count_of table = if leb (length table) max_keys then Some (length table) else None

-- What the insertion of a list of keys answers and leaves.
pub record KeysFilled (n : ℕ) (words ks : List ℕ) (count : Option ℕ) (after : List ℕ) : Type 0 where
  pub counted : count ≡ count_of (insert_all (keys_in n words) ks)
  pub held : after ≡ padded (length words) 0 (table_words (fitting (keys_in n words) ks))
