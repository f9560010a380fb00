-- The table of keys in its buffer: two words a key, rising, and zeros behind the last; the place of a key in it, and what an insertion
-- leaves.
use Rattle.std.specs.Prelude.{◌≡◌, Bool, ◌&&◌, List, [], ◌∷◌, ◌++◌, ℕ, suc, ◌+◌, ◌*◌, ◌^◌, ◌≤◌, ◌<◌, eqb, ltb, leb, length, get_or, take, drop}
use Rattle.std.proofs.Math.Seq.{slice}
use Rattle.std.specs.Prelude.{if◌then◌else◌}
use Rattle.wire.specs.Bytes.{padded}
use Rattle.block.specs.Limits.{max_keys}
use Rattle.footprint.specs.Conflict.{member}
use Rattle.footprint.specs.Table.{insert_key, cell_number}
use Rattle.footprint.specs.Plan.{table_words}
use Rattle.footprint.specs.KeyWords.{keys_in, RisingKeys}

-- How many keys of a table are below k: where k stands in a rising table, or would stand.
unfoldable pub place_in : List ℕ → ℕ → ℕ
place_in [] k = 0
place_in (l ∷ ls) k = if ltb l k then suc (place_in ls k) else place_in ls k

-- The number of a key's cell; for a key that the table lacks, the place where it would stand.
unfoldable pub cell_place : List ℕ → ℕ → ℕ
cell_place table k = if member k table then cell_number table k else place_in table k

-- Whether the table has k at a place.
unfoldable pub stands_at : List ℕ → ℕ → ℕ → Bool
stands_at table i k = ltb i (length table) && eqb (get_or table i 0) k

-- A list whose elements from one index up to another are copied two places up, over what was there.
abbrev pub moved_up {ℓ} : {A : Type ℓ} → List A → ℕ → ℕ → List A
moved_up s from to = take (from + 2) s ++ (slice from to s ++ drop (to + 2) s)

-- The buffer after an insertion: the words of the new table, or unchanged where it has more than 1,024 keys.
unfoldable pub inserted_in : ℕ → List ℕ → ℕ → List ℕ
inserted_in n words k =
    if leb (length (insert_key (keys_in n words) k)) max_keys
    then padded (length words) 0 (table_words (insert_key (keys_in n words) k))
    else words

-- What a search asks of a buffer: its first n keys rise, and each low word is one of 32 bits.
pub record Sorted (n : ℕ) (words : List ℕ) : Type 0 where
  pub few : n ≤ max_keys
  pub room : 2 * n ≤ length words
  pub lows : (i : ℕ) → i < n → get_or words (2 * i + 1) 0 < 2 ^ 32
  pub rising : RisingKeys (keys_in n words)

-- What an insertion asks, and leaves: the buffer has room for 1,024 keys and holds a rising table of n, with zeros behind it.
pub record Tabled (n : ℕ) (words : List ℕ) : Type 0 where
  pub few : n ≤ max_keys
  pub room : 2 * max_keys ≤ length words
  pub rising : RisingKeys (keys_in n words)
  pub same : words ≡ padded (length words) 0 (table_words (keys_in n words))

-- What an insertion answers: how many keys the new table has, and the buffer.
pub record Inserted (n : ℕ) (words : List ℕ) (k count : ℕ) (after : List ℕ) : Type 0 where
  pub counted : count ≡ length (insert_key (keys_in n words) k)
  pub held : after ≡ inserted_in n words k
