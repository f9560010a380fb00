-- The keys that the words of a table's buffer stand for, and keys that rise.
use Rattle.std.specs.Prelude.{List, [], ◌∷◌, ℕ, zero, suc, ◌+◌, ◌*◌, ◌^◌, ◌<◌, get_or, drop}
use Rattle.wire.specs.All.{All}

-- The key that two words name.
abbrev pub key_from : ℕ → ℕ → ℕ
key_from high low = high * 2 ^ 32 + low

-- The key at a place of a buffer.
abbrev pub key_at : List ℕ → ℕ → ℕ
key_at words i = key_from (get_or words (2 * i) 0) (get_or words (2 * i + 1) 0)

-- The first n keys of a buffer.
unfoldable pub keys_in : ℕ → List ℕ → List ℕ
keys_in zero words = []
keys_in (suc n) words = key_from (get_or words 0 0) (get_or words 1 0) ∷ keys_in n (drop 2 words)

-- Every key of a list is above k.
abbrev pub Above : ℕ → List ℕ → Type 0
Above k ls = All (λ l. k < l) ls

-- A list of keys, each above all before it.
abbrev pub RisingKeys : List ℕ → Type 0
RisingKeys [] = Unit {0}
RisingKeys (k ∷ ks) = Above k ks × RisingKeys ks
