-- The set of a call as the code gathers it: its distinct keys with their uses, at most 24.
use Rattle.std.specs.Prelude.{◌≡◌, Bool, ◌&&◌, List, map, ℕ, ◌^◌, ◌<◌, eqb, length, get_or, take, Option}
use Rattle.std.specs.declared.option.Option.TheVariants.{None, Some}
use Rattle.block.specs.Limits.{max_call_keys}
use Rattle.footprint.specs.Access.{Access}
use Rattle.key_uses.specs.Uses.{no_use, use_of}
use Rattle.key_uses.specs.declared.KeyUse.{KeyUse}
use Rattle.analysis.specs.declared.Sets.{Sets}

-- Whether a key is that of a use.
abbrev pub same_key : KeyUse → KeyUse → Bool
same_key u k = eqb k.high u.high && eqb k.low u.low

-- What stands in a set is the uses of these accesses.
pub record Holds (s : Sets) (es : List Access) : Type 0 where
  pub count : s.count ≡ length es
  pub keys : take s.count s.keys ≡ map use_of es

-- "At most 24 distinct keys a call": with more there is no set.
unfoldable pub Gathered : Option Sets → List Access → Type 0
Gathered None es = max_call_keys < length es
Gathered (Some s) es = Holds s es

-- The last words of the keys that stand are of 32 bits.
abbrev pub Worded : Sets → Type 0
Worded s = (i : ℕ) → (get_or (take s.count s.keys) i no_use).low < 2 ^ 32
