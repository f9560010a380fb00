-- The words of a call in the plan, by the parts that the code stores.
use Rattle.std.specs.Prelude.{List, [], ◌∷◌, ◌++◌, map, ℕ, ◌+◌, ◌*◌, length, Option}
use Rattle.wire.specs.Bytes.{padded}
use Rattle.wire.specs.Rows.{bit}
use Rattle.block.specs.Limits.{max_call_keys}
use Rattle.block.specs.Record.{Function}
use Rattle.footprint.specs.Access.{Access}
use Rattle.footprint.specs.Plan.{entry_word, code_words}
use Rattle.key_uses.specs.declared.KeyUse.{KeyUse}

-- The flags of a use: 1 if it reads, plus 2 if it writes.
abbrev pub use_flags : KeyUse → ℕ
use_flags u = bit u.reads + 2 * bit u.writes

-- What each access has in 24 places, and zeros behind.
abbrev pub column : (Access → ℕ) → List Access → List ℕ
column f es = padded max_call_keys 0 (map f es)

-- "word 0 is the start of its code .., word 1 the length .., word 2 the number of its keys, words 3 to 26 its entries, words 27 to 30 its
-- row; word 31 is 0."
abbrev pub words_of_call : List ℕ → ℕ → List ℕ → List ℕ → List ℕ
words_of_call code count entries row = code ++ (count ∷ []) ++ entries ++ row ++ (0 ∷ [])

-- The words of a call with a set, whose row is given.
abbrev pub call_words : Option Function → List ℕ → List Access → List ℕ → List ℕ
call_words f table es row = words_of_call (code_words f) (length es) (column (entry_word table) es) row
