-- The mathematics of the proofs of `plan`, over plain variables: the words of a call, and the entries of a set.
use mathlib.Core.Path.{◌≡◌, refl, sym, ap, ap₂, ◌∙◌, subst}
use mathlib.Core.Bool.{Bool, true, false}
use mathlib.Core.List.{List, [], ◌∷◌, ◌++◌, map}
use Prim.Native.Nat.{ℕ, zero, suc, ◌+◌, ◌*◌, ◌^◌, ◌≤◌, ◌<◌}
use native.Mathlib.Numerals.{add-one}
use native.Mathlib.Omega.{arith}
use lib.Dec.{lit<}
use lib.IntN.{ℤ}
use lib.ListN.{length, get_or, take, set, replicate, length-map, length-append}
use lib.Seq.{take-suc, take_all, length-take-le}
use Rattle.std.specs.Prelude.{Option, IsSome}
use Rattle.std.specs.declared.option.Option.TheVariants.{None, Some}
use Rattle.wire.specs.Bytes.{read_le, repeated, padded, stored}
use Rattle.wire.specs.Rows.{bit}
use Rattle.arith.specs.Exact.{signed}
use Rattle.block.specs.Key.{key_of}
use Rattle.block.specs.Record.{cell_of}
use Rattle.block.specs.Limits.{max_call_keys, max_keys}
use Rattle.footprint.specs.Access.{Access}
use Rattle.footprint.specs.Plan.{plan_words, entry_word, code_words}
use Rattle.analysis.specs.Filling.{set_key}
use Rattle.analysis.specs.Gathered.{Gathered, Holds}
use Rattle.key_uses.specs.Uses.{no_use, use_of}
use Rattle.key_uses.specs.declared.KeyUse.{KeyUse}
use Rattle.footprint.specs.KeyWords.{key_from, keys_in}
use Rattle.analysis.specs.KeyTable.{cell_place, Sorted}
use Rattle.analysis.proofs.PlaceLaws.{place_le, place_cell, cell_place_member}
use Rattle.footprint.proofs.TableWordLaws.{key_of_words, keys_length}
use Rattle.footprint.specs.BlockSets.{TableOf, sets_at}
use Rattle.block.specs.BlockOfFile.{function_at}
use Rattle.analysis.specs.Masks.{add_call_words, CellsInTable}
use Rattle.footprint.specs.EntryUses.{entry_words}
use Rattle.footprint.specs.Listed.{AllListed}
use Rattle.analysis.proofs.MaskBuffers.{entries_taken, in_table}
use Rattle.analysis.specs.Planned.{words_of_call, call_words, column, use_flags}
use Rattle.analysis.proofs.RowLoops.{stored_on}
use Rattle.analysis.proofs.PlanLaws.{stored_padded, complete, listed_set}
use Rattle.analysis.specs.declared.Sets.{Sets}

-- ---- the words of a call

-- What the stores of a call leave.
pub call_stored : (s : List ℕ) (at a b c : ℕ) (words row : List ℕ) {one two three : List ℕ} → length words ≡ 24 → length row ≡ 4
    → one ≡ stored s at (a ∷ b ∷ c ∷ []) → two ≡ stored one (at + 3) words → three ≡ stored two (at + 27) row
    → set three (at + 27 + 4) 0 ≡ stored s at (words_of_call (a ∷ b ∷ []) c words row)
unfolding stored
call_stored s at a b c words row {one} {two} {three} e f p q r =
    let front : List ℕ = a ∷ b ∷ c ∷ [] in
    let n : length (front ++ words) ≡ 3 + length words = length-append front words in
    let m : length (front ++ words ++ row) ≡ length (front ++ words) + length row = length-append (front ++ words) row in
    let entered : two ≡ stored s at (front ++ words) = stored_on s at front words (at + 3) p refl q in
    let whole : three ≡ stored s at (front ++ words ++ row) = stored_on s at (front ++ words) row (at + 27) entered (omega arith) r in
    stored_on s at (front ++ words ++ row) (0 ∷ []) (at + 27 + 4) whole (omega arith) refl

-- ---- the entries of a set

-- The flags of a use are two bits.
pub flags_small : (u : KeyUse) → use_flags u < 4
flags_small u = go u.reads u.writes
  where
    go : (r w : Bool) → bit r + 2 * bit w < 4
    go true true = lit< tt
    go true false = lit< tt
    go false true = lit< tt
    go false false = lit< tt

-- A place in the table is at most the number of its keys.
pub place_few : (n : ℕ) (words : List ℕ) (k cell : ℕ) → Sorted n words → cell ≡ cell_place (keys_in n words) k → cell ≤ max_keys
place_few n words k cell h e =
    let few : n ≤ max_keys = h.few in
    rw (e, ← place_cell (keys_in n words) k h.rising)
    (omega (arith, place_le (keys_in n words) k, keys_length n words))

-- A key's cell number and flags are its entry.
entry_at : (table : List ℕ) (es : List Access) (k : ℕ) → k < length es → AllListed table es
    → cell_place table (set_key (get_or (map use_of es) k no_use)) * 4 + use_flags (get_or (map use_of es) k no_use) ≡ get_or (entry_words table es) k 0
unfolding entry_word use_of
entry_at table [] k h l = absurd (omega arith)
entry_at table (e ∷ es) zero h l =
    rw (key_of_words e.key, cell_place_member table e.key l.0.in_table) (omega arith)
entry_at table (e ∷ es) (suc k) h l = entry_at table es k (omega arith) l.1

-- The first k entries of a set, with zeros behind.
abbrev pub EntriesTo : List ℕ → Sets → List ℕ → ℕ → Type 0
EntriesTo table s words k = (es : List Access) → Holds s es → AllListed table es → words ≡ padded max_call_keys 0 (take k (entry_words table es))

module _ (table : List ℕ) (s : Sets) where
  pub entries_none : EntriesTo table s (replicate 24 0) 0
  unfolding repeated
  entries_none es e l = refl

  pub entries_more : (words : List ℕ) (k cell flags : ℕ) → EntriesTo table s words k → k < length (take s.count s.keys)
      → cell ≡ cell_place table (set_key (get_or (take s.count s.keys) k no_use)) → flags ≡ use_flags (get_or (take s.count s.keys) k no_use)
      → EntriesTo table s (set words k (cell * 4 + flags)) (k + 1)
  unfolding stored
  entries_more words k cell flags same h c f es e l =
      let few : s.count ≤ max_call_keys = s.few in
      let count : s.count ≡ length es = e.count in
      let standing : length (take s.count s.keys) ≡ length es = ap length e.keys ∙ length-map es use_of in
      let long : length (entry_words table es) ≡ length es = length-map es (entry_word table) in
      let at : length (take k (entry_words table es)) ≡ k = length-take-le k (entry_words table es) (omega arith) in
      let word : cell * 4 + flags ≡ get_or (entry_words table es) k 0 =
      ap₂ (λ (m n : ℕ). m * 4 + n) c f
      ∙ ap (λ (us : List KeyUse). cell_place table (set_key (get_or us k no_use)) * 4 + use_flags (get_or us k no_use)) e.keys
      ∙ entry_at table es k (omega arith) l in
      let last : take (suc k) (entry_words table es) ≡ take k (entry_words table es) ++ (get_or (entry_words table es) k 0 ∷ []) =
      take-suc (entry_words table es) k 0 (omega arith) in
      ap₂ (λ (ws : List ℕ) (v : ℕ). set ws k v) (same es e l) word
      ∙ ap (λ (i : ℕ). set (padded max_call_keys 0 (take k (entry_words table es))) i (get_or (entry_words table es) k 0)) (sym at)
      ∙ stored_padded max_call_keys 0 (take k (entry_words table es)) (get_or (entry_words table es) k 0 ∷ []) (omega arith)
      ∙ ap (padded max_call_keys 0) (sym last) ∙ rw (add-one k)

  pub entries_all : (words : List ℕ) (k : ℕ) → EntriesTo table s words k → length (take s.count s.keys) ≤ k
      → (es : List Access) → Holds s es → AllListed table es → words ≡ column (entry_word table) es
  entries_all words k same end es e l =
      let standing : length (take s.count s.keys) ≡ length es = ap length e.keys ∙ length-map es use_of in
      let long : length (entry_words table es) ≡ length es = length-map es (entry_word table) in
      same es e l ∙ ap (padded max_call_keys 0) (take_all k (entry_words table es) (omega arith))

-- ---- one call

module _ (file table : List ℕ) (known : TableOf file table) (j : ℕ) where
  abbrev es : List Access
  es = sets_at file j

  -- A call of a complete table has a set.
  pub some_set : (o : Option Sets) → Gathered o es → IsSome o
  unfolding Gathered
  some_set None over = let few : length es ≤ max_call_keys = (complete file table known).short j in absurd (omega arith)
  some_set (Some s) held = refl

  pub set_held : (o : Option Sets) {s : Sets} → o ≡ Some s → Gathered o es → Holds s es
  unfolding Gathered
  set_held o e held = subst (λ (p : Option Sets). Gathered p es) e held

  module _ (s : Sets) (made : Holds s es) (words : List ℕ) (right : (fs : List Access) → Holds s fs → AllListed table fs → words ≡ column (entry_word table) fs) where
    words_column : words ≡ column (entry_word table) es
    words_column = right es made (listed_set file table (complete file table known) j)

    set_count : s.count ≡ length es
    set_count = made.count

    words_taken : take s.count words ≡ entry_words table es
    words_taken = ap₂ (λ (n : ℕ) (ws : List ℕ). take n ws) set_count words_column ∙ entries_taken table es

    pub words_in_table : CellsInTable (take s.count words)
    words_in_table = rw words_taken (in_table table (complete file table known).few es (listed_set file table (complete file table known) j))

    -- The words that are stored are the call's, with the row of its entries.
    pub words_of_call_lem : (plan plan' : List ℕ) (start size : ℕ) (row_over : List ℕ → List ℕ) (row : List ℕ)
        → start ∷ size ∷ [] ≡ code_words (function_at file j) → row ≡ row_over (take s.count words)
        → plan' ≡ stored plan (plan_words * j) (words_of_call (start ∷ size ∷ []) s.count words row)
        → plan' ≡ stored plan (plan_words * j) (call_words (function_at file j) table es (row_over (entry_words table es)))
    words_of_call_lem plan plan' start size row_over row code r p =
        let row_same : row ≡ row_over (entry_words table es) = r ∙ ap row_over words_taken in
        p
        ∙ ap₂ (λ (cs ws : List ℕ). stored plan (plan_words * j) (words_of_call cs s.count ws row)) code words_column
        ∙ ap₂ (λ (n : ℕ) (r' : List ℕ). stored plan (plan_words * j) (words_of_call (code_words (function_at file j)) n (column (entry_word table) es) r')) set_count row_same

    -- So are the masks.
    pub marks_of_call : (how : ℕ → Bool) (masks masks' : List ℕ) → masks' ≡ add_call_words how masks j (take s.count words)
        → masks' ≡ add_call_words how masks j (entry_words table es)
    marks_of_call how masks masks' e = e ∙ ap (add_call_words how masks j) words_taken

-- ---- an opening cell

-- The parts of a cell's body, read one by one, are its key and value.
pub cell_stored : (body table : List ℕ) (values values' : List ℤ) {address field a b high place : ℕ} {v w : ℤ}
    → address ≡ read_le 2 body 0 → field ≡ read_le 2 body 2 → a ≡ read_le 4 body 4 → b ≡ read_le 4 body 8
    → high ≡ address * 2 ^ 48 + field * 2 ^ 32 + a → place ≡ cell_place table (key_from high b)
    → v ≡ signed 64 (read_le 8 body 12) → w ≡ v → values' ≡ set values place w
    → values' ≡ set values (cell_place table (cell_of body).key) (cell_of body).value
cell_stored body table values values' {address} {field} {a} {b} {high} p q r s h e v w t =
    let key : key_from high b ≡ key_of address field a b = omega arith in
    let parts : key_of address field a b ≡ (cell_of body).key = rw (p, q, r, s) in
    t ∙ ap₂ (λ (i : ℕ) (z : ℤ). set values i z) (e ∙ ap (cell_place table) (key ∙ parts)) (w ∙ v)
