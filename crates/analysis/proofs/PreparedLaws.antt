-- Laws of the opening values in their buffer: one opening cell more stores its value at the number of its key.
use mathlib.Core.Path.{◌≡◌, refl, sym, ap, ap₂, ◌∙◌}
use mathlib.Core.Bool.{Bool, true, false, ◌||◌}
use mathlib.Core.List.{List, [], ◌∷◌, ◌++◌, map}
use Prim.Native.Nat.{ℕ, zero, suc, ◌+◌, ◌-◌, ◌*◌, ◌≤◌, ◌<◌}
use native.Mathlib.Nat.{le_of_suc-le-suc}
use native.Mathlib.Numerals.{add-one}
use native.Mathlib.Omega.{arith}
use borrow.Author.Tests.{eqb-true, eqb-false, eq-eqb, ne_eqb}
use lib.Dec.{eqb}
use lib.IntN.{ℤ, pos}
use lib.ListN.{length, get_or, take, drop, set, replicate, length-map, replicate-append-replicate}
use lib.Seq.{take-suc, take_all, set-append_left, length-take-le}
use Rattle.std.specs.Prelude.{if◌then◌else◌}
use Rattle.wire.specs.Bytes.{repeated, padded}
use Rattle.block.specs.Limits.{max_bytes}
use Rattle.block.specs.Record.{Cell, call_record_bytes, cell_of}
use Rattle.footprint.specs.Conflict.{member}
use Rattle.footprint.specs.Plan.{opening_value}
use Rattle.footprint.specs.Table.{cell_number}
use Rattle.footprint.specs.KeyWords.{Above, RisingKeys}
use Rattle.analysis.specs.KeyTable.{cell_place}
use Rattle.reader.specs.LayoutOfBlock.{LayoutOfBlock}
use Rattle.footprint.specs.BlockSets.{TableOf}
use Rattle.block.specs.BlockOfFile.{block_of}
use Rattle.analysis.proofs.LayoutLaws.{laid_whole, laid_opening, laid_cells, accepted_short}
use Rattle.wire.proofs.ListLaws.{map_at}
use Rattle.analysis.proofs.PlanLaws.{complete}
use Rattle.footprint.proofs.TableLaws.{cell_lt, member_at}
use Rattle.analysis.proofs.PlaceLaws.{cell_place_member}
use Rattle.reader.specs.declared.Layout.{Layout}

-- ---- one cell more

-- The keys of cells.
abbrev keys : List Cell → List ℕ
keys cs = map (λ c. c.key) cs

module _ (c : Cell) where
  -- Another key's value is as it was.
  value_other : (cs : List Cell) (k : ℕ) → (k ≡ c.key → ⊥) → opening_value (cs ++ (c ∷ [])) k ≡ opening_value cs k
  unfolding opening_value
  value_other [] k n = rw (ne_eqb k c.key n)
  value_other (d ∷ cs) k n = ap (λ (z : ℤ). if eqb k d.key then d.value else z) (value_other cs k n)

  -- A key that no cell before has takes the cell's value.
  value_own : (cs : List Cell) → ((j : ℕ) → j < length cs → get_or (keys cs) j 0 < c.key) → opening_value (cs ++ (c ∷ [])) c.key ≡ c.value
  unfolding opening_value
  value_own [] low = rw (eq-eqb c.key c.key refl)
  value_own (d ∷ cs) low =
      let less : d.key < c.key = low 0 (omega arith) in
      let differ : c.key ≡ d.key → ⊥ = omega arith in
      rw (ne_eqb c.key d.key differ) (value_own cs (λ j h. low (suc j) (omega arith)))

  values_above : (cs : List Cell) (ls : List ℕ) → Above c.key ls → map (opening_value (cs ++ (c ∷ []))) ls ≡ map (opening_value cs) ls
  values_above cs [] a = refl
  values_above cs (l ∷ ls) a =
      let less : c.key < l = a.0 in
      ap₂ (λ (z : ℤ) (zs : List ℤ). z ∷ zs) (value_other cs l (omega arith)) (values_above cs ls a.1)

  -- The values of a rising table change at the number of the cell's key alone.
  pub values_set : (cs : List Cell) → ((j : ℕ) → j < length cs → get_or (keys cs) j 0 < c.key) → (table : List ℕ) → RisingKeys table → member c.key table ≡ true
      → map (opening_value (cs ++ (c ∷ []))) table ≡ set (map (opening_value cs) table) (cell_number table c.key) c.value
  unfolding cell_number member
  values_set cs low [] r m = refl
  values_set cs low (l ∷ ls) r m = go (eqb c.key l) refl m (values_set cs low ls r.1)
    where
      go : (b : Bool) → eqb c.key l ≡ b → (b || member c.key ls) ≡ true
          → (member c.key ls ≡ true → map (opening_value (cs ++ (c ∷ []))) ls ≡ set (map (opening_value cs) ls) (cell_number ls c.key) c.value)
          → opening_value (cs ++ (c ∷ [])) l ∷ map (opening_value (cs ++ (c ∷ []))) ls
          ≡ set (opening_value cs l ∷ map (opening_value cs) ls) (if b then 0 else suc (cell_number ls c.key)) c.value
      go true e h later =
          let same : c.key ≡ l = eqb-true c.key l e in
          ap₂ (λ (z : ℤ) (zs : List ℤ). z ∷ zs) (rw (← same) (value_own cs low)) (values_above cs ls (rw same r.0))
      go false e h later =
          let differ : c.key ≡ l → ⊥ = eqb-false c.key l e in
          ap₂ (λ (z : ℤ) (zs : List ℤ). z ∷ zs) (value_other cs l (λ f. differ (sym f))) (later h)

-- ---- the values so far

-- A key before one more cell.
key_before : (cs : List Cell) (i j : ℕ) → j < i → get_or (keys (take i cs)) j 0 ≡ get_or (keys cs) j 0
key_before [] i j h = go i
  where
    go : (i : ℕ) → get_or (keys (take i [])) j 0 ≡ 0
    go zero = refl
    go (suc i) = refl
key_before (c ∷ cs) zero j h = absurd (omega arith)
key_before (c ∷ cs) (suc i) zero h = refl
key_before (c ∷ cs) (suc i) (suc j) h = key_before cs i j (le_of_suc-le-suc h)

all_zero : (table : List ℕ) → map (opening_value []) table ≡ replicate (length table) (pos 0)
unfolding opening_value
all_zero [] = refl
all_zero (k ∷ ks) = ap (λ (zs : List ℤ). pos 0 ∷ zs) (all_zero ks)

-- A buffer of the given size that holds the values of the first i opening cells, by the numbers of the table's keys.
abbrev pub opened_to : List Cell → List ℕ → ℕ → ℕ → List ℤ
opened_to cells table size i = padded size (pos 0) (map (opening_value (take i cells)) table)

-- A cleared buffer holds those of none.
pub values_opened_none : (cells : List Cell) (table : List ℕ) (size : ℕ) → length table ≤ size → repeated size (pos 0) ≡ opened_to cells table size 0
unfolding repeated
values_opened_none cells table size h =
    let long : length (map (opening_value []) table) ≡ length table = length-map table (opening_value []) in
    let whole : length table + (size - length (map (opening_value []) table)) ≡ size = omega arith in
    ap (λ (n : ℕ). replicate n (pos 0)) (sym whole)
    ∙ sym (replicate-append-replicate (length table) (size - length (map (opening_value []) table)) (pos 0))
    ∙ ap (λ (zs : List ℤ). zs ++ replicate (size - length (map (opening_value []) table)) (pos 0)) (sym (all_zero table))

module _ (file : List ℕ) (l : Layout) (laid : LayoutOfBlock file l) (table : List ℕ) (known : TableOf file table) where
  abbrev cells : List Cell
  cells = (block_of file).cells

  -- The cell of a record.
  abbrev cell_at : ℕ → Cell
  cell_at i = cell_of (drop ((block_of file).opening + 24 * i + 4) file)

  module _ (i : ℕ) (low : i < length cells) where
    key_at_lem : get_or (keys cells) i 0 ≡ (cell_at i).key
    key_at_lem = map_at (λ c. c.key) cells i (cell_at i) 0 low ∙ ap (λ (c : Cell). c.key) ((laid_whole file l laid).laws.cells i (cell_at i) low)

    key_known : member (cell_at i).key table ≡ true
    key_known =
        (complete file table known).opening (cell_at i).key
        (rw (← key_at_lem) (member_at (keys cells) i (simp length-map low)))

    keys_low : (j : ℕ) → j < length (take i cells) → get_or (keys (take i cells)) j 0 < (cell_at i).key
    keys_low j h =
        let long : length (take i cells) ≡ i = length-take-le i cells (omega arith) in
        rw (key_before cells i j (omega arith), ← key_at_lem)
        ((laid_whole file l laid).laws.keys j i (omega arith) (simp length-map low))

    -- The value of one more cell.
    pub values_opened_more : (size : ℕ) → opened_to cells table size (i + 1) ≡ set (opened_to cells table size i) (cell_place table (cell_at i).key) (cell_at i).value
    values_opened_more size =
        let c : Cell = cell_at i in
        let values : List ℤ = map (opening_value (take i cells)) table in
        let last : take (suc i) cells ≡ take i cells ++ (c ∷ []) =
        take-suc cells i c low ∙ ap (λ (d : Cell). take i cells ++ (d ∷ [])) ((laid_whole file l laid).laws.cells i c low) in
        let place : cell_place table c.key ≡ cell_number table c.key = cell_place_member table c.key key_known in
        let inside : cell_number table c.key < length values = rw (length-map table (opening_value (take i cells))) (cell_lt table c.key key_known) in
        let next : map (opening_value (take (suc i) cells)) table ≡ set values (cell_number table c.key) c.value =
        ap (λ (cs : List Cell). map (opening_value cs) table) last ∙ values_set c (take i cells) keys_low table (complete file table known).rising key_known in
        let same : length (map (opening_value (take (suc i) cells)) table) ≡ length values =
        length-map table (opening_value (take (suc i) cells)) ∙ sym (length-map table (opening_value (take i cells))) in
        ap (λ (n : ℕ). opened_to cells table size n) (add-one i)
        ∙ ap₂ (λ (zs : List ℤ) (n : ℕ). zs ++ repeated (size - n) (pos 0)) next same
        ∙ sym (set-append_left values (repeated (size - length values) (pos 0)) (cell_number table c.key) c.value inside)
        ∙ ap (λ (n : ℕ). set (opened_to cells table size i) n c.value) (sym place)

  -- A cell's record lies within the file.
  pub opening_cell_within : (i : ℕ) → i < l.cells → l.opening + 24 * i + 4 ≤ max_bytes
  opening_cell_within i h =
      let count : l.cells ≡ length cells = laid_cells file l laid in
      let from : l.opening ≡ (block_of file).opening = laid_opening file l laid in
      let first : (block_of file).opening + 24 * length cells ≡ (block_of file).first_call = (laid_whole file l laid).laws.first_call in
      let end : (block_of file).first_call + call_record_bytes * length (block_of file).calls + 4 ≡ length file = (laid_whole file l laid).end in
      let short : length file ≤ max_bytes = accepted_short file (block_of file) laid.read in
      omega arith

  -- What storing the cell at its place leaves.
  pub opened_turn : (size i : ℕ) (values values' : List ℤ) (body : List ℕ) → i < l.cells → values ≡ opened_to cells table size i
      → body ≡ drop (l.opening + 24 * i + 4) file → values' ≡ set values (cell_place table (cell_of body).key) (cell_of body).value
      → values' ≡ opened_to cells table size (i + 1)
  opened_turn size i values values' body h e f g =
      let there : body ≡ drop ((block_of file).opening + 24 * i + 4) file = f ∙ ap (λ (n : ℕ). drop (n + 24 * i + 4) file) (laid_opening file l laid) in
      g ∙ ap₂ (λ (zs : List ℤ) (s : List ℕ). set zs (cell_place table (cell_of s).key) (cell_of s).value) e there
      ∙ sym (values_opened_more i (rw (← laid_cells file l laid) h) size)

  -- Behind all cells these are the opening values.
  pub values_opened_all : (size i : ℕ) → l.cells ≤ i → opened_to cells table size i ≡ padded size (pos 0) (map (opening_value cells) table)
  values_opened_all size i h =
      ap (λ (cs : List Cell). padded size (pos 0) (map (opening_value cs) table)) (take_all i cells (rw (← laid_cells file l laid) h))
