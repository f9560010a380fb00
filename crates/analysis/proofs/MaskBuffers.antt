-- Two buffers hold the masks of the calls so far: cleared buffers those of no calls, one call more adds its bits, and the row that is read
-- from them is the row of the conflict definition.
use mathlib.Core.Path.{◌≡◌, refl, sym, ap, ◌∙◌, subst}
use mathlib.Core.Bool.{Bool, true, false, ◌&&◌, ◌||◌}
use mathlib.Core.List.{List, [], ◌∷◌, ◌++◌, map, map-append}
use Prim.Native.Nat.{ℕ, zero, suc, ◌+◌, ◌-◌, ◌*◌, ◌/◌, ◌%◌, ◌^◌, ◌≤◌, ◌<◌}
use native.Mathlib.Nat.{add-zero, not-suc-le-zero, le_of_suc-le-suc}
use native.Mathlib.Decide.{dec_lt, ℕ_discrete}
use native.Mathlib.Omega.{arith}
use borrow.Author.Tests.{eq-eqb, ne_eqb}
use lib.Bits.{bit_or}
use lib.Dec.{eqb, lit<}
use lib.ListN.{length, get_or, set, take, drop, replicate, length-set, length-take, length-drop, length-replicate, length-map, get_or-replicate}
use lib.Seq.{get_or-set_same, get_or-take, get_or-drop, take_at, ext_get_or}
use Rattle.std.specs.Prelude.{if◌then◌else◌}
use Rattle.wire.specs.Bytes.{repeated, padded, stored}
use Rattle.wire.proofs.BytesLaws.{stored_length, stored_before, stored_behind}
use Rattle.wire.specs.Rows.{row_of, in_row, row_words}
use Rattle.wire.specs.RowOps.{with_bit, union_of}
use Rattle.wire.proofs.RowLaws.{IsRow, row_ext, row_of_is_row, row_of_none, row_of_true, row_of_false, in_row_with_bit, with_bit_is_row}
use Rattle.block.specs.Limits.{max_calls, max_call_keys, max_keys}
use Rattle.footprint.specs.Access.{Access}
use Rattle.footprint.specs.Conflict.{row_for}
use Rattle.footprint.specs.Plan.{entry_word, entry_cell, entry_writes}
use Rattle.footprint.specs.EntryUses.{entry_touches_cell, against, any_of, some_entry_uses, entry_words}
use Rattle.analysis.specs.Masks.{mask_bits, union_over, no_row, mask_row, mask_words, row_at, with_row, entry_row, mask_row_words, marked, marked_if, add_call_words, CellsInTable, Masked, MasksOf, MasksFor}
use Rattle.footprint.specs.Listed.{AllListed, EveryListed}
use Rattle.footprint.proofs.EntryLaws.{entry_lt}
use Rattle.analysis.proofs.MaskLaws.{row_from_masks}

-- ---- one bit more

-- A row with one bit set on a test.
abbrev with_bit_if : Bool → List ℕ → ℕ → List ℕ
with_bit_if b ws j = if b then with_bit ws j else ws

or_again : (a b : Bool) → (a || b) || b ≡ a || b
or_again true b = refl
or_again false true = refl
or_again false false = refl

with_row_lem : (b : Bool) (ws : List ℕ) (j : ℕ) → IsRow ws → IsRow (with_bit_if b ws j)
with_row_lem true ws j r = with_bit_is_row ws j r
with_row_lem false ws j r = r

-- A bit that is set already stays as it is.
with_again : (ws : List ℕ) (j : ℕ) → IsRow ws → j < max_calls → with_bit (with_bit ws j) j ≡ with_bit ws j
with_again ws j r h =
    let once : IsRow (with_bit ws j) = with_bit_is_row ws j r in
    row_ext (with_bit (with_bit ws j) j) (with_bit ws j) (with_bit_is_row (with_bit ws j) j once) once
    (λ i l. in_row_with_bit (with_bit ws j) j i once.four h
    ∙ ap (λ (b : Bool). b || eqb j i) (in_row_with_bit ws j i r.four h)
    ∙ or_again (in_row ws i) (eqb j i) ∙ sym (in_row_with_bit ws j i r.four h))

with_both : (a b : Bool) (ws : List ℕ) (j : ℕ) → IsRow ws → j < max_calls → with_bit_if b (with_bit_if a ws j) j ≡ with_bit_if (a || b) ws j
with_both true true ws j r h = with_again ws j r h
with_both true false ws j r h = refl
with_both false b ws j r h = refl

-- ---- a cell's row in a buffer

stored_at : (bs s : List ℕ) (at i : ℕ) → i < length bs → at + i < length s → get_or (stored s at bs) (at + i) 0 ≡ get_or bs i 0
unfolding stored
stored_at [] s at i h l = absurd (not-suc-le-zero h)
stored_at (b ∷ bs) s at zero h l =
    let here : at + 0 ≡ at = add-zero at in
    rw here (stored_before bs (set s at b) (at + 1) at 0 (omega arith) ∙ get_or-set_same s at b 0 (omega arith))
stored_at (b ∷ bs) s at (suc i) h l =
    let next : at + suc i ≡ at + 1 + i = omega arith in
    rw next (stored_at bs (set s at b) (at + 1) i (le_of_suc-le-suc h) (rw (length-set s at b) (omega arith)))

row_length : (masks row : List ℕ) (x y : ℕ) → length (row_at (with_row masks x row) y) ≡ length (row_at masks y)
row_length masks row x y = simp (length-take, length-drop, stored_length)

row_short : (masks : List ℕ) (x : ℕ) → length (row_at masks x) ≤ row_words
row_short masks x = simp length-take (omega arith)

-- Word i of a cell's row.
row_word : (masks : List ℕ) (x i : ℕ) → i < row_words → get_or (row_at masks x) i 0 ≡ get_or masks (row_words * x + i) 0
row_word masks x i h = get_or-take row_words (drop (row_words * x) masks) i 0 h ∙ get_or-drop (row_words * x) masks i 0

-- A row that is stored as a cell's is the cell's, and every other cell has its own.
row_stored_lem : (masks row : List ℕ) (x : ℕ) → length row ≡ length (row_at masks x) → row_at (with_row masks x row) x ≡ row
row_stored_lem masks row x e =
    let as_long : length (row_at (with_row masks x row) x) ≡ length row = row_length masks row x x ∙ sym e in
    let size : length row ≤ row_words = rw e (row_short masks x) in
    ext_get_or 0 (row_at (with_row masks x row) x) row as_long
    (λ i l. let h : i < length row = rw as_long at l in
    row_word (with_row masks x row) x i (omega arith) ∙ stored_at row masks (row_words * x) i h (room i (rw e at h)))
  where
    room : (i : ℕ) → i < length (row_at masks x) → row_words * x + i < length masks
    room i h = omega (arith, length-take row_words (drop (row_words * x) masks), length-drop (row_words * x) masks)

row_apart : (masks row : List ℕ) (x y : ℕ) → length row ≤ row_words → (x ≡ y → ⊥) → row_at (with_row masks x row) y ≡ row_at masks y
row_apart masks row x y size n =
    ext_get_or 0 (row_at (with_row masks x row) y) (row_at masks y) (row_length masks row x y)
    (λ i l. let h : i < row_words = omega (arith, row_length masks row x y, row_short masks y) in
    row_word (with_row masks x row) y i h ∙ other i h (dec_lt x y) ∙ sym (row_word masks y i h))
  where
    other : (i : ℕ) → i < row_words → Dec (x < y) → get_or (with_row masks x row) (row_words * y + i) 0 ≡ get_or masks (row_words * y + i) 0
    other i h (yes l) = stored_behind row masks (row_words * x) (row_words * y + i) 0 (omega arith)
    other i h (no l) = stored_before row masks (row_words * x) (row_words * y + i) 0 (omega arith)

module _ (masks : List ℕ) (j : ℕ) where
  bit_length : (x : ℕ) → length (with_bit (row_at masks x) j) ≡ length (row_at masks x)
  unfolding with_bit
  bit_length x = length-set (row_at masks x) (j / 64) (bit_or (get_or (row_at masks x) (j / 64) 0) (2 ^ (j % 64)))

  row_same : (x : ℕ) → row_at (marked masks x j) x ≡ with_bit (row_at masks x) j
  row_same x = row_stored_lem masks (with_bit (row_at masks x) j) x (bit_length x)

  apart_row : (x y : ℕ) → (x ≡ y → ⊥) → row_at (marked masks x j) y ≡ row_at masks y
  apart_row x y n = row_apart masks (with_bit (row_at masks x) j) x y (rw (bit_length x) (row_short masks x)) n

  -- The marked cell's row has the bit more, and every other row is as it was.
  row_marked : (x y : ℕ) → row_at (marked masks x j) y ≡ with_bit_if (eqb x y) (row_at masks y) j
  row_marked x y = go (ℕ_discrete x y)
    where
      go : Dec (x ≡ y) → row_at (marked masks x j) y ≡ with_bit_if (eqb x y) (row_at masks y) j
      go (yes e) = rw (eq-eqb x y e) (subst (λ (z : ℕ). row_at (marked masks x j) z ≡ with_bit (row_at masks z) j) e (row_same x))
      go (no n) = rw (ne_eqb x y n) (apart_row x y n)

  row_if : (b : Bool) (x y : ℕ) → row_at (marked_if b masks x j) y ≡ with_bit_if (b && eqb x y) (row_at masks y) j
  row_if true x y = row_marked x y
  row_if false x y = refl

marked_length : (b : Bool) (masks : List ℕ) (x j : ℕ) → length (marked_if b masks x j) ≡ length masks
marked_length true masks x j = stored_length (with_bit (row_at masks x) j) masks (row_words * x)
marked_length false masks x j = refl

pub added_length : (how : ℕ → Bool) (es masks : List ℕ) (j : ℕ) → length (add_call_words how masks j es) ≡ length masks
unfolding add_call_words
added_length how [] masks j = refl
added_length how (e ∷ es) masks j =
    added_length how es (marked_if (how e) masks (entry_cell e) j) j ∙ marked_length (how e) masks (entry_cell e) j

-- A call's bit is set in the rows of the cells that it uses, and nowhere else.
pub row_added : (how : ℕ → Bool) (j x : ℕ) → j < max_calls → (es masks : List ℕ) → IsRow (row_at masks x)
    → row_at (add_call_words how masks j es) x ≡ with_bit_if (some_entry_uses how x es) (row_at masks x) j
unfolding add_call_words any_of
row_added how j x low [] masks r = refl
row_added how j x low (e ∷ es) masks r =
    let now : List ℕ = marked_if (how e) masks (entry_cell e) j in
    let this : Bool = how e && eqb (entry_cell e) x in
    let same : row_at now x ≡ with_bit_if this (row_at masks x) j = row_if masks j (how e) (entry_cell e) x in
    row_added how j x low es now (rw same (with_row_lem this (row_at masks x) j r))
    ∙ ap (λ (row : List ℕ). with_bit_if (some_entry_uses how x es) row j) same
    ∙ with_both this (some_entry_uses how x es) (row_at masks x) j r low

-- ---- masks in a buffer

row_more : (bs : List Bool) (j : ℕ) → length bs ≡ j → j < max_calls → (b : Bool) → with_bit_if b (row_of bs) j ≡ row_of (bs ++ (b ∷ []))
row_more bs j e h true = rw (← e) (sym (row_of_true bs (rw e h)))
row_more bs j e h false = sym (row_of_false bs (rw e h))

-- Cleared buffers hold the masks of no calls.
pub masked_none : (how : ℕ → Bool) (n : ℕ) → mask_words ≤ n → Masked how (repeated n 0) []
unfolding repeated
masked_none how n h =
    record {
      room = rw (length-replicate {A = ℕ} n 0) h;
      rows = λ x l. clear x l ∙ sym row_of_none;
    }
  where
    zeros : (i : ℕ) → i < 4 → 0 ≡ get_or no_row i 0
    zeros zero l = refl
    zeros (suc zero) l = refl
    zeros (suc (suc zero)) l = refl
    zeros (suc (suc (suc zero))) l = refl
    zeros (suc (suc (suc (suc i)))) l = absurd (omega arith)

    clear : (x : ℕ) → x < max_keys → row_at (replicate n 0) x ≡ no_row
    clear x l =
        let long : length (row_at (replicate n 0) x) ≡ 4 = simp (length-take, length-drop, length-replicate) (omega arith) in
        ext_get_or 0 (row_at (replicate n 0) x) no_row long
        (λ i b. let four : i < 4 = rw long at b in
        get_or-take row_words (drop (row_words * x) (replicate n 0)) i 0 four ∙ get_or-drop (row_words * x) (replicate n 0) i 0
        ∙ get_or-replicate n (row_words * x + i) 0 0 (omega arith) ∙ zeros i four)

-- One call more.
pub masked_more : (how : ℕ → Bool) (masks : List ℕ) (calls : List (List ℕ)) (es : List ℕ) (j : ℕ) → Masked how masks calls → length calls ≡ j → j < max_calls
    → Masked how (add_call_words how masks j es) (calls ++ (es ∷ []))
masked_more how masks calls es j m here low =
    record {
      room = rw (added_length how es masks j) m.room;
      rows = λ x l.
          let row : row_at masks x ≡ row_of (mask_bits how calls x) = m.rows x l in
          row_added how j x low es masks (rw row (row_of_is_row (mask_bits how calls x)))
          ∙ ap (λ (r : List ℕ). with_bit_if (some_entry_uses how x es) r j) row
          ∙ row_more (mask_bits how calls x) j (length-map calls (some_entry_uses how x) ∙ here) low (some_entry_uses how x es)
          ∙ ap row_of (sym (map-append (some_entry_uses how x) calls (es ∷ [])));
    }

-- ---- both buffers

pub masks_none : (m n : ℕ) → mask_words ≤ m → mask_words ≤ n → MasksOf (repeated m 0) (repeated n 0) []
masks_none m n h k = record { touched_masks = masked_none entry_touches_cell m h; writer_masks = masked_none entry_writes n k }

module _ (touched writers : List ℕ) (calls : List (List ℕ)) (masks : MasksOf touched writers calls) where
  pub masks_more : (es : List ℕ) (j : ℕ) → length calls ≡ j → j < max_calls
      → MasksOf (add_call_words entry_touches_cell touched j es) (add_call_words entry_writes writers j es) (calls ++ (es ∷ []))
  masks_more es j here low =
      record {
        touched_masks = masked_more entry_touches_cell touched calls es j masks.touched_masks here low;
        writer_masks = masked_more entry_writes writers calls es j masks.writer_masks here low;
      }

  mask_taken : (b : Bool) (x : ℕ) → x < max_keys → row_at (if b then touched else writers) x ≡ row_of (mask_bits (if b then entry_touches_cell else entry_writes) calls x)
  mask_taken true x l = masks.touched_masks.rows x l
  mask_taken false x l = masks.writer_masks.rows x l

  row_taken : (es row : List ℕ) → CellsInTable es
      → union_over (entry_row touched writers) row es ≡ union_over (λ e. row_of (mask_bits (against e) calls (entry_cell e))) row es
  unfolding union_over
  row_taken [] row h = refl
  row_taken (e ∷ es) row h =
      let small : e < 4 * max_keys = h 0 in
      rw (mask_taken (entry_writes e) (entry_cell e) (omega arith))
      (row_taken es (union_of row (row_of (mask_bits (against e) calls (entry_cell e)))) (λ k. h (suc k)))

  -- The row that is read from the buffers is the row from the masks.
  pub row_read : (es : List ℕ) → CellsInTable es → mask_row_words touched writers es ≡ mask_row calls es
  row_read es h = row_taken es no_row h

-- ---- sets in a table

every_more : (keys : List ℕ) (sets : List (List Access)) (s : List Access) → EveryListed keys sets → AllListed keys s → EveryListed keys (sets ++ (s ∷ []))
every_more keys [] s ls l = (l, tt)
every_more keys (r ∷ sets) s ls l = (ls.0, every_more keys sets s ls.1 l)

pub sets_none : (keys : List ℕ) (m n : ℕ) → mask_words ≤ m → mask_words ≤ n → MasksFor keys (repeated m 0) (repeated n 0) []
sets_none keys m n h k = record { masks = masks_none m n h k; listed = tt }

-- A call's entries in the plan, without the words that fill it up.
pub entries_taken : (keys : List ℕ) (s : List Access) → take (length s) (padded max_call_keys 0 (entry_words keys s)) ≡ entry_words keys s
entries_taken keys s =
    take_at (entry_words keys s) (repeated (max_call_keys - length (entry_words keys s)) 0) (length s) (length-map s (entry_word keys))

-- The entries of a set have rows in the buffers.
pub in_table : (keys : List ℕ) → length keys ≤ max_keys → (s : List Access) → AllListed keys s → CellsInTable (entry_words keys s)
in_table keys room [] l k = lit< tt
in_table keys room (e ∷ s) l zero = let h : entry_word keys e < 4 * length keys = entry_lt keys e l.0.in_table in omega arith
in_table keys room (e ∷ s) l (suc k) = in_table keys room s l.1 k

module _ (keys touched writers : List ℕ) (sets : List (List Access)) (so_far : MasksFor keys touched writers sets) (s : List Access) (listed : AllListed keys s) where
  -- Behind at most 256 calls, the row that is read from the buffers is the row of the conflict definition.
  pub sets_row : length keys ≤ max_keys → length sets ≤ max_calls → mask_row_words touched writers (entry_words keys s) ≡ row_for sets s
  sets_row room short =
      row_read touched writers (map (entry_words keys) sets) so_far.masks (entry_words keys s) (in_table keys room s listed)
      ∙ row_from_masks keys s listed sets so_far.listed short

  -- One call more.
  pub sets_more : (j : ℕ) → length sets ≡ j → j < max_calls
      → MasksFor keys (add_call_words entry_touches_cell touched j (entry_words keys s)) (add_call_words entry_writes writers j (entry_words keys s)) (sets ++ (s ∷ []))
  sets_more j here low =
      record {
        masks =
            rw (map-append (entry_words keys) sets (s ∷ []))
            (masks_more touched writers (map (entry_words keys) sets) so_far.masks (entry_words keys s) j (length-map sets (entry_words keys) ∙ here) low);
        listed = every_more keys sets s so_far.listed listed;
      }
