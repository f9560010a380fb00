-- A call's row from masks kept per cell, which calls so far touch it and which write it: what the masks are, what a row takes from them,
-- and both on the words of two buffers.
use Rattle.std.specs.Prelude.{◌≡◌, Bool, List, [], ◌∷◌, map, ℕ, ◌*◌, ◌≤◌, ◌<◌, length, get_or, take, drop}
use Rattle.std.specs.Prelude.{if◌then◌else◌}
use Rattle.wire.specs.Rows.{row_of, row_words}
use Rattle.wire.specs.Bytes.{stored}
use Rattle.wire.specs.RowOps.{with_bit, union_of}
use Rattle.block.specs.Limits.{max_keys}
use Rattle.footprint.specs.Access.{Access}
use Rattle.footprint.specs.Plan.{entry_cell, entry_writes}
use Rattle.footprint.specs.EntryUses.{against, entry_touches_cell, entry_words, some_entry_uses}
use Rattle.footprint.specs.Listed.{EveryListed}

-- ---- masks

-- Bit i of a cell's mask: whether call i, of those so far, uses the cell so.
abbrev pub mask_bits : (ℕ → Bool) → List (List ℕ) → ℕ → List Bool
mask_bits how calls x = map (some_entry_uses how x) calls

-- The union of a row with those that a call's entries take.
unfoldable pub union_over : (ℕ → List ℕ) → List ℕ → List ℕ → List ℕ
union_over row_from row [] = row
union_over row_from row (e ∷ es) = union_over row_from (union_of row (row_from e)) es

abbrev pub no_row : List ℕ
no_row = 0 ∷ 0 ∷ 0 ∷ 0 ∷ []

-- The row of a call behind the calls so far: the union of the masks of its cells, of touched cells where it writes, else of written ones.
abbrev pub mask_row : List (List ℕ) → List ℕ → List ℕ
mask_row calls = union_over (λ e. row_of (mask_bits (against e) calls (entry_cell e))) no_row

-- ---- the buffers

-- A cell has four words of each buffer.
abbrev pub mask_words : ℕ
mask_words = row_words * max_keys

abbrev pub row_at : List ℕ → ℕ → List ℕ
row_at masks x = take row_words (drop (row_words * x) masks)

-- The row that an entry takes from the buffers, and a call's row.
abbrev pub entry_row : List ℕ → List ℕ → ℕ → List ℕ
entry_row touched writers e = row_at (if entry_writes e then touched else writers) (entry_cell e)

abbrev pub mask_row_words : List ℕ → List ℕ → List ℕ → List ℕ
mask_row_words touched writers = union_over (entry_row touched writers) no_row

-- A buffer with a row stored as a cell's, and with call j set in a cell's row.
abbrev pub with_row : List ℕ → ℕ → List ℕ → List ℕ
with_row masks x row = stored masks (row_words * x) row

abbrev pub marked : List ℕ → ℕ → ℕ → List ℕ
marked masks x j = with_row masks x (with_bit (row_at masks x) j)

abbrev pub marked_if : Bool → List ℕ → ℕ → ℕ → List ℕ
marked_if used masks x j = if used then marked masks x j else masks

-- A buffer with bit j set for each of call j's entries that uses its cell so.
unfoldable pub add_call_words : (ℕ → Bool) → List ℕ → ℕ → List ℕ → List ℕ
add_call_words how masks j [] = masks
add_call_words how masks j (e ∷ es) = add_call_words how (marked_if (how e) masks (entry_cell e) j) j es

-- Entries whose cells all have rows in the buffers.
abbrev pub CellsInTable : List ℕ → Type 0
CellsInTable es = (k : ℕ) → get_or es k 0 < 4 * max_keys

-- A buffer that holds the masks of the calls so far, and two that do.
pub record Masked (how : ℕ → Bool) (masks : List ℕ) (calls : List (List ℕ)) : Type 0 where
  pub room : mask_words ≤ length masks
  pub rows : (x : ℕ) → x < max_keys → row_at masks x ≡ row_of (mask_bits how calls x)

pub record MasksOf (touched writers : List ℕ) (calls : List (List ℕ)) : Type 0 where
  pub touched_masks : Masked entry_touches_cell touched calls
  pub writer_masks : Masked entry_writes writers calls

-- Two buffers that hold the masks of the sets so far, all of them in the table.
pub record MasksFor (keys touched writers : List ℕ) (sets : List (List Access)) : Type 0 where
  pub masks : MasksOf touched writers (map (entry_words keys) sets)
  pub listed : EveryListed keys sets
