-- The mathematics of the proofs of `rows`, over plain variables: words that are stored, a cell's row, and the loops over a call's entries.
use mathlib.Core.Path.{◌≡◌, refl, sym, ap, ◌∙◌}
use mathlib.Core.Bool.{Bool}
use mathlib.Core.List.{List, [], ◌∷◌, ◌++◌}
use Prim.Native.Nat.{ℕ, ◌+◌, ◌≤◌, ◌<◌}
use native.Mathlib.Numerals.{add-one}
use native.Mathlib.Omega.{arith}
use borrow.Rule.Slice.PartMut.{put_mid}
use lib.ListN.{length, get_or, take, drop, drop_of_length-le}
use lib.Seq.{drop-cons, take_all}
use Rattle.std.proofs.lemmas.Slice.{put_mid-paste}
use Rattle.wire.specs.Bytes.{stored}
use Rattle.wire.proofs.BytesLaws.{stored_append, stored_inside}
use Rattle.wire.specs.RowOps.{with_bit, union_of}
use Rattle.analysis.specs.Masks.{union_over, row_at, with_row, marked, marked_if, add_call_words}
use Rattle.footprint.specs.Plan.{entry_cell}

-- ---- words stored

-- Words that are copied over a part of a buffer are stored there.
pub stored_by_copy : (s part ws : List ℕ) (at n : ℕ) → part ≡ ws → length ws ≡ n → at + length ws ≤ length s → put_mid at n s part ≡ stored s at ws
stored_by_copy s part ws at n e f h =
    put_mid-paste at n s part ws (length ws) e f refl
    ∙ ap (λ (l : List ℕ). take at s ++ l ++ drop (at + length ws) s) (take_all (length ws) ws (omega arith))
    ∙ sym (stored_inside ws s at h)

-- Those that are stored behind others are stored with them.
pub stored_on : (s : List ℕ) (at : ℕ) {one two : List ℕ} (l m : List ℕ) (i : ℕ) → one ≡ stored s at l → i ≡ at + length l → two ≡ stored one i m
    → two ≡ stored s at (l ++ m)
stored_on s at l m i e f g = rw (g, e, f) (sym (stored_append l m s at))

-- A cell's row that is taken out, has a call set, and is stored back.
pub mark_by_row : (ws : List ℕ) (x j : ℕ) {row new after : List ℕ} → row ≡ row_at ws x → new ≡ with_bit row j → after ≡ with_row ws x new
    → after ≡ marked ws x j
mark_by_row ws x j e f g = rw (g, f, e)

-- ---- the entries that are left

module _ (entries : List ℕ) where
  left_some : (k : ℕ) → k < length entries → drop k entries ≡ get_or entries k 0 ∷ drop (k + 1) entries
  left_some k l = drop-cons entries k 0 l ∙ rw (add-one k)

  left_none : (k : ℕ) → length entries ≤ k → drop k entries ≡ []
  left_none k l = drop_of_length-le entries {i = k} l

  -- A turn of the union takes the next entry's row; at the end the row is whole.
  module _ (row_from : ℕ → List ℕ) where
    pub union_turn : (row wider new : List ℕ) (k : ℕ) → k < length entries → new ≡ row_from (get_or entries k 0) → wider ≡ union_of row new
        → union_over row_from row (drop k entries) ≡ union_over row_from wider (drop (k + 1) entries)
    unfolding union_over
    union_turn row wider new k l e f = rw (left_some k l, f, e)

    pub union_end : (row : List ℕ) (k : ℕ) → length entries ≤ k → union_over row_from row (drop k entries) ≡ row
    unfolding union_over
    union_end row k l = rw (left_none k l)

  -- A turn of a call's marks takes the next entry; at the end all are made.
  module _ (how : ℕ → Bool) (j : ℕ) where
    pub add_turn : (masks more : List ℕ) (k : ℕ) → k < length entries → more ≡ marked_if (how (get_or entries k 0)) masks (entry_cell (get_or entries k 0)) j
        → add_call_words how masks j (drop k entries) ≡ add_call_words how more j (drop (k + 1) entries)
    unfolding add_call_words
    add_turn masks more k l e = rw (left_some k l, e)

    pub add_end : (masks : List ℕ) (k : ℕ) → length entries ≤ k → add_call_words how masks j (drop k entries) ≡ masks
    unfolding add_call_words
    add_end masks k l = rw (left_none k l)
