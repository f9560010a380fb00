-- The row from the masks is the row of the conflict definition.
use mathlib.Core.Path.{◌≡◌, refl, sym, ap, ap₂, ◌∙◌, fun_ext}
use mathlib.Core.Bool.{Bool, false, ◌||◌, or_assoc}
use mathlib.Core.List.{List, [], ◌∷◌, map}
use Prim.Native.Nat.{ℕ, zero, suc, ◌≤◌}
use native.Mathlib.Omega.{arith}
use lib.ListN.{length, get_or, length-map}
use Rattle.wire.specs.Rows.{row_of, in_row}
use Rattle.wire.specs.RowOps.{union_of}
use Rattle.wire.proofs.RowLaws.{IsRow, in_row_row_of, row_of_is_row, row_of_none, row_of_unique, in_row_union, union_is_row}
use Rattle.block.specs.Limits.{max_calls}
use Rattle.footprint.specs.Access.{Access}
use Rattle.footprint.specs.Conflict.{conflict_bits, row_for}
use Rattle.footprint.proofs.ConflictLaws.{or-false, conflict_length}
use Rattle.footprint.specs.Plan.{entry_cell}
use Rattle.footprint.specs.EntryUses.{against, any_of, some_entry_uses, entry_words}
use Rattle.analysis.specs.Masks.{mask_bits, union_over, no_row, mask_row}
use Rattle.footprint.specs.Listed.{AllListed, EveryListed}
use Rattle.footprint.proofs.EntryLaws.{waits_conflict}

-- ---- the row

module _ (row_from : ℕ → List ℕ) (right : (e : ℕ) → IsRow (row_from e)) where
  union_row : (es row : List ℕ) → IsRow row → IsRow (union_over row_from row es)
  unfolding union_over
  union_row [] row r = r
  union_row (e ∷ es) row r = union_row es (union_of row (row_from e)) (union_is_row row (row_from e) r (right e))

  union_bit : (es row : List ℕ) → IsRow row → (i : ℕ) → in_row (union_over row_from row es) i ≡ in_row row i || any_of (λ e. in_row (row_from e) i) es
  unfolding union_over any_of
  union_bit [] row r i = or-false (in_row row i)
  union_bit (e ∷ es) row r i =
      union_bit es (union_of row (row_from e)) (union_is_row row (row_from e) r (right e)) i
      ∙ ap (λ (b : Bool). b || any_of (λ f. in_row (row_from f) i) es) (in_row_union row (row_from e) i (r.four ∙ sym (right e).four))
      ∙ or_assoc (in_row row i) (in_row (row_from e) i) (any_of (λ f. in_row (row_from f) i) es)

-- The empty row, where the union begins.
no_row_is : IsRow no_row
no_row_is = rw (← row_of_none) (row_of_is_row [])

no_row_bit : (i : ℕ) → in_row no_row i ≡ false
no_row_bit i = rw (← row_of_none) (in_row_row_of [] i (omega arith))

any_none : (es : List ℕ) → any_of (λ e. false) es ≡ false
unfolding any_of
any_none [] = refl
any_none (e ∷ es) = any_none es

mask_short : (keys : List ℕ) (sets : List (List Access)) (how : ℕ → Bool) (x : ℕ) → length sets ≤ max_calls
    → length (mask_bits how (map (entry_words keys) sets) x) ≤ 256
mask_short keys sets how x h = rw (length-map (map (entry_words keys) sets) (some_entry_uses how x), length-map sets (entry_words keys)) h

module _ (keys : List ℕ) (t : List Access) (listed : AllListed keys t) where
  -- Bit i of the masks of the call's entries is set in one of them exactly when the strong-swap test of call i and the call fails.
  bits_conflict : (sets : List (List Access)) → EveryListed keys sets → (i : ℕ)
      → any_of (λ e. get_or (mask_bits (against e) (map (entry_words keys) sets) (entry_cell e)) i false) (entry_words keys t) ≡ get_or (conflict_bits sets t) i false
  unfolding conflict_bits
  bits_conflict [] l i = any_none (entry_words keys t)
  bits_conflict (s ∷ sets) l zero = waits_conflict keys s l.0 t listed
  bits_conflict (s ∷ sets) l (suc i) = bits_conflict sets l.1 i

  -- The row from the masks of the calls so far is the row of the conflict definition.
  pub row_from_masks : (sets : List (List Access)) → EveryListed keys sets → length sets ≤ max_calls
      → mask_row (map (entry_words keys) sets) (entry_words keys t) ≡ row_for sets t
  row_from_masks sets l short =
      let calls : List (List ℕ) = map (entry_words keys) sets in
      let from : ℕ → List ℕ = λ e. row_of (mask_bits (against e) calls (entry_cell e)) in
      let rows : (e : ℕ) → IsRow (from e) = λ e. row_of_is_row (mask_bits (against e) calls (entry_cell e)) in
      row_of_unique (mask_row calls (entry_words keys t)) (conflict_bits sets t)
      (union_row from rows (entry_words keys t) no_row no_row_is)
      (rw (conflict_length sets t) short)
      (λ i h. union_bit from rows (entry_words keys t) no_row no_row_is i
      ∙ ap₂ ◌||◌ (no_row_bit i)
      (ap (λ (p : ℕ → Bool). any_of p (entry_words keys t))
      (fun_ext (λ e. in_row_row_of (mask_bits (against e) calls (entry_cell e)) i (mask_short keys sets (against e) (entry_cell e) short)))
      ∙ bits_conflict sets l i))
