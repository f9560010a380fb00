-- Elements stored one by one: the laws of a loop that stores a list from a place on.
use mathlib.Core.Path.{◌≡◌, refl, sym, ap, ap₂, ◌∙◌}
use mathlib.Core.List.{List, [], ◌∷◌}
use Prim.Native.Nat.{ℕ, ◌+◌, ◌≤◌, ◌<◌}
use native.Mathlib.Numerals.{add-one}
use native.Mathlib.Omega.{arith}
use lib.ListN.{length, get_or, take, set}
use lib.Seq.{take-suc, take_all, length-take-le}
use Rattle.wire.specs.Bytes.{stored}
use Rattle.wire.proofs.BytesLaws.{stored_append, stored_length}

module _ {A : Type 0} where
  -- The first k elements of a list are stored.
  pub record StoredTo (before : List A) (at : ℕ) (list : List A) (now : List A) (k : ℕ) : Type 0 where
    pub within : k ≤ length list
    pub same : now ≡ stored before at (take k list)

module _ {A : Type 0} (before : List A) (at : ℕ) (list : List A) where
  pub stored_none : StoredTo before at list before 0
  unfolding stored
  stored_none = record { within = omega arith; same = refl }

  pub stored_more : {now next : List A} (k : ℕ) → StoredTo before at list now k → k < length list → {x : A} (d : A) → next ≡ set now (at + k) x → x ≡ get_or list k d
      → StoredTo before at list next (k + 1)
  unfolding stored
  stored_more {now} k h l d e f =
      record {
        within = omega arith;
        same =
            e
            ∙ ap (set now (at + k)) f
            ∙ ap₂ (λ (s : List A) (i : ℕ). set s (at + i) (get_or list k d)) h.same (sym (length-take-le k list h.within))
            ∙ sym (stored_append (take k list) (get_or list k d ∷ []) before at)
            ∙ rw (add-one k, take-suc list k d l);
      }

  pub stored_all : {now : List A} (k : ℕ) → StoredTo before at list now k → length list ≤ k → now ≡ stored before at list
  stored_all k h l = h.same ∙ ap (stored before at) (take_all k list l)

  pub stored_kept : {now : List A} (k : ℕ) → StoredTo before at list now k → length now ≡ length before
  stored_kept k h = ap length h.same ∙ stored_length (take k list) before at
