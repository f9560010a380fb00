-- Laws of the place of a key in the rising table: where it stands or would stand.
use mathlib.Core.Path.{◌≡◌, refl, sym, ap, ◌∙◌}
use mathlib.Core.Bool.{Bool, true, false, ◌||◌}
use mathlib.Core.List.{List, [], ◌∷◌, ◌++◌}
use Prim.Native.Nat.{ℕ, zero, suc, ◌≤◌, ◌<◌, zero-le, suc-le-suc}
use native.Mathlib.Nat.{not-suc-le-zero, le_of_suc-le-suc, lt_trans, add-suc}
use native.Mathlib.Omega.{arith}
use borrow.Author.Tests.{lt-ltb, le-ltb, eq-eqb, ne_eqb}
use lib.Dec.{eqb, ltb, leb-suc-suc}
use lib.ListN.{length, get_or, take, drop, length-append, take-append-drop}
use Rattle.std.specs.Prelude.{if◌then◌else◌}
use Rattle.footprint.specs.Conflict.{member}
use Rattle.footprint.specs.Table.{insert_key, cell_number}
use Rattle.footprint.specs.KeyWords.{Above, RisingKeys}
use Rattle.analysis.specs.KeyTable.{place_in, cell_place, stands_at}
use Rattle.footprint.proofs.TableLaws.{Order, below, equal, above, order, clash, insert_cases, above_at, above_member, insert_present, cell_cases, no_member}

place_none : (l : ℕ) (ls : List ℕ) (k : ℕ) → Above l ls → k ≤ l → place_in ls k ≡ 0
unfolding place_in
place_none l [] k a h = refl
place_none l (m ∷ ms) k a h =
    let lt : l < m = a.0 in
    let no_less : k ≤ m = omega arith in
    rw (le-ltb m k no_less) (place_none l ms k a.1 h)

place_first : (l : ℕ) (ls : List ℕ) (k : ℕ) → Above l ls → k ≤ l → place_in (l ∷ ls) k ≡ 0
unfolding place_in
place_first l ls k a h = rw (le-ltb l k h) (place_none l ls k a h)

place_later : (l : ℕ) (ls : List ℕ) (k : ℕ) → l < k → place_in (l ∷ ls) k ≡ suc (place_in ls k)
unfolding place_in
place_later l ls k h = rw (lt-ltb l k h)

step_le : (b : Bool) {p m : ℕ} → p ≤ m → (if b then suc p else p) ≤ suc m
step_le true h = suc-le-suc h
step_le false h = omega arith

pub place_le : (t : List ℕ) (k : ℕ) → place_in t k ≤ length t
unfolding place_in
place_le [] k = zero-le
place_le (l ∷ ls) k = step_le (ltb l k) (place_le ls k)

-- A place whose key is below k lies before k's place, and one whose key is not does not.
pub place_above : (t : List ℕ) (i k : ℕ) → RisingKeys t → i < length t → get_or t i 0 < k → i < place_in t k
place_above [] i k r w h = absurd (not-suc-le-zero w)
place_above (l ∷ ls) zero k r w h = rw (place_later l ls k h) (omega arith)
place_above (l ∷ ls) (suc i) k r w h =
    let less : l < k = lt_trans (above_at l ls i r.0 (le_of_suc-le-suc w)) h in
    rw (place_later l ls k less) (suc-le-suc (place_above ls i k r.1 (le_of_suc-le-suc w) h))

pub place_below : (t : List ℕ) (i k : ℕ) → RisingKeys t → i < length t → k ≤ get_or t i 0 → place_in t k ≤ i
unfolding place_in
place_below [] i k r w h = absurd (not-suc-le-zero w)
place_below (l ∷ ls) zero k r w h = rw (place_first l ls k r.0 h) zero-le
place_below (l ∷ ls) (suc i) k r w h = step_le (ltb l k) (place_below ls i k r.1 (le_of_suc-le-suc w) h)

stands_first : (l : ℕ) (ls : List ℕ) (k : ℕ) → stands_at (l ∷ ls) 0 k ≡ eqb l k
unfolding stands_at
stands_first l ls k = rw (lt-ltb 0 (suc (length ls)) (omega arith))

stands_later : (l : ℕ) (ls : List ℕ) (i k : ℕ) → stands_at (l ∷ ls) (suc i) k ≡ stands_at ls i k
unfolding stands_at
stands_later l ls i k = rw (leb-suc-suc (suc i) (length ls))

-- A rising table has k exactly if k stands at its place.
pub stands_member : (t : List ℕ) (k : ℕ) → RisingKeys t → stands_at t (place_in t k) k ≡ member k t
unfolding stands_at member place_in
stands_member [] k r = refl
stands_member (l ∷ ls) k r = go (order k l) (stands_member ls k r.1)
  where
    at_first : k ≤ l → stands_at (l ∷ ls) (place_in (l ∷ ls) k) k ≡ eqb l k
    at_first h = ap (λ (i : ℕ). stands_at (l ∷ ls) i k) (place_first l ls k r.0 h) ∙ stands_first l ls k

    go : Order k l → stands_at ls (place_in ls k) k ≡ member k ls → stands_at (l ∷ ls) (place_in (l ∷ ls) k) k ≡ (eqb k l || member k ls)
    go (below e) ih =
        at_first (omega arith) ∙ ne_eqb l k (omega arith)
        ∙ rw (ne_eqb k l (omega arith)) (sym (above_member l ls k r.0 (omega arith)))
    go (equal e) ih = at_first (omega arith) ∙ eq-eqb l k (sym e) ∙ rw (eq-eqb k l e)
    go (above e) ih =
        ap (λ (i : ℕ). stands_at (l ∷ ls) i k) (place_later l ls k e) ∙ stands_later l ls (place_in ls k) k ∙ ih
        ∙ rw (ne_eqb k l (omega arith))

pub insert_absent : (t : List ℕ) (k : ℕ) → RisingKeys t → member k t ≡ false → insert_key t k ≡ take (place_in t k) t ++ k ∷ drop (place_in t k) t
unfolding insert_key place_in member
insert_absent [] k r m = refl
insert_absent (l ∷ ls) k r m =
    insert_cases (λ (s : List ℕ). s ≡ take (place_in (l ∷ ls) k) (l ∷ ls) ++ k ∷ drop (place_in (l ∷ ls) k) (l ∷ ls)) l ls k
    (λ e. rw (place_first l ls k r.0 (omega arith)))
    (λ e. absurd (clash (rw (eq-eqb k l e)) m))
    (λ e. rw (place_later l ls k e) (ap (λ (s : List ℕ). l ∷ s) (insert_absent ls k r.1 (rw (ne_eqb k l (omega arith)) at m))))

-- A cell's number is the key's place in the rising table.
pub cell_place_lem : (t : List ℕ) (k : ℕ) → RisingKeys t → member k t ≡ true → cell_number t k ≡ place_in t k
cell_place_lem [] k r m = absurd (no_member k m)
cell_place_lem (l ∷ ls) k r m =
    cell_cases (λ (i : ℕ). i ≡ place_in (l ∷ ls) k) l ls k m
    (λ e. sym (place_first l ls k r.0 (omega arith)))
    (λ h. ap suc (cell_place_lem ls k r.1 h) ∙ sym (place_later l ls k (later h (order k l))))
  where
    later : member k ls ≡ true → Order k l → l < k
    later h (below e) = absurd (clash h (above_member l ls k r.0 (omega arith)))
    later h (equal e) = absurd (clash h (above_member l ls k r.0 (omega arith)))
    later h (above e) = e

-- The place that a search finds, as a cell's number where there is one.
pub place_cell : (t : List ℕ) (k : ℕ) → RisingKeys t → place_in t k ≡ cell_place t k
unfolding cell_place
place_cell t k r = go (member k t) refl
  where
    go : (b : Bool) → member k t ≡ b → place_in t k ≡ (if b then cell_number t k else place_in t k)
    go true e = sym (cell_place_lem t k r e)
    go false e = refl

pub cell_place_member : (t : List ℕ) (k : ℕ) → member k t ≡ true → cell_place t k ≡ cell_number t k
unfolding cell_place
cell_place_member t k m = rw m

put_length : (t : List ℕ) (k i : ℕ) → length (take i t ++ k ∷ drop i t) ≡ suc (length t)
put_length t k i =
    length-append (take i t) (k ∷ drop i t) ∙ add-suc (length (take i t)) (length (drop i t))
    ∙ ap suc (sym (length-append (take i t) (drop i t)) ∙ ap length (take-append-drop i t))

-- How long the table is after an insertion.
pub insert_length_is : (t : List ℕ) (k : ℕ) → RisingKeys t → length (insert_key t k) ≡ (if member k t then length t else suc (length t))
insert_length_is t k r = go (member k t) refl
  where
    go : (b : Bool) → member k t ≡ b → length (insert_key t k) ≡ (if b then length t else suc (length t))
    go true e = ap length (insert_present t k r e)
    go false e = ap length (insert_absent t k r e) ∙ put_length t k (place_in t k)
