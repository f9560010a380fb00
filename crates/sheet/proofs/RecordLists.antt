-- Lists of records: their bytes joined, the sum of their lengths, and where each of them stands.
use mathlib.Core.Path.{◌≡◌, refl, sym, ap, ap₂, ◌∙◌}
use mathlib.Core.List.{List, [], ◌∷◌, ◌++◌, append_assoc, append-nil, flatten, sum}
use Prim.Native.Nat.{ℕ, suc, ◌+◌, ◌≤◌, ◌<◌}
use native.Mathlib.Omega.{arith}
use lib.ListN.{length, get_or, take, drop, length-append}
use lib.Seq.{take-length, take-suc, split_at, take-append_seam, drop_at}
use Rattle.wire.specs.Bytes.{stored}
use Rattle.wire.proofs.BytesLaws.{stored_inside}
use Rattle.sheet.specs.Sheet.{lengths, record_offset, offset_behind}

pub joined_append : (xs ys : List (List ℕ)) → flatten (xs ++ ys) ≡ flatten xs ++ flatten ys
unfolding flatten
joined_append [] ys = refl
joined_append (x ∷ xs) ys = ap (λ (s : List ℕ). x ++ s) (joined_append xs ys) ∙ sym (append_assoc x (flatten xs) (flatten ys))

pub joined_one : (r : List ℕ) → flatten (r ∷ []) ≡ r
unfolding flatten
joined_one r = append-nil r

pub lengths_none : lengths [] ≡ 0
unfolding sum
lengths_none = refl

pub lengths_more : (x : List ℕ) (xs : List (List ℕ)) → lengths (x ∷ xs) ≡ length x + lengths xs
unfolding sum
lengths_more x xs = refl

pub lengths_append : (xs ys : List (List ℕ)) → lengths (xs ++ ys) ≡ lengths xs + lengths ys
lengths_append [] ys = omega (arith, lengths_none)
lengths_append (x ∷ xs) ys = omega (arith, lengths_more x (xs ++ ys), lengths_more x xs, lengths_append xs ys)

pub lengths_one : (x : List ℕ) → lengths (x ∷ []) ≡ length x
unfolding sum
lengths_one x = omega arith

pub joined_length : (rs : List (List ℕ)) → length (flatten rs) ≡ lengths rs
unfolding flatten sum
joined_length [] = refl
joined_length (r ∷ rs) = length-append r (flatten rs) ∙ ap (λ (n : ℕ). length r + n) (joined_length rs)

-- The offset behind some records is their length, whatever comes then.
pub offset_front : (xs ys : List (List ℕ)) → record_offset (xs ++ ys) (length xs) ≡ lengths xs
offset_front xs ys = ap lengths (take-append_seam xs ys)

pub behind_whole : (rs : List (List ℕ)) → offset_behind rs ≡ length (flatten rs)
behind_whole rs = ap lengths (take-length rs) ∙ sym (joined_length rs)

-- Stored at the front of an output that is long enough, they stand up to that offset.
pub front_whole : (rs : List (List ℕ)) (output : List ℕ) → length (flatten rs) ≤ length output → take (offset_behind rs) (stored output 0 (flatten rs)) ≡ flatten rs
front_whole rs output fits =
    let bytes : List ℕ = flatten rs in
    ap₂ (λ (n : ℕ) (s : List ℕ). take n s) (behind_whole rs) (stored_inside bytes output 0 (omega arith))
    ∙ take-append_seam bytes (drop (0 + length bytes) output)

-- From one record to the next.
pub offset_next : (rs : List (List ℕ)) (k : ℕ) → k < length rs → record_offset rs (k + 1) ≡ record_offset rs k + length (get_or rs k [])
offset_next rs k l =
    let e : k + 1 ≡ suc k = omega arith in
    ap (record_offset rs) e
    ∙ ap lengths (take-suc rs k [] l)
    ∙ lengths_append (take k rs) (get_or rs k [] ∷ [])
    ∙ ap (λ (n : ℕ). record_offset rs k + n) (lengths_one (get_or rs k []))

-- At its offset stands the record, and behind it the others.
pub at_offset : (rs : List (List ℕ)) (k : ℕ) → k < length rs → drop (record_offset rs k) (flatten rs) ≡ get_or rs k [] ++ flatten (drop (suc k) rs)
unfolding flatten
at_offset rs k l =
    ap (drop (record_offset rs k)) (ap flatten (split_at rs k [] l) ∙ joined_append (take k rs) (get_or rs k [] ∷ drop (suc k) rs))
    ∙ drop_at (flatten (take k rs)) (get_or rs k [] ++ flatten (drop (suc k) rs)) (record_offset rs k) (joined_length (take k rs))
