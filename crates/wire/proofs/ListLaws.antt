-- Laws of lists: what holds of everything in one, the elements of one that is mapped, and parts.
use mathlib.Core.Path.{◌≡◌, refl, sym, ◌∙◌}
use mathlib.Core.List.{List, [], ◌∷◌, ◌++◌, map}
use Prim.Native.Nat.{ℕ, zero, suc, ◌*◌, ◌-◌, ◌/◌, ◌<◌, ◌≤◌}
use native.Mathlib.Nat.{le_of_suc-le-suc, not-suc-le-zero}
use native.Mathlib.Omega.{arith}
use lib.ListN.{length, get_or, take, drop, length-drop, drop_of_length-le}
use lib.Seq.{take_all, drop-length, length-take-le}
use Rattle.wire.specs.All.{All}

pub all_map : {A : Type 0} (P Q : A → Type 0) → ((x : A) → P x → Q x) → (xs : List A) → All P xs → All Q xs
all_map P Q f [] h = tt
all_map P Q f (x ∷ xs) h = (f x h.0, all_map P Q f xs h.1)

pub all_append : {A : Type 0} (P : A → Type 0) (xs ys : List A) → All P xs → All P ys → All P (xs ++ ys)
all_append P [] ys p q = q
all_append P (x ∷ xs) ys p q = (p.0, all_append P xs ys p.1 q)

-- An element is one of the list, or what stands for one behind its end.
pub all_at : {A : Type 0} (P : A → Type 0) (xs : List A) (d : A) → P d → All P xs → (i : ℕ) → P (get_or xs i d)
all_at P [] d none h i = none
all_at P (x ∷ xs) d none h zero = h.0
all_at P (x ∷ xs) d none h (suc i) = all_at P xs d none h.1 i

-- An element of a mapped list.
pub map_at : {A B : Type 0} (f : A → B) (l : List A) (j : ℕ) (d : A) (e : B) → j < length l → get_or (map f l) j e ≡ f (get_or l j d)
map_at f [] j d e h = absurd (not-suc-le-zero h)
map_at f (a ∷ l) zero d e h = refl
map_at f (a ∷ l) (suc j) d e h = map_at f l j d e (le_of_suc-le-suc h)

-- ---- parts of a list

-- The part from a position to the end is all that stands there.
pub to_the_end : (s : List ℕ) (at : ℕ) → take (length s - at) (drop at s) ≡ drop at s
to_the_end s at = take_all (length s - at) (drop at s) (simp length-drop (omega arith))

-- From any position past the end there is the same: nothing.
pub past_the_end : (s : List ℕ) (at : ℕ) → length s < at → take (length s - length s) (drop (length s) s) ≡ drop at s
past_the_end s at h =
    to_the_end s (length s) ∙ drop-length s ∙ sym (drop_of_length-le s {i = at} (omega arith))

-- A stretch of more whole parts than there are is everything.
pub cut : (s : List ℕ) (size : ℕ) → length s / 8 < size → s ≡ take (8 * size) s
cut s size h = sym (take_all (8 * size) s (omega arith))

pub cut_length : (s : List ℕ) (n : ℕ) → n ≤ length s → n ≡ length (take n s)
cut_length s n h = sym (length-take-le n s h)
