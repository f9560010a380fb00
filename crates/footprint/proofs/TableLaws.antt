-- Laws of the rising table of keys: what an insertion keeps and adds, and the numbers of cells.
use mathlib.Core.Path.{◌≡◌, refl, sym, ap, ◌∙◌}
use mathlib.Core.Bool.{Bool, true, false, ◌||◌}
use mathlib.Core.List.{List, [], ◌∷◌}
use Prim.Native.Nat.{ℕ, zero, suc, ◌+◌, ◌≤◌, ◌<◌, suc-le-suc}
use native.Mathlib.Nat.{not-suc-le-zero, le_of_suc-le-suc, lt_trans}
use native.Mathlib.Omega.{arith}
use borrow.Author.Tests.{ltb-true, ltb-false, eqb-true, eqb-false, lt-ltb, le-ltb, eq-eqb, ne_eqb}
use lib.Dec.{eqb, ltb}
use lib.ListN.{length, get_or}
use Rattle.std.specs.Prelude.{if◌then◌else◌}
use Rattle.arith.proofs.ChoiceLaws.{or_left, or_right}
use Rattle.footprint.specs.Access.{Access}
use Rattle.footprint.specs.Conflict.{member}
use Rattle.footprint.specs.Table.{insert_key, insert_keys, cell_number}
use Rattle.footprint.specs.KeyWords.{Above, RisingKeys}
use Rattle.footprint.specs.Sets.{access_keys}

-- ---- a key against the first of a table

pub data Order (k l : ℕ) : Type 0 where
  below : k < l → Order k l
  equal : k ≡ l → Order k l
  above : l < k → Order k l

pub order : (k l : ℕ) → Order k l
order k l = by_less (ltb k l) refl
  where
    by_equal : l ≤ k → (b : Bool) → eqb k l ≡ b → Order k l
    by_equal h true e = equal (eqb-true k l e)
    by_equal h false e = let differ : k ≡ l → ⊥ = eqb-false k l e in above (omega arith)

    by_less : (b : Bool) → ltb k l ≡ b → Order k l
    by_less true e = below (ltb-true k l e)
    by_less false e = by_equal (ltb-false k l e) (eqb k l) refl

pub clash : {b : Bool} → b ≡ true → b ≡ false → ⊥
clash p q = let z : ◌≡◌ {A = ℕ} 0 1 = cc in omega arith

-- What an insertion makes: shown of each of its three cases.
pub insert_cases : (P : List ℕ → Type 0) (l : ℕ) (ls : List ℕ) (k : ℕ)
    → (k < l → P (k ∷ l ∷ ls)) → (k ≡ l → P (l ∷ ls)) → (l < k → P (l ∷ insert_key ls k)) → P (insert_key (l ∷ ls) k)
unfolding insert_key
insert_cases P l ls k f g h = go (order k l)
  where
    go : Order k l → P (if ltb k l then k ∷ l ∷ ls else if eqb k l then l ∷ ls else l ∷ insert_key ls k)
    go (below e) = rw (lt-ltb k l e) (f e)
    go (equal e) = let no_less : l ≤ k = omega arith in rw (le-ltb k l no_less, eq-eqb k l e) (g e)
    go (above e) =
        let no_less : l ≤ k = omega arith in
        let differ : k ≡ l → ⊥ = omega arith in
        rw (le-ltb k l no_less, ne_eqb k l differ) (h e)

-- ---- an insertion keeps the table rising

above_trans : (k l : ℕ) (ls : List ℕ) → k < l → Above l ls → Above k ls
above_trans k l [] h a = tt
above_trans k l (m ∷ ms) h a = (lt_trans h a.0, above_trans k l ms h a.1)

above_insert : (l : ℕ) (ls : List ℕ) (k : ℕ) → l < k → Above l ls → Above l (insert_key ls k)
unfolding insert_key
above_insert l [] k h a = (h, tt)
above_insert l (m ∷ ms) k h a =
    insert_cases (Above l) m ms k (λ e. (h, a)) (λ e. a) (λ e. (a.0, above_insert l ms k h a.1))

pub rising_insert : (t : List ℕ) (k : ℕ) → RisingKeys t → RisingKeys (insert_key t k)
unfolding insert_key
rising_insert [] k r = (tt, tt)
rising_insert (l ∷ ls) k r =
    insert_cases RisingKeys l ls k
    (λ e. ((e, above_trans k l ls e r.0), r))
    (λ e. r)
    (λ e. (above_insert l ls k e r.0, rising_insert ls k r.1))

pub rising_inserts : (t : List ℕ) (es : List Access) → RisingKeys t → RisingKeys (insert_keys t es)
unfolding insert_keys
rising_inserts t [] r = r
rising_inserts t (e ∷ es) r = rising_inserts (insert_key t e.key) es (rising_insert t e.key r)

-- ---- it adds its key, and nothing else

or_again : (a b : Bool) → (a || b) ≡ (a || (a || b))
or_again true b = refl
or_again false b = refl

or_swap : (a b c : Bool) → (a || (b || c)) ≡ (b || (a || c))
or_swap true true c = refl
or_swap true false c = refl
or_swap false b c = refl

pub member_insert : (j : ℕ) (t : List ℕ) (k : ℕ) → member j (insert_key t k) ≡ (eqb j k || member j t)
unfolding insert_key member
member_insert j [] k = refl
member_insert j (l ∷ ls) k =
    insert_cases (λ (s : List ℕ). member j s ≡ (eqb j k || member j (l ∷ ls))) l ls k
    (λ e. refl)
    (λ e. rw e (or_again (eqb j l) (member j ls)))
    (λ e. rw (member_insert j ls k) (or_swap (eqb j l) (eqb j k) (member j ls)))

-- The same of all keys of a call's entries.
pub member_inserts : (j : ℕ) (t : List ℕ) (es : List Access) → member j (insert_keys t es) ≡ (member j (access_keys es) || member j t)
unfolding insert_keys member
member_inserts j t [] = refl
member_inserts j t (e ∷ es) =
    member_inserts j (insert_key t e.key) es
    ∙ ap (λ (b : Bool). member j (access_keys es) || b) (member_insert j t e.key)
    ∙ join (eqb j e.key) (member j (access_keys es)) (member j t)
  where
    join : (a b c : Bool) → (b || (a || c)) ≡ ((a || b) || c)
    join true true c = refl
    join true false c = refl
    join false b c = refl

-- What the table had, it keeps; and it has the keys of the entries.
pub member_kept : (j : ℕ) (t : List ℕ) (es : List Access) → member j t ≡ true → member j (insert_keys t es) ≡ true
member_kept j t es h = member_inserts j t es ∙ or_right (member j (access_keys es)) (member j t) h

pub member_added : (j : ℕ) (t : List ℕ) (es : List Access) → member j (access_keys es) ≡ true → member j (insert_keys t es) ≡ true
member_added j t es h = member_inserts j t es ∙ or_left (member j (access_keys es)) (member j t) h

-- ---- lengths

-- The table stays as long, or is one longer.
pub insert_length : (t : List ℕ) (k : ℕ) → (length t ≤ length (insert_key t k)) × (length (insert_key t k) ≤ suc (length t))
unfolding insert_key
insert_length [] k = omega arith
insert_length (l ∷ ls) k =
    insert_cases (λ (s : List ℕ). (suc (length ls) ≤ length s) × (length s ≤ suc (suc (length ls)))) l ls k
    (λ e. omega arith)
    (λ e. omega arith)
    (λ e. (suc-le-suc (insert_length ls k).0, suc-le-suc (insert_length ls k).1))

pub inserts_length : (t : List ℕ) (es : List Access) → (length t ≤ length (insert_keys t es)) × (length (insert_keys t es) ≤ length t + length es)
unfolding insert_keys
inserts_length t [] = omega arith
inserts_length t (e ∷ es) =
    let one = insert_length t e.key in
    let rest = inserts_length (insert_key t e.key) es in
    omega arith

-- ---- where a key stands

pub above_at : (l : ℕ) (ls : List ℕ) (i : ℕ) → Above l ls → i < length ls → l < get_or ls i 0
above_at l [] i a h = absurd (not-suc-le-zero h)
above_at l (m ∷ ms) zero a h = a.0
above_at l (m ∷ ms) (suc i) a h = above_at l ms i a.1 (le_of_suc-le-suc h)

-- The keys of a rising table rise with their places.
pub rising_at : (t : List ℕ) (i j : ℕ) → RisingKeys t → i < j → j < length t → get_or t i 0 < get_or t j 0
rising_at [] i j r h w = absurd (not-suc-le-zero w)
rising_at (l ∷ ls) i zero r h w = absurd (not-suc-le-zero h)
rising_at (l ∷ ls) zero (suc j) r h w = above_at l ls j r.0 (le_of_suc-le-suc w)
rising_at (l ∷ ls) (suc i) (suc j) r h w = rising_at ls i j r.1 (le_of_suc-le-suc h) (le_of_suc-le-suc w)

-- ---- members

pub above_member : (l : ℕ) (ls : List ℕ) (k : ℕ) → Above l ls → k ≤ l → member k ls ≡ false
unfolding member
above_member l [] k a h = refl
above_member l (m ∷ ms) k a h =
    let lt : l < m = a.0 in
    let differ : k ≡ m → ⊥ = omega arith in
    rw (ne_eqb k m differ) (above_member l ms k a.1 h)

pub member_at : (t : List ℕ) (i : ℕ) → i < length t → member (get_or t i 0) t ≡ true
unfolding member
member_at [] i h = absurd (not-suc-le-zero h)
member_at (l ∷ ls) zero h = rw (eq-eqb l l refl)
member_at (l ∷ ls) (suc i) h = or_right (eqb (get_or ls i 0) l) (member (get_or ls i 0) ls) (member_at ls i (le_of_suc-le-suc h))

-- An insertion changes nothing where the key is there, and else puts it at its place.
pub insert_present : (t : List ℕ) (k : ℕ) → RisingKeys t → member k t ≡ true → insert_key t k ≡ t
unfolding member
insert_present [] k r m = absurd (clash m refl)
insert_present (l ∷ ls) k r m =
    insert_cases (λ (s : List ℕ). s ≡ l ∷ ls) l ls k
    (λ e. absurd (clash m (rw (ne_eqb k l (omega arith)) (above_member l ls k r.0 (omega arith)))))
    (λ e. refl)
    (λ e. ap (λ (s : List ℕ). l ∷ s) (insert_present ls k r.1 (rw (ne_eqb k l (omega arith)) at m)))

-- ---- the numbers of cells

-- A cell's number, shown of its two cases.
pub cell_cases : (P : ℕ → Type 0) (l : ℕ) (ls : List ℕ) (k : ℕ) → member k (l ∷ ls) ≡ true
    → (k ≡ l → P 0) → (member k ls ≡ true → P (suc (cell_number ls k))) → P (cell_number (l ∷ ls) k)
unfolding cell_number member
cell_cases P l ls k m f g = go (eqb k l) refl m
  where
    go : (b : Bool) → eqb k l ≡ b → (b || member k ls) ≡ true → P (if b then 0 else suc (cell_number ls k))
    go true e h = f (eqb-true k l e)
    go false e h = g h

pub no_member : (k : ℕ) → member k [] ≡ true → ⊥
unfolding member
no_member k m = clash m refl

pub cell_lt : (t : List ℕ) (k : ℕ) → member k t ≡ true → cell_number t k < length t
cell_lt [] k m = absurd (no_member k m)
cell_lt (l ∷ ls) k m =
    cell_cases (λ (i : ℕ). i < suc (length ls)) l ls k m (λ e. omega arith) (λ h. suc-le-suc (cell_lt ls k h))

-- The cell of a key's number is the key's.
pub number_key : (t : List ℕ) (k : ℕ) → member k t ≡ true → get_or t (cell_number t k) 0 ≡ k
number_key [] k m = absurd (no_member k m)
number_key (l ∷ ls) k m =
    cell_cases (λ (i : ℕ). get_or (l ∷ ls) i 0 ≡ k) l ls k m (λ e. sym e) (λ h. number_key ls k h)

pub cell_injective : (t : List ℕ) (j k : ℕ) → member j t ≡ true → member k t ≡ true → cell_number t j ≡ cell_number t k → j ≡ k
cell_injective t j k mj mk e = sym (number_key t j mj) ∙ ap (λ (i : ℕ). get_or t i 0) e ∙ number_key t k mk

-- The key at a place has that place for its number.
pub cell_at_lem : (t : List ℕ) (i : ℕ) → RisingKeys t → i < length t → cell_number t (get_or t i 0) ≡ i
cell_at_lem t i r w = go (order (cell_number t (get_or t i 0)) i)
  where
    m : member (get_or t i 0) t ≡ true
    m = member_at t i w

    go : Order (cell_number t (get_or t i 0)) i → cell_number t (get_or t i 0) ≡ i
    go (below e) = let wrong = rising_at t (cell_number t (get_or t i 0)) i r e w in let k = number_key t (get_or t i 0) m in absurd (omega arith)
    go (equal e) = e
    go (above e) = let wrong = rising_at t i (cell_number t (get_or t i 0)) r e (cell_lt t (get_or t i 0) m) in let k = number_key t (get_or t i 0) m in absurd (omega arith)
