-- The mathematics of the table's proofs, over plain variables: keys compared by their words, a turn of the search, and the words that an
-- insertion moves.
use mathlib.Core.Path.{◌≡◌, refl, sym, ap, ap₂, ◌∙◌}
use mathlib.Core.Bool.{Bool, true, false, ◌&&◌, ◌||◌}
use mathlib.Core.List.{List, [], ◌∷◌, ◌++◌, append_assoc}
use Prim.Native.Nat.{ℕ, zero, suc, ◌+◌, ◌-◌, ◌*◌, ◌/◌, ◌^◌, ◌≤◌, ◌<◌}
use native.Mathlib.Nat.{zero-add, add-zero, suc-add, add_assoc}
use native.Mathlib.Numerals.{add-one}
use native.Mathlib.Decide.{dec_lt}
use native.Mathlib.Omega.{arith}
use borrow.Author.Tests.{ltb-true, ltb-false, eqb-true, eqb-false, lt-ltb, le-ltb, eq-eqb, ne_eqb}
use lib.Dec.{eqb, ltb}
use lib.ListN.{length, get_or, take, drop, set, replicate, length-append, length-drop, take-append-drop}
use lib.Seq.{slice, get_or-take, length-take-le, take-append-add, take-append_seam, drop-append-add, drop-append_seam}
use Rattle.std.specs.Prelude.{if◌then◌else◌}
use Rattle.std.specs.List.{copy_within}
use Rattle.std.specs.List.Sorted.{IsPartitionedBy, IsPartitionPoint}
use Rattle.std.specs.Simd.{first_chunks}
use Rattle.std.proofs.lemmas.Slice.{between_is}
use Rattle.std.proofs.lemmas.List.{drop-drop, get_or-drop}
use Rattle.wire.specs.Bytes.{repeated, padded}
use Rattle.block.specs.Limits.{max_keys}
use Rattle.footprint.specs.Conflict.{member}
use Rattle.footprint.specs.Table.{insert_key}
use Rattle.footprint.specs.Plan.{high_word, low_word, table_words}
use Rattle.footprint.specs.KeyWords.{key_from, key_at, keys_in}
use Rattle.analysis.specs.KeyTable.{place_in, stands_at, moved_up, Sorted, Tabled, Inserted}
use Rattle.analysis.proofs.PlaceLaws.{place_le, place_above, place_below, stands_member, insert_absent, insert_length_is}
use Rattle.footprint.proofs.TableLaws.{Order, below, equal, above, order, insert_present}
use Rattle.footprint.proofs.TableWordLaws.{keys_length, keys_at, words_append, words_length, high_of_key, low_of_key}
use Rattle.analysis.proofs.TableWords.{inserted_fits, inserted_full}

-- ---- two keys compared by their words

module _ (h l high low : ℕ) (hl : l < 2 ^ 32) (hlow : low < 2 ^ 32) where
  pub below_high : h < high → ltb (key_from h l) (key_from high low) ≡ true
  below_high e = lt-ltb (key_from h l) (key_from high low) (omega arith)

  pub above_high : high < h → ltb (key_from h l) (key_from high low) ≡ false
  above_high e = le-ltb (key_from h l) (key_from high low) (omega arith)

  pub same_high : h ≤ high → high ≤ h → ltb (key_from h l) (key_from high low) ≡ ltb l low
  same_high e f = go (ltb l low) refl
    where
      go : (b : Bool) → ltb l low ≡ b → ltb (key_from h l) (key_from high low) ≡ b
      go true t = let lt : l < low = ltb-true l low t in lt-ltb (key_from h l) (key_from high low) (omega arith)
      go false t = let le : low ≤ l = ltb-false l low t in le-ltb (key_from h l) (key_from high low) (omega arith)

  other_high : (h ≡ high → ⊥) → eqb (key_from h l) (key_from high low) ≡ false
  other_high e = ne_eqb (key_from h l) (key_from high low) (λ q. e (omega arith))

  equal_high : h ≡ high → eqb (key_from h l) (key_from high low) ≡ eqb l low
  equal_high e = go (eqb l low) refl
    where
      go : (b : Bool) → eqb l low ≡ b → eqb (key_from h l) (key_from high low) ≡ b
      go true t = let same : l ≡ low = eqb-true l low t in eq-eqb (key_from h l) (key_from high low) (omega arith)
      go false t = ne_eqb (key_from h l) (key_from high low) (λ q. eqb-false l low t (omega arith))

-- ---- the search

first_pairs : (m : ℕ) (ws : List ℕ) (i : ℕ) (d : List ℕ) → i < m → get_or (first_chunks 2 m ws) i d ≡ take 2 (drop (2 * i) ws)
first_pairs zero ws i d h = absurd (omega arith)
first_pairs (suc m) ws zero d h = refl
first_pairs (suc m) ws (suc i) d h =
    let e : 2 + 2 * i ≡ 2 * suc i = omega arith in
    first_pairs m (drop 2 ws) i d (omega arith) ∙ rw (drop-drop (2 * i) 2 ws, e)

-- Whether a pair of words is below another, the first words first.
abbrev pub pair_below : (high low : ℕ) → List ℕ → Bool
pair_below high low pair = ltb (get_or pair 0 0) high || (eqb (get_or pair 0 0) high && ltb (get_or pair 1 0) low)

words_below : (h l high low : ℕ) → l < 2 ^ 32 → low < 2 ^ 32 → (ltb h high || (eqb h high && ltb l low)) ≡ ltb (key_from h l) (key_from high low)
words_below h l high low hl hlow = go (order h high)
  where
    go : Order h high → (ltb h high || (eqb h high && ltb l low)) ≡ ltb (key_from h l) (key_from high low)
    go (below e) = rw (lt-ltb h high e) (sym (below_high h l high low hl hlow e))
    go (equal e) =
        rw (le-ltb h high (omega arith), eq-eqb h high e) (sym (same_high h l high low hl hlow (omega arith) (omega arith)))
    go (above e) =
        rw (le-ltb h high (omega arith), ne_eqb h high (λ q. omega arith)) (sym (above_high h l high low hl hlow e))

pairs_count : (m : ℕ) (ws : List ℕ) → length (first_chunks 2 m ws) ≡ m
pairs_count zero ws = refl
pairs_count (suc m) ws = ap suc (pairs_count m (drop 2 ws))

module _ (n : ℕ) (words : List ℕ) (high low : ℕ) (sorted : Sorted n words) (small : low < 2 ^ 32) (all : List (List ℕ))
    (made : all ≡ first_chunks 2 (length words / 2) words) where
  abbrev place : ℕ
  place = place_in (keys_in n words) (key_from high low)

  place_most : place ≤ n
  place_most = rw (keys_length n words) at (place_le (keys_in n words) (key_from high low))

  pair_at : (i : ℕ) (d : List ℕ) → i < n → pair_below high low (get_or (take n all) i d) ≡ ltb (key_at words i) (key_from high low)
  pair_at i d h =
      let room : 2 * n ≤ length words = sorted.room in
      let pair : get_or (take n all) i d ≡ take 2 (drop (2 * i) words) =
      get_or-take n all i d h ∙ ap (λ (l : List (List ℕ)). get_or l i d) made ∙ first_pairs (length words / 2) words i d (omega arith) in
      let first : get_or (take 2 (drop (2 * i) words)) 0 0 ≡ get_or words (2 * i) 0 =
      get_or-take 2 (drop (2 * i) words) 0 0 (omega arith) ∙ get_or-drop (2 * i) words 0 0 ∙ ap (λ (j : ℕ). get_or words j 0) (add-zero (2 * i)) in
      let second : get_or (take 2 (drop (2 * i) words)) 1 0 ≡ get_or words (2 * i + 1) 0 =
      get_or-take 2 (drop (2 * i) words) 1 0 (omega arith) ∙ get_or-drop (2 * i) words 1 0 in
      ap (pair_below high low) pair
      ∙ ap₂ (λ (h' l' : ℕ). ltb h' high || (eqb h' high && ltb l' low)) first second
      ∙ words_below (get_or words (2 * i) 0) (get_or words (2 * i + 1) 0) high low (sorted.lows i h) small

  -- A pair is below the key exactly if it stands before the key's place.
  pair_before : (i : ℕ) (d : List ℕ) → i < n → pair_below high low (get_or (take n all) i d) ≡ true → i < place
  pair_before i d h t =
      place_above (keys_in n words) i (key_from high low) sorted.rising (rw (keys_length n words) h)
      (rw (keys_at n words i h) (ltb-true (key_at words i) (key_from high low) (sym (pair_at i d h) ∙ t)))

  pair_behind : (i : ℕ) (d : List ℕ) → i < n → pair_below high low (get_or (take n all) i d) ≡ false → place ≤ i
  pair_behind i d h t =
      place_below (keys_in n words) i (key_from high low) sorted.rising (rw (keys_length n words) h)
      (rw (keys_at n words i h) (ltb-false (key_at words i) (key_from high low) (sym (pair_at i d h) ∙ t)))

  pairs_length : length (take n all) ≡ n
  pairs_length =
      let room : 2 * n ≤ length words = sorted.room in
      let count : length all ≡ length words / 2 = ap length made ∙ pairs_count (length words / 2) words in
      length-take-le n all (omega arith)

  pub pairs_parted : IsPartitionedBy (pair_below high low) (take n all)
  pairs_parted i j d le within t = go (pair_below high low (get_or (take n all) i d)) refl
    where
      go : (b : Bool) → pair_below high low (get_or (take n all) i d) ≡ b → b ≡ true
      go true e = refl
      go false e =
          let size : length (take n all) ≡ n = pairs_length in
          let before : j < place = pair_before j d (omega arith) t in
          let behind : place ≤ i = pair_behind i d (omega arith) e in
          absurd (omega arith)

  -- The point between those below the key and the others is its place.
  pub point_is_place : (r : ℕ) → r ≤ length (take n all)
      → IsPartitionPoint (λ y. pair_below high low y ≡ true) (λ y. pair_below high low y ≡ false) (take n all) r → (r ≡ place) × (r ≤ n)
  point_is_place r bound point =
      let size : length (take n all) ≡ n = pairs_length in
      let up : place ≤ r = upper (dec_lt r n) in
      let down : r ≤ place = lower r (omega arith) in
      (omega arith, omega arith)
    where
      upper : Dec (r < n) → place ≤ r
      upper (yes h) = let size : length (take n all) ≡ n = pairs_length in pair_behind r [] h (point.1 r [] (omega arith) (omega arith))
      upper (no h) = let most : place ≤ n = place_most in omega arith

      lower : (q : ℕ) → q ≤ r → q ≤ place
      lower zero h = omega arith
      lower (suc q) h =
          let size : length (take n all) ≡ n = pairs_length in
          let before : q < place = pair_before q [] (omega arith) (point.0 q [] (omega arith) (omega arith)) in
          omega arith

-- ---- whether a key stands at a place

pub stands_past : (n : ℕ) (words : List ℕ) (at k : ℕ) → n ≤ at → stands_at (keys_in n words) at k ≡ false
unfolding stands_at
stands_past n words at k h = rw (keys_length n words, le-ltb at n h)

stands_inside : (n : ℕ) (words : List ℕ) (at k : ℕ) → at < n → stands_at (keys_in n words) at k ≡ eqb (key_at words at) k
unfolding stands_at
stands_inside n words at k h = rw (keys_length n words, lt-ltb at n h, keys_at n words at h)

module _ (n : ℕ) (words : List ℕ) (at high low : ℕ) (sorted : Sorted n words) (small : low < 2 ^ 32) (inside : at < n) where
  pub stands_other : (get_or words (2 * at) 0 ≡ high → ⊥) → stands_at (keys_in n words) at (key_from high low) ≡ false
  stands_other e =
      stands_inside n words at (key_from high low) inside
      ∙ other_high (get_or words (2 * at) 0) (get_or words (2 * at + 1) 0) high low (sorted.lows at inside) small e

  pub stands_equal : get_or words (2 * at) 0 ≡ high → stands_at (keys_in n words) at (key_from high low) ≡ eqb (get_or words (2 * at + 1) 0) low
  stands_equal e =
      stands_inside n words at (key_from high low) inside
      ∙ equal_high (get_or words (2 * at) 0) (get_or words (2 * at + 1) 0) high low (sorted.lows at inside) small e

-- ---- the words that an insertion moves

-- Words that are copied two places up are moved.
pub moved_by_copy : (s : List ℕ) (from to : ℕ) → from ≤ to → copy_within s from to (from + 2) ≡ moved_up s from to
moved_by_copy s from to h =
    let end : from + 2 + (to - from) ≡ to + 2 = omega arith in
    append_assoc (take (from + 2) s) (take (to - from) (drop from s)) (drop (from + 2 + (to - from)) s)
    ∙ ap₂ (λ (m r : List ℕ). take (from + 2) s ++ (m ++ r)) (between_is s from to) (ap (λ (n : ℕ). drop n s) end)

-- ---- the pair that an insertion stores

set_append_add : (p m : List ℕ) (j a : ℕ) → set (p ++ m) (length p + j) a ≡ p ++ set m j a
set_append_add [] m j a = simp zero-add
set_append_add (x ∷ p) m j a = rw (suc-add (length p) j) (ap (λ (t : List ℕ). x ∷ t) (set_append_add p m j a))

first_two : (q r : List ℕ) (x y : ℕ) (z : List ℕ) (h l : ℕ) → set (set (take 2 (q ++ x ∷ y ∷ z) ++ r) 0 h) 1 l ≡ h ∷ l ∷ r
first_two [] r x y z h l = refl
first_two (a ∷ []) r x y z h l = refl
first_two (a ∷ b ∷ q) r x y z h l = refl

module _ (p q : List ℕ) (x y : ℕ) (z : List ℕ) where
  abbrev whole : List ℕ
  whole = p ++ (q ++ x ∷ y ∷ z)

  moved_parts : moved_up whole (length p) (length p + length q) ≡ p ++ (take 2 (q ++ x ∷ y ∷ z) ++ (q ++ z))
  moved_parts =
      ap₂ (λ (a b : List ℕ). a ++ b) (take-append-add p (q ++ x ∷ y ∷ z) 2)
      (ap₂ (λ (a b : List ℕ). a ++ b) middle behind)
      ∙ append_assoc p (take 2 (q ++ x ∷ y ∷ z)) (q ++ z)
    where
      middle : slice (length p) (length p + length q) whole ≡ q
      middle =
          ap (drop (length p)) (take-append-add p (q ++ x ∷ y ∷ z) (length q) ∙ ap (λ (t : List ℕ). p ++ t) (take-append_seam q (x ∷ y ∷ z)))
          ∙ drop-append_seam p q

      behind : drop (length p + length q + 2) whole ≡ z
      behind =
          rw (add_assoc (length p) (length q) 2)
          (drop-append-add p (q ++ x ∷ y ∷ z) (length q + 2) ∙ drop-append-add q (x ∷ y ∷ z) 2)

  -- A pair stored where the words behind it made room for it.
  pair_stored : (h l : ℕ) → set (set (moved_up whole (length p) (length p + length q)) (length p) h) (length p + 1) l ≡ p ++ (h ∷ l ∷ (q ++ z))
  pair_stored h l =
      let two : List ℕ = take 2 (q ++ x ∷ y ∷ z) ++ (q ++ z) in
      ap (λ (t : List ℕ). set (set t (length p) h) (length p + 1) l) moved_parts
      ∙ ap (λ (i : ℕ). set (set (p ++ two) i h) (length p + 1) l) (sym (add-zero (length p)))
      ∙ ap (λ (t : List ℕ). set t (length p + 1) l) (set_append_add p two 0 h)
      ∙ set_append_add p (set two 0 h) 1 l
      ∙ ap (λ (t : List ℕ). p ++ t) (first_two q (q ++ z) x y z h l)

zeros_two : (n : ℕ) → 2 ≤ n → repeated {A = ℕ} n 0 ≡ 0 ∷ 0 ∷ repeated (n - 2) 0
unfolding repeated
zeros_two n h = let e : n ≡ suc (suc (n - 2)) = omega arith in ap (λ (i : ℕ). replicate i 0) e

abbrev stored_at : List ℕ → ℕ → ℕ → ℕ → ℕ → List ℕ
stored_at words from to high low = set (set (moved_up words from to) from high) (from + 1) low

-- The words of a table with a key more, from those of the table: the later keys move up by one, and the key's words are stored.
filled : (t : List ℕ) (at k m : ℕ) → at ≤ length t → 2 * length t + 2 ≤ m
    → stored_at (padded m 0 (table_words t)) (2 * at) (2 * length t) (high_word k) (low_word k) ≡ padded m 0 (table_words (take at t ++ k ∷ drop at t))
unfolding table_words
filled t at k m h fits =
    let p : List ℕ = table_words (take at t) in
    let q : List ℕ = table_words (drop at t) in
    let free : ℕ = m - length (table_words t) in
    let all_words : length (table_words t) ≡ 2 * length t = words_length t in
    let before : length (table_words (take at t)) ≡ 2 * at =
    words_length (take at t) ∙ ap (λ (n : ℕ). 2 * n) (length-take-le at t h) in
    let behind : length (table_words (drop at t)) ≡ 2 * (length t - at) =
    words_length (drop at t) ∙ ap (λ (n : ℕ). 2 * n) (length-drop at t) in
    let end : length (table_words (take at t)) + length (table_words (drop at t)) ≡ 2 * length t = omega arith in
    let whole : padded m 0 (table_words t) ≡ p ++ (q ++ 0 ∷ 0 ∷ repeated (free - 2) 0) =
    ap₂ (λ (a b : List ℕ). a ++ b) (ap table_words (sym (take-append-drop at t)) ∙ words_append (take at t) (drop at t)) (zeros_two free (omega arith))
    ∙ append_assoc p q (0 ∷ 0 ∷ repeated (free - 2) 0) in
    let new : table_words (take at t ++ k ∷ drop at t) ≡ p ++ (high_word k ∷ low_word k ∷ q) = words_append (take at t) (k ∷ drop at t) in
    let longer : length (table_words (take at t ++ k ∷ drop at t)) ≡ 2 * length t + 2 =
    ap length new ∙ length-append p (high_word k ∷ low_word k ∷ q) ∙ omega arith in
    let rest : free - 2 ≡ m - length (table_words (take at t ++ k ∷ drop at t)) = omega arith in
    ap (λ (ws : List ℕ). stored_at ws (2 * at) (2 * length t) (high_word k) (low_word k)) whole
    ∙ ap₂ (λ (a e : ℕ). stored_at (p ++ (q ++ 0 ∷ 0 ∷ repeated (free - 2) 0)) a e (high_word k) (low_word k)) (sym before) (sym end)
    ∙ pair_stored p q 0 0 (repeated (free - 2) 0) (high_word k) (low_word k)
    ∙ sym (append_assoc p (high_word k ∷ low_word k ∷ q) (repeated (free - 2) 0))
    ∙ ap₂ (λ (a b : List ℕ). a ++ b) (sym new) (ap (λ (n : ℕ). repeated n 0) rest)

-- ---- the three answers of an insertion

module _ (n : ℕ) (words : List ℕ) (high low at : ℕ) (tab : Tabled n words) (small : low < 2 ^ 32)
    (place : at ≡ place_in (keys_in n words) (key_from high low)) where
  abbrev table : List ℕ
  table = keys_in n words

  abbrev key : ℕ
  key = key_from high low

  stands_is : stands_at table at key ≡ member key table
  stands_is = rw place (stands_member table key tab.rising)

  -- The key's place is in the table or right behind it.
  at_le : at ≤ n
  at_le =
      let le : place_in table key ≤ length table = place_le table key in
      let len : length table ≡ n = keys_length n words in
      omega arith

  pub answer_present : stands_at table at key ≡ true → Inserted n words key n words
  answer_present t =
      let same : insert_key table key ≡ table = insert_present table key tab.rising (sym stands_is ∙ t) in
      let count : length (insert_key table key) ≡ n = ap length same ∙ keys_length n words in
      let few : n ≤ max_keys = tab.few in
      record {
        counted = sym count;
        held = tab.same ∙ ap (λ (s : List ℕ). padded (length words) 0 (table_words s)) (sym same) ∙ sym (inserted_fits n words key (omega arith));
      }

  module _ (t : stands_at table at key ≡ false) where
    new : insert_key table key ≡ take at table ++ key ∷ drop at table
    new = rw place (insert_absent table key tab.rising (sym stands_is ∙ t))

    new_length : length (insert_key table key) ≡ n + 1
    new_length =
        insert_length_is table key tab.rising
        ∙ ap (λ (b : Bool). if b then length table else suc (length table)) (sym stands_is ∙ t)
        ∙ ap suc (keys_length n words) ∙ sym (add-one n)

    pub answer_full : n ≡ max_keys → Inserted n words key (max_keys + 1) words
    answer_full full =
        let count : length (insert_key table key) ≡ n + 1 = new_length in
        record { counted = omega arith; held = sym (inserted_full n words key (omega arith)) }

    pub answer_new : (n ≡ max_keys → ⊥) → (moved : List ℕ) → moved ≡ moved_up words (2 * at) (2 * n)
        → Inserted n words key (n + 1) (set (set moved (2 * at) high) (2 * at + 1) low)
    answer_new room moved e =
        let count : length (insert_key table key) ≡ n + 1 = new_length in
        let few : n ≤ max_keys = tab.few in
        let size : length table ≡ n = keys_length n words in
        let inside : at ≤ n = at_le in
        let wide : 2 * max_keys ≤ length words = tab.room in
        record {
          counted = sym count;
          held =
              ap (λ (ws : List ℕ). set (set ws (2 * at) high) (2 * at + 1) low) e
              ∙ ap (λ (ws : List ℕ). stored_at ws (2 * at) (2 * n) high low) tab.same
              ∙ ap (λ (m : ℕ). stored_at (padded (length words) 0 (table_words table)) (2 * at) (2 * m) high low) (sym size)
              ∙ ap₂ (stored_at (padded (length words) 0 (table_words table)) (2 * at) (2 * length table))
              (sym (high_of_key high low small)) (sym (low_of_key high low small))
              ∙ filled table at key (length words) (omega arith) (omega arith)
              ∙ ap (λ (s : List ℕ). padded (length words) 0 (table_words s)) (sym new)
              ∙ sym (inserted_fits n words key (omega arith));
        }
