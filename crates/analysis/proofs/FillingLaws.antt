-- Laws of the insertion of a set's keys: the keys that its words name are those of the accesses, and inserting one after another up to the
-- first that does not fit answers as inserting all does.
use mathlib.Core.Path.{◌≡◌, refl, sym, ap, ap₂, ◌∙◌}
use mathlib.Core.List.{List, [], ◌∷◌, map}
use Prim.Native.Nat.{ℕ, zero, suc, ◌+◌, ◌^◌, ◌≤◌, ◌<◌}
use native.Mathlib.Nat.{mod-lt}
use native.Mathlib.Decide.{dec_lt}
use native.Mathlib.Numerals.{add-one}
use native.Mathlib.Omega.{arith}
use borrow.Author.Tests.{le-leb, lt-leb}
use lib.Dec.{lit<}
use lib.ListN.{length, get_or, take, drop, length-map, get_or-map, drop_of_length-le}
use lib.Seq.{drop-cons}
use Rattle.std.specs.Prelude.{Option}
use Rattle.std.specs.declared.option.Option.TheVariants.{None, Some}
use Rattle.wire.specs.Bytes.{padded}
use Rattle.block.specs.Limits.{max_keys}
use Rattle.footprint.specs.Access.{Access}
use Rattle.footprint.specs.Plan.{table_words}
use Rattle.footprint.specs.Table.{insert_key, insert_keys}
use Rattle.analysis.specs.Filling.{set_key, set_keys, insert_all, fitting, count_of, KeysFilled}
use Rattle.analysis.specs.Gathered.{Holds, Worded}
use Rattle.key_uses.specs.Uses.{no_use, use_of}
use Rattle.arith.proofs.ChoiceLaws.{if_true, if_false}
use Rattle.footprint.specs.KeyWords.{keys_in}
use Rattle.analysis.specs.KeyTable.{inserted_in, Tabled}
use Rattle.footprint.specs.Sets.{access_keys}
use Rattle.footprint.proofs.TableLaws.{insert_length}
use Rattle.footprint.proofs.TableWordLaws.{key_of_words, keys_length}
use Rattle.analysis.proofs.TableWords.{inserted_full, inserted_keys, inserted_length}
use Rattle.analysis.specs.declared.Sets.{Sets}

-- ---- the keys of a set

-- The keys from the i-th on.
module _ (s : Sets) (i : ℕ) where
  pub keys_left : i < length (take s.count s.keys) → drop i (set_keys s) ≡ set_key (get_or (take s.count s.keys) i no_use) ∷ drop (i + 1) (set_keys s)
  keys_left h =
      drop-cons (set_keys s) i 0 (simp length-map h)
      ∙ rw (get_or-map set_key (take s.count s.keys) i no_use, add-one i)

  pub keys_none : length (take s.count s.keys) ≤ i → drop i (set_keys s) ≡ []
  keys_none h = drop_of_length-le (set_keys s) {i = i} (simp length-map h)

-- The keys of a set are those of its accesses.
pub set_keys_lem : (s : Sets) (es : List Access) → Holds s es → set_keys s ≡ access_keys es
unfolding use_of
set_keys_lem s es h = ap (map set_key) h.keys ∙ go es
  where
    go : (fs : List Access) → map set_key (map use_of fs) ≡ access_keys fs
    go [] = refl
    go (f ∷ fs) = ap₂ (λ (k : ℕ) (ks : List ℕ). k ∷ ks) (key_of_words f.key) (go fs)

lows_below : (es : List Access) (i : ℕ) → (get_or (map use_of es) i no_use).low < 2 ^ 32
unfolding use_of
lows_below [] i = lit< tt
lows_below (e ∷ es) zero = mod-lt e.key (lit< tt)
lows_below (e ∷ es) (suc i) = lows_below es i

-- The words of a set are those of keys.
pub set_worded : (s : Sets) (es : List Access) → Holds s es → Worded s
set_worded s es h i = rw h.keys (lows_below es i)

-- ---- all keys, and those that fit

pub insert_all_lem : (table : List ℕ) (es : List Access) → insert_all table (access_keys es) ≡ insert_keys table es
unfolding insert_all insert_keys
insert_all_lem table [] = refl
insert_all_lem table (e ∷ es) = insert_all_lem (insert_key table e.key) es

-- No insertion takes a key away.
pub all_length : (table ks : List ℕ) → length table ≤ length (insert_all table ks)
unfolding insert_all
all_length table [] = omega arith
all_length table (k ∷ ks) =
    let one : length table ≤ length (insert_key table k) = (insert_length table k).0 in
    let rest : length (insert_key table k) ≤ length (insert_all (insert_key table k) ks) = all_length (insert_key table k) ks in
    omega arith

-- Where all keys fit, all are inserted.
pub fitting_all : (table ks : List ℕ) → length (insert_all table ks) ≤ max_keys → fitting table ks ≡ insert_all table ks
unfolding insert_all fitting
fitting_all table [] h = refl
fitting_all table (k ∷ ks) h =
    let rest : length (insert_key table k) ≤ length (insert_all (insert_key table k) ks) = all_length (insert_key table k) ks in
    if_true (fitting (insert_key table k) ks) table (le-leb (length (insert_key table k)) max_keys (omega arith)) ∙ fitting_all (insert_key table k) ks h

-- The number of keys where the limit is kept, and where it is not.
pub count_few : (table : List ℕ) → length table ≤ max_keys → count_of table ≡ Some (length table)
unfolding count_of
count_few table h = if_true (Some (length table)) None (le-leb (length table) max_keys h)

pub count_many : (table : List ℕ) → max_keys < length table → count_of table ≡ None
unfolding count_of
count_many table h = if_false (Some (length table)) None (lt-leb (length table) max_keys h)

-- What an answered number tells of the table.
pub count_none : (table : List ℕ) → None ≡ count_of table → max_keys < length table
count_none table e = go (dec_lt max_keys (length table))
  where
    go : Dec (max_keys < length table) → max_keys < length table
    go (yes many) = many
    go (no few) = let same : None ≡ Some (length table) = e ∙ count_few table (omega arith) in absurd (cc)

pub count_some : (table : List ℕ) {m : ℕ} → Some m ≡ count_of table → (m ≡ length table) × (length table ≤ max_keys)
count_some table {m} e = go (dec_lt max_keys (length table))
  where
    go : Dec (max_keys < length table) → (m ≡ length table) × (length table ≤ max_keys)
    go (yes many) = let same : Some m ≡ None = e ∙ count_many table many in absurd (cc)
    go (no few) = let same : Some m ≡ Some (length table) = e ∙ count_few table (omega arith) in (cc, omega arith)

-- ---- one key after another

module _ (n : ℕ) (ws : List ℕ) (tabled : Tabled n ws) where
  -- Behind the last key.
  pub filled_none : KeysFilled n ws [] (Some n) ws
  unfolding insert_all fitting
  filled_none =
      record {
        counted = sym (count_few (keys_in n ws) (rw (keys_length n ws) tabled.few) ∙ ap Some (keys_length n ws));
        held = tabled.same;
      }

  module _ (k : ℕ) (ks : List ℕ) where
    abbrev next : List ℕ
    next = insert_key (keys_in n ws) k

    -- A key that does not fit ends the insertion.
    pub filled_full : max_keys < length next → KeysFilled n ws (k ∷ ks) None (inserted_in n ws k)
    unfolding insert_all fitting
    filled_full h =
        let all : length next ≤ length (insert_all next ks) = all_length next ks in
        record {
          counted = sym (count_many (insert_all next ks) (omega arith));
          held =
              inserted_full n ws k h ∙ tabled.same
              ∙ ap (λ (t : List ℕ). padded (length ws) 0 (table_words t)) (sym (if_false (fitting next ks) (keys_in n ws) (lt-leb (length next) max_keys h)));
        }

    -- Behind one that does, the insertion goes on.
    pub filled_more : length next ≤ max_keys → {r : Option ℕ} {after : List ℕ} → KeysFilled (length next) (inserted_in n ws k) ks r after → KeysFilled n ws (k ∷ ks) r after
    unfolding insert_all fitting
    filled_more h {r} {after} f =
        record {
          counted = f.counted ∙ ap (λ (t : List ℕ). count_of (insert_all t ks)) (inserted_keys n ws k h);
          held =
              f.held
              ∙ ap₂ (λ (m : ℕ) (t : List ℕ). padded m 0 (table_words (fitting t ks))) (inserted_length n ws k tabled) (inserted_keys n ws k h)
              ∙ ap (λ (t : List ℕ). padded (length ws) 0 (table_words t)) (sym (if_true (fitting next ks) (keys_in n ws) (le-leb (length next) max_keys h)));
        }
