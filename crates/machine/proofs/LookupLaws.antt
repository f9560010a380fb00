-- A place of a call finds the cells that it accesses: its sets cover its accesses, and an access that is covered is found among the
-- entries at its key's number.
use mathlib.Core.Path.{◌≡◌, refl, sym, ap, ap₂, ◌∙◌, subst}
use mathlib.Core.Bool.{Bool, true, false, ◌&&◌, ◌||◌, not, false≢true, and-false}
use mathlib.Core.List.{List, [], ◌∷◌, ◌++◌, map}
use Prim.Native.Nat.{ℕ, zero, suc, ◌+◌, ◌-◌, ◌*◌, ◌%◌, ◌≤◌, ◌<◌}
use native.Mathlib.Nat.{not-suc-le-zero, le_of_suc-le-suc}
use native.Mathlib.Omega.{arith}
use borrow.Author.Tests.{eqb-true, eqb-false, eq-eqb, ne_eqb, lt-ltb, le-leb}
use lib.Dec.{eqb}
use lib.ListN.{length, get_or, drop}
use lib.Seq.{drop-drop}
use Rattle.std.specs.Prelude.{if◌then◌else◌, None, Option, Some}
use Rattle.arith.proofs.ChoiceLaws.{neither, or_left, or_right}
use Rattle.wire.specs.Bytes.{repeated, padded}
use Rattle.wire.specs.Rows.{bit}
use Rattle.block.specs.Limits.{max_call_keys, max_keys}
use Rattle.block.specs.Instruction.{instr_bytes, decode}
use Rattle.block.specs.Record.{Function, code_at}
use Rattle.block.specs.declared.Call.{Call}
use Rattle.block.specs.declared.Instr.{Instr}
use Rattle.footprint.specs.Access.{Access, accesses, entry_accesses}
use Rattle.footprint.specs.Sets.{merge_all, decoded_accesses, code_accesses, function_sets, read_set, write_set, access_keys}
use Rattle.footprint.specs.Conflict.{member}
use Rattle.footprint.proofs.ConflictLaws.{eqb_sym, member_pick}
use Rattle.footprint.proofs.SetLaws.{Distinct, keys_union, reads_union, writes_union, merged_distinct}
use Rattle.wire.specs.All.{All}
use Rattle.wire.proofs.ListLaws.{all_map}
use Rattle.footprint.specs.Table.{cell_number}
use Rattle.footprint.specs.Plan.{entry_word, high_word, low_word, table_words, entry_reads, entry_writes}
use Rattle.footprint.proofs.TableLaws.{cell_lt, number_key}
use Rattle.footprint.proofs.EntryLaws.{InKeys, entry_cell_lem, entry_writes_lem}
use Rattle.machine.proofs.CodeLaws.{stretch_decode}
use Rattle.machine.specs.Run.{has_key}
use Rattle.machine.specs.Step.{View, find_entry, lookup}

-- ---- accesses that sets cover

-- The key is one of the sets' keys, in the read set if it is read and in the write set if it is written.
pub record Covered (es : List Access) (a : Access) : Type 0 where
  pub key : member a.key (access_keys es) ≡ true
  pub read : a.reads ≡ true → member a.key (read_set es) ≡ true
  pub written : a.writes ≡ true → member a.key (write_set es) ≡ true

-- An access is covered by a list that it stands in.
covered_first : (a : Access) (es : List Access) → Covered (a ∷ es) a
unfolding member read_set write_set
covered_first a es =
    record {
      key = or_left (eqb a.key a.key) (member a.key (access_keys es)) (eq-eqb a.key a.key refl);
      read = λ r. member_pick a.key a.key (read_set es) a.reads ∙ rw (r, eq-eqb a.key a.key refl);
      written = λ w. member_pick a.key a.key (write_set es) a.writes ∙ rw (w, eq-eqb a.key a.key refl);
    }

covered_later : (a e : Access) (es : List Access) → Covered es a → Covered (e ∷ es) a
unfolding member read_set write_set
covered_later a e es h =
    record {
      key = or_right (eqb a.key e.key) (member a.key (access_keys es)) h.key;
      read =
          λ r. member_pick a.key e.key (read_set es) e.reads
          ∙ or_right (e.reads && eqb a.key e.key) (member a.key (read_set es)) (h.read r);
      written =
          λ w. member_pick a.key e.key (write_set es) e.writes
          ∙ or_right (e.writes && eqb a.key e.key) (member a.key (write_set es)) (h.written w);
    }

covered_append : (xs ys : List Access) → All (Covered (xs ++ ys)) xs
covered_append [] ys = tt
covered_append (x ∷ xs) ys =
    (covered_first x (xs ++ ys), all_map (Covered (xs ++ ys)) (Covered (x ∷ (xs ++ ys))) (λ a h. covered_later a x (xs ++ ys) h) xs (covered_append xs ys))

covered_behind : (xs ys : List Access) (a : Access) → Covered ys a → Covered (xs ++ ys) a
covered_behind [] ys a h = h
covered_behind (x ∷ xs) ys a h = covered_later a x (xs ++ ys) (covered_behind xs ys a h)

-- Merged sets cover what either of them covers.
covered_merged : (es more : List Access) (a : Access) → Covered more a → Covered (merge_all es more) a
covered_merged es more a h =
    record {
      key = keys_union a.key es more ∙ or_right (member a.key (access_keys es)) (member a.key (access_keys more)) h.key;
      read = λ r. reads_union a.key es more ∙ or_right (member a.key (read_set es)) (member a.key (read_set more)) (h.read r);
      written = λ w. writes_union a.key es more ∙ or_right (member a.key (write_set es)) (member a.key (write_set more)) (h.written w);
    }

covered_kept : (es more : List Access) (a : Access) → Covered es a → Covered (merge_all es more) a
covered_kept es more a h =
    record {
      key = keys_union a.key es more ∙ or_left (member a.key (access_keys es)) (member a.key (access_keys more)) h.key;
      read = λ r. reads_union a.key es more ∙ or_left (member a.key (read_set es)) (member a.key (read_set more)) (h.read r);
      written = λ w. writes_union a.key es more ∙ or_left (member a.key (write_set es)) (member a.key (write_set more)) (h.written w);
    }

covered_self : (es : List Access) → All (Covered es) es
covered_self [] = tt
covered_self (e ∷ es) =
    (covered_first e es, all_map (Covered es) (Covered (e ∷ es)) (λ a h. covered_later a e es h) es (covered_self es))

-- The accesses of every instruction of a code are covered by those of the code.
code_covered : (c : Call) (left size : ℕ) (s : List ℕ) (p : ℕ) → p < left
    → All (Covered (code_accesses c left size s)) (decoded_accesses c (decode size (drop (instr_bytes * p) s)))
unfolding code_accesses
code_covered c zero size s p l = absurd (not-suc-le-zero l)
code_covered c (suc left) size s zero l =
    covered_append (decoded_accesses c (decode size s)) (code_accesses c left size (drop instr_bytes s))
code_covered c (suc left) size s (suc p) l =
    let far : 8 * suc p ≡ 8 + 8 * p = omega arith in
    let here : decoded_accesses c (decode size (drop (instr_bytes * suc p) s))
    ≡ decoded_accesses c (decode size (drop (instr_bytes * p) (drop instr_bytes s))) =
    ap (λ (r : List ℕ). decoded_accesses c (decode size r)) (ap (λ (n : ℕ). drop n s) far ∙ sym (drop-drop (8 * p) 8 s))
    in
    let first : List Access = decoded_accesses c (decode size s) in
    let rest : List Access = code_accesses c left size (drop instr_bytes s) in
    subst (λ (as' : List Access). All (Covered (first ++ rest)) as') (sym here)
    (all_map (Covered rest) (Covered (first ++ rest)) (covered_behind first rest)
    (decoded_accesses c (decode size (drop (instr_bytes * p) (drop instr_bytes s))))
    (code_covered c left size (drop instr_bytes s) p (le_of_suc-le-suc l)))

-- The sets of a call of a function cover its entry and each of its instructions.
module _ (file : List ℕ) (c : Call) (f : Function) where
  abbrev stretch : List ℕ
  stretch = code_at file f.start f.size

  pub entry_covered : All (Covered (function_sets file c (Some f))) (entry_accesses c)
  unfolding function_sets
  entry_covered =
      let own : List Access = entry_accesses c in
      let code : List Access = code_accesses c f.size f.size stretch in
      all_map (Covered own) (Covered (merge_all (merge_all [] own) code))
      (λ a h. covered_kept (merge_all [] own) code a (covered_merged [] own a h)) own (covered_self own)

  stretch_covered : (p : ℕ) → p < f.size
      → All (Covered (function_sets file c (Some f))) (decoded_accesses c (decode f.size (drop (instr_bytes * p) stretch)))
  unfolding function_sets
  stretch_covered p l =
      let own : List Access = entry_accesses c in
      let code : List Access = code_accesses c f.size f.size stretch in
      all_map (Covered code) (Covered (merge_all (merge_all [] own) code)) (covered_merged (merge_all [] own) code)
      (decoded_accesses c (decode f.size (drop (instr_bytes * p) stretch)))
      (code_covered c f.size f.size stretch p l)

  pub instr_covered : (p : ℕ) → p < f.size → (i : Instr) → decode f.size (drop (f.start + instr_bytes * p) file) ≡ Some i
      → All (Covered (function_sets file c (Some f))) (accesses c i)
  instr_covered p l i e =
      subst (λ (d : Option Instr). All (Covered (function_sets file c (Some f))) (decoded_accesses c d)) (stretch_decode file f p l ∙ e) (stretch_covered p l)

-- No key stands twice in the sets of a call.
pub sets_distinct : (file : List ℕ) (c : Call) (f : Option Function) → Distinct (access_keys (function_sets file c f))
unfolding function_sets
sets_distinct file c None = tt
sets_distinct file c (Some f) =
    merged_distinct (merge_all [] (entry_accesses c)) (code_accesses c f.size f.size (code_at file f.start f.size))
    (merged_distinct [] (entry_accesses c) tt)

-- ---- the entry of an access

flag_reads : (n : ℕ) (r w : Bool) → eqb ((n * 4 + bit r + 2 * bit w) % 2) 1 ≡ r
flag_reads n true true = let e : (n * 4 + 1 + 2 * 1) % 2 ≡ 1 = omega arith in eq-eqb ((n * 4 + 1 + 2 * 1) % 2) 1 e
flag_reads n true false = let e : (n * 4 + 1 + 2 * 0) % 2 ≡ 1 = omega arith in eq-eqb ((n * 4 + 1 + 2 * 0) % 2) 1 e
flag_reads n false true = let e : (n * 4 + 0 + 2 * 1) % 2 ≡ 1 → ⊥ = omega arith in ne_eqb ((n * 4 + 0 + 2 * 1) % 2) 1 e
flag_reads n false false = let e : (n * 4 + 0 + 2 * 0) % 2 ≡ 1 → ⊥ = omega arith in ne_eqb ((n * 4 + 0 + 2 * 0) % 2) 1 e

pub entry_reads_lem : (table : List ℕ) (e : Access) → entry_reads (entry_word table e) ≡ e.reads
unfolding entry_word
entry_reads_lem table e = flag_reads (cell_number table e.key) e.reads e.writes

-- The words of a table's buffer at a cell's number are the key's, and tell it from every other key.
module _ (ws : List ℕ) where
  high_at : (t : List ℕ) (i : ℕ) → i < length t → get_or (table_words t ++ ws) (2 * i) 0 ≡ high_word (get_or t i 0)
  unfolding table_words
  high_at [] i l = absurd (not-suc-le-zero l)
  high_at (k ∷ ks) zero l = refl
  high_at (k ∷ ks) (suc i) l = let e : 2 * suc i ≡ suc (suc (2 * i)) = omega arith in rw e (high_at ks i (le_of_suc-le-suc l))

  low_at : (t : List ℕ) (i : ℕ) → i < length t → get_or (table_words t ++ ws) (2 * i + 1) 0 ≡ low_word (get_or t i 0)
  unfolding table_words
  low_at [] i l = absurd (not-suc-le-zero l)
  low_at (k ∷ ks) zero l = refl
  low_at (k ∷ ks) (suc i) l = let e : 2 * suc i + 1 ≡ suc (suc (2 * i + 1)) = omega arith in rw e (low_at ks i (le_of_suc-le-suc l))

same_words : (k j : ℕ) → (eqb (high_word k) (high_word j) && eqb (low_word k) (low_word j)) ≡ eqb k j
same_words k j = go (eqb (high_word k) (high_word j)) refl (eqb (low_word k) (low_word j)) refl
  where
    go : (a : Bool) → eqb (high_word k) (high_word j) ≡ a → (b : Bool) → eqb (low_word k) (low_word j) ≡ b → (a && b) ≡ eqb k j
    go true e true f =
        let high : high_word k ≡ high_word j = eqb-true (high_word k) (high_word j) e in
        let low : low_word k ≡ low_word j = eqb-true (low_word k) (low_word j) f in
        sym (eq-eqb k j (omega arith))
    go true e false f = sym (ne_eqb k j (λ s. eqb-false (low_word k) (low_word j) f (ap (λ (n : ℕ). low_word n) s)))
    go false e b f = sym (ne_eqb k j (λ s. eqb-false (high_word k) (high_word j) e (ap (λ (n : ℕ). high_word n) s)))

pub has_key_lem : (room : ℕ) (table : List ℕ) (k j : ℕ) → member k table ≡ true → has_key (padded room 0 (table_words table)) (cell_number table k) j ≡ eqb k j
has_key_lem room table k j m =
    let ws : List ℕ = repeated (room - length (table_words table)) 0 in
    let n : ℕ = cell_number table k in
    let high : get_or (table_words table ++ ws) (2 * n) 0 ≡ high_word k = high_at ws table n (cell_lt table k m) ∙ ap (λ (i : ℕ). high_word i) (number_key table k m) in
    let low : get_or (table_words table ++ ws) (2 * n + 1) 0 ≡ low_word k = low_at ws table n (cell_lt table k m) ∙ ap (λ (i : ℕ). low_word i) (number_key table k m) in
    ap₂ (λ (x y : ℕ). eqb x (high_word j) && eqb y (low_word j)) high low ∙ same_words k j

-- ---- the lookup

-- The keys of the accesses are in the table.
abbrev pub KeysInTable : List ℕ → List Access → Type 0
KeysInTable table es = (k : ℕ) → member k (access_keys es) ≡ true → member k table ≡ true

pub in_first : (table : List ℕ) (e : Access) (es : List Access) → KeysInTable table (e ∷ es) → member e.key table ≡ true
unfolding member
in_first table e es known = known e.key (rw (eq-eqb e.key e.key refl))

pub in_rest : (table : List ℕ) (e : Access) (es : List Access) → KeysInTable table (e ∷ es) → KeysInTable table es
unfolding member
in_rest table e es known k m = known k (or_right (eqb k e.key) (member k (access_keys es)) m)

pub in_each : (table : List ℕ) (es : List Access) → KeysInTable table es → All (InKeys table) es
in_each table [] known = tt
in_each table (e ∷ es) known = (in_first table e es known, in_each table es (in_rest table e es known))

first_flag : (f q m : Bool) → m ≡ false → ((f && q) || m) ≡ true → f ≡ true
first_flag true q m h e = refl
first_flag false q m h e = absurd (false≢true (sym h ∙ e))

first_skipped : (f q m : Bool) → q ≡ false → ((f && q) || m) ≡ true → m ≡ true
first_skipped f q m h e = rw (h, and-false f) at e

-- A key that is not among the accesses' keys is not in a list of those keys that have a flag.
module _ (f : Access → Bool) (chosen : List Access → List ℕ) (nothing : chosen [] ≡ [])
    (each : (e : Access) (es : List Access) → chosen (e ∷ es) ≡ (if f e then e.key ∷ chosen es else chosen es)) where
  pick_first : (k : ℕ) (e : Access) (es : List Access) → member k (chosen (e ∷ es)) ≡ (f e && eqb k e.key) || member k (chosen es)
  pick_first k e es = ap (member k) (each e es) ∙ member_pick k e.key (chosen es) (f e)

  not_chosen : (k : ℕ) (es : List Access) → member k (access_keys es) ≡ false → member k (chosen es) ≡ false
  unfolding member
  not_chosen k [] h = ap (member k) nothing
  not_chosen k (e ∷ es) h =
      let apart = neither (eqb k e.key) (member k (access_keys es)) h in
      pick_first k e es ∙ rw (apart.0, not_chosen k es apart.1, and-false (f e))

  -- If the first access has the key alone, it has the flag; if it has another key, the flag is another's.
  flag_first : (k : ℕ) (e : Access) (es : List Access) → member k (access_keys es) ≡ false → member k (chosen (e ∷ es)) ≡ true → f e ≡ true
  flag_first k e es alone m = first_flag (f e) (eqb k e.key) (member k (chosen es)) (not_chosen k es alone) (sym (pick_first k e es) ∙ m)

  flag_later : (k : ℕ) (e : Access) (es : List Access) → eqb k e.key ≡ false → member k (chosen (e ∷ es)) ≡ true → member k (chosen es) ≡ true
  flag_later k e es other m = first_skipped (f e) (eqb k e.key) (member k (chosen es)) other (sym (pick_first k e es) ∙ m)

wanted : (r has : Bool) → (r ≡ true → has ≡ true) → (not r || has) ≡ true
wanted true has h = h refl
wanted false has h = refl

module _ (room : ℕ) (table : List ℕ) (few : length table ≤ max_keys) (a : Access) where
  abbrev words : List ℕ
  words = padded room 0 (table_words table)

  covered_rest : (e : Access) (es : List Access) → eqb a.key e.key ≡ false → Covered (e ∷ es) a → Covered es a
  unfolding member read_set write_set
  covered_rest e es other h =
      record {
        key = rw other at h.key;
        read = λ r. flag_later (λ x. x.reads) read_set refl (λ x xs. refl) a.key e es other (h.read r);
        written = λ w. flag_later (λ x. x.writes) write_set refl (λ x xs. refl) a.key e es other (h.written w);
      }

  -- A covered access is found at its key's number.
  find_covered : (es : List Access) → Distinct (access_keys es) → KeysInTable table es → Covered es a
      → find_entry words (map (entry_word table) es) a ≡ Some (cell_number table a.key)
  unfolding find_entry member read_set write_set
  find_covered [] d known h = absurd (false≢true h.key)
  find_covered (e ∷ es) d known h =
      let m : member e.key table ≡ true = in_first table e es known in
      let small : cell_number table e.key < length table = cell_lt table e.key m in
      rw (entry_cell_lem table e, lt-ltb (cell_number table e.key) max_keys (omega arith), has_key_lem room table e.key a.key m)
      (go (eqb e.key a.key) refl (find_covered es d.1 (in_rest table e es known)))
    where
      go : (b : Bool) → eqb e.key a.key ≡ b → (Covered es a → find_entry words (map (entry_word table) es) a ≡ Some (cell_number table a.key))
          → (if b
          then (if (not a.reads || entry_reads (entry_word table e)) && (not a.writes || entry_writes (entry_word table e))
          then Some (cell_number table e.key)
          else None)
          else find_entry words (map (entry_word table) es) a)
          ≡ Some (cell_number table a.key)
      go true same ih =
          let is : e.key ≡ a.key = eqb-true e.key a.key same in
          let alone : member a.key (access_keys es) ≡ false = rw is at d.0 in
          let reads : (not a.reads || entry_reads (entry_word table e)) ≡ true =
          wanted a.reads (entry_reads (entry_word table e))
          (λ r. entry_reads_lem table e ∙ flag_first (λ x. x.reads) read_set refl (λ x xs. refl) a.key e es alone (h.read r))
          in
          let writes : (not a.writes || entry_writes (entry_word table e)) ≡ true =
          wanted a.writes (entry_writes (entry_word table e))
          (λ w. entry_writes_lem table e ∙ flag_first (λ x. x.writes) write_set refl (λ x xs. refl) a.key e es alone (h.written w))
          in
          rw (reads, writes, is)
      go false other ih = ih (covered_rest e es (eqb_sym a.key e.key ∙ other) h)

-- In a view of at most 24 entries made of the sets, a covered access has its key's cell.
pub lookup_covered : (v : View) (room : ℕ) (table : List ℕ) (es : List Access) (a : Access)
    → v.count ≤ max_call_keys → v.keys ≡ padded room 0 (table_words table) → v.entries ≡ map (entry_word table) es → length table ≤ max_keys
    → Distinct (access_keys es) → KeysInTable table es → Covered es a
    → lookup v a ≡ Some (cell_number table a.key)
unfolding lookup
lookup_covered v room table es a count keys entries few d known h =
    rw (le-leb v.count max_call_keys count, keys, entries) (find_covered room table few a es d known h)
