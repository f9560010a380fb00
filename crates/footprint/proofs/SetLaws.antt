-- Laws of the sets of a call: no key twice, which keys and which flags, and what holds of every access.
use mathlib.Core.Path.{◌≡◌, refl, sym, ap, ◌∙◌}
use mathlib.Core.Bool.{Bool, true, false, ◌&&◌, ◌||◌, or-false, or_comm, or_assoc, and-true, and-false}
use mathlib.Core.List.{List, [], ◌∷◌, ◌++◌, append_assoc, append-nil}
use Prim.Native.Nat.{ℕ, zero, suc, ◌+◌, ◌*◌}
use native.Mathlib.Omega.{arith}
use borrow.Author.Tests.{eqb-true}
use lib.Dec.{eqb}
use lib.ListN.{drop}
use lib.Seq.{drop-drop}
use Rattle.std.specs.Prelude.{if◌then◌else◌}
use Rattle.block.specs.Instruction.{instr_bytes, decode}
use Rattle.block.specs.declared.Call.{Call}
use Rattle.wire.specs.All.{All}
use Rattle.wire.proofs.ListLaws.{all_append}
use Rattle.footprint.specs.Access.{Access}
use Rattle.footprint.specs.Sets.{access_keys, merge, merge_all, decoded_accesses, code_accesses, read_set, write_set}
use Rattle.footprint.specs.Conflict.{member}

-- An access whose flags are joined by those of another.
abbrev pub joined_flags : Access → Access → Access
joined_flags e a = record { key = e.key; reads = e.reads || a.reads; writes = e.writes || a.writes }

-- ---- which keys, and which flags

-- Whether one of the accesses of a key has the flag f.
flagged : (Access → Bool) → ℕ → List Access → Bool
flagged f k [] = false
flagged f k (e ∷ es) = (eqb k e.key && f e) || flagged f k es

shuffle : (same x y rest : Bool) → ((same && (x || y)) || rest) ≡ (((same && x) || rest) || (same && y))
shuffle false x y rest = sym (or-false rest)
shuffle true true y rest = refl
shuffle true false y rest = or_comm y rest

module _ (f : Access → Bool) (unites : (e a : Access) → f (joined_flags e a) ≡ (f e || f a)) (k : ℕ) where
  flagged_merge : (es : List Access) (a : Access) → flagged f k (merge es a) ≡ (flagged f k es || (eqb k a.key && f a))
  unfolding flagged merge
  flagged_merge [] a = or-false (eqb k a.key && f a)
  flagged_merge (e ∷ es) a = go (eqb e.key a.key) refl (flagged_merge es a)
    where
      go : (b : Bool) → eqb e.key a.key ≡ b → flagged f k (merge es a) ≡ (flagged f k es || (eqb k a.key && f a))
          → flagged f k (if b then joined_flags e a ∷ es else e ∷ merge es a)
          ≡ (flagged f k (e ∷ es) || (eqb k a.key && f a))
      go true same ih =
          ap (λ (t : Bool). (eqb k e.key && t) || flagged f k es) (unites e a)
          ∙ shuffle (eqb k e.key) (f e) (f a) (flagged f k es)
          ∙ ap (λ (j : ℕ). ((eqb k e.key && f e) || flagged f k es) || (eqb k j && f a)) (eqb-true e.key a.key same)
      go false other ih =
          ap (λ (t : Bool). (eqb k e.key && f e) || t) ih
          ∙ sym (or_assoc (eqb k e.key && f e) (flagged f k es) (eqb k a.key && f a))

  flagged_all : (es more : List Access) → flagged f k (merge_all es more) ≡ (flagged f k es || flagged f k more)
  unfolding flagged merge_all
  flagged_all es [] = sym (or-false (flagged f k es))
  flagged_all es (a ∷ more) =
      flagged_all (merge es a) more ∙ ap (λ (t : Bool). t || flagged f k more) (flagged_merge es a)
      ∙ or_assoc (flagged f k es) (eqb k a.key && f a) (flagged f k more)

  -- A list of the keys whose access has the flag holds a key exactly if one of its accesses has the flag.
  module _ (chosen : List Access → List ℕ) (nothing : chosen [] ≡ [])
      (each : (e : Access) (es : List Access) → chosen (e ∷ es) ≡ (if f e then e.key ∷ chosen es else chosen es)) where
    chosen_flagged : (es : List Access) → member k (chosen es) ≡ flagged f k es
    unfolding flagged member
    chosen_flagged [] = ap (member k) nothing
    chosen_flagged (e ∷ es) = ap (member k) (each e es) ∙ go (f e) (chosen_flagged es)
      where
        go : (b : Bool) → member k (chosen es) ≡ flagged f k es
            → member k (if b then e.key ∷ chosen es else chosen es) ≡ ((eqb k e.key && b) || flagged f k es)
        go true ih = ap (λ (t : Bool). eqb k e.key || t) ih ∙ ap (λ (t : Bool). t || flagged f k es) (sym (and-true (eqb k e.key)))
        go false ih = ih ∙ ap (λ (t : Bool). t || flagged f k es) (sym (and-false (eqb k e.key)))

    chosen_union : (es more : List Access) → member k (chosen (merge_all es more)) ≡ (member k (chosen es) || member k (chosen more))
    chosen_union es more =
        chosen_flagged (merge_all es more) ∙ flagged_all es more
        ∙ ap (λ (t : Bool). t || flagged f k more) (sym (chosen_flagged es))
        ∙ ap (λ (t : Bool). member k (chosen es) || t) (sym (chosen_flagged more))

-- A key is merged exactly if it is the key of one of the accesses.
pub keys_union : (k : ℕ) (es more : List Access) → member k (access_keys (merge_all es more)) ≡ (member k (access_keys es) || member k (access_keys more))
keys_union k es more = chosen_union (λ e. true) (λ e a. refl) k access_keys refl (λ e es. refl) es more

-- It is read exactly if one of them reads it, and written exactly if one of them writes it.
pub reads_union : (k : ℕ) (es more : List Access) → member k (read_set (merge_all es more)) ≡ (member k (read_set es) || member k (read_set more))
unfolding read_set
reads_union k es more = chosen_union (λ e. e.reads) (λ e a. refl) k read_set refl (λ e es. refl) es more

pub writes_union : (k : ℕ) (es more : List Access) → member k (write_set (merge_all es more)) ≡ (member k (write_set es) || member k (write_set more))
unfolding write_set
writes_union k es more = chosen_union (λ e. e.writes) (λ e a. refl) k write_set refl (λ e es. refl) es more

-- ---- no key twice

abbrev pub Distinct : List ℕ → Type 0
Distinct [] = Unit {0}
Distinct (k ∷ ks) = (member k ks ≡ false) × Distinct ks

merge_distinct : (es : List Access) (a : Access) → Distinct (access_keys es) → Distinct (access_keys (merge es a))
unfolding merge merge_all member
merge_distinct [] a d = (refl, tt)
merge_distinct (e ∷ es) a d = go (eqb e.key a.key) refl (merge_distinct es a d.1)
  where
    go : (b : Bool) → eqb e.key a.key ≡ b → Distinct (access_keys (merge es a))
        → Distinct (access_keys (if b then joined_flags e a ∷ es else e ∷ merge es a))
    go true same ih = d
    go false other ih = (
      keys_union e.key es (a ∷ []) ∙ ap (λ (t : Bool). t || (eqb e.key a.key || false)) d.0 ∙ ap (λ (t : Bool). t || false) other,
      ih,
    )

pub merged_distinct : (es more : List Access) → Distinct (access_keys es) → Distinct (access_keys (merge_all es more))
unfolding merge_all
merged_distinct es [] d = d
merged_distinct es (a ∷ more) d = merged_distinct (merge es a) more (merge_distinct es a d)

-- ---- what holds of every access

module _ (P : Access → Type 0) where
  module _ (joins : (e a : Access) → P e → P a → P (joined_flags e a)) where
    merge_each : (es : List Access) (a : Access) → All P es → P a → All P (merge es a)
    unfolding merge
    merge_each [] a p q = (q, tt)
    merge_each (e ∷ es) a p q = go (eqb e.key a.key) (merge_each es a p.1 q)
      where
        go : (b : Bool) → All P (merge es a) → All P (if b then joined_flags e a ∷ es else e ∷ merge es a)
        go true ih = (joins e a p.0 q, p.1)
        go false ih = (p.0, ih)

    -- What joined flags keep holds of the merged accesses if it holds of all of them.
    pub merged_each : (es more : List Access) → All P es → All P more → All P (merge_all es more)
    unfolding merge_all
    merged_each es [] p q = p
    merged_each es (a ∷ more) p q = merged_each (merge es a) more (merge_each es a p q.0) q.1

-- Of all instructions of a code, where it holds of each one whose bytes pass a test that a shorter rest passes too.
module _ (P : Access → Type 0) (Q : List ℕ → Type 0) (rest : (s : List ℕ) → Q s → Q (drop instr_bytes s)) (c : Call) (size : ℕ)
    (each : (s : List ℕ) → Q s → All P (decoded_accesses c (decode size s))) where
  pub code_each : (left : ℕ) (s : List ℕ) → Q s → All P (code_accesses c left size s)
  unfolding code_accesses
  code_each zero s q = tt
  code_each (suc left) s q =
      all_append P (decoded_accesses c (decode size s)) (code_accesses c left size (drop instr_bytes s)) (each s q)
      (code_each left (drop instr_bytes s) (rest s q))

-- ---- in which order

-- Merging one list behind another.
pub merged_append : (es xs ys : List Access) → merge_all es (xs ++ ys) ≡ merge_all (merge_all es xs) ys
unfolding merge_all
merged_append es [] ys = refl
merged_append es (a ∷ xs) ys = merged_append (merge es a) xs ys

-- The accesses of one instruction more.
pub code_more : (c : Call) (n size : ℕ) (s : List ℕ)
    → code_accesses c (suc n) size s
    ≡ code_accesses c n size s ++ decoded_accesses c (decode size (drop (instr_bytes * n) s))
unfolding code_accesses
code_more c zero size s = append-nil (decoded_accesses c (decode size s))
code_more c (suc n) size s =
    let far : 8 + 8 * n ≡ 8 * suc n = omega arith in
    let first : List Access = decoded_accesses c (decode size s) in
    let middle : List Access = code_accesses c n size (drop instr_bytes s) in
    ap (λ (t : List Access). first ++ t) (code_more c n size (drop instr_bytes s))
    ∙ sym (append_assoc first middle (decoded_accesses c (decode size (drop (instr_bytes * n) (drop instr_bytes s)))))
    ∙ ap (λ (t : List ℕ). (first ++ middle) ++ decoded_accesses c (decode size t))
    (drop-drop (instr_bytes * n) instr_bytes s ∙ ap (λ (m : ℕ). drop m s) far)
