-- Laws of the set that the code gathers: one more use, or those of one instruction, is one more merge.
use mathlib.Core.Path.{◌≡◌, refl, sym, ap, ap₂, ◌∙◌}
use mathlib.Core.Bool.{Bool, true, false, ◌&&◌, ◌||◌, not, cond}
use mathlib.Core.List.{List, [], ◌∷◌, ◌++◌, map, append_assoc}
use Prim.Native.Nat.{ℕ, suc, ◌+◌, ◌-◌, ◌/◌, ◌%◌, ◌^◌, ◌≤◌, ◌<◌}
use native.Mathlib.Decide.{ℕ_discrete}
use native.Mathlib.Omega.{arith}
use borrow.Author.Tests.{eq-eqb, ne_eqb, ltb-true, ltb-false}
use lib.Dec.{eqb, ltb}
use lib.ListN.{length, get_or, take, set, replicate, length-append, length-map, length-set, get_or-map}
use lib.Seq.{set-append_seam, take-set-lt}
use Rattle.std.specs.Prelude.{if◌then◌else◌}
use Rattle.std.specs.List.{position, position_or_len}
use Rattle.std.specs.declared.option.Option.TheVariants.{None, Some}
use Rattle.std.proofs.lemmas.List.{get_or-take, map-append, map-set, take_more_set}
use Rattle.wire.specs.Bytes.{repeated, padded}
use Rattle.footprint.specs.Access.{Access}
use Rattle.footprint.specs.Plan.{high_word, low_word}
use Rattle.footprint.specs.Sets.{merge, merge_all}
use Rattle.footprint.proofs.SetLaws.{joined_flags}
use Rattle.key_uses.specs.Uses.{use_of, no_use}
use Rattle.analysis.specs.Gathered.{Holds, same_key}
use Rattle.key_uses.specs.declared.KeyUse.{KeyUse}
use Rattle.analysis.specs.declared.Sets.{Sets}

-- ---- the place of a key

-- Two keys are the same exactly if both their words are.
same_words : (j k : ℕ) → (eqb (high_word j) (high_word k) && eqb (low_word j) (low_word k)) ≡ eqb j k
same_words j k = go (ℕ_discrete j k) (ℕ_discrete (j / 2 ^ 32) (k / 2 ^ 32))
  where
    go : Dec (j ≡ k) → Dec (j / 2 ^ 32 ≡ k / 2 ^ 32) → (eqb (high_word j) (high_word k) && eqb (low_word j) (low_word k)) ≡ eqb j k
    go (yes e) d = simp (e, eq-eqb k k refl, eq-eqb (k / 2 ^ 32) (k / 2 ^ 32) refl, eq-eqb (k % 2 ^ 32) (k % 2 ^ 32) refl)
    go (no n) (no h) = simp (ne_eqb j k n, ne_eqb (j / 2 ^ 32) (k / 2 ^ 32) h)
    go (no n) (yes h) =
        simp (ne_eqb j k n, eq-eqb (j / 2 ^ 32) (k / 2 ^ 32) h, ne_eqb (j % 2 ^ 32) (k % 2 ^ 32) (λ (l : j % 2 ^ 32 ≡ k % 2 ^ 32). n (omega arith)))

no_access : Access
no_access = record { key = 0; reads = false; writes = false }

-- The place of an access's key among others, or their number.
abbrev place : List Access → Access → ℕ
place es a = position_or_len (same_key (use_of a)) (map use_of es)

-- ---- merging, by the place

merge_found : (es : List Access) (a : Access) → place es a < length es → merge es a ≡ set es (place es a) (joined_flags (get_or es (place es a) no_access) a)
unfolding merge use_of
merge_found [] a = λ h. absurd (omega arith)
merge_found (e ∷ es) a = go (eqb e.key a.key) (same_key (use_of a) (use_of e)) (same_words e.key a.key) (merge_found es a)
  where
    go : (b t : Bool) → t ≡ b → (place es a < length es → merge es a ≡ set es (place es a) (joined_flags (get_or es (place es a) no_access) a))
        → cond (not t) (1 + place es a) 0 < suc (length es)
        → (if b then joined_flags e a ∷ es else e ∷ merge es a)
        ≡ set (e ∷ es) (cond (not t) (1 + place es a) 0) (joined_flags (get_or (e ∷ es) (cond (not t) (1 + place es a) 0) no_access) a)
    go true true s ih h = refl
    go true false s ih h = absurd (cc)
    go false true s ih h = absurd (cc)
    go false false s ih h = let one : 1 + place es a ≡ suc (place es a) = omega arith in rw one (ap (λ (t : List Access). e ∷ t) (ih (omega arith)))

merge_new : (es : List Access) (a : Access) → length es ≤ place es a → merge es a ≡ es ++ (a ∷ [])
unfolding merge use_of
merge_new [] a = λ h. refl
merge_new (e ∷ es) a = go (eqb e.key a.key) (same_key (use_of a) (use_of e)) (same_words e.key a.key) (merge_new es a)
  where
    go : (b t : Bool) → t ≡ b → (length es ≤ place es a → merge es a ≡ es ++ (a ∷ []))
        → suc (length es) ≤ cond (not t) (1 + place es a) 0
        → (if b then joined_flags e a ∷ es else e ∷ merge es a) ≡ e ∷ (es ++ (a ∷ []))
    go true true s ih h = absurd (omega arith)
    go true false s ih h = absurd (cc)
    go false true s ih h = absurd (cc)
    go false false s ih h = ap (λ (t : List Access). e ∷ t) (ih (omega arith))

-- Merging never takes a key away.
merge_grows : (es : List Access) (a : Access) → length es ≤ length (merge es a)
unfolding merge
merge_grows [] a = omega arith
merge_grows (e ∷ es) a = go (eqb e.key a.key) (merge_grows es a)
  where
    go : (b : Bool) → length es ≤ length (merge es a) → suc (length es) ≤ length (if b then joined_flags e a ∷ es else e ∷ merge es a)
    go true h = omega arith
    go false h = omega arith

-- What is merged one after another takes none away either.
pub merged_grows : (es more : List Access) → length es ≤ length (merge_all es more)
unfolding merge_all
merged_grows es [] = omega arith
merged_grows es (a ∷ more) =
    let one : length es ≤ length (merge es a) = merge_grows es a in
    let rest : length (merge es a) ≤ length (merge_all (merge es a) more) = merged_grows (merge es a) more in
    omega arith

-- One more element before the zeros.
pub padded_last : (n : ℕ) (xs : List ℕ) (v : ℕ) → length xs < n → padded n 0 (xs ++ (v ∷ [])) ≡ set (padded n 0 xs) (length xs) v
unfolding repeated
padded_last n xs v h =
    let left : n - length xs ≡ suc (n - suc (length xs)) = omega arith in
    let more : length (xs ++ (v ∷ [])) ≡ suc (length xs) = length-append xs (v ∷ []) ∙ omega arith in
    ap (λ (m : ℕ). (xs ++ (v ∷ [])) ++ replicate (n - m) 0) more ∙ append_assoc xs (v ∷ []) (replicate (n - suc (length xs)) 0)
    ∙ sym (set-append_seam xs 0 (replicate (n - suc (length xs)) 0) v)
    ∙ ap (λ (m : ℕ). set (xs ++ replicate m 0) (length xs) v) (sym left)

-- ---- one more use

-- What a search answers.
module _ {X : Type 0} (p : X → Bool) (xs : List X) where
  found_at : {at : ℕ} → Some at ≡ position p xs → (at ≡ position_or_len p xs) × (at < length xs)
  found_at {at} e = go (ltb (position_or_len p xs) (length xs)) refl e
    where
      go : (b : Bool) → ltb (position_or_len p xs) (length xs) ≡ b → Some at ≡ cond b (Some (position_or_len p xs)) None
          → (at ≡ position_or_len p xs) × (at < length xs)
      go true l e =
          let same : at ≡ position_or_len p xs = cc in
          (same, rw same (ltb-true (position_or_len p xs) (length xs) l))
      go false l e = absurd (cc)

  found_none : None ≡ position p xs → length xs ≤ position_or_len p xs
  found_none e = go (ltb (position_or_len p xs) (length xs)) refl e
    where
      go : (b : Bool) → ltb (position_or_len p xs) (length xs) ≡ b → None ≡ cond b (Some (position_or_len p xs)) None
          → length xs ≤ position_or_len p xs
      go true l e = absurd (cc)
      go false l e = ltb-false (position_or_len p xs) (length xs) l

-- A use of a key joined by another.
abbrev pub joined : KeyUse → KeyUse → KeyUse
joined k u = record { high = k.high; low = k.low; reads = k.reads || u.reads; writes = k.writes || u.writes }

module _ (s : Sets) (es : List Access) (a : Access) {u : KeyUse} (h : Holds s es) (e : u ≡ use_of a) where
  held_place : (place es a ≡ position_or_len (same_key u) (take s.count s.keys)) × (length (take s.count s.keys) ≡ length es)
  held_place = (rw (e, h.keys), ap length h.keys ∙ length-map es use_of)

  -- The use of a key that stands.
  pub use_joins : (at : ℕ) → Some at ≡ position (same_key u) (take s.count s.keys)
      → take s.count (set s.keys at (joined (get_or s.keys at no_use) u)) ≡ map use_of (merge es a)
  unfolding use_of no_access
  use_joins at found =
      let stands = found_at (same_key u) (take s.count s.keys) found in
      let here : at ≡ place es a = stands.0 ∙ sym held_place.0 in
      let within : at < length es = rw (sym held_place.1) stands.1 in
      let few : at < s.count = rw h.count within in
      let old : get_or s.keys at no_use ≡ use_of (get_or es at no_access) =
      sym (get_or-take s.count s.keys at no_use few) ∙ ap (λ (l : List KeyUse). get_or l at no_use) h.keys ∙ get_or-map use_of es at no_access in
      let value : joined (get_or s.keys at no_use) u ≡ use_of (joined_flags (get_or es at no_access) a) = ap₂ joined old e in
      take-set-lt s.count s.keys at (joined (get_or s.keys at no_use) u) few
      ∙ ap₂ (λ (l : List KeyUse) (k : KeyUse). set l at k) h.keys value
      ∙ sym (map-set use_of es at (joined_flags (get_or es at no_access) a))
      ∙ ap (λ (i : ℕ). map use_of (set es i (joined_flags (get_or es i no_access) a))) here
      ∙ ap (map use_of) (sym (merge_found es a (rw (sym here) within)))

  pub use_joined : (at : ℕ) → Some at ≡ position (same_key u) (take s.count s.keys) → s.count ≡ length (merge es a)
  use_joined at found =
      let stands = found_at (same_key u) (take s.count s.keys) found in
      let here : at ≡ place es a = stands.0 ∙ sym held_place.0 in
      let within : place es a < length es = rw (sym here, sym held_place.1) stands.1 in
      h.count ∙ sym (length-set es (place es a) (joined_flags (get_or es (place es a) no_access) a)) ∙ ap length (sym (merge_found es a within))

  -- A new key.
  module _ (none : None ≡ position (same_key u) (take s.count s.keys)) where
    new : merge es a ≡ es ++ (a ∷ [])
    new =
        let past = found_none (same_key u) (take s.count s.keys) none in
        merge_new es a (rw (held_place.0, sym held_place.1) past)

    pub new_count : s.count + 1 ≡ length (merge es a)
    new_count = let more : length (es ++ (a ∷ [])) ≡ length es + 1 = length-append es (a ∷ []) in rw (h.count, new) (sym more)

    pub new_keys : s.count < length s.keys → take (s.count + 1) (set s.keys s.count u) ≡ map use_of (merge es a)
    new_keys room =
        take_more_set s.keys s.count u room ∙ ap₂ (λ (l : List KeyUse) (k : KeyUse). l ++ (k ∷ [])) h.keys e
        ∙ sym (map-append use_of es (a ∷ [])) ∙ ap (map use_of) (sym new)
