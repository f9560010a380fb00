-- The mathematics of the proofs of `gather`, over plain variables: the uses of an instruction, and the walk, turn by turn.
use mathlib.Core.Path.{◌≡◌, sym, ap, ◌∙◌}
use mathlib.Core.List.{List, [], ◌∷◌, ◌++◌}
use Prim.Native.Nat.{ℕ, zero, suc, ◌+◌, ◌-◌, ◌*◌, ◌≤◌, ◌<◌}
use native.Mathlib.Numerals.{add-one}
use native.Mathlib.Omega.{arith}
use lib.ListN.{length, drop}
use Rattle.block.specs.Instruction.{instr_bytes, decode}
use Rattle.block.specs.Limits.{max_call_keys}
use Rattle.block.specs.declared.Call.{Call}
use Rattle.footprint.specs.Access.{Access, entry_accesses}
use Rattle.analysis.specs.Gathered.{Holds}
use Rattle.analysis.proofs.GatheredLaws.{merged_grows}
use Rattle.footprint.proofs.SetLaws.{merged_append, code_more}
use Rattle.footprint.specs.Sets.{merge, merge_all, decoded_accesses, code_accesses}
use Rattle.key_uses.specs.Uses.{use_of, uses_of}
use Rattle.analysis.specs.declared.Sets.{Sets}
use Rattle.key_uses.specs.declared.Uses.{Uses}

-- ---- the uses of one instruction, or of the entry

module _ (es : List Access) {us : Uses} where
  pub uses_none : (more : List Access) → us ≡ uses_of more → us.count ≡ 0 → {s : Sets} → Holds s es → Holds s (merge_all es more)
  unfolding uses_of merge_all
  uses_none [] e z h = h
  uses_none (a ∷ []) e z h = let one : us.count ≡ 1 = ap (λ (x : Uses). x.count) e in absurd (omega arith)
  uses_none (a ∷ b ∷ more) e z h = let two : us.count ≡ 2 = ap (λ (x : Uses). x.count) e in absurd (omega arith)

  pub uses_over : (more : List Access) → us ≡ uses_of more → (us.count ≡ 0 → ⊥)
      → ((a : Access) → us.first ≡ use_of a → max_call_keys < length (merge es a)) → max_call_keys < length (merge_all es more)
  unfolding uses_of merge_all
  uses_over [] e n over = absurd (n (ap (λ (x : Uses). x.count) e))
  uses_over (a ∷ []) e n over = over a (ap (λ (x : Uses). x.first) e)
  uses_over (a ∷ b ∷ more) e n over =
      let first : max_call_keys < length (merge es a) = over a (ap (λ (x : Uses). x.first) e) in
      let rest : length (merge es a) ≤ length (merge_all (merge es a) (b ∷ more)) = merged_grows (merge es a) (b ∷ more) in
      omega arith

  pub uses_one : (more : List Access) → us ≡ uses_of more → us.count ≡ 1 → {s : Sets}
      → ((a : Access) → us.first ≡ use_of a → Holds s (merge es a)) → Holds s (merge_all es more)
  unfolding uses_of merge_all
  uses_one [] e o h = let none : us.count ≡ 0 = ap (λ (x : Uses). x.count) e in absurd (omega arith)
  uses_one (a ∷ []) e o h = h a (ap (λ (x : Uses). x.first) e)
  uses_one (a ∷ b ∷ more) e o h = let two : us.count ≡ 2 = ap (λ (x : Uses). x.count) e in absurd (omega arith)

  pub uses_two : (more : List Access) → length more ≤ 2 → us ≡ uses_of more → (us.count ≡ 0 → ⊥) → (us.count ≡ 1 → ⊥) → {s : Sets}
      → ((a : Access) → us.first ≡ use_of a → Holds s (merge es a)) → (P : List Access → Type 0)
      → ((fs : List Access) (b : Access) → Holds s fs → us.second ≡ use_of b → P (merge fs b)) → P (merge_all es more)
  unfolding uses_of merge_all
  uses_two [] few e n m h P last = absurd (n (ap (λ (x : Uses). x.count) e))
  uses_two (a ∷ []) few e n m h P last = absurd (m (ap (λ (x : Uses). x.count) e))
  uses_two (a ∷ b ∷ []) few e n m h P last =
      last (merge es a) b (h a (ap (λ (x : Uses). x.first) e)) (ap (λ (x : Uses). x.second) e)
  uses_two (a ∷ b ∷ c ∷ more) few e n m h P last = absurd (omega arith)

-- ---- the walk

module _ (c : Call) (size : ℕ) (code : List ℕ) where
  -- The accesses of the entry and of the first n instructions.
  abbrev pub first_accesses : ℕ → List Access
  first_accesses n = merge_all (merge_all [] (entry_accesses c)) (code_accesses c n size code)

  -- Those of instruction n.
  abbrev pub next_accesses : ℕ → List Access
  next_accesses n = decoded_accesses c (decode size (drop (instr_bytes * n) code))

  pub walk_more : (n : ℕ) → merge_all (first_accesses n) (next_accesses n) ≡ first_accesses (n + 1)
  walk_more n =
      let more : code_accesses c n size code ++ next_accesses n ≡ code_accesses c (n + 1) size code =
      sym (code_more c n size code) ∙ ap (λ (m : ℕ). code_accesses c m size code) (sym (add-one n)) in
      sym (merged_append (merge_all [] (entry_accesses c)) (code_accesses c n size code) (next_accesses n))
      ∙ ap (merge_all (merge_all [] (entry_accesses c))) more

  -- The walk never takes a key away.
  walk_grows : (m n : ℕ) → length (first_accesses m) ≤ length (first_accesses (m + n))
  walk_grows m zero = let here : m + 0 ≡ m = omega arith in rw here (omega arith)
  walk_grows m (suc n) =
      let one : length (first_accesses (m + n)) ≤ length (merge_all (first_accesses (m + n)) (next_accesses (m + n))) =
      merged_grows (first_accesses (m + n)) (next_accesses (m + n)) in
      let step : m + n + 1 ≡ m + suc n = omega arith in
      let more : length (merge_all (first_accesses (m + n)) (next_accesses (m + n))) ≡ length (first_accesses (m + suc n)) =
      ap length (walk_more (m + n)) ∙ ap (λ (k : ℕ). length (first_accesses k)) step in
      let rest : length (first_accesses m) ≤ length (first_accesses (m + n)) = walk_grows m n in
      omega arith

  -- A set that has too many keys on the way has too many at the end.
  pub walk_over : (n : ℕ) → n ≤ size → max_call_keys < length (first_accesses n) → max_call_keys < length (first_accesses size)
  walk_over n h over =
      let all : n + (size - n) ≡ size = omega arith in
      let more : length (first_accesses n) ≤ length (first_accesses size) = rw all at (walk_grows n (size - n)) in
      omega arith
