-- What the reader makes of one record: each kind of it by its own law (RecordFaults), behind the tests that all of them pass.
use mathlib.Core.Path.{◌≡◌, refl, sym, subst, ◌∙◌}
use mathlib.Core.Bool.{true, false, not, ◌||◌, false≢true}
use mathlib.Core.List.{List}
use Prim.Native.Nat.{ℕ, ◌+◌, ◌-◌, ◌≤◌}
use native.Mathlib.Omega.{arith}
use borrow.Author.Tests.{ltb-true, ltb-false, eqb-true, eqb-false, not-true, not-false, le-ltb}
use lib.Dec.{eqb, ltb}
use lib.ListN.{length, drop}
use Rattle.arith.proofs.ChoiceLaws.{if_all, neither}
use Rattle.block.specs.Record.{length_allowed}
use Rattle.block.specs.Reader.{read_body, read_record}
use Rattle.block.specs.Refusal.{number_of, offset_of}
use Rattle.block.specs.Encoding.{Contents, AreBytes, FunctionsKeep, CellsKeep, block_for}
use Rattle.block.specs.Faults.{last_kind, length_in, kind_in, KindRight, head_cut, kind_wrong, length_wrong, body_cut, fault_number, fault_place, HasFault, NoneBefore}
use Rattle.block.proofs.ReadsOnly.{function_lengths, other_lengths}
use Rattle.block.proofs.RecordFaults.{Told, length_allowed_lem, length_right, told_function, told_cell, told_call, told_end}
use Rattle.block.proofs.FaultLaws.{none_first, none_next}

module _ (t : Contents) (functions : FunctionsKeep t.functions) (cells : CellsKeep t.cells)
    (at : ℕ) (rest : List ℕ) (bytes : AreBytes rest) (short : length rest ≤ 65536) where
  module _ (whole : 4 + length_in rest ≤ length rest) (none : NoneBefore t rest 4) where
    told_body : (size : ℕ) → size ≡ at + length rest → 1 ≤ kind_in rest → kind_in rest ≤ 4 → length_allowed (kind_in rest) (length_in rest) ≡ true
        → Told t rest at (read_body size (kind_in rest) at (length_in rest) (drop 4 rest) (block_for t))
    unfolding read_body
    told_body size all low high sized =
        if_all (Told t rest at) (eqb (kind_in rest) 1)
        (λ e. let one : kind_in rest ≡ 1 = eqb-true (kind_in rest) 1 e in
        let o = function_lengths (length_in rest) (of 1 one) in told_function t functions cells at rest bytes short whole none one o.0 o.1 o.2) λ e₁.
        if_all (Told t rest at) (eqb (kind_in rest) 2)
        (λ e. let two : kind_in rest ≡ 2 = eqb-true (kind_in rest) 2 e in told_cell t functions cells at rest bytes short whole none two ((other_lengths (length_in rest)).0 (of 2 two))) λ e₂.
        if_all (Told t rest at) (eqb (kind_in rest) 3)
        (λ e. let three : kind_in rest ≡ 3 = eqb-true (kind_in rest) 3 e in told_call t functions cells at rest bytes short whole none three ((other_lengths (length_in rest)).1 (of 3 three))) λ e₃.
        let n₁ : kind_in rest ≡ 1 → ⊥ = eqb-false (kind_in rest) 1 e₁ in
        let n₂ : kind_in rest ≡ 2 → ⊥ = eqb-false (kind_in rest) 2 e₂ in
        let n₃ : kind_in rest ≡ 3 → ⊥ = eqb-false (kind_in rest) 3 e₃ in
        let four : kind_in rest ≡ 4 = omega arith in
        told_end t functions cells at rest bytes short whole none four ((other_lengths (length_in rest)).2 (of 4 four)) size all
      where
        of : (n : ℕ) → kind_in rest ≡ n → length_allowed n (length_in rest) ≡ true
        of n k = subst (λ (j : ℕ). length_allowed j (length_in rest) ≡ true) k sized

  -- The reader, at what stands behind contents that keep the rules.
  pub told_record : (size : ℕ) → size ≡ at + length rest → Told t rest at (read_record size (last_kind t) at rest (block_for t))
  unfolding read_record HasFault fault_place fault_number number_of offset_of
  told_record size all =
      if_all (Told t rest at) (ltb (size - at) 4)
      (λ e. record {
        fault = head_cut;
        into = 0;
        has = (refl, omega (arith, ltb-true (size - at) 4 e));
        none = none_first t rest;
        number = refl;
        place = omega arith;
      }) λ head.
      let none_1 : NoneBefore t rest 1 = none_next t rest head_cut 0 refl (none_first t rest) (λ into h. omega (arith, ltb-false (size - at) 4 head, h.1)) in
      if_all (Told t rest at) (ltb (kind_in rest) 1 || ltb 4 (kind_in rest) || ltb (kind_in rest) (last_kind t))
      (λ e. record {
        fault = kind_wrong;
        into = 0;
        has = (refl, λ k. false≢true (sym (right k) ∙ e));
        none = none_1;
        number = refl;
        place = omega arith;
      }) λ known.
      let o = neither (ltb (kind_in rest) 1 || ltb 4 (kind_in rest)) (ltb (kind_in rest) (last_kind t)) known in
      let p = neither (ltb (kind_in rest) 1) (ltb 4 (kind_in rest)) o.0 in
      let low : 1 ≤ kind_in rest = ltb-false (kind_in rest) 1 p.0 in
      let high : kind_in rest ≤ 4 = ltb-false 4 (kind_in rest) p.1 in
      let none_2 : NoneBefore t rest 2 = none_next t rest kind_wrong 1 refl none_1
      (λ into h. h.1 (record { known = (low, high); falling = ltb-false (kind_in rest) (last_kind t) o.1 })) in
      if_all (Told t rest at) (not (length_allowed (kind_in rest) (length_in rest)))
      (λ e. record {
        fault = length_wrong;
        into = 0;
        has = (refl, λ r. false≢true (sym (not-true _ e) ∙ length_allowed_lem (kind_in rest) (length_in rest) low high r));
        none = none_2;
        number = refl;
        place = omega arith;
      }) λ sized.
      let none-3 : NoneBefore t rest 3 = none_next t rest length_wrong 2 refl none_2 (λ into h. h.1 (length_right (kind_in rest) (length_in rest) (not-false _ sized))) in
      if_all (Told t rest at) (ltb (size - (at + 4)) (length_in rest))
      (λ e. record {
        fault = body_cut;
        into = 0;
        has = (refl, omega (arith, ltb-true (size - (at + 4)) (length_in rest) e, ltb-false (size - at) 4 head));
        none = none-3;
        number = refl;
        place = omega arith;
      }) λ cut.
      let whole : 4 + length_in rest ≤ length rest = omega (arith, ltb-false (size - (at + 4)) (length_in rest) cut, ltb-false (size - at) 4 head) in
      told_body whole (none_next t rest body_cut 3 refl none-3 (λ into h. omega (arith, whole, h.1))) size all low high (not-false _ sized)
    where
      right : KindRight t (kind_in rest) → (ltb (kind_in rest) 1 || ltb 4 (kind_in rest) || ltb (kind_in rest) (last_kind t)) ≡ false
      right k = rw (le-ltb (kind_in rest) 1 k.known.0, le-ltb 4 (kind_in rest) k.known.1, le-ltb (kind_in rest) (last_kind t) k.falling)
