-- What the reader makes of one record, by its faults: it refuses by the first of them, and takes a record that has none.
use Rattle.std.specs.Prelude.{None, Option, Some}
use mathlib.Core.Path.{◌≡◌, refl, sym, ap, subst, subst⁻¹, ◌∙◌}
use mathlib.Core.Bool.{Bool, true, false, not, ◌&&◌, false≢true}
use mathlib.Core.List.{List, [], ◌∷◌, ◌++◌, map, map-append}
use Prim.Native.Nat.{ℕ, ◌+◌, ◌-◌, ◌*◌, ◌/◌, ◌%◌, ◌≤◌, ◌<◌}
use native.Mathlib.Omega.{arith}
use borrow.Author.Tests.{ltb-true, ltb-false, leb-true, leb-false, eqb-true, eqb-false, not-true, not-false, le-leb, eq-eqb}
use lib.Dec.{eqb, leb, ltb}
use lib.ListN.{length, take, drop, length-drop, length-append}
use lib.Signed.{le_z}
use Rattle.arith.proofs.ChoiceLaws.{if_all}
use Rattle.arith.specs.Balance.{total, largest}
use Rattle.wire.specs.Bytes.{number, read_le}
use Rattle.block.specs.Instruction.{decode, is_valid, first_invalid}
use Rattle.block.specs.Record.{Cell, function_id, end_kind, call_bytes, recordOf, length_allowed, cell_of, cell_allowed, call_of}
use Rattle.block.specs.Reader.{Reading, accepted, refused, due, ended, rises, balances, read_function, read_cell, withCall, read_call, read_end}
use Rattle.block.specs.Refusal.{number_of, offset_of}
use Rattle.block.specs.Encoding.{Routine, Contents, AreBytes, Ascending, size_of, FunctionKeeps, CellKeeps, CallKeeps, routine_id, FunctionsKeep, CellsKeep, placed, block_for}
use Rattle.block.specs.Faults.{length_in, kind_in, Element, a_function, a_cell, a_call, the_end, Holds, LengthRight, FieldsRight, FirstWrong, CodeWrong, RisesWith, SumWithin, Fault, limit_passed, field_wrong, code_wrong, not_rising, sum_passed, bytes_behind, fault_number, fault_place, HasFault, NoneBefore}
use Rattle.block.proofs.DecoderExact.{holds_valid, valid_holds}
use Rattle.block.proofs.EncodingLaws.{function_body, cell_body, call_body, bytes_drop, bytes_take, decode_code, routine_in, code_split, function_size, function_split, function_length_in, function_keeps}
use Rattle.block.proofs.BodyLaws.{cell_split, cell_keeps, cell_allowed_lem, call_in_body, call_back, call_in_lem, call_keeps, in_split, below_16, below_32, value_fits}
use Rattle.block.proofs.ContentsLaws.{ascending_snoc, ascending_rises, record_length, cell_length_lem, call_length, placed_length, placed_ids}
use Rattle.block.proofs.ReadsOnly.{record_split, function_lengths, other_lengths}
use Rattle.block.proofs.FaultLaws.{front, only_function, only_cell, only_call, only_end, Invalid, first_invalid_lem, none_next}
use Rattle.block.specs.declared.Call.{Call}
use Rattle.block.specs.declared.Refusal.{Refusal}
use Rattle.block.specs.declared.Refusal.TheVariants.{Field}

-- A refusal of what stands behind contents, at an offset: by its first fault.
pub record Fails (t : Contents) (rest : List ℕ) (at : ℕ) (why : Refusal) : Type 0 where
  pub fault : Fault
  pub into : ℕ
  pub has : HasFault t rest fault into
  pub none : NoneBefore t rest (fault_place fault)
  pub number : number_of why ≡ fault_number fault
  pub place : offset_of why ≡ at + into

-- What is taken has no fault, and the reader goes on behind it.
abbrev pub Told : Contents → List ℕ → (at : ℕ) → Reading → Type 0
Told t rest at (due kind next more b) = NoneBefore t rest 10 × (at < next)
Told t rest at (ended (accepted b)) = NoneBefore t rest 10
Told t rest at (ended (refused why)) = Fails t rest at why

-- ---- lengths

pub length_allowed_lem : (kind len : ℕ) → 1 ≤ kind → kind ≤ 4 → LengthRight kind len → length_allowed kind len ≡ true
unfolding length_allowed
length_allowed_lem kind len low high r =
    if_all (λ (b : Bool). b ≡ true) (eqb kind 1) (λ e. let o = r.function (eqb-true kind 1 e) in function o.0 o.1 o.2) λ e₁.
    if_all (λ (b : Bool). b ≡ true) (eqb kind 2) (λ e. eq-eqb len 20 (r.cell (eqb-true kind 2 e))) λ e₂.
    if_all (λ (b : Bool). b ≡ true) (eqb kind 3) (λ e. eq-eqb len call_bytes (r.call (eqb-true kind 3 e))) λ e₃.
    let n₁ : kind ≡ 1 → ⊥ = eqb-false kind 1 e₁ in
    let n₂ : kind ≡ 2 → ⊥ = eqb-false kind 2 e₂ in
    let n₃ : kind ≡ 3 → ⊥ = eqb-false kind 3 e₃ in
    let four : kind ≡ 4 = omega arith in
    eq-eqb len 0 (r.end four)
  where
    function : (n : ℕ) → n ≤ 64 → len ≡ 4 + 8 * n → (leb 4 len && leb len 516 && eqb ((len - 4) % 8) 0) ≡ true
    function n few e = rw (le-leb 4 len (omega arith), le-leb len 516 (omega arith), eq-eqb ((len - 4) % 8) 0 (omega arith))

pub length_right : (kind len : ℕ) → length_allowed kind len ≡ true → LengthRight kind len
length_right kind len e =
    record {
      function = λ k. let o = function_lengths len (of 1 k) in ((len - 4) / 8, omega (arith, o), omega (arith, o));
      cell = λ k. (other_lengths len).0 (of 2 k);
      call = λ k. (other_lengths len).1 (of 3 k);
      end = λ k. (other_lengths len).2 (of 4 k);
    }
  where
    of : (n : ℕ) → kind ≡ n → length_allowed n len ≡ true
    of n k = subst (λ (j : ℕ). length_allowed j len ≡ true) k e

-- ---- the first wrong instruction of a function that is read

module _ (s : List ℕ) (bytes : AreBytes s) (len : ℕ) (low : 4 ≤ len) (high : len ≤ 516) (fit : len ≤ length s) (eight : (len - 4) % 8 ≡ 0) where
  size_in : size_of (routine_in s len) ≡ (len - 4) / 8
  size_in = omega (arith, function_size (routine_in s len), function_length_in s bytes len low fit)

  same_instruction : (i n : ℕ) → n ≡ (len - 4) / 8 → i < n
      → is_valid (decode n (drop (8 * i) (take (len - 4) (drop 4 s)))) ≡ is_valid (decode ((len - 4) / 8) (drop (8 * i) (drop 4 s)))
  same_instruction i n e h =
      let long : length (take (len - 4) (drop 4 s)) ≡ 8 * n = omega (arith, function_size (routine_in s len), function_length_in s bytes len low fit) in
      rw (← e, ← decode_code i n (take (len - 4) (drop 4 s)) (drop len s) long h, ← code_split s bytes len low fit) refl

  first_wrong : (j : ℕ) → Invalid ((len - 4) / 8) ((len - 4) / 8) (drop 4 s) j → FirstWrong (routine_in s len) (4 + 4 + 8 * j)
  first_wrong j w =
      record {
        index = j;
        there = omega (arith, size_in, w.there);
        wrong = λ h. false≢true (sym w.wrong ∙ sym (same j w.there) ∙ holds_valid size (drop (8 * j) code) (omega (arith, size_in)) h);
        before = λ i l.
            valid_holds size (drop (8 * i) code) (bytes_drop (8 * i) code (bytes_take (len - 4) (drop 4 s) (bytes_drop 4 s bytes)))
            (simp length-drop (omega (arith, long, w.there))) (same i (omega (arith, w.there)) ∙ w.before i l);
        place = refl;
      }
    where
      code : List ℕ
      code = take (len - 4) (drop 4 s)

      size : ℕ
      size = size_of (routine_in s len)

      long : length (take (len - 4) (drop 4 s)) ≡ len - 4
      long = omega (arith, function_size (routine_in s len), function_length_in s bytes len low fit)

      same : (i : ℕ) → i < (len - 4) / 8
          → is_valid (decode (size_of (routine_in s len)) (drop (8 * i) (take (len - 4) (drop 4 s)))) ≡ is_valid (decode ((len - 4) / 8) (drop (8 * i) (drop 4 s)))
      same i l = same_instruction i (size_of (routine_in s len)) size_in (omega (arith, size_in))

-- ---- one record

module _ (t : Contents) (functions : FunctionsKeep t.functions) (cells : CellsKeep t.cells)
    (at : ℕ) (rest : List ℕ) (bytes : AreBytes rest) (short : length rest ≤ 65536) where
  abbrev body : List ℕ
  body = drop 4 rest

  abbrev NoneTo : ℕ → Type 0
  NoneTo n = NoneBefore t rest n

  -- No element that stands there lacks what the one that is read has.
  lacks : (P : Element → Type 0) → ((e : Element) → Holds rest e → P e) → (into : ℕ) → (into ≡ 0) × ((e : Element) × Holds rest e × (P e → ⊥)) → ⊥
  lacks P all into h = h.1.2 (all h.1.0 h.1.1)

  module _ (whole : 4 + length_in rest ≤ length rest) (none : NoneTo 4) where
    body_fits : length_in rest ≤ length (drop 4 rest)
    body_fits = simp length-drop (omega arith)

    body_bytes : AreBytes (drop 4 rest)
    body_bytes = bytes_drop 4 rest bytes

    -- Behind a record that is no end.
    told_last : (next : ℕ) → (kind_in rest ≡ 4 → ⊥) → at < next → NoneTo 9 → NoneTo 10 × (at < next)
    unfolding HasFault fault_place
    told_last next other on none = (none_next t rest bytes_behind 9 refl none (λ into h. other (front rest short the_end h.1.0)), on)

    module _ (is : kind_in rest ≡ 1) (low : 4 ≤ length_in rest) (high : length_in rest ≤ 516) (eight : (length_in rest - 4) % 8 ≡ 0) where
      abbrev f : Routine
      f = routine_in body (length_in rest)

      function_there : Holds rest (a_function f)
      function_there =
          let split : drop 4 rest ≡ function_body f ++ drop (length_in rest) body = function_split body body_bytes (length_in rest) low body_fits in
          let long : length (function_body f) ≡ length_in rest = function_length_in body body_bytes (length_in rest) low body_fits in
          record {
            fits = (below_16 body body_bytes 0, below_16 body body_bytes 2);
            more = drop (length_in rest) body;
            bytes = subst (λ (k : ℕ). rest ≡ recordOf k (function_body f) ++ drop (length_in rest) body) is
                (record_split rest bytes (omega arith) (function_body f) (drop (length_in rest) body) (sym long) split);
          }

      pub told_function : Told t rest at (read_function at (length_in rest) (drop 4 rest) (block_for t))
      unfolding read_function block_for HasFault fault_place fault_number number_of offset_of
      told_function =
          if_all (Told t rest at) (leb 64 (length (placed 0 t.functions)))
          (λ e. record {
            fault = limit_passed;
            into = 0;
            has = (refl, λ r. omega (arith, leb-true 64 (length (placed 0 t.functions)) e, placed_length 0 t.functions, r.function is));
            none = none;
            number = refl;
            place = omega arith;
          }) λ room.
          let none-5 : NoneTo 5 = none_next t rest limit_passed 4 refl none (λ into h. h.1
          (record {
            function = λ k. omega (arith, leb-false 64 (length (placed 0 t.functions)) room, placed_length 0 t.functions);
            cell = λ k. absurd (omega (arith, is, k));
            call = λ k. absurd (omega (arith, is, k));
          })) in
          if_all (Told t rest at) (ltb (number 2 body) 32768)
          (λ e. record {
            fault = field_wrong;
            into = 0;
            has = (refl, (a_function f, function_there, λ h. omega (arith, ltb-true (number 2 body) 32768 e, h)));
            none = none-5;
            number = refl;
            place = omega arith;
          }) λ contract.
          let none-6 : NoneTo 6 = none_next t rest field_wrong 5 refl none-5
          (lacks FieldsRight (only_function rest short FieldsRight is (ltb-false (number 2 body) 32768 contract))) in
          if_all (Told t rest at) (ltb (first_invalid ((length_in rest - 4) / 8) 0 ((length_in rest - 4) / 8) (drop 4 body)) ((length_in rest - 4) / 8))
          (λ e. let o = first_invalid_lem ((length_in rest - 4) / 8) 0 ((length_in rest - 4) / 8) (drop 4 body)
          (omega (arith, ltb-true (first_invalid ((length_in rest - 4) / 8) 0 ((length_in rest - 4) / 8) (drop 4 body)) ((length_in rest - 4) / 8) e)) in
          record {
            fault = code_wrong;
            into = 4 + 4 + 8 * o.0;
            has = (a_function f, function_there, first_wrong body body_bytes (length_in rest) low high body_fits eight o.0 o.2);
            none = none-6;
            number = refl;
            place = omega (arith, o.1);
          }) λ good.
          let keeps : FunctionKeeps f =
          function_keeps body body_bytes (length_in rest) low body_fits (ltb-false (number 2 body) 32768 contract) high eight (ltb-false _ _ good) in
          let none-7 : NoneTo 7 = none_next t rest code_wrong 6 refl none-6
          (λ into h. only_function rest short (λ e. CodeWrong e into → ⊥) is (λ w. w.wrong (keeps.valid w.index w.there)) h.0 h.1 h.2) in
          if_all (Told t rest at) (not (rises (map function_id (placed 0 t.functions)) (number 2 body * 65536 + read_le 2 body 2)))
          (λ e. record {
            fault = not_rising;
            into = 0;
            has = (refl, (a_function f, function_there, λ h. falls (not-true _ e) h));
            none = none-7;
            number = refl;
            place = omega arith;
          }) λ up.
          let none-8 : NoneTo 8 = none_next t rest not_rising 7 refl none-7
          (lacks (RisesWith t) (only_function rest short (RisesWith t) is (goes_up (not-false _ up)))) in
          let none_9 : NoneTo 9 = none_next t rest sum_passed 8 refl none-8 (lacks (SumWithin t) (only_function rest short (SumWithin t) is tt)) in
          told_last (at + 4 + length_in rest) (λ k. omega (arith, is, k)) (omega arith) none_9
        where
          falls : rises (map function_id (placed 0 t.functions)) (routine_id f) ≡ false → Ascending (map routine_id (t.functions ++ (f ∷ []))) → ⊥
          falls e h =
              false≢true (sym (rw (placed_ids 0 t.functions) at e)
              ∙ ascending_rises (map routine_id t.functions) (routine_id f) [] (subst Ascending (map-append routine_id t.functions (f ∷ [])) h))

          goes_up : rises (map function_id (placed 0 t.functions)) (routine_id f) ≡ true → Ascending (map routine_id (t.functions ++ (f ∷ [])))
          goes_up e =
              subst⁻¹ Ascending (map-append routine_id t.functions (f ∷ []))
              (ascending_snoc (map routine_id t.functions) (routine_id f) functions.rising (rw (placed_ids 0 t.functions) at e))

    module _ (is : kind_in rest ≡ 2) (sized : length_in rest ≡ 20) where
      abbrev c : Cell
      c = cell_of body

      cell_there : Holds rest (a_cell c)
      cell_there =
          let fit : 20 ≤ length (drop 4 rest) = omega (arith, body_fits) in
          let split : drop 4 rest ≡ cell_body c ++ drop 20 body = cell_split body body_bytes fit in
          let long : length (cell_body c) ≡ 20 = cell_length_lem c in
          let n-low : number 2 body < 65536 = below_16 body body_bytes 0 in
          let f-low : read_le 2 body 2 < 65536 = below_16 body body_bytes 2 in
          let a-low : read_le 4 body 4 < 4294967296 = below_32 body body_bytes 4 in
          let b-low : read_le 4 body 8 < 4294967296 = below_32 body body_bytes 8 in
          record {
            fits = (omega arith, value_fits body body_bytes 12);
            more = drop 20 body;
            bytes = subst (λ (k : ℕ). rest ≡ recordOf k (cell_body c) ++ drop 20 body) is
                (record_split rest bytes (omega arith) (cell_body c) (drop 20 body) (sized ∙ sym long) split);
          }

      cell_right : CellKeeps c → cell_allowed body ≡ true
      cell_right keeps =
          let fit : 20 ≤ length (drop 4 rest) = omega (arith, body_fits) in
          ap cell_allowed (cell_split body body_bytes fit) ∙ cell_allowed_lem c (drop 20 body) keeps

      pub told_cell : Told t rest at (read_cell at (length_in rest) (drop 4 rest) (block_for t))
      unfolding read_cell block_for HasFault fault_place fault_number number_of offset_of
      told_cell =
          if_all (Told t rest at) (leb 1024 (length t.cells))
          (λ e. record {
            fault = limit_passed;
            into = 0;
            has = (refl, λ r. omega (arith, leb-true 1024 (length t.cells) e, r.cell is));
            none = none;
            number = refl;
            place = omega arith;
          }) λ room.
          let none-5 : NoneTo 5 = none_next t rest limit_passed 4 refl none (λ into h. h.1
          (record {
            function = λ k. absurd (omega (arith, is, k));
            cell = λ k. leb-false 1024 (length t.cells) room;
            call = λ k. absurd (omega (arith, is, k));
          })) in
          if_all (Told t rest at) (not (cell_allowed body))
          (λ e. record {
            fault = field_wrong;
            into = 0;
            has = (refl, (a_cell c, cell_there, λ h. false≢true (sym (not-true _ e) ∙ cell_right h)));
            none = none-5;
            number = refl;
            place = omega arith;
          }) λ good.
          let none-6 : NoneTo 6 = none_next t rest field_wrong 5 refl none-5
          (lacks FieldsRight (only_cell rest short FieldsRight is (cell_keeps body body_bytes (not-false _ good)))) in
          let none-7 : NoneTo 7 = none_next t rest code_wrong 6 refl none-6
          (λ into h. only_cell rest short (λ e. CodeWrong e into → ⊥) is (λ w. w) h.0 h.1 h.2) in
          if_all (Told t rest at) (not (rises (map (λ d. d.key) t.cells) c.key))
          (λ e. record {
            fault = not_rising;
            into = 0;
            has = (refl, (a_cell c, cell_there, λ h. falls (not-true _ e) h));
            none = none-7;
            number = refl;
            place = omega arith;
          }) λ up.
          let none-8 : NoneTo 8 = none_next t rest not_rising 7 refl none-7
          (lacks (RisesWith t) (only_cell rest short (RisesWith t) is (goes_up (not-false _ up)))) in
          if_all (Told t rest at) (not (le_z (total (balances (t.cells ++ (c ∷ [])))) largest))
          (λ e. record {
            fault = sum_passed;
            into = 0;
            has = (refl, (a_cell c, cell_there, λ h. false≢true (sym (not-true _ e) ∙ h)));
            none = none-8;
            number = refl;
            place = omega arith;
          }) λ sum.
          let none_9 : NoneTo 9 = none_next t rest sum_passed 8 refl none-8 (lacks (SumWithin t) (only_cell rest short (SumWithin t) is (not-false _ sum))) in
          told_last (at + 4 + length_in rest) (λ k. omega (arith, is, k)) (omega arith) none_9
        where
          falls : rises (map (λ d. d.key) t.cells) c.key ≡ false → Ascending (map (λ d. d.key) (t.cells ++ (c ∷ []))) → ⊥
          falls e h =
              false≢true (sym e ∙ ascending_rises (map (λ d. d.key) t.cells) c.key [] (subst Ascending (map-append (λ d. d.key) t.cells (c ∷ [])) h))

          goes_up : rises (map (λ d. d.key) t.cells) c.key ≡ true → Ascending (map (λ d. d.key) (t.cells ++ (c ∷ [])))
          goes_up e =
              subst⁻¹ Ascending (map-append (λ d. d.key) t.cells (c ∷ [])) (ascending_snoc (map (λ d. d.key) t.cells) c.key cells.rising e)

    module _ (is : kind_in rest ≡ 3) (sized : length_in rest ≡ call_bytes) where
      abbrev k : Call
      k = call_in_body body

      fit : call_bytes ≤ length (drop 4 rest)
      fit = omega (arith, body_fits, sized)

      call_there : Holds rest (a_call k)
      call_there =
          let split : drop 4 rest ≡ call_body k ++ drop call_bytes body = in_split body body_bytes fit in
          let long : length (call_body k) ≡ call_bytes = call_length k in
          record {
            fits =
                record {
                  addresses = (below_16 body body_bytes 0, below_16 body body_bytes 2, below_16 body body_bytes 4);
                  value = value_fits body body_bytes 6;
                  arguments = (below_32 body body_bytes 14, below_32 body body_bytes 18, below_32 body body_bytes 22, below_32 body body_bytes 26);
                  fuel = below_16 body body_bytes 30;
                };
            more = drop call_bytes body;
            bytes = subst (λ (n : ℕ). rest ≡ recordOf n (call_body k) ++ drop call_bytes body) is
                (record_split rest bytes (omega arith) (call_body k) (drop call_bytes body) (sized ∙ sym long) split);
          }

      call_right : CallKeeps k → call_of body ≡ Some k
      call_right keeps = ap call_of (in_split body body_bytes fit) ∙ call_back k (drop call_bytes body) keeps

      field_fails : NoneTo 5 → (CallKeeps k → ⊥) → Fails t rest at (Field at)
      unfolding HasFault fault_place fault_number number_of offset_of
      field_fails none-5 h =
          record { fault = field_wrong; into = 0; has = (refl, (a_call k, call_there, h)); none = none-5; number = refl; place = omega arith }

      told_with : NoneTo 5 → (c : Option Call) → call_of body ≡ c → Told t rest at (withCall at (length_in rest) body (block_for t) c)
      unfolding withCall HasFault fault_place
      told_with none-5 None e = field_fails none-5 (λ keeps. let z : ◌≡◌ {A = ℕ} 0 1 = never (sym e ∙ call_right keeps) in omega arith)
        where
          never : None ≡ Some k → ◌≡◌ {A = ℕ} 0 1
          never e = cc
      told_with none-5 (Some c) e =
          if_all (Told t rest at) (eqb c.fuel 0)
          (λ g. field_fails none-5 (λ keeps. let own : c.fuel ≡ k.fuel = ap (λ (d : Call). d.fuel) (call_in_lem body c e).3 in
          omega (arith, eqb-true c.fuel 0 g, keeps.fuel.0)))
          λ g.
          let some : c.fuel ≡ 0 → ⊥ = eqb-false c.fuel 0 g in
          let keeps : CallKeeps k = subst CallKeeps (call_in_lem body c e).3 (call_keeps body body_bytes c e (omega (arith, some))) in
          let none-6 : NoneTo 6 = none_next t rest field_wrong 5 refl none-5 (lacks FieldsRight (only_call rest short FieldsRight is keeps)) in
          let none-7 : NoneTo 7 = none_next t rest code_wrong 6 refl none-6
          (λ into h. only_call rest short (λ e. CodeWrong e into → ⊥) is (λ w. w) h.0 h.1 h.2) in
          let none-8 : NoneTo 8 = none_next t rest not_rising 7 refl none-7 (lacks (RisesWith t) (only_call rest short (RisesWith t) is tt)) in
          let none_9 : NoneTo 9 = none_next t rest sum_passed 8 refl none-8 (lacks (SumWithin t) (only_call rest short (SumWithin t) is tt)) in
          told_last (at + 4 + length_in rest) (λ n. omega (arith, is, n)) (omega arith) none_9

      pub told_call : Told t rest at (read_call at (length_in rest) (drop 4 rest) (block_for t))
      unfolding read_call block_for HasFault fault_place fault_number number_of offset_of
      told_call =
          if_all (Told t rest at) (leb 256 (length t.calls))
          (λ e. record {
            fault = limit_passed;
            into = 0;
            has = (refl, λ r. omega (arith, leb-true 256 (length t.calls) e, r.call is));
            none = none;
            number = refl;
            place = omega arith;
          }) λ room.
          told_with
          (none_next t rest limit_passed 4 refl none (λ into h. h.1
          (record {
            function = λ n. absurd (omega (arith, is, n));
            cell = λ n. absurd (omega (arith, is, n));
            call = λ n. leb-false 256 (length t.calls) room;
          }))) (call_of body) refl

    module _ (is : kind_in rest ≡ 4) (sized : length_in rest ≡ 0) where
      end_there : Holds rest the_end
      end_there =
          record {
            fits = tt;
            more = body;
            bytes = subst (λ (n : ℕ). rest ≡ recordOf n [] ++ body) is (record_split rest bytes (omega arith) [] body sized refl);
          }

      end_more : (h : Holds rest the_end) → length rest ≡ 4 + length h.more
      end_more h = ap length h.bytes ∙ length-append (recordOf end_kind []) h.more ∙ ap (λ (n : ℕ). n + length h.more) (record_length end_kind [])

      none_9 : NoneTo 9
      unfolding HasFault fault_place
      none_9 =
          let none-5 : NoneTo 5 = none_next t rest limit_passed 4 refl none (λ into h. h.1
          (record { function = λ n. absurd (omega (arith, is, n)); cell = λ n. absurd (omega (arith, is, n)); call = λ n. absurd (omega (arith, is, n)) })) in
          let none-6 : NoneTo 6 = none_next t rest field_wrong 5 refl none-5 (lacks FieldsRight (only_end rest short FieldsRight is tt)) in
          let none-7 : NoneTo 7 = none_next t rest code_wrong 6 refl none-6
          (λ into h. only_end rest short (λ e. CodeWrong e into → ⊥) is (λ w. w) h.0 h.1 h.2) in
          let none-8 : NoneTo 8 = none_next t rest not_rising 7 refl none-7 (lacks (RisesWith t) (only_end rest short (RisesWith t) is tt)) in
          none_next t rest sum_passed 8 refl none-8 (lacks (SumWithin t) (only_end rest short (SumWithin t) is tt))

      pub told_end : (size : ℕ) → size ≡ at + length rest → Told t rest at (read_end size at (block_for t))
      unfolding read_end HasFault fault_place fault_number number_of offset_of
      told_end size all =
          if_all (Told t rest at) (ltb (at + 4) size)
          (λ e. record {
            fault = bytes_behind;
            into = 4;
            has = (refl, (end_there, omega (arith, ltb-true (at + 4) size e, end_more end_there)));
            none = none_9;
            number = refl;
            place = refl;
          })
          λ e. none_next t rest bytes_behind 9 refl none_9 (λ into h. omega (arith, ltb-false (at + 4) size e, end_more h.1.0, h.1.1))
