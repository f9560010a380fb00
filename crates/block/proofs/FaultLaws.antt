-- Laws of the faults of a file: the record at the front of bytes is one, a fault comes before another or is it, and the first of them is one.
use mathlib.Core.Path.{◌≡◌, refl, sym, ap, subst, subst⁻¹, ◌∙◌}
use mathlib.Core.Bool.{Bool, true, false}
use mathlib.Core.List.{List, [], ◌∷◌, ◌++◌}
use Prim.Native.Nat.{ℕ, zero, suc, ◌+◌, ◌-◌, ◌*◌, ◌≤◌, ◌<◌}
use native.Mathlib.Omega.{arith}
use native.Mathlib.Decide.{dec_lt}
use lib.ListN.{length, get_or, take, drop, length-append}
use lib.Seq.{drop-drop, take-append_seam}
use Rattle.wire.specs.Bytes.{number, read_le, bytes_of}
use Rattle.block.specs.Instruction.{decode, is_valid, first_invalid}
use Rattle.block.specs.Record.{Cell, function_kind, cell_kind, call_kind, end_kind, recordOf, cell_of}
use Rattle.block.specs.Encoding.{Routine, Contents, FunctionFits}
use Rattle.block.specs.Faults.{length_in, kind_in, Element, a_function, a_cell, a_call, the_end, Holds, FirstWrong, CodeWrong, Fault, head_cut, kind_wrong, length_wrong, body_cut, limit_passed, field_wrong, code_wrong, not_rising, sum_passed, bytes_behind, fault_place, HasFault, NoneBefore}
use Rattle.block.proofs.EncodingLaws.{function_body, cell_body, call_body, function_contract, function_number, function_code, function_size, routine_in}
use Rattle.block.proofs.BodyLaws.{cell_back, call_in_body, call_same}
use Rattle.block.proofs.ContentsLaws.{record_length, head_length, head_kind, head_behind}
use Rattle.block.specs.declared.Call.{Call}

-- ---- the record at the front

-- What a record of a kind at the front of bytes holds.
abbrev Front : List ℕ → Element → Type 0
Front rest (a_function f) = (kind_in rest ≡ function_kind) × (f ≡ routine_in (drop 4 rest) (length_in rest))
Front rest (a_cell c) = (kind_in rest ≡ cell_kind) × (c ≡ cell_of (drop 4 rest))
Front rest (a_call c) = (kind_in rest ≡ call_kind) × (c ≡ call_in_body (drop 4 rest))
Front rest the_end = kind_in rest ≡ end_kind

routine_back : (f : Routine) (more : List ℕ) → FunctionFits f → routine_in (function_body f ++ more) (length (function_body f)) ≡ f
unfolding bytes_of
routine_back f more fits =
    let contract : number 2 (function_body f ++ more) ≡ f.contract.0 = function_contract f more fits.0 in
    let number : read_le 2 (function_body f ++ more) 2 ≡ f.number = function_number f more fits.1 in
    let long : length (function_body f) - 4 ≡ length f.code = omega (arith, function_size f) in
    let code : take (length (function_body f) - 4) (drop 4 (function_body f ++ more)) ≡ f.code =
    ap (λ (n : ℕ). take n (drop 4 (function_body f ++ more))) long ∙ ap (take (length f.code)) (function_code f more) ∙ take-append_seam f.code more in
    λ i. record { contract = record { 0 = contract i }; number = number i; code = code i }

module _ (rest : List ℕ) (short : length rest ≤ 65536) where
  body_short : (kind : ℕ) (body more : List ℕ) → rest ≡ recordOf kind body ++ more → length body < 65536
  body_short kind body more e = omega (arith, ap length e, length-append (recordOf kind body) more, record_length kind body)

  front_length : (kind : ℕ) (body more : List ℕ) → rest ≡ recordOf kind body ++ more → length_in rest ≡ length body
  front_length kind body more e = ap (number 2) e ∙ head_length kind body more (body_short kind body more e)

  front_kind : (kind : ℕ) (body more : List ℕ) → kind < 65536 → rest ≡ recordOf kind body ++ more → kind_in rest ≡ kind
  front_kind kind body more h e = ap (λ (s : List ℕ). read_le 2 s 2) e ∙ head_kind kind body more h

  front_body : (kind : ℕ) (body more : List ℕ) → rest ≡ recordOf kind body ++ more → drop 4 rest ≡ body ++ more
  front_body kind body more e = ap (drop 4) e ∙ head_behind kind body more

  pub front : (e : Element) → Holds rest e → Front rest e
  front (a_function f) h =
      let long : length_in rest ≡ length (function_body f) = front_length function_kind (function_body f) h.more h.bytes in (
        front_kind function_kind (function_body f) h.more (omega arith) h.bytes,
        sym (routine_back f h.more h.fits)
            ∙ sym (ap (λ (s : List ℕ). routine_in s (length (function_body f))) (front_body function_kind (function_body f) h.more h.bytes))
            ∙ sym (ap (routine_in (drop 4 rest)) long),
      )
  front (a_cell c) h = (
    front_kind cell_kind (cell_body c) h.more (omega arith) h.bytes,
    sym (cell_back c h.more h.fits.0 h.fits.1) ∙ sym (ap cell_of (front_body cell_kind (cell_body c) h.more h.bytes)),
  )
  front (a_call c) h = (
    front_kind call_kind (call_body c) h.more (omega arith) h.bytes,
    sym (call_same c h.more h.fits) ∙ sym (ap call_in_body (front_body call_kind (call_body c) h.more h.bytes)),
  )
  front the_end h = front_kind end_kind [] h.more (omega arith) h.bytes

  -- Whatever stands there, of a known kind, is the one that is read.
  module _ (P : Element → Type 0) where
    pub only_function : kind_in rest ≡ 1 → P (a_function (routine_in (drop 4 rest) (length_in rest))) → (e : Element) → Holds rest e → P e
    only_function k p (a_function f) h = subst⁻¹ (λ (g : Routine). P (a_function g)) (front (a_function f) h).1 p
    only_function k p (a_cell c) h = absurd (omega (arith, k, (front (a_cell c) h).0))
    only_function k p (a_call c) h = absurd (omega (arith, k, (front (a_call c) h).0))
    only_function k p the_end h = absurd (omega (arith, k, front the_end h))

    pub only_cell : kind_in rest ≡ 2 → P (a_cell (cell_of (drop 4 rest))) → (e : Element) → Holds rest e → P e
    only_cell k p (a_function f) h = absurd (omega (arith, k, (front (a_function f) h).0))
    only_cell k p (a_cell c) h = subst⁻¹ (λ (d : Cell). P (a_cell d)) (front (a_cell c) h).1 p
    only_cell k p (a_call c) h = absurd (omega (arith, k, (front (a_call c) h).0))
    only_cell k p the_end h = absurd (omega (arith, k, front the_end h))

    pub only_call : kind_in rest ≡ 3 → P (a_call (call_in_body (drop 4 rest))) → (e : Element) → Holds rest e → P e
    only_call k p (a_function f) h = absurd (omega (arith, k, (front (a_function f) h).0))
    only_call k p (a_cell c) h = absurd (omega (arith, k, (front (a_cell c) h).0))
    only_call k p (a_call c) h = subst⁻¹ (λ (d : Call). P (a_call d)) (front (a_call c) h).1 p
    only_call k p the_end h = absurd (omega (arith, k, front the_end h))

    pub only_end : kind_in rest ≡ 4 → P the_end → (e : Element) → Holds rest e → P e
    only_end k p (a_function f) h = absurd (omega (arith, k, (front (a_function f) h).0))
    only_end k p (a_cell c) h = absurd (omega (arith, k, (front (a_cell c) h).0))
    only_end k p (a_call c) h = absurd (omega (arith, k, (front (a_call c) h).0))
    only_end k p the_end h = p

  -- Two that stand there are one: what holds of the one holds of the other.
  pub element_one : (P : Element → Type 0) (e e' : Element) → Holds rest e → Holds rest e' → P e → P e'
  element_one P (a_function f) e' h h' p =
      only_function P (front (a_function f) h).0 (subst (λ (g : Routine). P (a_function g)) (front (a_function f) h).1 p) e' h'
  element_one P (a_cell c) e' h h' p = only_cell P (front (a_cell c) h).0 (subst (λ (d : Cell). P (a_cell d)) (front (a_cell c) h).1 p) e' h'
  element_one P (a_call c) e' h h' p = only_call P (front (a_call c) h).0 (subst (λ (d : Call). P (a_call d)) (front (a_call c) h).1 p) e' h'
  element_one P the_end e' h h' p = only_end P (front the_end h) p e' h'

-- ---- the first instruction that breaks a rule

pub record Invalid (left size : ℕ) (s : List ℕ) (index : ℕ) : Type 0 where
  pub there : index < left
  pub wrong : is_valid (decode size (drop (8 * index) s)) ≡ false
  pub before : (i : ℕ) → i < index → is_valid (decode size (drop (8 * i) s)) ≡ true

pub first_invalid_lem : (left index size : ℕ) (s : List ℕ) → first_invalid left index size s < index + left
    → (j : ℕ) × (first_invalid left index size s ≡ index + j) × Invalid left size s j
unfolding first_invalid
first_invalid_lem zero index size s h = absurd (omega arith)
first_invalid_lem (suc left) index size s h = go (is_valid (decode size s)) refl (first_invalid_lem left (index + 1) size (drop 8 s))
  where
    go : (t : Bool) → is_valid (decode size s) ≡ t
        → (first_invalid left (index + 1) size (drop 8 s) < index + 1 + left
        → (j : ℕ) × (first_invalid left (index + 1) size (drop 8 s) ≡ index + 1 + j) × Invalid left size (drop 8 s) j)
        → (j : ℕ) × (first_invalid (suc left) index size s ≡ index + j) × Invalid (suc left) size s j
    go false e later =
        let here : first_invalid (suc left) index size s ≡ index = rw (e, first_invalid) in
        (0, omega (arith, here), record { there = omega arith; wrong = e; before = λ i l. absurd (omega arith) })
    go true e later =
        let next : first_invalid (suc left) index size s ≡ first_invalid left (index + 1) size (drop 8 s) = rw (e, first_invalid) in
        let o = later (omega (arith, h, next)) in
        let j : ℕ = o.0 in
        let there : 8 + 8 * j ≡ 8 * suc j = omega arith in (
          suc j,
          omega (arith, next, o.1),
          record {
            there = omega (arith, o.2.there);
            wrong = rw (drop-drop (8 * j) 8 s, there) at o.2.wrong;
            before = earlier j o.2.before e;
          },
        )
      where
        earlier : (j : ℕ) → ((i : ℕ) → i < j → is_valid (decode size (drop (8 * i) (drop 8 s))) ≡ true) → is_valid (decode size s) ≡ true
            → (i : ℕ) → i < suc j → is_valid (decode size (drop (8 * i) s)) ≡ true
        earlier j f e zero l = e
        earlier j f e (suc i) l = let there : 8 + 8 * i ≡ 8 * suc i = omega arith in rw (drop-drop (8 * i) 8 s, there) at (f i (omega arith))

first_wrong_one : (f : Routine) (m n : ℕ) → FirstWrong f m → FirstWrong f n → m ≡ n
first_wrong_one f m n a b = go (dec_lt a.index b.index) (dec_lt b.index a.index)
  where
    go : Dec (a.index < b.index) → Dec (b.index < a.index) → m ≡ n
    go (yes l) d = absurd (a.wrong (b.before a.index l))
    go (no l) (yes l') = absurd (b.wrong (a.before b.index l'))
    go (no l) (no l') =
        let i : ℕ = a.index in
        let j : ℕ = b.index in
        let same : i ≡ j = omega arith in
        let left : m ≡ 4 + 4 + 8 * i = a.place in
        let right : n ≡ 4 + 4 + 8 * j = b.place in
        omega arith

code_wrong_one : (e : Element) (m n : ℕ) → CodeWrong e m → CodeWrong e n → m ≡ n
code_wrong_one (a_function f) m n a b = first_wrong_one f m n a b
code_wrong_one (a_cell c) m n a b = absurd a
code_wrong_one (a_call c) m n a b = absurd a
code_wrong_one the_end m n a b = absurd a

-- ---- the order of the faults

abbrev fault_at : ℕ → Fault
fault_at n =
    get_or
    (head_cut ∷ kind_wrong ∷ length_wrong ∷ body_cut ∷ limit_passed ∷ field_wrong ∷ code_wrong ∷ not_rising ∷ sum_passed ∷ bytes_behind ∷ [])
    n head_cut

place_back : (f : Fault) → fault_at (fault_place f) ≡ f
unfolding fault_place
place_back head_cut = refl
place_back kind_wrong = refl
place_back length_wrong = refl
place_back body_cut = refl
place_back limit_passed = refl
place_back field_wrong = refl
place_back code_wrong = refl
place_back not_rising = refl
place_back sum_passed = refl
place_back bytes_behind = refl

pub fault_one : (f g : Fault) → fault_place f ≡ fault_place g → f ≡ g
fault_one f g e = sym (place_back f) ∙ ap fault_at e ∙ place_back g

module _ (t : Contents) (rest : List ℕ) where
  pub none_first : NoneBefore t rest 0
  none_first f l into h = absurd (omega arith)

  -- With one fault more that is not there.
  pub none_next : (f : Fault) (n : ℕ) → fault_place f ≡ n → NoneBefore t rest n → ((into : ℕ) → HasFault t rest f into → ⊥) → NoneBefore t rest (suc n)
  none_next f n here none lacks g l into h = go (dec_lt (fault_place g) n)
    where
      go : Dec (fault_place g < n) → ⊥
      go (yes less) = none g less into h
      go (no less) =
          let same : fault_place g ≡ fault_place f = omega arith in
          lacks into (subst (λ (k : Fault). HasFault t rest k into) (fault_one g f same) h)

  -- The first fault is one, and so is its place in the record.
  pub first_one : (f g : Fault) (m n : ℕ) → HasFault t rest f m → NoneBefore t rest (fault_place f)
      → HasFault t rest g n → NoneBefore t rest (fault_place g) → f ≡ g
  first_one f g m n has none has' none' = go (dec_lt (fault_place f) (fault_place g)) (dec_lt (fault_place g) (fault_place f))
    where
      go : Dec (fault_place f < fault_place g) → Dec (fault_place g < fault_place f) → f ≡ g
      go (yes l) d = absurd (none' f l m has)
      go (no l) (yes l') = absurd (none g l' n has')
      go (no l) (no l') = fault_one f g (omega arith)

  pub into_one : length rest ≤ 65536 → (f : Fault) (m n : ℕ) → HasFault t rest f m → HasFault t rest f n → m ≡ n
  unfolding HasFault
  into_one short head_cut m n a b = a.0 ∙ sym b.0
  into_one short kind_wrong m n a b = a.0 ∙ sym b.0
  into_one short length_wrong m n a b = a.0 ∙ sym b.0
  into_one short body_cut m n a b = a.0 ∙ sym b.0
  into_one short limit_passed m n a b = a.0 ∙ sym b.0
  into_one short field_wrong m n a b = a.0 ∙ sym b.0
  into_one short code_wrong m n a b =
      code_wrong_one b.0 m n (element_one rest short (λ e. CodeWrong e m) a.0 b.0 a.1 b.1 a.2) b.2
  into_one short not_rising m n a b = a.0 ∙ sym b.0
  into_one short sum_passed m n a b = a.0 ∙ sym b.0
  into_one short bytes_behind m n a b = a.0 ∙ sym b.0
