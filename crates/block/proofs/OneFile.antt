-- A file is that of one block: contents whose numbers fit their fields and whose files are equal are equal.
use mathlib.Core.Path.{◌≡◌, refl, sym, ap, ap₂, ◌∙◌}
use mathlib.Core.List.{List, [], ◌∷◌, ◌++◌, append_assoc}
use Prim.Native.Nat.{ℕ, ◌+◌, ◌≤◌, ◌<◌}
use native.Mathlib.Omega.{arith}
use lib.ListN.{length, drop, length-append}
use Rattle.wire.specs.Bytes.{number, read_le, bytes_of}
use Rattle.block.specs.Limits.{max_bytes}
use Rattle.block.specs.Record.{Cell, function_kind, cell_kind, call_kind, end_kind, recordOf, cell_of}
use Rattle.block.specs.Encoding.{Routine, Contents, function_record, cell_record, call_record, records, file_of, FunctionKeeps, CellKeeps, CallKeeps, FunctionFits, CellFits, CallFits, KeepsRules, Fits}
use Rattle.wire.specs.All.{All}
use Rattle.block.proofs.EncodingLaws.{function_body, cell_body, call_body, function_contract, function_number}
use Rattle.block.proofs.BodyLaws.{cell_back, call_in_body, call_fits, call_same}
use Rattle.block.proofs.ContentsLaws.{record_length, head_length, head_kind, head_behind}
use Rattle.block.proofs.ReadsWhole.{file_order}
use Rattle.block.specs.declared.Call.{Call}

-- ---- what fits, of what is kept

pub all_map : {A : Type 0} (P Q : A → Type 0) → ((x : A) → P x → Q x) → (xs : List A) → All P xs → All Q xs
all_map P Q f [] h = tt
all_map P Q f (x ∷ xs) h = (f x h.0, all_map P Q f xs h.1)

pub keeps_fits : (t : Contents) → KeepsRules t → Fits t
keeps_fits t keeps =
    record {
      functions = all_map FunctionKeeps FunctionFits (λ f k. (k.contract.1, k.number)) t.functions keeps.functions.each;
      cells = all_map CellKeeps CellFits (λ c k. (k.key, k.value)) t.cells keeps.cells.each;
      calls = all_map CallKeeps CallFits call_fits t.calls keeps.calls.each;
    }

-- ---- a body is that of one element

function_one : (f g : Routine) → FunctionFits f → FunctionFits g → function_body f ≡ function_body g → f ≡ g
unfolding bytes_of
function_one f g hf hg e =
    let contract : f.contract.0 ≡ g.contract.0 =
    sym (function_contract f [] hf.0) ∙ ap (λ (s : List ℕ). number 2 (s ++ [])) e ∙ function_contract g [] hg.0 in
    let number : f.number ≡ g.number =
    sym (function_number f [] hf.1) ∙ ap (λ (s : List ℕ). read_le 2 (s ++ []) 2) e ∙ function_number g [] hg.1 in
    let code : f.code ≡ g.code = ap (drop 4) e in
    λ i. record { contract = record { 0 = contract i }; number = number i; code = code i }

cell_one : (c d : Cell) → CellFits c → CellFits d → cell_body c ≡ cell_body d → c ≡ d
cell_one c d hc hd e =
    sym (cell_back c [] hc.0 hc.1) ∙ ap (λ (s : List ℕ). cell_of (s ++ [])) e ∙ cell_back d [] hd.0 hd.1

call_one : (c d : Call) → CallFits c → CallFits d → call_body c ≡ call_body d → c ≡ d
call_one c d hc hd e = sym (call_same c [] hc) ∙ ap (λ (s : List ℕ). call_in_body (s ++ [])) e ∙ call_same d [] hd

-- ---- a file is that of one list of records

append_parts : (a b x y : List ℕ) → length a ≡ length b → a ++ x ≡ b ++ y → (a ≡ b) × (x ≡ y)
append_parts [] [] x y h e = (refl, e)
append_parts [] (q ∷ b) x y h e = absurd (omega arith)
append_parts (p ∷ a) [] x y h e = absurd (omega arith)
append_parts (p ∷ a) (q ∷ b) x y h e =
    let first : p ≡ q = cc in
    let rest : a ++ x ≡ b ++ y = cc in
    let o = append_parts a b x y (omega arith) rest in
    (ap₂ (λ (n : ℕ) (l : List ℕ). n ∷ l) first o.0, o.1)

-- A record in front says how long its body is, and so where it ends.
record_front : (kind : ℕ) (b c x y : List ℕ) → length b < 65536 → length c < 65536 → recordOf kind b ++ x ≡ recordOf kind c ++ y
    → (b ≡ c) × (x ≡ y)
record_front kind b c x y hb hc e =
    append_parts b c x y
    (sym (head_length kind b x hb) ∙ ap (number 2) e ∙ head_length kind c y hc)
    (sym (head_behind kind b x) ∙ ap (drop 4) e ∙ head_behind kind c y)

-- The kind of the record in front.
abbrev kind_of : List ℕ → ℕ
kind_of s = read_le 2 s 2

module _ {A : Type 0} (kind : ℕ) (known : kind ≤ 4) (body : A → List ℕ) where
  abbrev of : A → List ℕ
  of x = recordOf kind (body x)

  abbrev all : List A → List ℕ → List ℕ
  all xs tail = records of xs ++ tail

  all_cons : (x : A) (xs : List A) (tail : List ℕ) → all (x ∷ xs) tail ≡ of x ++ all xs tail
  unfolding records
  all_cons x xs tail = append_assoc (of x) (records of xs) tail

  all_kind : (x : A) (xs : List A) (tail : List ℕ) → kind_of (all (x ∷ xs) tail) ≡ kind
  all_kind x xs tail = ap kind_of (all_cons x xs tail) ∙ head_kind kind (body x) (all xs tail) (omega arith)

  -- What comes in front of records of higher kinds has a higher kind too.
  all_above : (k : ℕ) → k < kind → (xs : List A) (tail : List ℕ) → k < kind_of tail → k < kind_of (all xs tail)
  unfolding records
  all_above k h [] tail up = up
  all_above k h (x ∷ xs) tail up = omega (arith, all_kind x xs tail)

  all_length : (x : A) (xs : List A) (tail : List ℕ) → length (all (x ∷ xs) tail) ≡ 4 + length (body x) + length (all xs tail)
  all_length x xs tail =
      ap length (all_cons x xs tail) ∙ length-append (of x) (all xs tail) ∙ omega (arith, record_length kind (body x))

  -- Records of one kind in front of those of higher kinds are known from the bytes, and so is what follows them.
  module _ (P : A → Type 0) (one : (x y : A) → P x → P y → body x ≡ body y → x ≡ y) (tail end : List ℕ)
      (tail-up : kind < kind_of tail) (end-up : kind < kind_of end) where
    records_one : (xs ys : List A) → All P xs → All P ys → length (all xs tail) ≤ max_bytes → all xs tail ≡ all ys end → (xs ≡ ys) × (tail ≡ end)
    unfolding records
    records_one [] [] hx hy short e = (refl, e)
    records_one [] (y ∷ ys) hx hy short e = absurd (omega (arith, ap kind_of e, all_kind y ys end))
    records_one (x ∷ xs) [] hx hy short e = absurd (omega (arith, ap kind_of e, all_kind x xs tail))
    records_one (x ∷ xs) (y ∷ ys) hx hy short e =
        let long : length (all (x ∷ xs) tail) ≡ length (all (y ∷ ys) end) = ap length e in
        let low : length (body x) < 65536 = omega (arith, all_length x xs tail) in
        let low' : length (body y) < 65536 = omega (arith, all_length y ys end) in
        let o : (body x ≡ body y) × (all xs tail ≡ all ys end) =
        record_front kind (body x) (body y) (all xs tail) (all ys end) low low' (sym (all_cons x xs tail) ∙ e ∙ all_cons y ys end) in
        let p : (xs ≡ ys) × (tail ≡ end) = records_one xs ys hx.1 hy.1 (omega (arith, all_length x xs tail)) o.1 in
        (ap₂ (λ (z : A) (l : List A). z ∷ l) (one x y hx.0 hy.0 o.0) p.0, p.1)

-- ---- a file is that of one block

abbrev end : List ℕ
end = recordOf end_kind []

end_kind_lem : kind_of end ≡ 4
unfolding bytes_of number
end_kind_lem = refl

abbrev calls : Contents → List ℕ
calls t = records call_record t.calls ++ end

abbrev cells : Contents → List ℕ
cells t = records cell_record t.cells ++ calls t

calls_kind : (t : Contents) (k : ℕ) → k < 3 → k < kind_of (calls t)
calls_kind t k h = all_above call_kind (omega arith) call_body k h t.calls end (omega (arith, end_kind_lem))

cells_kind : (t : Contents) (k : ℕ) → k < 2 → k < kind_of (cells t)
cells_kind t k h = all_above cell_kind (omega arith) cell_body k h t.cells (calls t) (calls_kind t k (omega arith))

pub file_one : (t t' : Contents) → Fits t → Fits t' → length (file_of t) ≤ max_bytes → file_of t ≡ file_of t' → t ≡ t'
file_one t t' h h' short e =
    let size : length (file_of t) ≡ length (records function_record t.functions) + (length (records cell_record t.cells) + length (calls t)) =
    ap length (file_order t) ∙ length-append (records function_record t.functions) (cells t)
    ∙ omega (arith, length-append (records cell_record t.cells) (calls t)) in
    let o : (t.functions ≡ t'.functions) × (cells t ≡ cells t') =
    records_one function_kind (omega arith) function_body FunctionFits function_one (cells t) (cells t')
    (cells_kind t function_kind (omega arith)) (cells_kind t' function_kind (omega arith)) t.functions t'.functions h.functions h'.functions
    (omega (arith, ap length (file_order t))) (sym (file_order t) ∙ e ∙ file_order t') in
    let p : (t.cells ≡ t'.cells) × (calls t ≡ calls t') =
    records_one cell_kind (omega arith) cell_body CellFits cell_one (calls t) (calls t')
    (calls_kind t cell_kind (omega arith)) (calls_kind t' cell_kind (omega arith)) t.cells t'.cells h.cells h'.cells
    (omega (arith, size, length-append (records cell_record t.cells) (calls t))) o.1 in
    let q : (t.calls ≡ t'.calls) × (end ≡ end) =
    records_one call_kind (omega arith) call_body CallFits call_one end end
    (omega (arith, end_kind_lem)) (omega (arith, end_kind_lem)) t.calls t'.calls h.calls h'.calls
    (omega (arith, size)) p.1 in
    λ i. record { functions = o.0 i; cells = p.0 i; calls = q.0 i }
