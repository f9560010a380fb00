-- Contents that grow by one record: their bytes, what is kept of them, and the block that the reader holds.
use mathlib.Core.Path.{◌≡◌, refl, sym, ap, ap₂, ◌∙◌}
use mathlib.Core.Bool.{true}
use mathlib.Core.List.{List, [], ◌∷◌, ◌++◌, map, append_assoc, append-nil}
use Prim.Native.Nat.{ℕ, suc, ◌+◌, ◌<◌}
use native.Mathlib.Omega.{arith}
use borrow.Author.Tests.{ltb-true, lt-ltb}
use lib.ListN.{length, length-append, drop}
use Rattle.wire.proofs.BytesLaws.{number_bytes_of}
use Rattle.block.specs.Record.{Function, Cell, function_id, head_bytes, function_kind, cell_kind, end_kind, call_bytes, recordOf}
use Rattle.block.specs.Reader.{rises}
use Rattle.block.specs.Encoding.{Routine, Contents, function_record, cell_record, call_record, records, file_of, Ascending, size_of, routine_id, placed, block_for}
use Rattle.wire.specs.All.{All}
use Rattle.block.proofs.EncodingLaws.{function_body, cell_body, call_body}
use Rattle.wire.specs.Bytes.{bytes_of, number, read_le}
use Rattle.block.specs.declared.Call.{Call}

-- ---- lists that grow at their end

pub all_snoc : {A : Type 0} (P : A → Type 0) (xs : List A) (x : A) → All P xs → P x → All P (xs ++ (x ∷ []))
all_snoc P [] x h p = (p, tt)
all_snoc P (y ∷ xs) x h p = (h.0, all_snoc P xs x h.1 p)

-- A number is above the last of rising ones exactly if all rise with it behind them.
pub ascending_snoc : (ms : List ℕ) (n : ℕ) → Ascending ms → rises ms n ≡ true → Ascending (ms ++ (n ∷ []))
unfolding Ascending rises
ascending_snoc [] n h e = tt
ascending_snoc (m ∷ []) n h e = (ltb-true m n e, tt)
ascending_snoc (m ∷ k ∷ ms) n h e = (h.0, ascending_snoc (k ∷ ms) n h.1 e)

pub ascending_rises : (ms : List ℕ) (n : ℕ) (more : List ℕ) → Ascending (ms ++ n ∷ more) → rises ms n ≡ true
unfolding Ascending rises
ascending_rises [] n more h = refl
ascending_rises (m ∷ []) n more h = lt-ltb m n (first more h)
  where
    first : (more : List ℕ) → Ascending (m ∷ n ∷ more) → m < n
    first more h = h.0
ascending_rises (m ∷ k ∷ ms) n more h = ascending_rises (k ∷ ms) n more h.1

module _ {A : Type 0} (of : A → List ℕ) where
  pub records_append : (xs ys : List A) → records of (xs ++ ys) ≡ records of xs ++ records of ys
  unfolding records
  records_append [] ys = refl
  records_append (x ∷ xs) ys = ap (λ (s : List ℕ). of x ++ s) (records_append xs ys) ∙ sym (append_assoc (of x) (records of xs) (records of ys))

  pub records_snoc : (xs : List A) (x : A) → records of (xs ++ (x ∷ [])) ≡ records of xs ++ of x
  unfolding records
  records_snoc xs x = records_append xs (x ∷ []) ∙ ap (λ (s : List ℕ). records of xs ++ s) (append-nil (of x))

-- ---- lengths

pub record_length : (kind : ℕ) (body : List ℕ) → length (recordOf kind body) ≡ 4 + length body
unfolding bytes_of
record_length kind body = omega arith

pub cell_length_lem : (c : Cell) → length (cell_body c) ≡ 20
unfolding bytes_of
cell_length_lem c = refl

pub call_length : (c : Call) → length (call_body c) ≡ call_bytes
unfolding bytes_of
call_length c = refl

-- ---- functions at their places

abbrev pub placed_at : ℕ → Routine → Function
placed_at at f = record { contract = f.contract; number = f.number; start = at + head_bytes + 4; size = size_of f }

placed_snoc : (at : ℕ) (fs : List Routine) (f : Routine)
    → placed at (fs ++ (f ∷ [])) ≡ placed at fs ++ (placed_at (at + length (records function_record fs)) f ∷ [])
unfolding placed records
placed_snoc at [] f = let here : at ≡ at + 0 = omega arith in ap (λ (n : ℕ). placed_at n f ∷ []) here
placed_snoc at (g ∷ fs) f =
    let there : at + length (function_record g) + length (records function_record fs) ≡ at + length (function_record g ++ records function_record fs) =
    omega (arith, length-append (function_record g) (records function_record fs)) in
    ap (λ (l : List Function). placed_at at g ∷ l)
    (placed_snoc (at + length (function_record g)) fs f
    ∙ ap (λ (n : ℕ). placed (at + length (function_record g)) fs ++ (placed_at n f ∷ [])) there)

pub placed_length : (at : ℕ) (fs : List Routine) → length (placed at fs) ≡ length fs
unfolding placed
placed_length at [] = refl
placed_length at (f ∷ fs) = ap suc (placed_length (at + length (function_record f)) fs)

pub placed_ids : (at : ℕ) (fs : List Routine) → map function_id (placed at fs) ≡ map routine_id fs
unfolding placed
placed_ids at [] = refl
placed_ids at (f ∷ fs) = ap (λ (l : List ℕ). routine_id f ∷ l) (placed_ids (at + length (function_record f)) fs)

-- ---- contents by their parts

abbrev pub holding : List Routine → List Cell → List Call → Contents
holding fs cs ks = record { functions = fs; cells = cs; calls = ks }

-- The records in front of the end.
unfoldable pub sent : List Routine → List Cell → List Call → List ℕ
sent fs cs ks = records function_record fs ++ records cell_record cs ++ records call_record ks

pub sent_file : (t : Contents) → file_of t ≡ sent t.functions t.cells t.calls ++ recordOf end_kind []
unfolding sent file_of
sent_file t = refl

pub sent_length : (fs : List Routine) (cs : List Cell) (ks : List Call)
    → length (sent fs cs ks) ≡ length (records function_record fs) + length (records cell_record cs) + length (records call_record ks)
unfolding sent
sent_length fs cs ks =
    length-append (records function_record fs ++ records cell_record cs) (records call_record ks)
    ∙ omega (arith, length-append (records function_record fs) (records cell_record cs))

pub sent_none : sent [] [] [] ≡ []
unfolding sent records
sent_none = refl

-- A function comes while there are no cells and no calls, and a cell while there are no calls.
pub sent_function : (fs : List Routine) (f : Routine) → sent (fs ++ (f ∷ [])) [] [] ≡ sent fs [] [] ++ function_record f
unfolding sent records
sent_function fs f = simp append-nil (records_snoc function_record fs f)

pub sent_cell : (fs : List Routine) (cs : List Cell) (c : Cell) → sent fs (cs ++ (c ∷ [])) [] ≡ sent fs cs [] ++ cell_record c
unfolding sent records
sent_cell fs cs c = simp (append-nil, records_snoc cell_record cs c, append_assoc)

pub sent_call : (fs : List Routine) (cs : List Cell) (ks : List Call) (k : Call) → sent fs cs (ks ++ (k ∷ [])) ≡ sent fs cs ks ++ call_record k
unfolding sent
sent_call fs cs ks k = simp (records_snoc call_record ks k, append_assoc)

pub block_function : (fs : List Routine) (f : Routine) (at len size : ℕ) → at ≡ length (sent fs [] []) → len ≡ length (function_body f) → size ≡ size_of f
    → block_for (holding (fs ++ (f ∷ [])) [] [])
    ≡ record { functions = placed 0 fs ++ (record { contract = f.contract; number = f.number; start = at + head_bytes + 4; size = size } ∷ []); cells = []; calls = []; opening = at + 4 + len; first_call = at + 4 + len }
unfolding block_for records
block_function fs f at len size here long sized =
    let own : length (sent fs [] []) ≡ length (records function_record fs) + 0 + 0 = sent_length fs [] [] in
    let more : length (records function_record (fs ++ (f ∷ []))) ≡ length (records function_record fs) + length (function_record f) =
    ap length (records_snoc function_record fs f) ∙ length-append (records function_record fs) (function_record f) in
    let whole : length (function_record f) ≡ 4 + length (function_body f) = record_length function_kind (function_body f) in
    let place : 0 + length (records function_record fs) ≡ at = omega arith in
    let opening : length (records function_record (fs ++ (f ∷ []))) ≡ at + 4 + len = omega arith in
    let first : length (records function_record (fs ++ (f ∷ []))) + 0 ≡ at + 4 + len = omega arith in
    let functions : placed 0 (fs ++ (f ∷ [])) ≡ placed 0 fs ++ (record { contract = f.contract; number = f.number; start = at + head_bytes + 4; size = size } ∷ []) =
    placed_snoc 0 fs f
    ∙ ap₂ (λ (n m : ℕ). placed 0 fs ++ (record { contract = f.contract; number = f.number; start = n + head_bytes + 4; size = m } ∷ [])) place (sym sized) in
    λ i. record { functions = functions i; cells = []; calls = []; opening = opening i; first_call = first i }

pub block_cell : (fs : List Routine) (cs : List Cell) (c : Cell) (at : ℕ) → at ≡ length (sent fs cs [])
    → block_for (holding fs (cs ++ (c ∷ [])) [])
    ≡ record { functions = placed 0 fs; cells = cs ++ (c ∷ []); calls = []; opening = length (records function_record fs); first_call = at + 4 + 20 }
unfolding block_for records
block_cell fs cs c at here =
    let own : length (sent fs cs []) ≡ length (records function_record fs) + length (records cell_record cs) + 0 = sent_length fs cs [] in
    let more : length (records cell_record (cs ++ (c ∷ []))) ≡ length (records cell_record cs) + length (cell_record c) =
    ap length (records_snoc cell_record cs c) ∙ length-append (records cell_record cs) (cell_record c) in
    let whole : length (cell_record c) ≡ 4 + length (cell_body c) = record_length cell_kind (cell_body c) in
    let body : length (cell_body c) ≡ 20 = cell_length_lem c in
    let first : length (records function_record fs) + length (records cell_record (cs ++ (c ∷ []))) ≡ at + 4 + 20 = omega arith in
    ap
    (λ (n : ℕ). record { functions = placed 0 fs; cells = cs ++ (c ∷ []); calls = []; opening = length (records function_record fs); first_call = n })
    first

-- ---- one record in front of others: its length, its kind and its body are read back

module _ (kind : ℕ) (body more : List ℕ) where
  pub head_length : length body < 65536 → number 2 (recordOf kind body ++ more) ≡ length body
  unfolding bytes_of
  head_length h = number_bytes_of 2 (length body) _ h

  pub head_kind : kind < 65536 → read_le 2 (recordOf kind body ++ more) 2 ≡ kind
  unfolding bytes_of
  head_kind h = number_bytes_of 2 kind _ h

  pub head_behind : drop head_bytes (recordOf kind body ++ more) ≡ body ++ more
  unfolding bytes_of
  head_behind = refl
