-- A block that keeps document 01's ranges, orders and limits is read back from its bytes.
use mathlib.Core.Path.{◌≡◌, refl, sym, ap, ap₂, subst, subst⁻¹, ◌∙◌}
use mathlib.Core.Bool.{Bool, true, false, ◌&&◌}
use mathlib.Core.List.{List, [], ◌∷◌, ◌++◌, map, map-append, append_assoc, append-nil}
use Prim.Native.Nat.{ℕ, zero, suc, ◌+◌, ◌-◌, ◌*◌, ◌/◌, ◌%◌, ◌^◌, ◌≤◌, ◌<◌}
use native.Mathlib.Omega.{arith}
use borrow.Author.Tests.{le-ltb, le-leb, lt-leb, eq-eqb, ne_eqb}
use lib.Dec.{eqb, leb, ltb}
use lib.IntN.{ℤ}
use lib.ListN.{length, drop, length-append}
use lib.Seq.{drop-append_seam}
use lib.Signed.{le_z}
use Rattle.std.specs.Prelude.{if◌then◌else◌}
use Rattle.arith.proofs.ChoiceLaws.{if_all}
use Rattle.arith.specs.Balance.{total, largest, none_below_zero, within_limit}
use Rattle.arith.proofs.BalanceLaws.{BalancesWithin, limit_within, total_front}
use Rattle.arith.proofs.IntegerLaws.{pos_part, le_le_z}
use Rattle.block.specs.Key.{first_contract, is_balance}
use Rattle.block.specs.Record.{Cell, Block, function_id, function_kind, cell_kind, call_kind, end_kind, call_bytes, recordOf, length_allowed, cell_of, cell_allowed}
use Rattle.block.specs.Reader.{Read, accepted, due, ended, empty_block, rises, balances, read_function, read_cell, withCall, read_call, read_end, read_body, read_record, read_from, read_block}
use Rattle.block.specs.Encoding.{Routine, Contents, function_record, cell_record, call_record, records, file_of, Ascending, size_of, FunctionKeeps, CellKeeps, CallKeeps, routine_id, FunctionsKeep, CellsKeep, CallsKeep, KeepsRules, placed, block_for}
use Rattle.wire.specs.All.{All}
use Rattle.block.proofs.EncodingLaws.{function_body, cell_body, call_body, function_contract, function_number, function_code, function_valid, function_size}
use Rattle.block.proofs.BodyLaws.{cell_behind, cell_back, cell_allowed_lem, call_behind, call_back}
use Rattle.block.proofs.ContentsLaws.{ascending_rises, records_append, record_length, cell_length_lem, call_length, placed_at, placed_length, placed_ids, holding, sent, sent_file, sent_none, sent_length, sent_function, sent_cell, sent_call, block_function, block_cell, head_length, head_kind, head_behind}
use Rattle.block.proofs.ReaderLaws.{above_from_zero}
use Rattle.block.specs.declared.Call.{Call}

-- ---- one record

-- A record of a known kind, not below the one before it, with a length of its kind, that ends within the file: its body is read.
pub record_read : (size before at : ℕ) (b : Block) (kind : ℕ) (body more : List ℕ) → 1 ≤ kind → kind ≤ 4 → before ≤ kind
    → length_allowed kind (length body) ≡ true → length body < 65536 → at + 4 + length body ≤ size
    → read_record size before at (recordOf kind body ++ more) b ≡ read_body size kind at (length body) (body ++ more) b
unfolding read_record
record_read size before at b kind body more low high up allowed short fit =
    rw (head_length kind body more short, head_kind kind body more (omega arith), head_behind kind body more, le-ltb (size - at) 4 (omega arith), le-ltb kind 1 low, le-ltb 4 kind high, le-ltb kind before up, allowed, le-ltb (size - (at + 4)) (length body) (omega arith))

module _ (f : Routine) (keeps : FunctionKeeps f) where
  code_length_lem : (length (function_body f) ≡ 4 + 8 * size_of f) × (size_of f ≤ 64)
  code_length_lem = let w : length f.code ≡ 8 * size_of f = keeps.whole in (omega (arith, function_size f), keeps.few)

  function_allowed : length_allowed function_kind (length (function_body f)) ≡ true
  unfolding length_allowed
  function_allowed = allowed (length (function_body f)) (size_of f) code_length_lem.0 code_length_lem.1
    where
      allowed : (n k : ℕ) → n ≡ 4 + 8 * k → k ≤ 64 → (leb 4 n && leb n 516 && eqb ((n - 4) % 8) 0) ≡ true
      allowed n k e h = rw (le-leb 4 n (omega arith), le-leb n 516 (omega arith), eq-eqb ((n - 4) % 8) 0 (omega arith))

  -- A function that breaks no demand is taken.
  function_taken : (at : ℕ) (more : List ℕ) (b : Block) → length b.functions < 64 → rises (map function_id b.functions) (routine_id f) ≡ true
      → read_function at (length (function_body f)) (function_body f ++ more) b
      ≡ due function_kind (at + 4 + length (function_body f)) more
      (record { functions = b.functions ++ (placed_at at f ∷ []); cells = b.cells; calls = b.calls; opening = at + 4 + length (function_body f); first_call = at + 4 + length (function_body f) })
  unfolding read_function
  function_taken at more b room up =
      let count : (length (function_body f) - 4) / 8 ≡ size_of f = omega (arith, code_length_lem) in
      let last : ltb (size_of f) (size_of f) ≡ false = le-ltb (size_of f) (size_of f) (omega arith) in
      rw (function_contract f more keeps.contract.1, function_number f more keeps.number, function_code f more, count, function_valid f more keeps, lt-leb 64 (length b.functions) room, le-ltb f.contract.0 first_contract keeps.contract.0, last, up, drop-append_seam (function_body f) more)

-- A cell that breaks no demand is taken.
cell_put : (at : ℕ) (s : List ℕ) (b : Block) → length b.cells < 1024 → cell_allowed s ≡ true
    → rises (map (λ d. d.key) b.cells) (cell_of s).key ≡ true → le_z (total (balances (b.cells ++ (cell_of s ∷ [])))) largest ≡ true
    → read_cell at 20 s b
    ≡ due cell_kind (at + 4 + 20) (drop 20 s) (record { functions = b.functions; cells = b.cells ++ (cell_of s ∷ []); calls = b.calls; opening = b.opening; first_call = at + 4 + 20 })
unfolding read_cell
cell_put at s b room good up sum = rw (lt-leb 1024 (length b.cells) room, good, up, sum)

cell_taken : (c : Cell) → CellKeeps c → (at : ℕ) (more : List ℕ) (b : Block) → length b.cells < 1024
    → rises (map (λ d. d.key) b.cells) c.key ≡ true → le_z (total (balances (b.cells ++ (c ∷ [])))) largest ≡ true
    → read_cell at 20 (cell_body c ++ more) b
    ≡ due cell_kind (at + 4 + 20) more (record { functions = b.functions; cells = b.cells ++ (c ∷ []); calls = b.calls; opening = b.opening; first_call = at + 4 + 20 })
cell_taken c keeps at more b room up sum =
    let is : cell_of (cell_body c ++ more) ≡ c = cell_back c more keeps.key keeps.value in
    cell_put at (cell_body c ++ more) b room (cell_allowed_lem c more keeps)
    (subst⁻¹ (λ (d : Cell). rises (map (λ d. d.key) b.cells) d.key ≡ true) is up)
    (subst⁻¹ (λ (d : Cell). le_z (total (balances (b.cells ++ (d ∷ [])))) largest ≡ true) is sum)
    ∙ ap₂
    (λ (s : List ℕ) (d : Cell). due cell_kind (at + 4 + 20) s (record { functions = b.functions; cells = b.cells ++ (d ∷ []); calls = b.calls; opening = b.opening; first_call = at + 4 + 20 }))
    (cell_behind c more) is

-- A call that breaks no demand is taken.
call_taken : (c : Call) → CallKeeps c → (at : ℕ) (more : List ℕ) (b : Block) → length b.calls < 256
    → read_call at call_bytes (call_body c ++ more) b
    ≡ due call_kind (at + 4 + call_bytes) more (record { functions = b.functions; cells = b.cells; calls = b.calls ++ (c ∷ []); opening = b.opening; first_call = b.first_call })
unfolding read_call withCall
call_taken c keeps at more b room =
    rw (call_back c more keeps, lt-leb 256 (length b.calls) room, ne_eqb c.fuel 0 (λ e. omega (arith, e, keeps.fuel.0)), call_behind c more)

-- ---- records of one kind, one behind the other

module _ {A : Type 0} (of : A → List ℕ) where
  -- A record in the middle ends within all of them, and there are no more records than bytes.
  records_fit : (before : List A) (x : A) (xs all : List A) → before ++ x ∷ xs ≡ all
      → length (records of before) + length (of x) ≤ length (records of all)
  unfolding records
  records_fit before x xs all same =
      let parts : length (records of (before ++ x ∷ xs)) ≡ length (records of before) + length (of x ++ records of xs) =
      ap length (records_append of before (x ∷ xs)) ∙ length-append (records of before) (of x ++ records of xs) in
      let whole : length (records of (before ++ x ∷ xs)) ≡ length (records of all) = ap (λ (l : List A). length (records of l)) same in
      omega (arith, length-append (of x) (records of xs))

  pub records_count : ((x : A) → 1 ≤ length (of x)) → (xs : List A) → length xs ≤ length (records of xs)
  unfolding records
  records_count some [] = omega arith
  records_count some (x ∷ xs) = omega (arith, some x, records_count some xs, length-append (of x) (records of xs))

  -- Each record takes one turn.
  module _ (size k : ℕ) (place : List A → ℕ) (state : List A → Block) (all : List A)
      (step : (before : List A) (x : A) (xs : List A) → before ++ x ∷ xs ≡ all → (kind : ℕ) → kind ≤ k → (more : List ℕ)
      → read_record size kind (place before) (of x ++ more) (state before) ≡ due k (place (before ++ (x ∷ []))) more (state (before ++ (x ∷ []))))
      (tail : List ℕ) (r : Read) (left : ℕ)
      (end : (kind : ℕ) → kind ≤ k → read_from left size (due kind (place all) tail (state all)) ≡ r) where
    records_from : (xs before : List A) (turns kind : ℕ) → before ++ xs ≡ all → kind ≤ k → turns ≡ length xs + left
        → read_from turns size (due kind (place before) (records of xs ++ tail) (state before)) ≡ r
    unfolding read_from records
    records_from [] before turns kind same up count =
        let whole : before ≡ all = sym (append-nil before) ∙ same in
        let now : turns ≡ left = omega arith in
        rw (whole, now) (end kind up)
    records_from (x ∷ xs) before zero kind same up count = absurd (omega arith)
    records_from (x ∷ xs) before (suc turns) kind same up count =
        ap (λ (s : List ℕ). read_from turns size (read_record size kind (place before) s (state before))) (append_assoc (of x) (records of xs) tail)
        ∙ ap (read_from turns size) (step before x xs same kind up (records of xs ++ tail))
        ∙ records_from xs (before ++ (x ∷ [])) turns k (append_assoc before (x ∷ []) xs ∙ same) (omega arith) (omega arith)

-- ---- what is kept of all, at one of them

all_middle : {A : Type 0} (P : A → Type 0) (before : List A) (x : A) (xs : List A) → All P (before ++ x ∷ xs) → P x
all_middle P [] x xs h = h.0
all_middle P (y ∷ before) x xs h = all_middle P before x xs h.1

balances_above : (cs : List Cell) → All CellKeeps cs → none_below_zero (balances cs) ≡ true
unfolding balances none_below_zero
balances_above [] h = refl
balances_above (c ∷ cs) h =
    let rest : none_below_zero (balances cs) ≡ true = balances_above cs h.1 in
    if_all (λ (l : List ℤ). none_below_zero l ≡ true) (is_balance c.key) (λ e. rw (above_from_zero c.value (h.0.above e)) rest) (λ e. rest)

balances_append : (xs ys : List Cell) → balances (xs ++ ys) ≡ balances xs ++ balances ys
unfolding balances
balances_append [] ys = refl
balances_append (x ∷ xs) ys = go (is_balance x.key) (balances_append xs ys)
  where
    go : (t : Bool) → balances (xs ++ ys) ≡ balances xs ++ balances ys
        → (if t then x.value ∷ balances (xs ++ ys) else balances (xs ++ ys)) ≡ (if t then x.value ∷ balances xs else balances xs) ++ balances ys
    go true e = ap (λ (l : List ℤ). x.value ∷ l) e
    go false e = e

-- The balances among the first cells add up to no more than those of all.
sum_front : (xs ys : List Cell) → CellsKeep (xs ++ ys) → le_z (total (balances xs)) largest ≡ true
sum_front xs ys keeps =
    let none : none_below_zero (balances (xs ++ ys)) ≡ true = balances_above (xs ++ ys) keeps.each in
    let limit : within_limit (balances (xs ++ ys)) ≡ true = rw (none, keeps.sum) in
    let w : BalancesWithin (balances xs ++ balances ys) = limit_within (balances xs ++ balances ys) (rw (balances_append xs ys) at limit) in
    let le : pos_part (total (balances xs)) ≤ pos_part (total (balances xs ++ balances ys)) = (total_front (balances xs) (balances ys) w.from_zero).1 in
    let most : pos_part (total (balances xs ++ balances ys)) < 2 ^ 63 = w.at_most in
    le_le_z (total (balances xs)) largest (omega arith)

-- ---- one record of contents

module _ (size kind : ℕ) (more : List ℕ) where
  pub function_step : (all : List Routine) → FunctionsKeep all → length (records function_record all) ≤ size
      → (before : List Routine) (f : Routine) (fs : List Routine) → before ++ f ∷ fs ≡ all → kind ≤ 1
      → read_record size kind (length (sent before [] [])) (function_record f ++ more) (block_for (holding before [] []))
      ≡ due 1 (length (sent (before ++ (f ∷ [])) [] [])) more (block_for (holding (before ++ (f ∷ [])) [] []))
  unfolding block_for records read_body
  function_step all all_keep fit before f fs same up =
      let keep : FunctionsKeep (before ++ f ∷ fs) = subst⁻¹ FunctionsKeep same all_keep in
      let own : FunctionKeeps f = all_middle FunctionKeeps before f fs keep.each in
      let few : length (before ++ f ∷ fs) ≤ 64 = keep.few in
      let len : ℕ = length (function_body f) in
      let at : ℕ = length (sent before [] []) in
      let here : at ≡ length (records function_record before) + 0 + 0 = sent_length before [] [] in
      let long : length (function_record f) ≡ 4 + length (function_body f) = record_length function_kind (function_body f) in
      let room : length (placed 0 before) < 64 = omega (arith, placed_length 0 before, length-append before (f ∷ fs)) in
      let rising : rises (map routine_id before) (routine_id f) ≡ true =
      ascending_rises (map routine_id before) (routine_id f) (map routine_id fs) (subst Ascending (map-append routine_id before (f ∷ fs)) keep.rising) in
      let next : length (sent (before ++ (f ∷ [])) [] []) ≡ at + 4 + len = ap length (sent_function before f) ∙ length-append (sent before [] []) (function_record f) ∙ omega arith in
      record_read size kind at (block_for (holding before [] [])) function_kind (function_body f) more (omega arith) (omega arith) up (function_allowed f own)
      (omega (arith, code_length_lem f own)) (omega (arith, records_fit function_record before f fs all same))
      ∙ function_taken f own at more (block_for (holding before [] [])) room (rw (placed_ids 0 before) rising)
      ∙ ap₂ (λ (n : ℕ) (b : Block). due 1 n more b) (sym next) (sym (block_function before f at len (size_of f) refl refl refl))

  pub cell_step : (fs : List Routine) (all : List Cell) → CellsKeep all → length (records function_record fs) + length (records cell_record all) ≤ size
      → (before : List Cell) (c : Cell) (cs : List Cell) → before ++ c ∷ cs ≡ all → kind ≤ 2
      → read_record size kind (length (sent fs before [])) (cell_record c ++ more) (block_for (holding fs before []))
      ≡ due 2 (length (sent fs (before ++ (c ∷ [])) [])) more (block_for (holding fs (before ++ (c ∷ [])) []))
  unfolding block_for records read_body length_allowed
  cell_step fs all all_keep fit before c cs same up =
      let keep : CellsKeep (before ++ c ∷ cs) = subst⁻¹ CellsKeep same all_keep in
      let own : CellKeeps c = all_middle CellKeeps before c cs keep.each in
      let few : length (before ++ c ∷ cs) ≤ 1024 = keep.few in
      let at : ℕ = length (sent fs before []) in
      let here : at ≡ length (records function_record fs) + length (records cell_record before) + 0 = sent_length fs before [] in
      let body : length (cell_body c) ≡ 20 = cell_length_lem c in
      let long : length (cell_record c) ≡ 4 + length (cell_body c) = record_length cell_kind (cell_body c) in
      let room : length before < 1024 = omega (arith, length-append before (c ∷ cs)) in
      let rising : rises (map (λ d. d.key) before) c.key ≡ true =
      ascending_rises (map (λ d. d.key) before) c.key (map (λ d. d.key) cs) (subst Ascending (map-append (λ d. d.key) before (c ∷ cs)) keep.rising) in
      let sum : le_z (total (balances (before ++ (c ∷ [])))) largest ≡ true =
      sum_front (before ++ (c ∷ [])) cs (subst⁻¹ CellsKeep (append_assoc before (c ∷ []) cs) keep) in
      let next : length (sent fs (before ++ (c ∷ [])) []) ≡ at + 4 + 20 = ap length (sent_cell fs before c) ∙ length-append (sent fs before []) (cell_record c) ∙ omega arith in
      record_read size kind at (block_for (holding fs before [])) cell_kind (cell_body c) more (omega arith) (omega arith) up (rw body) (omega arith)
      (omega (arith, records_fit cell_record before c cs all same))
      ∙ ap (λ (n : ℕ). read_cell at n (cell_body c ++ more) (block_for (holding fs before []))) body
      ∙ cell_taken c own at more (block_for (holding fs before [])) room rising sum
      ∙ ap₂ (λ (n : ℕ) (b : Block). due 2 n more b) (sym next) (sym (block_cell fs before c at refl))

  pub call_step : (fs : List Routine) (cs : List Cell) (all : List Call) → CallsKeep all → length (sent fs cs all) ≤ size
      → (before : List Call) (c : Call) (ks : List Call) → before ++ c ∷ ks ≡ all → kind ≤ 3
      → read_record size kind (length (sent fs cs before)) (call_record c ++ more) (block_for (holding fs cs before))
      ≡ due 3 (length (sent fs cs (before ++ (c ∷ [])))) more (block_for (holding fs cs (before ++ (c ∷ []))))
  unfolding block_for read_body length_allowed
  call_step fs cs all all_keep fit before c ks same up =
      let keep : CallsKeep (before ++ c ∷ ks) = subst⁻¹ CallsKeep same all_keep in
      let own : CallKeeps c = all_middle CallKeeps before c ks keep.each in
      let few : length (before ++ c ∷ ks) ≤ 256 = keep.few in
      let at : ℕ = length (sent fs cs before) in
      let body : length (call_body c) ≡ call_bytes = call_length c in
      let long : length (call_record c) ≡ 4 + length (call_body c) = record_length call_kind (call_body c) in
      let room : length before < 256 = omega (arith, length-append before (c ∷ ks)) in
      let next : length (sent fs cs (before ++ (c ∷ []))) ≡ at + 4 + call_bytes = ap length (sent_call fs cs before c) ∙ length-append (sent fs cs before) (call_record c) ∙ omega arith in
      record_read size kind at (block_for (holding fs cs before)) call_kind (call_body c) more (omega arith) (omega arith) up (rw body) (omega arith)
      (omega (arith, records_fit call_record before c ks all same, sent_length fs cs before, sent_length fs cs all))
      ∙ ap (λ (n : ℕ). read_call at n (call_body c ++ more) (block_for (holding fs cs before))) body
      ∙ call_taken c own at more (block_for (holding fs cs before)) room
      ∙ ap (λ (n : ℕ). due 3 n more (block_for (holding fs cs (before ++ (c ∷ []))))) (sym next)

-- ---- all of them

pub from_ended : (turns size : ℕ) (r : Read) → read_from turns size (ended r) ≡ r
unfolding read_from
from_ended zero size r = refl
from_ended (suc turns) size r = refl

end_read : (turns size kind at : ℕ) (b : Block) → kind ≤ 4 → at + 4 ≡ size → read_from (suc turns) size (due kind at (recordOf end_kind []) b) ≡ accepted b
unfolding read_from read_body read_end length_allowed
end_read turns size kind at b up last =
    ap (λ (s : List ℕ). read_from turns size (read_record size kind at s b)) (sym (append-nil (recordOf end_kind [])))
    ∙ ap (read_from turns size)
    (record_read size kind at b end_kind [] [] (omega arith) (omega arith) up refl (omega arith) (omega arith)
    ∙ rw (le-ltb (at + 4) size (omega arith)))
    ∙ from_ended turns size (accepted b)

pub file_order : (t : Contents)
    → file_of t ≡ records function_record t.functions ++ (records cell_record t.cells ++ (records call_record t.calls ++ recordOf end_kind []))
unfolding file_of
file_order t = simp append_assoc

module _ (t : Contents) (keeps : KeepsRules t) where
  abbrev size : ℕ
  size = length (file_of t)

  abbrev end : List ℕ
  end = recordOf end_kind []

  size_parts : size ≡ length (sent t.functions t.cells t.calls) + 4
  size_parts =
      ap length (sent_file t) ∙ length-append (sent t.functions t.cells t.calls) end
      ∙ ap (λ (n : ℕ). length (sent t.functions t.cells t.calls) + n) (record_length end_kind [])

  within : (length (records function_record t.functions) + length (records cell_record t.cells) ≤ size) × (length (sent t.functions t.cells t.calls) ≤ size)
  within = (omega (arith, size_parts, sent_length t.functions t.cells t.calls), omega (arith, size_parts))

  calls_read : (left turns kind : ℕ) → kind ≤ 3 → turns ≡ length t.calls + suc left
      → read_from turns size (due kind (length (sent t.functions t.cells [])) (records call_record t.calls ++ end) (block_for (holding t.functions t.cells [])))
      ≡ accepted (block_for t)
  calls_read left turns kind up count =
      records_from call_record size 3 (λ l. length (sent t.functions t.cells l)) (λ l. block_for (holding t.functions t.cells l)) t.calls
      (λ before c ks same k low more. call_step size k more t.functions t.cells t.calls keeps.calls within.1 before c ks same low)
      end (accepted (block_for t)) (suc left)
      (λ k low. end_read left size k (length (sent t.functions t.cells t.calls)) (block_for t) (omega arith) (sym size_parts))
      t.calls [] turns kind refl up count

  cells_read : (left turns kind : ℕ) → kind ≤ 2 → turns ≡ length t.cells + (length t.calls + suc left)
      → read_from turns size
      (due kind (length (sent t.functions [] [])) (records cell_record t.cells ++ (records call_record t.calls ++ end)) (block_for (holding t.functions [] [])))
      ≡ accepted (block_for t)
  cells_read left turns kind up count =
      records_from cell_record size 2 (λ l. length (sent t.functions l [])) (λ l. block_for (holding t.functions l [])) t.cells
      (λ before c cs same k low more. cell_step size k more t.functions t.cells keeps.cells within.0 before c cs same low)
      (records call_record t.calls ++ end) (accepted (block_for t)) (length t.calls + suc left)
      (λ k low. calls_read left (length t.calls + suc left) k (omega arith) refl)
      t.cells [] turns kind refl up count

  functions_read : (left turns kind : ℕ) → kind ≤ 1 → turns ≡ length t.functions + (length t.cells + (length t.calls + suc left))
      → read_from turns size
      (due kind (length (sent [] [] [])) (records function_record t.functions ++ (records cell_record t.cells ++ (records call_record t.calls ++ end))) (block_for (holding [] [] [])))
      ≡ accepted (block_for t)
  functions_read left turns kind up count =
      records_from function_record size 1 (λ l. length (sent l [] [])) (λ l. block_for (holding l [] [])) t.functions
      (λ before f fs same k low more. function_step size k more t.functions keeps.functions (omega (arith, within)) before f fs same low)
      (records cell_record t.cells ++ (records call_record t.calls ++ end)) (accepted (block_for t)) (length t.cells + (length t.calls + suc left))
      (λ k low. cells_read left (length t.cells + (length t.calls + suc left)) k (omega arith) refl)
      t.functions [] turns kind refl up count

  -- Whatever keeps the rules is accepted, as itself.
  pub reads_whole : read_block (file_of t) ≡ accepted (block_for t)
  unfolding read_block block_for placed records
  reads_whole =
      let left : ℕ = size - (length t.functions + length t.cells + length t.calls) in
      let turns : size + 1 ≡ length t.functions + (length t.cells + (length t.calls + suc left)) =
      omega (arith, size_parts, sent_length t.functions t.cells t.calls, functions_count, cells_count, calls_count) in
      rw (le-ltb 65536 (length (file_of t)) keeps.size)
      (ap₂ (λ (n : ℕ) (s : List ℕ). read_from (size + 1) size (due 0 n s empty_block)) (sym (ap length sent_none)) file_parts
      ∙ functions_read left (size + 1) 0 (omega arith) turns)
    where
      functions_count : length t.functions ≤ length (records function_record t.functions)
      functions_count = records_count function_record (λ f. omega (arith, record_length function_kind (function_body f))) t.functions

      cells_count : length t.cells ≤ length (records cell_record t.cells)
      cells_count = records_count cell_record (λ c. omega (arith, record_length cell_kind (cell_body c))) t.cells

      calls_count : length t.calls ≤ length (records call_record t.calls)
      calls_count = records_count call_record (λ c. omega (arith, record_length call_kind (call_body c))) t.calls

      file_parts : file_of t ≡ records function_record t.functions ++ (records cell_record t.cells ++ (records call_record t.calls ++ end))
      file_parts = file_order t
