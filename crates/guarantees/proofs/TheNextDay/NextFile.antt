-- A run whose kind 2 records are those of cells that keep document 01's rules opens the next block, with any functions and calls.
use Rattle.std.specs.Prelude.{Ok}
use mathlib.Core.Path.{◌≡◌, sym, ap, subst, subst⁻¹, ◌∙◌}
use mathlib.Core.List.{List, [], ◌∷◌, ◌++◌, flatten}
use Prim.Native.Nat.{ℕ, zero, suc, ◌≤◌}
use lib.Dec.{lit<}
use lib.ListN.{length}
use Rattle.arith.specs.Exact.{unsigned}
use Rattle.wire.specs.Bytes.{bytes_of}
use Rattle.wire.proofs.BytesLaws.{bytes_of_lt}
use Rattle.block.specs.Limits.{max_bytes, max_call_keys, max_keys}
use Rattle.block.specs.Key.{address_in, field_in, a_in, b_in}
use Rattle.block.specs.Record.{Cell, Block, recordOf, function_kind, cell_kind, call_kind, end_kind}
use Rattle.block.specs.Reader.{read_block}
use Rattle.block.specs.Encoding.{Routine, Contents, function_record, cell_record, call_record, records, file_of, AreBytes, CellKeeps, CellsKeep, FunctionFits, CellFits, CallFits, KeepsRules, Fits, HoldsContents, block_for}
use Rattle.wire.specs.All.{All}
use Rattle.block.proofs.EncodingLaws.{function_body, cell_body, call_body}
use Rattle.block.proofs.OneFile.{all_map, keeps_fits}
use Rattle.block.proofs.ReaderExact.{reader_exact}
use Rattle.block.specs.declared.Call.{Call}
use Rattle.footprint.specs.Plan.{opening_value}
use Rattle.rule.specs.Rule.{State}
use Rattle.block.specs.BlockOfFile.{block_in, block_of, opening_keys}
use Rattle.footprint.specs.BlockSets.{all_sets}
use Rattle.machine.specs.Opening.{opening_of}
use Rattle.machine.specs.Run.{Run, Sizes}
use Rattle.sheet.specs.Sheet.{cell_records, next_file}
use Rattle.guarantees.specs.Demand1.{Openable, keys_together}
use Rattle.guarantees.proofs.NumbersByCondition.OpeningExact.{opening_exact}
use Rattle.guarantees.specs.ClosedOpens.{Sendable, NextKeeps, OpensWith, OpensNext}

-- The kind 2 records of a run are those of these cells, which keep the rules and say a state at every key.
pub record Carries (r : Run) (σ : State) (cells : List Cell) : Type 0 where
  pub bytes : flatten (cell_records r.keys r.cells r.head.cells 0) ≡ records cell_record cells
  pub keeps : CellsKeep cells
  pub values : (k : ℕ) → opening_value cells k ≡ σ k

-- ---- files are bytes

bytes_append : (s t : List ℕ) → AreBytes s → AreBytes t → AreBytes (s ++ t)
bytes_append [] t hs ht i = ht i
bytes_append (x ∷ s) t hs ht zero = hs 0
bytes_append (x ∷ s) t hs ht (suc i) = bytes_append s t (λ j. hs (suc j)) ht i

number_bytes : (k n : ℕ) → AreBytes (bytes_of k n)
number_bytes k n i = bytes_of_lt k n i

record_bytes_lem : (kind : ℕ) (body : List ℕ) → AreBytes body → AreBytes (recordOf kind body)
record_bytes_lem kind body h =
    bytes_append (bytes_of 2 (length body) ++ bytes_of 2 kind) body
    (bytes_append (bytes_of 2 (length body)) (bytes_of 2 kind) (number_bytes 2 (length body)) (number_bytes 2 kind)) h

records_bytes : {A : Type 0} (of : A → List ℕ) (P : A → Type 0) → ((x : A) → P x → AreBytes (of x)) → (xs : List A) → All P xs
    → AreBytes (records of xs)
unfolding records
records_bytes of P each [] all = λ i. lit< tt
records_bytes of P each (x ∷ xs) all = bytes_append (of x) (records of xs) (each x all.0) (records_bytes of P each xs all.1)

-- Fields of numbers, one behind the other.
record Fields (s : List ℕ) : Type 0 where
  bytes : AreBytes s

first : (k n : ℕ) → Fields (bytes_of k n)
first k n = record { bytes = number_bytes k n }

next : {s : List ℕ} → Fields s → (k n : ℕ) → Fields (s ++ bytes_of k n)
next {s} h k n = record { bytes = bytes_append s (bytes_of k n) h.bytes (number_bytes k n) }

function_bytes_lem : (f : Routine) → AreBytes f.code → AreBytes (function_record f)
function_bytes_lem f h =
    record_bytes_lem function_kind (function_body f)
    (bytes_append (bytes_of 2 f.contract.0 ++ bytes_of 2 f.number) f.code (next (first 2 f.contract.0) 2 f.number).bytes h)

cell_bytes_lem : (c : Cell) → AreBytes (cell_record c)
cell_bytes_lem c =
    let key : Fields (bytes_of 2 (address_in c.key) ++ bytes_of 2 (field_in c.key) ++ bytes_of 4 (a_in c.key) ++ bytes_of 4 (b_in c.key)) =
    next (next (next (first 2 (address_in c.key)) 2 (field_in c.key)) 4 (a_in c.key)) 4 (b_in c.key) in
    record_bytes_lem cell_kind (cell_body c) (next key 8 (unsigned 64 c.value)).bytes

call_bytes_lem : (c : Call) → AreBytes (call_record c)
call_bytes_lem c =
    let front : Fields (bytes_of 2 c.sender.0 ++ bytes_of 2 c.contract.0 ++ bytes_of 2 c.function ++ bytes_of 8 (unsigned 64 c.value)) =
    next (next (next (first 2 c.sender.0) 2 c.contract.0) 2 c.function) 8 (unsigned 64 c.value) in
    record_bytes_lem call_kind (call_body c) (next (next (next (next (next front 4 c.arg1) 4 c.arg2) 4 c.arg3) 4 c.arg4) 2 c.fuel).bytes

-- ---- the file of the next day

module _ (r : Run) (σ : State) (cells : List Cell) (carries : Carries r σ cells) (functions : List Routine) (calls : List Call)
    (sendable : Sendable functions calls) where
  abbrev file : List ℕ
  file = next_file r functions calls

  abbrev contents : Contents
  contents = record { functions = functions; cells = cells; calls = calls }

  is_file : next_file r functions calls ≡ file_of contents
  unfolding file_of
  is_file = ap (λ (s : List ℕ). records function_record functions ++ s ++ records call_record calls ++ recordOf end_kind []) carries.bytes

  file_bytes : AreBytes file
  file_bytes =
      subst⁻¹ AreBytes (ap (λ (s : List ℕ). records function_record functions ++ s ++ records call_record calls ++ recordOf end_kind []) carries.bytes)
      (bytes_append (records function_record functions ++ records cell_record cells ++ records call_record calls) (recordOf end_kind [])
      (bytes_append (records function_record functions ++ records cell_record cells) (records call_record calls)
      (bytes_append (records function_record functions) (records cell_record cells)
      (records_bytes function_record (λ f. FunctionFits f × AreBytes f.code) (λ f h. function_bytes_lem f h.1) functions sendable.coded)
      (records_bytes cell_record CellKeeps (λ c h. cell_bytes_lem c) cells carries.keeps.each))
      (records_bytes call_record CallFits (λ c h. call_bytes_lem c) calls sendable.called))
      (record_bytes_lem end_kind [] (λ i. lit< tt)))

  fits : Fits contents
  fits =
      record {
        functions = all_map (λ f. FunctionFits f × AreBytes f.code) FunctionFits (λ f h. h.0) functions sendable.coded;
        cells = all_map CellKeeps CellFits (λ c h. (h.key, h.value)) cells carries.keeps.each;
        calls = sendable.called;
      }

  -- What a file holds is read.
  read_of : (t : Contents) → KeepsRules t → file ≡ file_of t → block_of file ≡ block_for t
  unfolding block_in
  read_of t keeps e = ap block_in (ap read_block e ∙ reader_exact.whole t keeps)

  module _ (s : Sizes) (workers : ℕ) where
    abbrev Accepts : Type 0
    Accepts = (opening_of s file workers).answer ≡ Ok tt

    -- An accepted file holds these contents and no others.
    holds_these : (t : Contents) → HoldsContents file t → t ≡ contents
    holds_these t h =
        let same : file_of t ≡ file_of contents = sym h.bytes ∙ is_file in
        reader_exact.one t contents (keeps_fits t h.keeps) fits h.keeps.size same

    keeps_of : Accepts → KeepsRules contents
    keeps_of e = let o = (opening_exact reader_exact s file workers file_bytes).0 e in subst KeepsRules (holds_these o.contents o.holds) o.holds.keeps

    tests_of : Accepts → NextKeeps s workers file functions calls
    tests_of e =
        let o : Openable s file workers = (opening_exact reader_exact s file workers file_bytes).0 e in
        let keeps : KeepsRules contents = keeps_of e in
        let block : block_of file ≡ block_for o.contents = read_of o.contents o.holds.keeps o.holds.bytes in
        let size : length (file_of contents) ≤ max_bytes = keeps.size in
        record {
          large = o.large;
          some = o.some;
          coded = keeps.functions;
          called = keeps.calls;
          size = subst⁻¹ (λ (f : List ℕ). length f ≤ max_bytes) is_file size;
          each = subst⁻¹ (λ (b : Block). All (λ es. length es ≤ max_call_keys) (all_sets file b)) block o.each;
          together = subst⁻¹ (λ (b : Block). length (keys_together (opening_keys b) (all_sets file b)) ≤ max_keys) block o.together;
        }

    accepted_by : NextKeeps s workers file functions calls → Accepts
    accepted_by n =
        let keeps : KeepsRules contents =
        record { functions = n.coded; cells = carries.keeps; calls = n.called; size = subst (λ (f : List ℕ). length f ≤ max_bytes) is_file n.size } in
        let block : block_of file ≡ block_for contents = read_of contents keeps is_file in
        (opening_exact reader_exact s file workers file_bytes).1
        (record {
          large = n.large;
          some = n.some;
          contents = contents;
          holds = record { keeps = keeps; bytes = is_file };
          each = subst (λ (b : Block). All (λ es. length es ≤ max_call_keys) (all_sets file b)) block n.each;
          together = subst (λ (b : Block). length (keys_together (opening_keys b) (all_sets file b)) ≤ max_keys) block n.together;
        })

    opens_with : Accepts → OpensWith σ file functions calls
    unfolding block_for
    opens_with e =
        let block : block_of file ≡ block_for contents = read_of contents (keeps_of e) is_file in
        record {
          coded = ap (λ (b : Block). b.functions) block;
          called = ap (λ (b : Block). b.calls) block;
          state = λ k. ap (λ (b : Block). opening_value b.cells k) block ∙ carries.values k;
        }

pub carries_open : (r : Run) (σ : State) (cells : List Cell) → Carries r σ cells → OpensNext r σ
carries_open r σ cells carries =
    record {
      accepts = λ functions calls sendable s workers.
          (tests_of r σ cells carries functions calls sendable s workers, accepted_by r σ cells carries functions calls sendable s workers);
      opens = λ functions calls sendable s workers. opens_with r σ cells carries functions calls sendable s workers;
    }
