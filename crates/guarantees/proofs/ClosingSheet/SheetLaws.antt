-- The closing sheet of a run depends on the sizes of its buffers, its numbers of calls and cells, its keys and cells, and the states and receipts
-- of its calls alone.
use mathlib.Core.Path.{◌≡◌, refl, sym, ap, ap₂, ◌∙◌}
use mathlib.Core.Bool.{Bool, ◌&&◌, ◌||◌, not}
use mathlib.Core.List.{List, [], ◌∷◌, ◌++◌}
use Prim.Native.Nat.{ℕ, zero, suc, ◌+◌, ◌≤◌, ◌<◌}
use native.Mathlib.Omega.{arith}
use lib.IntN.{ℤ}
use lib.Dec.{eqb, leb, ltb}
use Rattle.std.specs.Prelude.{if◌then◌else◌}
use Rattle.block.specs.Limits.{max_calls, max_keys}
use Rattle.block.specs.Record.{recordOf, end_kind}
use Rattle.machine.specs.Run.{Run, Sizes, sizes_of, large_enough, status_word, state_of, is_state, finished}
use Rattle.block.specs.Outcomes.{last_outcome, max_count}
use Rattle.machine.specs.declared.Answer.TheVariants.{Damaged, CallUnfinished}
use Rattle.sheet.specs.Sheet.{Closed, receipt_record, cell_records, receipt_records, sheet_records, states_allowed, all_finished, receipts_allowed, balances_allowed, unwritten, sheet_of, written_if}
use Rattle.guarantees.specs.Agreement.{SameSheet}
use Rattle.guarantees.specs.Demand3.{SameReceipt}

-- ---- the states and receipts of n calls

module _ (status status' : List ℕ) (n : ℕ) (same : (c : ℕ) → c < n
    → (state_of status c ≡ state_of status' c) × (status_word status c 1 ≡ status_word status' c 1) × (status_word status c 2 ≡ status_word status' c 2)) where
  states_same : (m : ℕ) → m ≤ n → states_allowed status m ≡ states_allowed status' m
  unfolding states_allowed
  states_same zero h = refl
  states_same (suc m) h = ap₂ ◌&&◌ (ap is_state (same m h).0) (states_same m (omega arith))

  finished_same : (m : ℕ) → m ≤ n → all_finished status m ≡ all_finished status' m
  unfolding all_finished
  finished_same zero h = refl
  finished_same (suc m) h = ap₂ ◌&&◌ (ap (λ (q : ℕ). eqb q finished) (same m h).0) (finished_same m (omega arith))

  receipts_same : (m : ℕ) → m ≤ n → receipts_allowed status m ≡ receipts_allowed status' m
  unfolding receipts_allowed
  receipts_same zero h = refl
  receipts_same (suc m) h =
      ap₂ ◌&&◌
      (ap₂ (λ (o k : ℕ). leb o last_outcome && leb k max_count) (same m h).1 (same m h).2)
      (receipts_same m (omega arith))

  records_same : (left c : ℕ) → c + left ≤ n → receipt_records status left c ≡ receipt_records status' left c
  unfolding receipt_records
  records_same zero c h = refl
  records_same (suc left) c h =
      let q = same c (omega arith) in
      ap₂ (λ (first : List ℕ) (rest : List (List ℕ)). first ∷ rest)
      (ap₂ (λ (o k : ℕ). receipt_record o k) q.1 q.2)
      (records_same left (c + 1) (omega arith))

-- ---- the sheet

-- The sheet by its tests and its records.
unfoldable closing_of : (damaged states finished cells balances receipts : Bool) → List (List ℕ) → List ℕ → Closed
closing_of damaged states finished cells balances receipts rs output =
    if damaged
    then unwritten output Damaged
    else if not states
    then unwritten output Damaged
    else if not finished
    then unwritten output CallUnfinished
    else if cells
    then unwritten output Damaged
    else if not balances
    then unwritten output Damaged
    else written_if receipts output rs

abbrev records_of : List ℕ → (calls : ℕ) → List (List ℕ)
records_of status calls = receipt_records status calls 0

abbrev numbered : List ℕ → List ℤ → (cells : ℕ) → List (List ℕ) → List (List ℕ)
numbered keys cells n receipts = cell_records keys cells n 0 ++ receipts ++ (recordOf end_kind [] ∷ [])

sheet_parts : (r : Run) (output : List ℕ)
    → sheet_of r output
    ≡ closing_of (not (large_enough (sizes_of r)) || ltb max_calls r.head.calls) (states_allowed r.status r.head.calls)
    (all_finished r.status r.head.calls) (ltb max_keys r.head.cells) (balances_allowed r.keys r.cells r.head.cells)
    (receipts_allowed r.status r.head.calls)
    (numbered r.keys r.cells r.head.cells (records_of r.status r.head.calls)) output
unfolding sheet_of closing_of sheet_records
sheet_parts r output = refl

pub same_sheet : (r r' : Run) → sizes_of r ≡ sizes_of r' → r.head.calls ≡ r'.head.calls → r.head.cells ≡ r'.head.cells
    → r.keys ≡ r'.keys → r.cells ≡ r'.cells → ((c : ℕ) → c < r.head.calls → SameReceipt r r' c) → SameSheet r r'
same_sheet r r' sizes calls cells keys values receipts output =
    sheet_parts r output ∙ parts ∙ sym (sheet_parts r' output)
  where
    n : ℕ
    n = r.head.calls

    same : (c : ℕ) → c < n
        → (state_of r.status c ≡ state_of r'.status c) × (status_word r.status c 1 ≡ status_word r'.status c 1)
        × (status_word r.status c 2 ≡ status_word r'.status c 2)
    same c l = let q = receipts c l in (q.state, q.outcome, q.count)

    -- What a function of the states makes of n calls, and of as many calls of the other run.
    counted : {A : Type 0} (f : List ℕ → ℕ → A) → f r.status n ≡ f r'.status n → f r.status n ≡ f r'.status r'.head.calls
    counted f e = e ∙ ap (f r'.status) calls

    parts :
        closing_of (not (large_enough (sizes_of r)) || ltb max_calls r.head.calls) (states_allowed r.status r.head.calls)
        (all_finished r.status r.head.calls) (ltb max_keys r.head.cells) (balances_allowed r.keys r.cells r.head.cells)
        (receipts_allowed r.status r.head.calls)
        (numbered r.keys r.cells r.head.cells (records_of r.status r.head.calls)) output
        ≡ closing_of (not (large_enough (sizes_of r')) || ltb max_calls r'.head.calls) (states_allowed r'.status r'.head.calls)
        (all_finished r'.status r'.head.calls) (ltb max_keys r'.head.cells) (balances_allowed r'.keys r'.cells r'.head.cells)
        (receipts_allowed r'.status r'.head.calls)
        (numbered r'.keys r'.cells r'.head.cells (records_of r'.status r'.head.calls)) output
    parts =
        let d = ap₂ (λ (s : Sizes) (k : ℕ). not (large_enough s) || ltb max_calls k) sizes calls in
        let a = counted states_allowed (states_same r.status r'.status n same n (omega arith)) in
        let f = counted all_finished (finished_same r.status r'.status n same n (omega arith)) in
        let k = ap (λ (m : ℕ). ltb max_keys m) cells in
        let b = balances keys values cells in
        let o = counted receipts_allowed (receipts_same r.status r'.status n same n (omega arith)) in
        let t = records (counted records_of (records_same r.status r'.status n same n 0 (omega arith))) keys values cells in
        λ i. closing_of (d i) (a i) (f i) (k i) (b i) (o i) (t i) output
      where
        balances : r.keys ≡ r'.keys → r.cells ≡ r'.cells → r.head.cells ≡ r'.head.cells
            → balances_allowed r.keys r.cells r.head.cells ≡ balances_allowed r'.keys r'.cells r'.head.cells
        balances k v c = λ i. balances_allowed (k i) (v i) (c i)

        records : records_of r.status r.head.calls ≡ records_of r'.status r'.head.calls
            → r.keys ≡ r'.keys → r.cells ≡ r'.cells → r.head.cells ≡ r'.head.cells
            → numbered r.keys r.cells r.head.cells (records_of r.status r.head.calls)
            ≡ numbered r'.keys r'.cells r'.head.cells (records_of r'.status r'.head.calls)
        records q k v c = λ i. numbered (k i) (v i) (c i) (q i)
