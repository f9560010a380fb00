-- "Closing sheet": its records and their offsets, its bytes, and the refusals 20, 27 and 28.
use Rattle.std.specs.Prelude.{Bool, true, ◌&&◌, ◌||◌, not, ℕ, zero, suc, ◌+◌, ◌*◌, ◌/◌, ◌%◌, ◌^◌, ℤ, eqb, leb, ltb, length, get_or, take, Err, Ok, Result}
use mathlib.Core.List.{List, [], ◌∷◌, ◌++◌, map, flatten, sum}
use Rattle.std.specs.Int.Signed.{non_neg}
use Rattle.std.specs.Prelude.{if◌then◌else◌}
use Rattle.arith.specs.Exact.{unsigned}
use Rattle.wire.specs.Bytes.{bytes_of, stored}
use Rattle.block.specs.Limits.{max_calls, max_keys}
use Rattle.block.specs.Record.{head_bytes, cell_bytes, receipt_bytes, recordOf, cell_kind, receipt_kind, end_kind}
use Rattle.block.specs.Encoding.{Routine, function_record, call_record, records}
use Rattle.block.specs.declared.Call.{Call}
use Rattle.machine.specs.Answer.{refused_number}
use Rattle.machine.specs.Run.{Run, sizes_of, large_enough, status_word, state_of, is_state, finished, outcome_word, count_word}
use Rattle.block.specs.Outcomes.{last_outcome, max_count}
use Rattle.machine.specs.Step.{cell_at}
use Rattle.machine.specs.declared.Answer.{Answer}
use Rattle.machine.specs.declared.Answer.TheVariants.{Damaged, CallUnfinished, SheetTooLong}

-- The number of a closing's answer; 0 stands for written.
unfoldable pub closing_number : Result ℕ Answer → ℕ
closing_number (Ok n) = 0
closing_number (Err a) = refused_number a

-- The length of a written sheet, which is the offset behind its last record; 0 stands for a refusal.
unfoldable pub closing_length : Result ℕ Answer → ℕ
closing_length (Ok n) = n
closing_length (Err a) = 0

-- The two words of a cell's key: address, field and a; then b.
abbrev pub key_high : List ℕ → ℕ → ℕ
key_high keys n = get_or keys (2 * n) 0

abbrev pub key_low : List ℕ → ℕ → ℕ
key_low keys n = get_or keys (2 * n + 1) 0

abbrev pub key_bytes : ℕ → ℕ → List ℕ
key_bytes high low = bytes_of 2 (high / 2 ^ 48) ++ bytes_of 2 (high / 2 ^ 32) ++ bytes_of 4 high ++ bytes_of 4 low

-- A cell's records, by its key and the bits of its value: one, or none if that is zero.
abbrev pub records_of_cell : (high low bits : ℕ) → List (List ℕ)
records_of_cell high low bits = if eqb bits 0 then [] else (recordOf cell_kind (key_bytes high low ++ bytes_of 8 bits) ∷ [])

-- A receipt: "outcome 2, count 2".
abbrev pub receipt_record : (outcome count : ℕ) → List ℕ
receipt_record outcome count = recordOf receipt_kind (bytes_of 2 outcome ++ bytes_of 2 count)

-- The records of cell n of a run, and the receipt of one of its calls.
abbrev pub records_at : List ℕ → List ℤ → ℕ → List (List ℕ)
records_at keys cells n = records_of_cell (key_high keys n) (key_low keys n) (unsigned 64 (cell_at cells n))

abbrev pub receipt_at : List ℕ → ℕ → List ℕ
receipt_at status call = receipt_record (status_word status call outcome_word) (status_word status call count_word)

-- "Kind 2 records of all non-zero cells by key": of the `left` cells from number n on.
unfoldable pub cell_records : List ℕ → List ℤ → ℕ → ℕ → List (List ℕ)
cell_records keys cells zero n = []
cell_records keys cells (suc left) n = records_at keys cells n ++ cell_records keys cells left (n + 1)

-- "kind 5 receipts in block order": of the `left` calls from a call on.
unfoldable pub receipt_records : List ℕ → ℕ → ℕ → List (List ℕ)
receipt_records status zero call = []
receipt_records status (suc left) call = receipt_at status call ∷ receipt_records status left (call + 1)

-- "Kind 2 records .., kind 5 receipts .., kind 4.": the list of the sheet's records, each with its head, in their order, by the buffers and the
-- numbers of cells and calls.
abbrev pub records_for : List ℕ → List ℤ → List ℕ → (count calls : ℕ) → List (List ℕ)
records_for keys cells status count calls = cell_records keys cells count 0 ++ receipt_records status calls 0 ++ (recordOf end_kind [] ∷ [])

unfoldable pub sheet_records : Run → List (List ℕ)
sheet_records r = records_for r.keys r.cells r.status r.head.cells r.head.calls

-- The sheet is their bytes, joined.
abbrev pub sheet_bytes : Run → List ℕ
sheet_bytes r = flatten (sheet_records r)

-- The sum of the lengths of some records, heads included.
abbrev pub lengths : List (List ℕ) → ℕ
lengths rs = sum ◌+◌ 0 (map length rs)

-- The offset of record k, from 0, counted from the first byte: "the sum of all earlier records' lengths, heads included". Behind the last
-- record it is that of as many records as there are.
abbrev pub record_offset : List (List ℕ) → ℕ → ℕ
record_offset rs k = lengths (take k rs)

abbrev pub offset_behind : List (List ℕ) → ℕ
offset_behind rs = record_offset rs (length rs)

-- "Its kind 2 records open the next block": the file of the next day, of some functions, these records and some calls.
abbrev pub next_file : Run → List Routine → List Call → List ℕ
next_file r functions calls =
    records function_record functions
    ++ flatten (cell_records r.keys r.cells r.head.cells 0) ++ records call_record calls ++ recordOf end_kind []

-- The states, and the receipts, of the first n calls; the balances of the first n cells.
unfoldable pub states_allowed : List ℕ → ℕ → Bool
states_allowed status zero = true
states_allowed status (suc n) = is_state (state_of status n) && states_allowed status n

unfoldable pub all_finished : List ℕ → ℕ → Bool
all_finished status zero = true
all_finished status (suc n) = eqb (state_of status n) finished && all_finished status n

unfoldable pub receipts_allowed : List ℕ → ℕ → Bool
receipts_allowed status zero = true
receipts_allowed status (suc n) =
    leb (status_word status n outcome_word) last_outcome && leb (status_word status n count_word) max_count && receipts_allowed status n

-- The field of a cell's key; 0 is that of a balance.
abbrev pub field_of : List ℕ → ℕ → ℕ
field_of keys n = key_high keys n / 2 ^ 32 % 2 ^ 16

unfoldable pub balances_allowed : List ℕ → List ℤ → ℕ → Bool
balances_allowed keys cells zero = true
balances_allowed keys cells (suc n) =
    (not (eqb (field_of keys n) 0) || non_neg (cell_at cells n)) && balances_allowed keys cells n

-- What the sheet's caller gets: the answer, and the output with the sheet at its front. "Bytes of the output behind the sheet are
-- unchanged."
pub record Closed : Type 0 where
  pub answer : Result ℕ Answer
  pub output : List ℕ

abbrev pub unwritten : List ℕ → Answer → Closed
unwritten output a = record { answer = Err a; output = output }

-- "an accepted sheet answers the one behind its last record"
abbrev pub filled : List ℕ → List (List ℕ) → Closed
filled output rs = record { answer = Ok (offset_behind rs); output = stored output 0 (flatten rs) }

-- The last answers, of a run whose calls are finished and whose cells are in their ranges: 28, "sheet longer than the output buffer"; 20 for the
-- receipts, which only the writing uses; or the sheet.
unfoldable pub written_if : (receipts : Bool) → List ℕ → List (List ℕ) → Closed
written_if receipts output rs =
    if ltb (length output) (length (flatten rs))
    then unwritten output SheetTooLong
    else if receipts
    then filled output rs
    else unwritten output Damaged

-- The same where the receipts are in their ranges.
abbrev pub written : List ℕ → List (List ℕ) → Closed
written output rs = written_if true output rs

-- The longest sheet: 1,024 cells of 24 bytes, 256 receipts of 8, and the end.
abbrev pub max_sheet : ℕ
max_sheet = max_keys * (head_bytes + cell_bytes) + max_calls * (head_bytes + receipt_bytes) + head_bytes

-- The sheet of a run. "20 for a value is tested where the test or the change first uses that value": the sizes, the number of calls and
-- their states; 27; the number of cells, and which of them are not zero, so the balances; 28; outcomes and counts, which only the
-- writing uses.
unfoldable pub sheet_of : Run → List ℕ → Closed
sheet_of r output =
    if not (large_enough (sizes_of r)) || ltb max_calls r.head.calls
    then unwritten output Damaged
    else if not (states_allowed r.status r.head.calls)
    then unwritten output Damaged
    else if not (all_finished r.status r.head.calls)
    then unwritten output CallUnfinished
    else if ltb max_keys r.head.cells
    then unwritten output Damaged
    else if not (balances_allowed r.keys r.cells r.head.cells)
    then unwritten output Damaged
    else written_if (receipts_allowed r.status r.head.calls) output (sheet_records r)
