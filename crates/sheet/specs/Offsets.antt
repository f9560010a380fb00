-- Request M-102 of document 02, "Sheet offsets": the offset of each record of a sheet, by the sheet's own bytes, and what a sheet answers. That
-- the writer carries these offsets from record to record is `Carried` of the crate `closing`.
use Rattle.std.specs.Prelude.{◌≡◌, List, [], ◌++◌, ℕ, zero, suc, ◌+◌, ◌-◌, ◌<◌, ℤ, eqb, length, get_or, take, drop, Ok}
use Rattle.std.specs.Prelude.{if◌then◌else◌}
use Rattle.arith.specs.Exact.{unsigned}
use Rattle.wire.specs.Bytes.{read_le, bytes_of}
use Rattle.block.specs.Record.{head_bytes, recordOf, cell_kind, receipt_kind, end_kind}
use Rattle.machine.specs.Run.{Run, status_word, outcome_word, count_word}
use Rattle.machine.specs.Step.{cell_at}
use Rattle.sheet.specs.Sheet.{key_high, key_low, key_bytes, sheet_records, sheet_bytes, record_offset, offset_behind, sheet_of}

-- ---- the bytes before the request

-- The sheet as bytes without records: those of the `left` cells from number n on, then those of the `left` calls from a call on, then the end.
unfoldable pub cells_before : List ℕ → List ℤ → ℕ → ℕ → List ℕ
cells_before keys cells zero n = []
cells_before keys cells (suc left) n =
    (if eqb (unsigned 64 (cell_at cells n)) 0
    then []
    else recordOf cell_kind (key_bytes (key_high keys n) (key_low keys n) ++ bytes_of 8 (unsigned 64 (cell_at cells n))))
    ++ cells_before keys cells left (n + 1)

unfoldable pub receipts_before : List ℕ → ℕ → ℕ → List ℕ
receipts_before status zero call = []
receipts_before status (suc left) call =
    recordOf receipt_kind (bytes_of 2 (status_word status call outcome_word) ++ bytes_of 2 (status_word status call count_word))
    ++ receipts_before status left (call + 1)

abbrev pub bytes_before : Run → List ℕ
bytes_before r = cells_before r.keys r.cells r.head.cells 0 ++ receipts_before r.status r.head.calls 0 ++ recordOf end_kind []

-- ---- the statement

-- Record k of a sheet, from 0, and its offset.
abbrev pub record_at : Run → ℕ → List ℕ
record_at r k = get_or (sheet_records r) k []

abbrev pub offset_at : Run → ℕ → ℕ
offset_at r k = record_offset (sheet_records r) k

-- Of every run and output, damaged or not.
pub record SheetOffsets (r : Run) (output : List ℕ) : Type 0 where
  -- "The bytes are the same."
  pub bytes : sheet_bytes r ≡ bytes_before r
  -- "It is proved to be the sum of all earlier records' lengths, heads included": the first record is at 0, and behind each record, which is
  -- its head and as many bytes as its head says, comes the next.
  pub first : offset_at r 0 ≡ 0
  pub next : (k : ℕ) → k < length (sheet_records r) → offset_at r (k + 1) ≡ offset_at r k + head_bytes + read_le 2 (sheet_bytes r) (offset_at r k)
  -- Record k stands whole at its offset.
  pub stands : (k : ℕ) → k < length (sheet_records r) → take (length (record_at r k)) (drop (offset_at r k) (sheet_bytes r)) ≡ record_at r k
  -- "an accepted sheet answers the one behind its last record": the last is the end, which is a head alone; and it is the sheet's length.
  pub answers : (n : ℕ) → (sheet_of r output).answer ≡ Ok n → n ≡ offset_behind (sheet_records r)
  pub end : record_at r (length (sheet_records r) - 1) ≡ recordOf end_kind []
  pub behind : offset_behind (sheet_records r) ≡ offset_at r (length (sheet_records r) - 1) + head_bytes
  pub whole : offset_behind (sheet_records r) ≡ length (sheet_bytes r)
  -- The sheet stands at the front of the output, and the bytes behind it are unchanged.
  pub front : (n : ℕ) → (sheet_of r output).answer ≡ Ok n → (sheet_of r output).output ≡ sheet_bytes r ++ drop n output

abbrev pub SheetOffsetsHold : Type 0
SheetOffsetsHold = (r : Run) (output : List ℕ) → SheetOffsets r output
