-- The offsets of a sheet's records: each is a head and a body, so its head says where the next one stands; a written sheet answers the one behind
-- them all.
use Rattle.machine.specs.declared.Answer.{Answer}
use mathlib.Core.Path.{◌≡◌, refl, ap, ap₂, subst, subst⁻¹, ◌∙◌}
use mathlib.Core.Bool.{Bool, true, false}
use mathlib.Core.List.{List, [], ◌∷◌, ◌++◌, flatten}
use Prim.Native.Nat.{ℕ, zero, suc, ◌+◌, ◌-◌, ◌<◌, ◌≤◌}
use native.Mathlib.Omega.{arith}
use lib.Dec.{eqb}
use lib.IntN.{ℤ}
use lib.ListN.{length, get_or, take, drop, length-append}
use lib.Seq.{take-append_seam, get_or-append_seam}
use Rattle.std.specs.Prelude.{if◌then◌else◌, Err, Ok, Result}
use Rattle.arith.specs.Exact.{unsigned}
use Rattle.arith.proofs.ChoiceLaws.{if_all}
use Rattle.wire.specs.Bytes.{number, read_le, bytes_of}
use Rattle.wire.proofs.BytesLaws.{stored_inside}
use Rattle.block.specs.Record.{head_bytes, recordOf, cell_kind, receipt_kind, end_kind}
use Rattle.wire.specs.All.{All}
use Rattle.block.proofs.ContentsLaws.{record_length, head_length}
use Rattle.machine.specs.Run.{Run, status_word}
use Rattle.machine.specs.Step.{cell_at}
use Rattle.sheet.specs.Sheet.{Closed, key_high, key_low, key_bytes, records_at, receipt_at, cell_records, receipt_records, sheet_records, sheet_bytes, record_offset, offset_behind, filled, sheet_of}
use Rattle.sheet.specs.Offsets.{cells_before, receipts_before, bytes_before, record_at, offset_at, SheetOffsetsHold}
use Rattle.sheet.proofs.RecordLists.{joined_one, joined_append, behind_whole, offset_next, at_offset, lengths_none}
use Rattle.sheet.proofs.SheetRecords.{cell_body_lem, receipt_body, end_length}
use Rattle.sheet.proofs.SheetTests.{sheet_all}

-- ---- the bytes before the request

cells_before_lem : (keys : List ℕ) (cells : List ℤ) (left n : ℕ) → flatten (cell_records keys cells left n) ≡ cells_before keys cells left n
unfolding cell_records cells_before flatten
cells_before_lem keys cells zero n = refl
cells_before_lem keys cells (suc left) n = go (eqb bits 0) (cells_before_lem keys cells left (n + 1))
  where
    bits : ℕ
    bits = unsigned 64 (cell_at cells n)

    own : List ℕ
    own = recordOf cell_kind (key_bytes (key_high keys n) (key_low keys n) ++ bytes_of 8 bits)

    go : (z : Bool) → flatten (cell_records keys cells left (n + 1)) ≡ cells_before keys cells left (n + 1)
        → flatten ((if z then [] else (own ∷ [])) ++ cell_records keys cells left (n + 1)) ≡ (if z then [] else own) ++ cells_before keys cells left (n + 1)
    go true rest = rest
    go false rest = ap (λ (s : List ℕ). own ++ s) rest

receipts_before_lem : (status : List ℕ) (left c : ℕ) → flatten (receipt_records status left c) ≡ receipts_before status left c
unfolding receipt_records receipts_before flatten
receipts_before_lem status zero c = refl
receipts_before_lem status (suc left) c =
    ap (λ (s : List ℕ). receipt_at status c ++ s) (receipts_before_lem status left (c + 1))

-- ---- heads

-- A record: a head, and a body whose length has two bytes.
record IsRecord (r : List ℕ) : Type 0 where
  kind : ℕ
  body : List ℕ
  is : r ≡ recordOf kind body
  short : length body < 65536

is_record : (kind : ℕ) (body : List ℕ) → length body < 65536 → IsRecord (recordOf kind body)
is_record kind body short = record { kind = kind; body = body; is = refl; short = short }

all_join : (xs ys : List (List ℕ)) → All IsRecord xs → All IsRecord ys → All IsRecord (xs ++ ys)
all_join [] ys p q = q
all_join (x ∷ xs) ys p q = (p.0, all_join xs ys p.1 q)

all_at : (rs : List (List ℕ)) → All IsRecord rs → (k : ℕ) → k < length rs → IsRecord (get_or rs k [])
all_at [] h k l = absurd (omega arith)
all_at (r ∷ rs) h zero l = h.0
all_at (r ∷ rs) h (suc k) l = all_at rs h.1 k (omega arith)

cells_are : (keys : List ℕ) (cells : List ℤ) (left n : ℕ) → All IsRecord (cell_records keys cells left n)
unfolding cell_records
cells_are keys cells zero n = tt
cells_are keys cells (suc left) n =
    let bits : ℕ = unsigned 64 (cell_at cells n) in
    let body : List ℕ = key_bytes (key_high keys n) (key_low keys n) ++ bytes_of 8 bits in
    all_join (records_at keys cells n) (cell_records keys cells left (n + 1))
    (if_all (All IsRecord) (eqb bits 0) (λ e. tt)
    (λ e. (is_record cell_kind body (omega (arith, cell_body_lem (key_high keys n) (key_low keys n) bits)), tt)))
    (cells_are keys cells left (n + 1))

receipts_are : (status : List ℕ) (left c : ℕ) → All IsRecord (receipt_records status left c)
unfolding receipt_records
receipts_are status zero c = tt
receipts_are status (suc left) c =
    let outcome : ℕ = status_word status c 1 in
    let count : ℕ = status_word status c 2 in
    (is_record receipt_kind (bytes_of 2 outcome ++ bytes_of 2 count) (omega (arith, receipt_body outcome count)), receipts_are status left (c + 1))

-- ---- the statement

module _ (r : Run) (output : List ℕ) where
  abbrev rs : List (List ℕ)
  rs = sheet_records r

  abbrev front : List (List ℕ)
  front = cell_records r.keys r.cells r.head.cells 0 ++ receipt_records r.status r.head.calls 0

  abbrev end : List ℕ
  end = recordOf end_kind []

  parts : rs ≡ front ++ (end ∷ [])
  unfolding sheet_records
  parts = refl

  bytes_are : sheet_bytes r ≡ bytes_before r
  bytes_are =
      ap flatten parts
      ∙ joined_append front (end ∷ [])
      ∙ ap₂ (λ (s t : List ℕ). s ++ t)
      (joined_append (cell_records r.keys r.cells r.head.cells 0) (receipt_records r.status r.head.calls 0)
      ∙ ap₂ (λ (s t : List ℕ). s ++ t) (cells_before_lem r.keys r.cells r.head.cells 0) (receipts_before_lem r.status r.head.calls 0))
      (joined_one end)

  each : (k : ℕ) → k < length rs → IsRecord (record_at r k)
  each =
      all_at rs
      (subst⁻¹ (All IsRecord) parts
      (all_join front (end ∷ [])
      (all_join (cell_records r.keys r.cells r.head.cells 0) (receipt_records r.status r.head.calls 0)
      (cells_are r.keys r.cells r.head.cells 0) (receipts_are r.status r.head.calls 0))
      (is_record end_kind [] (omega arith), tt)))

  -- What a record's head says, where the record stands.
  head_says : (k : ℕ) → k < length rs → length (record_at r k) ≡ head_bytes + read_le 2 (sheet_bytes r) (offset_at r k)
  head_says k l =
      let i : IsRecord (record_at r k) = each k l in
      let more : List ℕ = flatten (drop (suc k) rs) in
      let told : read_le 2 (sheet_bytes r) (offset_at r k) ≡ length i.body =
      ap (number 2) (at_offset rs k l ∙ ap (λ (s : List ℕ). s ++ more) i.is) ∙ head_length i.kind i.body more i.short in
      omega (arith, ap length i.is, record_length i.kind i.body, told)

  next : (k : ℕ) → k < length rs → offset_at r (k + 1) ≡ offset_at r k + head_bytes + read_le 2 (sheet_bytes r) (offset_at r k)
  next k l = omega (arith, offset_next rs k l, head_says k l)

  stands : (k : ℕ) → k < length rs → take (length (record_at r k)) (drop (offset_at r k) (sheet_bytes r)) ≡ record_at r k
  stands k l = ap (take (length (record_at r k))) (at_offset rs k l) ∙ take-append_seam (record_at r k) (flatten (drop (suc k) rs))

  -- The end is the last record.
  abbrev last : ℕ
  last = length rs - 1

  size : length rs ≡ length front + 1
  size = ap length parts ∙ length-append front (end ∷ [])

  last_is : record_at r last ≡ end
  last_is =
      let place : last ≡ length front = omega (arith, size) in
      ap (λ (k : ℕ). get_or rs k []) place ∙ ap (λ (l : List (List ℕ)). get_or l (length front) []) parts ∙ get_or-append_seam front end [] []

  last_behind : offset_behind rs ≡ offset_at r last + head_bytes
  last_behind =
      let e : length rs ≡ last + 1 = omega (arith, size) in
      ap (record_offset rs) e
      ∙ offset_next rs last (omega (arith, size))
      ∙ ap (λ (n : ℕ). offset_at r last + n) (ap length last_is ∙ end_length)

  -- What a written sheet answers and leaves.
  abbrev Says : List ℕ → Result ℕ Answer → Type 0
  Says left (Ok n) = (n ≡ offset_behind rs) × (left ≡ sheet_bytes r ++ drop n output)
  Says left (Err a) = Unit {0}

  record Told (c : Closed) : Type 0 where
    says : Says c.output c.answer

  filled_says : length (sheet_bytes r) ≤ length output → Told (filled output rs)
  filled_says fits =
      let e : 0 + length (sheet_bytes r) ≡ offset_behind rs = omega (arith, behind_whole rs) in
      record { says = (refl, stored_inside (sheet_bytes r) output 0 (omega arith) ∙ ap (λ (n : ℕ). sheet_bytes r ++ drop n output) e) }

  sheet_says : Told (sheet_of r output)
  sheet_says = sheet_all Told r output (λ a. record { says = tt }) (λ b. filled_says)

  written : (n : ℕ) → (sheet_of r output).answer ≡ Ok n → Says (sheet_of r output).output (Ok n)
  written n e = subst (Says (sheet_of r output).output) e sheet_says.says

pub sheet_offsets : SheetOffsetsHold
sheet_offsets r output =
    record {
      bytes = bytes_are r output;
      first = lengths_none;
      next = next r output;
      stands = stands r output;
      answers = λ n e. (written r output n e).0;
      end = last_is r output;
      behind = last_behind r output;
      whole = behind_whole (sheet_records r);
      front = λ n e. (written r output n e).1;
    }
