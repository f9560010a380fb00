-- How long the text of a close can be: a line for each cell and each receipt.
use mathlib.Core.Path.{◌≡◌, refl, sym, ap, ap₂, subst, subst⁻¹, ◌∙◌}
use mathlib.Core.Bool.{Bool, true, false}
use mathlib.Core.List.{List, [], ◌∷◌, ◌++◌, append_assoc, flatten}
use Prim.Native.Nat.{ℕ, zero, suc, ◌+◌, ◌*◌, ◌/◌, ◌^◌, ◌≤◌, ◌<◌}
use native.Mathlib.Omega.{arith}
use lib.Dec.{eqb}
use lib.IntN.{ℤ}
use lib.ListN.{length, get_or, drop, length-append}
use lib.Seq.{drop-append_seam}
use Rattle.block.proofs.ContentsLaws.{head_length, head_kind, head_behind}
use Rattle.text.proofs.TextSizes.{line_fits}
use Rattle.std.specs.Prelude.{if◌then◌else◌}
use Rattle.arith.specs.Exact.{unsigned}
use Rattle.wire.specs.Bytes.{number, read_le, bytes_of, repeated}
use Rattle.wire.proofs.BytesLaws.{read_first, bytes_of_lt}
use Rattle.block.specs.Limits.{max_calls, max_keys}
use Rattle.block.specs.Record.{recordOf, head_bytes, cell_bytes, receipt_bytes, cell_kind, receipt_kind, end_kind}
use Rattle.machine.specs.Run.{Run, status_word}
use Rattle.machine.specs.Step.{cell_at}
use Rattle.machine.specs.Answer.{refused_number}
use Rattle.machine.specs.declared.Answer.{Answer}
use Rattle.text.specs.Lines.{refused_text}
use Rattle.sheet.specs.Sheet.{Closed, key_high, key_low, key_bytes, cell_records, receipt_records, sheet_records, sheet_bytes, unwritten, filled, max_sheet}
use Rattle.sheet.proofs.RecordLists.{joined_one, joined_append, front_whole}
use Rattle.sheet.proofs.SheetTests.{sheet_all}
use Rattle.console.specs.Text.{cell_line, receipt_line, records_text, sheet_text}
use Rattle.console.specs.Register.{closing_text, close_run}
use Rattle.play.specs.Printed.{max_record_text, max_close_text}
use Rattle.play.proofs.TextLaws.{cell_short, receipt_short}

-- ---- one record in front of others

-- What is left behind it.
head_rest : (kind : ℕ) (body more : List ℕ) → length body < 65536
    → drop (number 2 (recordOf kind body ++ more)) (drop head_bytes (recordOf kind body ++ more)) ≡ more
head_rest kind body more short =
    ap (λ (n : ℕ). drop n (drop head_bytes (recordOf kind body ++ more))) (head_length kind body more short)
    ∙ ap (drop (length body)) (head_behind kind body more) ∙ drop-append_seam body more

-- Its line is that of its body alone.
cell_alone : (body more : List ℕ) → length body ≡ cell_bytes → cell_line (body ++ more) ≡ cell_line body
cell_alone body more size =
    rw (
      read_first 2 body more 0 (omega arith),
      read_first 2 body more 2 (omega arith),
      read_first 4 body more 4 (omega arith),
      read_first 4 body more 8 (omega arith),
      read_first 8 body more 12 (omega arith),
    )

receipt_alone : (call : ℕ) (body more : List ℕ) → length body ≡ receipt_bytes → receipt_line call (body ++ more) ≡ receipt_line call body
receipt_alone call body more size = rw (read_first 2 body more 0 (omega arith), read_first 2 body more 2 (omega arith))

-- A line is short, and the text of what is left is no longer than said.
cell_front : (turns call : ℕ) (body more : List ℕ) (n : ℕ) → length body ≡ cell_bytes → ((i : ℕ) → get_or body i 0 < 256) → ((t : ℕ) → length (records_text t call more) ≤ n)
    → length (records_text turns call (recordOf cell_kind body ++ more)) ≤ max_record_text + n
unfolding records_text
cell_front zero call body more n size bytes rest = omega arith
cell_front (suc turns) call body more n size bytes rest =
    let s : List ℕ = recordOf cell_kind body ++ more in
    let b : List ℕ = drop head_bytes s in
    let e : eqb (read_le 2 s 2) cell_kind ≡ true = ap (λ (k : ℕ). eqb k cell_kind) (head_kind cell_kind body more (omega arith)) in
    let line : length (cell_line b) ≤ max_record_text =
    subst (λ (l : List ℕ). length l ≤ max_record_text) (sym (ap cell_line (head_behind cell_kind body more) ∙ cell_alone body more size)) (cell_short body bytes) in
    let left : length (records_text turns call (drop (number 2 s) b)) ≤ n = rw (head_rest cell_kind body more (omega arith)) (rest turns) in
    rw (e, records_text) (omega (arith, length-append (cell_line b) (records_text turns call (drop (number 2 s) b))))

receipt_front : (turns call : ℕ) (body more : List ℕ) (n : ℕ) → length body ≡ receipt_bytes → ((i : ℕ) → get_or body i 0 < 256) → ((t : ℕ) → length (records_text t (call + 1) more) ≤ n)
    → length (records_text turns call (recordOf receipt_kind body ++ more)) ≤ max_record_text + n
unfolding records_text
receipt_front zero call body more n size bytes rest = omega arith
receipt_front (suc turns) call body more n size bytes rest =
    let s : List ℕ = recordOf receipt_kind body ++ more in
    let b : List ℕ = drop head_bytes s in
    let k : read_le 2 s 2 ≡ receipt_kind = head_kind receipt_kind body more (omega arith) in
    let e : eqb (read_le 2 s 2) cell_kind ≡ false = ap (λ (k : ℕ). eqb k cell_kind) k in
    let f : eqb (read_le 2 s 2) receipt_kind ≡ true = ap (λ (k : ℕ). eqb k receipt_kind) k in
    let line : length (receipt_line call b) ≤ max_record_text =
    subst (λ (l : List ℕ). length l ≤ max_record_text) (sym (ap (receipt_line call) (head_behind receipt_kind body more) ∙ receipt_alone call body more size)) (receipt_short body bytes call) in
    let left : length (records_text turns (call + 1) (drop (number 2 s) b)) ≤ n = rw (head_rest receipt_kind body more (omega arith)) (rest turns) in
    rw (e, f, records_text) (omega (arith, length-append (receipt_line call b) (records_text turns (call + 1) (drop (number 2 s) b))))

-- ---- the records of a sheet

end_none : (turns call : ℕ) → length (records_text turns call (recordOf end_kind [])) ≤ 0
unfolding records_text bytes_of number
end_none zero call = omega arith
end_none (suc turns) call = omega arith

-- The bodies of its records: how long they are, and that they are bytes.
both_lt : (xs ys : List ℕ) → ((i : ℕ) → get_or xs i 0 < 256) → ((i : ℕ) → get_or ys i 0 < 256) → (i : ℕ) → get_or (xs ++ ys) i 0 < 256
both_lt [] ys f g i = g i
both_lt (x ∷ xs) ys f g zero = f 0
both_lt (x ∷ xs) ys f g (suc i) = both_lt xs ys (λ j. f (suc j)) g i

receipt_size : (outcome count : ℕ) → length (bytes_of 2 outcome ++ bytes_of 2 count) ≡ receipt_bytes
unfolding bytes_of
receipt_size outcome count = refl

receipt_lt : (outcome count i : ℕ) → get_or (bytes_of 2 outcome ++ bytes_of 2 count) i 0 < 256
receipt_lt outcome count = both_lt (bytes_of 2 outcome) (bytes_of 2 count) (bytes_of_lt 2 outcome) (bytes_of_lt 2 count)

cell_size : (high low bits : ℕ) → length (key_bytes high low ++ bytes_of 8 bits) ≡ cell_bytes
unfolding bytes_of
cell_size high low bits = refl

cell_lt : (high low bits i : ℕ) → get_or (key_bytes high low ++ bytes_of 8 bits) i 0 < 256
cell_lt high low bits =
    let a : List ℕ = bytes_of 2 (high / 2 ^ 48) in
    let b : List ℕ = bytes_of 2 (high / 2 ^ 32) in
    let c : List ℕ = bytes_of 4 high in
    let d : List ℕ = bytes_of 4 low in
    let first : (i : ℕ) → get_or (a ++ b) i 0 < 256 = both_lt a b (bytes_of_lt 2 (high / 2 ^ 48)) (bytes_of_lt 2 (high / 2 ^ 32)) in
    let key : (i : ℕ) → get_or (key_bytes high low) i 0 < 256 = both_lt (a ++ b ++ c) d (both_lt (a ++ b) c first (bytes_of_lt 4 high)) (bytes_of_lt 4 low) in
    both_lt (key_bytes high low) (bytes_of 8 bits) key (bytes_of_lt 8 bits)

module _ (status : List ℕ) where
  receipts_text : (left c turns call : ℕ) → length (records_text turns call (flatten (receipt_records status left c) ++ recordOf end_kind [])) ≤ max_record_text * left
  unfolding receipt_records flatten
  receipts_text zero c turns call = end_none turns call
  receipts_text (suc left) c turns call =
      let body : List ℕ = bytes_of 2 (status_word status c 1) ++ bytes_of 2 (status_word status c 2) in
      let more : List ℕ = flatten (receipt_records status left (c + 1)) in
      let bound : length (records_text turns call (recordOf receipt_kind body ++ (more ++ recordOf end_kind []))) ≤ max_record_text + max_record_text * left =
      receipt_front turns call body (more ++ recordOf end_kind []) (max_record_text * left) (receipt_size (status_word status c 1) (status_word status c 2)) (receipt_lt (status_word status c 1) (status_word status c 2)) (λ t. receipts_text left (c + 1) t (call + 1)) in
      rw (append_assoc (recordOf receipt_kind body) more (recordOf end_kind [])) (omega arith)

module _ (keys : List ℕ) (cells : List ℤ) (rest : List ℕ) (n : ℕ) where
  cells_text : (left at turns call : ℕ) → ((t : ℕ) → length (records_text t call rest) ≤ n)
      → length (records_text turns call (flatten (cell_records keys cells left at) ++ rest)) ≤ max_record_text * left + n
  unfolding cell_records flatten
  cells_text zero at turns call small = omega (arith, small turns)
  cells_text (suc left) at turns call small = go (eqb bits 0) (λ t. cells_text left (at + 1) t call small)
    where
      bits : ℕ
      bits = unsigned 64 (cell_at cells at)

      own : List ℕ
      own = recordOf cell_kind (key_bytes (key_high keys at) (key_low keys at) ++ bytes_of 8 bits)

      later : List (List ℕ)
      later = cell_records keys cells left (at + 1)

      more : List ℕ
      more = flatten later

      go : (zero-cell : Bool) → ((t : ℕ) → length (records_text t call (more ++ rest)) ≤ max_record_text * left + n)
          → length (records_text turns call (flatten ((if zero-cell then [] else (own ∷ [])) ++ later) ++ rest)) ≤ max_record_text * suc left + n
      go true ih = omega (arith, ih turns)
      go false ih =
          let bound : length (records_text turns call (own ++ (more ++ rest))) ≤ max_record_text + (max_record_text * left + n) =
          cell_front turns call (key_bytes (key_high keys at) (key_low keys at) ++ bytes_of 8 bits) (more ++ rest) (max_record_text * left + n)
          (cell_size (key_high keys at) (key_low keys at) bits) (cell_lt (key_high keys at) (key_low keys at) bits) ih in
          rw (append_assoc own more rest) (omega (arith, bound))

sheet_short : (r : Run) → r.head.calls ≤ max_calls → r.head.cells ≤ max_keys → length (sheet_text (sheet_bytes r)) ≤ max_close_text
unfolding sheet_records
sheet_short r calls cells =
    let cs : List (List ℕ) = cell_records r.keys r.cells r.head.cells 0 in
    let rs : List (List ℕ) = receipt_records r.status r.head.calls 0 in
    let first : List ℕ = flatten cs in
    let second : List ℕ = flatten rs in
    let end : List ℕ = recordOf end_kind [] in
    let parts : sheet_bytes r ≡ first ++ (second ++ end) =
    joined_append (cs ++ rs) (end ∷ []) ∙ ap₂ (λ (s t : List ℕ). s ++ t) (joined_append cs rs) (joined_one end) ∙ append_assoc first second end in
    let bound : length (records_text (length (first ++ (second ++ end))) 0 (first ++ (second ++ end))) ≤ max_record_text * r.head.cells + max_record_text * r.head.calls =
    cells_text r.keys r.cells (second ++ end) (max_record_text * r.head.calls) r.head.cells 0 (length (first ++ (second ++ end))) 0
    (λ t. receipts_text r.status r.head.calls 0 t 0) in
    subst⁻¹ (λ (s : List ℕ). length (sheet_text s) ≤ max_close_text) parts (omega (arith, bound))

-- ---- the close

refused_short : (line n : ℕ) → length (refused_text line n) ≤ max_close_text
refused_short line n =
    let fits : length (refused_text line n) ≤ 44 = line_fits 114 (line ∷ n ∷ []) in omega arith

abbrev Short : Closed → Type 0
Short c = length (closing_text c c.answer) ≤ max_close_text

none_short : (out : List ℕ) (a : Answer) → Short (unwritten out a)
unfolding closing_text
none_short out a = refused_short 0 (refused_number a)

filled_short : (out : List ℕ) (rs : List (List ℕ)) → length (flatten rs) ≤ length out → length (sheet_text (flatten rs)) ≤ max_close_text → Short (filled out rs)
unfolding closing_text
filled_short out rs fits short = rw (front_whole rs out fits) short

pub close_short : (r : Run) → length (close_run r) ≤ max_close_text
close_short r =
    let out : List ℕ = repeated max_sheet 0 in
    sheet_all Short r out (none_short out) (λ b fits. filled_short out (sheet_records r) fits (sheet_short r b.so_far.calls b.cells))
