-- What the writer carries from record to record: at the first, behind one more cell or call, and behind the end.
use mathlib.Core.Path.{◌≡◌, refl, sym, ap, ap₂, subst, subst⁻¹, ◌∙◌}
use mathlib.Core.List.{List, [], ◌∷◌, ◌++◌, append_assoc, append-nil, flatten}
use Prim.Native.Nat.{ℕ, ◌+◌, ◌*◌, ◌-◌, ◌≤◌, ◌<◌}
use native.Mathlib.Omega.{arith}
use lib.IntN.{ℤ}
use lib.ListN.{length, take}
use lib.Seq.{take-append_seam, take-length}
use Rattle.wire.specs.Bytes.{bytes_of, stored}
use Rattle.wire.proofs.BytesLaws.{stored_append}
use Rattle.block.specs.Record.{recordOf, end_kind}
use Rattle.sheet.specs.Sheet.{cell_records, receipt_records, lengths, record_offset, offset_behind, records_for, records_at, receipt_at}
use Rattle.sheet.proofs.RecordLists.{lengths_none, lengths_one, lengths_append, joined_one, joined_append, joined_length, offset_front}
use Rattle.sheet.proofs.SheetRecords.{cells_none, cells_split, cells_more, cells_lengths, cells_few, receipts_none, receipts_split, receipts_more, receipts_lengths, end_length}
use Rattle.closing.specs.Carried.{Carried}

-- ---- any records

module _ {records : List (List ℕ)} {before output : List ℕ} {at : ℕ} where
  -- Behind a front of the records the offset is the front's length.
  pub carried_offset : (front rest : List (List ℕ)) → records ≡ front ++ rest → Carried records before (length front) at output → at ≡ lengths front
  carried_offset front rest e c = c.offset ∙ ap (λ (l : List (List ℕ)). record_offset l (length front)) e ∙ offset_front front rest

  -- One part more: what stands behind the front is stored at the offset that is carried.
  pub carried_more : (front part rest : List (List ℕ)) → records ≡ front ++ part ++ rest → Carried records before (length front) at output
      → {next : List ℕ} {to : ℕ} → next ≡ stored output at (flatten part) → to ≡ at + lengths part → Carried records before (length (front ++ part)) to next
  carried_more front part rest e c p q =
      let own : records ≡ front ++ (part ++ rest) = e ∙ append_assoc front part rest in
      let so_far : at ≡ lengths front = carried_offset front (part ++ rest) own c in
      let taken : take (length front) records ≡ front = ap (take (length front)) own ∙ take-append_seam front (part ++ rest) in
      let more : take (length (front ++ part)) records ≡ front ++ part = ap (take (length (front ++ part))) e ∙ take-append_seam (front ++ part) rest in
      let place : at ≡ 0 + length (flatten front) = omega (arith, so_far, joined_length front) in
      record {
        offset = q ∙ ap (λ (n : ℕ). n + lengths part) so_far ∙ sym (lengths_append front part) ∙ sym (ap lengths more);
        written =
            p
            ∙ ap₂ (λ (s : List ℕ) (i : ℕ). stored s i (flatten part)) (c.written ∙ ap (λ (l : List (List ℕ)). stored before 0 (flatten l)) taken) place
            ∙ sym (stored_append (flatten front) (flatten part) before 0)
            ∙ ap (stored before 0) (sym (joined_append front part) ∙ ap flatten (sym more));
      }

-- ---- those of a sheet

-- A record without a body is its head.
end_head : recordOf end_kind [] ≡ bytes_of 2 0 ++ bytes_of 2 end_kind
unfolding bytes_of
end_head = refl

module _ (keys : List ℕ) (cells : List ℤ) (status : List ℕ) (count calls : ℕ) (before : List ℕ) where
  abbrev records : List (List ℕ)
  records = records_for keys cells status count calls

  -- The records of the first n cells; and those of all cells and the first calls.
  abbrev pub cells_to : ℕ → List (List ℕ)
  cells_to n = cell_records keys cells n 0

  abbrev pub receipts_to : ℕ → List (List ℕ)
  receipts_to call = cells_to count ++ receipt_records status call 0

  abbrev end : List (List ℕ)
  end = recordOf end_kind [] ∷ []

  -- What is carried at the record behind a front.
  abbrev pub Behind : (front : List (List ℕ)) (at : ℕ) (output : List ℕ) → Type 0
  Behind front at output = Carried records before (length front) at output

  -- ---- at the cells

  abbrev cells_left : ℕ → List (List ℕ)
  cells_left n = cell_records keys cells (count - n) n ++ receipt_records status calls 0 ++ end

  cells_front : (n : ℕ) → n ≤ count → records ≡ cells_to n ++ cells_left n
  cells_front n l =
      let e : count ≡ n + (count - n) = omega arith in
      let z : 0 + n ≡ n = omega arith in
      let rest : List (List ℕ) = cell_records keys cells (count - n) n in
      let split : cells_to count ≡ cells_to n ++ rest =
      ap cells_to e ∙ cells_split keys cells n (count - n) 0 ∙ ap (λ (k : ℕ). cells_to n ++ cell_records keys cells (count - n) k) z in
      ap (λ (l : List (List ℕ)). l ++ receipt_records status calls 0 ++ end) split
      ∙ ap (λ (l : List (List ℕ)). l ++ end) (append_assoc (cells_to n) rest (receipt_records status calls 0))
      ∙ append_assoc (cells_to n) (rest ++ receipt_records status calls 0) end

  pub carried_first : Behind (cells_to 0) 0 before
  unfolding stored flatten
  carried_first =
      subst⁻¹ (λ (l : List (List ℕ)). Behind l 0 before) (cells_none keys cells 0) (record { offset = sym lengths_none; written = refl })

  pub carried_cell : (n at : ℕ) (output : List ℕ) → Behind (cells_to n) at output → n < count → {next : List ℕ} {to : ℕ}
      → next ≡ stored output at (flatten (records_at keys cells n)) → to ≡ at + lengths (records_at keys cells n) → Behind (cells_to (n + 1)) to next
  carried_cell n at output c l {next} {to} p q =
      subst⁻¹ (λ (l : List (List ℕ)). Behind l to next) (cells_more keys cells n)
      (carried_more (cells_to n) (records_at keys cells n) (cells_left (n + 1))
      (cells_front (n + 1) (omega arith) ∙ ap (λ (l : List (List ℕ)). l ++ cells_left (n + 1)) (cells_more keys cells n)) c p q)

  pub cells_within : (n at : ℕ) (output : List ℕ) → Behind (cells_to n) at output → n ≤ count → at ≤ 24 * n
  cells_within n at output c l =
      omega (arith, carried_offset (cells_to n) (cells_left n) (cells_front n l) c, cells_lengths keys cells n 0, cells_few keys cells n 0)

  -- ---- at the receipts

  abbrev receipts_left : ℕ → List (List ℕ)
  receipts_left call = receipt_records status (calls - call) call ++ end

  receipts_front : (call : ℕ) → call ≤ calls → records ≡ receipts_to call ++ receipts_left call
  receipts_front call l =
      let e : calls ≡ call + (calls - call) = omega arith in
      let z : 0 + call ≡ call = omega arith in
      let first : List (List ℕ) = receipt_records status call 0 in
      let rest : List (List ℕ) = receipt_records status (calls - call) call in
      let split : receipt_records status calls 0 ≡ first ++ rest =
      ap (λ (k : ℕ). receipt_records status k 0) e ∙ receipts_split status call (calls - call) 0 ∙ ap (λ (k : ℕ). first ++ receipt_records status (calls - call) k) z in
      ap (λ (l : List (List ℕ)). cells_to count ++ l ++ end) split
      ∙ ap (λ (l : List (List ℕ)). l ++ end) (sym (append_assoc (cells_to count) first rest))
      ∙ append_assoc (receipts_to call) rest end

  -- All cells are written where the first loop is left; what is carried then is carried to the first receipt.
  pub cells_carried : (n at : ℕ) (output : List ℕ) → Behind (cells_to n) at output → n ≤ count → count ≤ n → Behind (cells_to count) at output
  cells_carried n at output c l m = let e : n ≡ count = omega arith in subst (λ (k : ℕ). Behind (cells_to k) at output) e c

  pub carried_between : (at : ℕ) (output : List ℕ) → Behind (cells_to count) at output → Behind (receipts_to 0) at output
  carried_between at output c =
      let none : receipts_to 0 ≡ cells_to count = ap (λ (l : List (List ℕ)). cells_to count ++ l) (receipts_none status 0) ∙ append-nil (cells_to count) in
      subst⁻¹ (λ (l : List (List ℕ)). Behind l at output) none c

  pub carried_receipt : (call at : ℕ) (output : List ℕ) → Behind (receipts_to call) at output → call < calls → {next : List ℕ} {to : ℕ}
      → next ≡ stored output at (receipt_at status call)
      → to ≡ at + length (receipt_at status call) → Behind (receipts_to (call + 1)) to next
  carried_receipt call at output c l {next} {to} p q =
      let own : List ℕ = receipt_at status call in
      let more : receipts_to (call + 1) ≡ receipts_to call ++ (receipt_at status call ∷ []) =
      ap (λ (l : List (List ℕ)). cells_to count ++ l) (receipts_more status call) ∙ sym (append_assoc (cells_to count) (receipt_records status call 0) (receipt_at status call ∷ [])) in
      subst⁻¹ (λ (l : List (List ℕ)). Behind l to next) more
      (carried_more (receipts_to call) (receipt_at status call ∷ []) (receipts_left (call + 1))
      (receipts_front (call + 1) (omega arith) ∙ ap (λ (l : List (List ℕ)). l ++ receipts_left (call + 1)) more) c
      (p ∙ ap (stored output at) (sym (joined_one own))) (q ∙ ap (λ (n : ℕ). at + n) (sym (lengths_one own))))

  pub receipts_within : (call at : ℕ) (output : List ℕ) → Behind (receipts_to call) at output → call ≤ calls → at ≤ 24 * count + 8 * call
  receipts_within call at output c l =
      omega (arith, carried_offset (receipts_to call) (receipts_left call) (receipts_front call l) c, lengths_append (cells_to count) (receipt_records status call 0), cells_lengths keys cells count 0, cells_few keys cells count 0, receipts_lengths status call 0)

  -- ---- behind the end

  pub carried_end : (call at : ℕ) (output : List ℕ) → Behind (receipts_to call) at output → call ≤ calls → calls ≤ call → {next : List ℕ} {to : ℕ}
      → next ≡ stored output at (bytes_of 2 0 ++ bytes_of 2 end_kind) → to ≡ at + 4
      → (next ≡ stored before 0 (flatten records)) × (to ≡ offset_behind records)
  carried_end call at output c l m {next} {to} p q =
      let e : call ≡ calls = omega arith in
      let own : List ℕ = recordOf end_kind [] in
      let whole : Behind records to next =
      carried_more (receipts_to calls) end [] (sym (append-nil records)) (subst (λ (k : ℕ). Behind (receipts_to k) at output) e c)
      (p ∙ ap (stored output at) (sym (joined_one own ∙ end_head))) (q ∙ ap (λ (n : ℕ). at + n) (sym (lengths_one own ∙ end_length))) in
      (whole.written ∙ ap (λ (l : List (List ℕ)). stored before 0 (flatten l)) (take-length records), whole.offset)
