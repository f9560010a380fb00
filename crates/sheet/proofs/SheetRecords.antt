-- The records of a sheet: those of the first cells and calls and of the others behind them, the length of each, and that each is a head and a
-- body.
use mathlib.Core.Path.{◌≡◌, refl, sym, ap, subst⁻¹, ◌∙◌}
use mathlib.Core.List.{List, [], ◌∷◌, ◌++◌, append_assoc, append-nil}
use Prim.Native.Nat.{ℕ, zero, suc, ◌+◌, ◌*◌, ◌≤◌}
use native.Mathlib.Omega.{arith}
use lib.Dec.{eqb}
use lib.IntN.{ℤ}
use lib.ListN.{length, length-append}
use Rattle.arith.proofs.ChoiceLaws.{if_all}
use Rattle.arith.specs.Exact.{unsigned}
use Rattle.wire.specs.Bytes.{bytes_of}
use Rattle.wire.proofs.BytesLaws.{bytes_of_length}
use Rattle.block.specs.Record.{recordOf, cell_kind, receipt_kind, end_kind}
use Rattle.block.proofs.ContentsLaws.{record_length}
use Rattle.machine.specs.Run.{status_word}
use Rattle.machine.specs.Step.{cell_at}
use Rattle.sheet.specs.Sheet.{key_high, key_low, key_bytes, records_of_cell, receipt_record, records_at, receipt_at, cell_records, receipt_records, records_for, lengths}
use Rattle.sheet.proofs.RecordLists.{lengths_none, lengths_more, lengths_one, lengths_append}

-- ---- records by number

-- Those of `left` things from number n on, thing by thing.
module _ (records : (left n : ℕ) → List (List ℕ)) (part : ℕ → List (List ℕ)) (none : (n : ℕ) → records 0 n ≡ [])
    (turn : (left n : ℕ) → records (suc left) n ≡ part n ++ records left (n + 1)) where
  pub records_split : (first more n : ℕ) → records (first + more) n ≡ records first n ++ records more (n + first)
  records_split zero more n =
      let e : n ≡ n + 0 = omega arith in
      let z : 0 + more ≡ more = omega arith in
      ap (λ (k : ℕ). records k n) z ∙ ap (records more) e ∙ ap (λ (s : List (List ℕ)). s ++ records more (n + 0)) (sym (none n))
  records_split (suc first) more n =
      let e : n + 1 + first ≡ n + suc first = omega arith in
      let z : suc first + more ≡ suc (first + more) = omega arith in
      ap (λ (k : ℕ). records k n) z
      ∙ turn (first + more) n
      ∙ ap (λ (s : List (List ℕ)). part n ++ s) (records_split first more (n + 1))
      ∙ sym (append_assoc (part n) (records first (n + 1)) (records more (n + 1 + first)))
      ∙ ap (λ (s : List (List ℕ)). s ++ records more (n + 1 + first)) (sym (turn first n))
      ∙ ap (λ (k : ℕ). records (suc first) n ++ records more k) e

  -- One more behind the first n.
  pub records_more : (n : ℕ) → records (n + 1) 0 ≡ records n 0 ++ part n
  records_more n =
      let e : 0 + n ≡ n = omega arith in
      records_split n 1 0
      ∙ ap (λ (k : ℕ). records n 0 ++ records 1 k) e
      ∙ ap (λ (s : List (List ℕ)). records n 0 ++ s) (turn 0 n ∙ ap (λ (s : List (List ℕ)). part n ++ s) (none (n + 1)) ∙ append-nil (part n))

module _ (keys : List ℕ) (cells : List ℤ) where
  pub cells_none : (n : ℕ) → cell_records keys cells 0 n ≡ []
  unfolding cell_records
  cells_none n = refl

  pub cells_turn : (left n : ℕ) → cell_records keys cells (suc left) n ≡ records_at keys cells n ++ cell_records keys cells left (n + 1)
  unfolding cell_records
  cells_turn left n = refl

  pub cells_split : (first more n : ℕ) → cell_records keys cells (first + more) n ≡ cell_records keys cells first n ++ cell_records keys cells more (n + first)
  cells_split = records_split (cell_records keys cells) (records_at keys cells) cells_none cells_turn

  pub cells_more : (n : ℕ) → cell_records keys cells (n + 1) 0 ≡ cell_records keys cells n 0 ++ records_at keys cells n
  cells_more = records_more (cell_records keys cells) (records_at keys cells) cells_none cells_turn

module _ (status : List ℕ) where
  pub receipts_none : (c : ℕ) → receipt_records status 0 c ≡ []
  unfolding receipt_records
  receipts_none c = refl

  pub receipts_turn : (left c : ℕ) → receipt_records status (suc left) c ≡ (receipt_at status c ∷ []) ++ receipt_records status left (c + 1)
  unfolding receipt_records
  receipts_turn left c = refl

  pub receipts_split : (first more c : ℕ) → receipt_records status (first + more) c ≡ receipt_records status first c ++ receipt_records status more (c + first)
  receipts_split = records_split (receipt_records status) (λ c. receipt_at status c ∷ []) receipts_none receipts_turn

  pub receipts_more : (c : ℕ) → receipt_records status (c + 1) 0 ≡ receipt_records status c 0 ++ (receipt_at status c ∷ [])
  receipts_more = records_more (receipt_records status) (λ c. receipt_at status c ∷ []) receipts_none receipts_turn

-- ---- their lengths

pub cell_body_lem : (high low bits : ℕ) → length (key_bytes high low ++ bytes_of 8 bits) ≡ 20
cell_body_lem high low bits = simp (length-append, bytes_of_length)

pub receipt_body : (outcome count : ℕ) → length (bytes_of 2 outcome ++ bytes_of 2 count) ≡ 4
receipt_body outcome count = simp (length-append, bytes_of_length)

pub receipt_length : (outcome count : ℕ) → length (receipt_record outcome count) ≡ 8
receipt_length outcome count = omega (arith, record_length receipt_kind (bytes_of 2 outcome ++ bytes_of 2 count), receipt_body outcome count)

pub end_length : length (recordOf end_kind []) ≡ 4
end_length = record_length end_kind []

-- 24 bytes a record, of a cell, of which there is at most one, and of cells.
pub cell_lengths : (high low bits : ℕ) → lengths (records_of_cell high low bits) ≡ 24 * length (records_of_cell high low bits)
cell_lengths high low bits =
    if_all (λ (rs : List (List ℕ)). lengths rs ≡ 24 * length rs) (eqb bits 0) (λ e. lengths_none)
    (λ e. omega (arith, lengths_one own, record_length cell_kind (key_bytes high low ++ bytes_of 8 bits), cell_body_lem high low bits))
  where
    own : List ℕ
    own = recordOf cell_kind (key_bytes high low ++ bytes_of 8 bits)

pub cell_few : (high low bits : ℕ) → length (records_of_cell high low bits) ≤ 1
cell_few high low bits = if_all (λ (rs : List (List ℕ)). length rs ≤ 1) (eqb bits 0) (λ e. omega arith) (λ e. omega arith)

pub cells_lengths : (keys : List ℕ) (cells : List ℤ) (left n : ℕ) → lengths (cell_records keys cells left n) ≡ 24 * length (cell_records keys cells left n)
cells_lengths keys cells zero n = subst⁻¹ (λ (rs : List (List ℕ)). lengths rs ≡ 24 * length rs) (cells_none keys cells n) lengths_none
cells_lengths keys cells (suc left) n =
    let own : List (List ℕ) = records_at keys cells n in
    let rest : List (List ℕ) = cell_records keys cells left (n + 1) in
    subst⁻¹ (λ (rs : List (List ℕ)). lengths rs ≡ 24 * length rs) (cells_turn keys cells left n)
    (omega (arith, lengths_append own rest, length-append own rest, cell_lengths (key_high keys n) (key_low keys n) (unsigned 64 (cell_at cells n)), cells_lengths keys cells left (n + 1)))

pub cells_few : (keys : List ℕ) (cells : List ℤ) (left n : ℕ) → length (cell_records keys cells left n) ≤ left
cells_few keys cells zero n = omega (arith, ap length (cells_none keys cells n))
cells_few keys cells (suc left) n =
    let own : List (List ℕ) = records_at keys cells n in
    let rest : List (List ℕ) = cell_records keys cells left (n + 1) in
    omega (arith, ap length (cells_turn keys cells left n), length-append own rest, cell_few (key_high keys n) (key_low keys n) (unsigned 64 (cell_at cells n)), cells_few keys cells left (n + 1))

pub receipts_lengths : (status : List ℕ) (left c : ℕ) → lengths (receipt_records status left c) ≡ 8 * left
receipts_lengths status zero c = ap lengths (receipts_none status c) ∙ lengths_none
receipts_lengths status (suc left) c =
    ap lengths (receipts_turn status left c)
    ∙ omega (arith, lengths_more (receipt_at status c) (receipt_records status left (c + 1)), receipt_length (status_word status c 1) (status_word status c 2), receipts_lengths status left (c + 1))

-- All of them.
pub sheet_lengths : (keys : List ℕ) (cells : List ℤ) (status : List ℕ) (count calls : ℕ)
    → lengths (records_for keys cells status count calls) ≡ 24 * length (cell_records keys cells count 0) + 8 * calls + 4
sheet_lengths keys cells status count calls =
    let cs : List (List ℕ) = cell_records keys cells count 0 in
    let rs : List (List ℕ) = receipt_records status calls 0 in
    omega (arith, lengths_append (cs ++ rs) (recordOf end_kind [] ∷ []), lengths_append cs rs, lengths_one (recordOf end_kind []), cells_lengths keys cells count 0, receipts_lengths status calls 0, end_length)
