-- One look at each cell: no balance so far is below zero, and so many of the cells have a record.
use mathlib.Core.Path.{◌≡◌, refl, sym, ap, ◌∙◌}
use mathlib.Core.Bool.{Bool, true, false, ◌&&◌, ◌||◌, not}
use mathlib.Core.List.{List, [], ◌∷◌, ◌++◌, flatten}
use Prim.Native.Nat.{ℕ, ◌^◌, zero, suc, ◌+◌, ◌-◌, ◌<◌, ◌≤◌}
use native.Mathlib.Omega.{arith}
use borrow.Author.Tests.{eq-eqb, ne_eqb}
use lib.Dec.{eqb}
use lib.IntN.{ℤ}
use lib.ListN.{length, length-append}
use lib.Signed.{non_neg, mag}
use Rattle.arith.specs.Exact.{unsigned}
use Rattle.arith.proofs.Laws.{read, read_back}
use Rattle.wire.specs.Bytes.{bytes_of, stored}
use Rattle.block.specs.Record.{recordOf, cell_kind}
use Rattle.block.proofs.ContentsLaws.{record_length}
use Rattle.machine.specs.Step.{cell_at}
use Rattle.sheet.specs.Sheet.{key_high, key_low, key_bytes, records_of_cell, cell_records, balances_allowed, field_of, records_at, lengths}
use Rattle.sheet.proofs.RecordLists.{joined_one, lengths_none, lengths_one}
use Rattle.sheet.proofs.SheetRecords.{cells_none, cells_more, cells_few, cell_body_lem}
use Rattle.closing.specs.Found.{found_in}
use Rattle.std.specs.Prelude.{None}

-- The bits of a value that was read.
pub bits_told : {bits : ℕ} {v z : ℤ} → mag v < 2 ^ 63 → bits ≡ unsigned 64 (read v) → v ≡ z → bits ≡ unsigned 64 z
bits_told f p q = p ∙ ap (unsigned 64) (read_back (record { sfits = f }) ∙ q)

-- A cell that is zero has no record, and any other has one.
pub cell_zero : (high low : ℕ) {bits : ℕ} → bits ≡ 0 → records_of_cell high low bits ≡ []
cell_zero high low {bits} e = simp (eq-eqb bits 0 e)

pub cell_one : (high low bits : ℕ) → (bits ≡ 0 → ⊥) → records_of_cell high low bits ≡ recordOf cell_kind (key_bytes high low ++ bytes_of 8 bits) ∷ []
cell_one high low bits h = simp (ne_eqb bits 0 h)

pub cell_size : (high low bits : ℕ) → length (recordOf cell_kind (key_bytes high low ++ bytes_of 8 bits)) ≡ 24
cell_size high low bits = omega (arith, record_length cell_kind (key_bytes high low ++ bytes_of 8 bits), cell_body_lem high low bits)

-- What is stored of a cell, by what was read of it: nothing where its bits are zero, and otherwise its record.
module _ (keys : List ℕ) (cells : List ℤ) (n : ℕ) {bits : ℕ} (e : bits ≡ unsigned 64 (cell_at cells n)) where
  module _ (z : bits ≡ 0) where
    pub zero_stored : (s : List ℕ) (at : ℕ) → s ≡ stored s at (flatten (records_at keys cells n))
    unfolding stored flatten
    zero_stored s at = sym (ap (λ (l : List (List ℕ)). stored s at (flatten l)) (cell_zero (key_high keys n) (key_low keys n) (sym e ∙ z)))

    pub zero_length : lengths (records_at keys cells n) ≡ 0
    zero_length = ap lengths (cell_zero (key_high keys n) (key_low keys n) (sym e ∙ z)) ∙ lengths_none

  module _ (h : bits ≡ 0 → ⊥) where
    own : {high low : ℕ} → high ≡ key_high keys n → low ≡ key_low keys n → records_at keys cells n ≡ recordOf cell_kind (key_bytes high low ++ bytes_of 8 bits) ∷ []
    own {high} {low} p q = (λ i. records_of_cell (sym p i) (sym q i) (sym e i)) ∙ cell_one high low bits h

    pub one_stored : {high low : ℕ} → high ≡ key_high keys n → low ≡ key_low keys n → (s : List ℕ) (at : ℕ) {t : List ℕ}
        → t ≡ stored s at (recordOf cell_kind (key_bytes high low ++ bytes_of 8 bits)) → t ≡ stored s at (flatten (records_at keys cells n))
    one_stored {high} {low} p q s at r = r ∙ ap (stored s at) (sym (ap flatten (own p q) ∙ joined_one (recordOf cell_kind (key_bytes high low ++ bytes_of 8 bits))))

    pub one_length : lengths (records_at keys cells n) ≡ 24
    one_length =
        ap lengths (own refl refl) ∙ lengths_one (recordOf cell_kind (key_bytes (key_high keys n) (key_low keys n) ++ bytes_of 8 bits))
        ∙ cell_size (key_high keys n) (key_low keys n) bits

module _ (keys : List ℕ) (cells : List ℤ) where
  -- Whether a cell is no balance, or one that is not below zero.
  abbrev pub balance_allowed : ℕ → Bool
  balance_allowed n = not (eqb (field_of keys n) 0) || non_neg (cell_at cells n)

  balances_none : balances_allowed keys cells 0 ≡ true
  unfolding balances_allowed
  balances_none = refl

  balances_turn : (n : ℕ) → balances_allowed keys cells (n + 1) ≡ (balance_allowed n && balances_allowed keys cells n)
  unfolding balances_allowed
  balances_turn n = let e : n + 1 ≡ suc n = omega arith in ap (balances_allowed keys cells) e

  -- Where one of the first is below zero, so is one of more.
  balances_fewer : (n more : ℕ) → balances_allowed keys cells n ≡ false → balances_allowed keys cells (n + more) ≡ false
  balances_fewer n zero e = let z : n + 0 ≡ n = omega arith in ap (balances_allowed keys cells) z ∙ e
  balances_fewer n (suc more) e =
      let z : n + suc more ≡ n + more + 1 = omega arith in
      ap (balances_allowed keys cells) z ∙ balances_turn (n + more) ∙ ap (λ (b : Bool). balance_allowed (n + more) && b) (balances_fewer n more e) ∙ never (balance_allowed (n + more))
    where
      never : (b : Bool) → (b && false) ≡ false
      never true = refl
      never false = refl

  -- What was found of the first n cells.
  pub record Looked (count found n : ℕ) : Type 0 where
    pub within : n ≤ count
    pub allowed : balances_allowed keys cells n ≡ true
    pub records : found ≡ length (cell_records keys cells n 0)

  pub looked_few : (count found n : ℕ) → Looked count found n → found ≤ n
  looked_few count found n h = omega (arith, h.records, cells_few keys cells n 0)

  pub looked_none : (count : ℕ) → Looked count 0 0
  looked_none count = record { within = omega arith; allowed = balances_none; records = sym (ap length (cells_none keys cells 0)) }

  looked_more : (count found n : ℕ) → Looked count found n → n < count → balance_allowed n ≡ true → {next : ℕ} → next ≡ found + length (records_at keys cells n)
      → Looked count next (n + 1)
  looked_more count found n h l b q =
      record {
        within = omega arith;
        allowed = balances_turn n ∙ ap (λ (t : Bool). t && balances_allowed keys cells n) b ∙ h.allowed;
        records = omega (arith, q, h.records, ap length (cells_more keys cells n), length-append (cell_records keys cells n 0) (records_at keys cells n));
      }

  pub looked_zero : (count found n : ℕ) → Looked count found n → n < count → balance_allowed n ≡ true → {bits next : ℕ} → bits ≡ unsigned 64 (cell_at cells n) → bits ≡ 0
      → next ≡ found → Looked count next (n + 1)
  looked_zero count found n h l b e z q =
      looked_more count found n h l b (omega (arith, q, ap length (cell_zero (key_high keys n) (key_low keys n) (sym e ∙ z))))

  pub looked_one : (count found n : ℕ) → Looked count found n → n < count → balance_allowed n ≡ true → {bits next : ℕ} → bits ≡ unsigned 64 (cell_at cells n)
      → (bits ≡ 0 → ⊥) → next ≡ found + 1 → Looked count next (n + 1)
  looked_one count found n h l b {bits} {next} e z q =
      let one : length (records_at keys cells n) ≡ 1 = simp (← e, ne_eqb bits 0 z) in looked_more count found n h l b (omega arith)

  pub looked_below : (count found n : ℕ) → Looked count found n → n < count → balance_allowed n ≡ false → None ≡ found_in keys cells count
  looked_below count found n h l b =
      let e : n + 1 + (count - (n + 1)) ≡ count = omega arith in
      let broken : balances_allowed keys cells count ≡ false =
      sym (ap (balances_allowed keys cells) e)
      ∙ balances_fewer (n + 1) (count - (n + 1)) (balances_turn n ∙ ap (λ (t : Bool). t && balances_allowed keys cells n) b) in
      simp (broken)
