-- The kind 2 records of a sheet are those of the non-zero cells of the state that the run holds.
use mathlib.Core.Path.{◌≡◌, refl, sym, ap, subst, ◌∙◌}
use mathlib.Core.Bool.{Bool, true, false}
use mathlib.Core.List.{List, [], ◌∷◌, ◌++◌, flatten}
use Prim.Native.Nat.{ℕ, zero, suc, ◌+◌, ◌-◌, ◌*◌, ◌^◌, ◌≤◌, ◌<◌}
use native.Mathlib.Nat.{add-zero}
use native.Mathlib.Omega.{arith}
use lib.IntN.{ℤ, pos}
use lib.ListN.{length, get_or}
use lib.Signed.{mag}
use Rattle.std.specs.Prelude.{if◌then◌else◌}
use Rattle.arith.specs.Exact.{unsigned}
use Rattle.arith.specs.Compare.{eq_z}
use Rattle.wire.specs.Bytes.{repeated, padded}
use Rattle.block.specs.Encoding.{cell_record, records, AreBytes}
use Rattle.block.specs.Limits.{max_keys}
use Rattle.footprint.specs.Conflict.{member}
use Rattle.footprint.specs.Plan.{high_word, low_word, table_words, opening_value}
use Rattle.rule.specs.Rule.{State, state_within_limit}
use Rattle.footprint.specs.KeyWords.{RisingKeys}
use Rattle.footprint.proofs.TableLaws.{member_at, cell_at_lem}
use Rattle.machine.specs.CallInRun.{Hold}
use Rattle.machine.specs.Opening.{opening_of}
use Rattle.machine.specs.Run.{Run, Sizes}
use Rattle.machine.specs.Step.{cell_at}
use Rattle.sheet.specs.Sheet.{key_high, key_low, records_of_cell, cell_records}
use Rattle.sheet.proofs.RecordLists.{joined_one, joined_append}
use Rattle.guarantees.proofs.AcceptedOpening.AfterOpening.{AfterOpening}
use Rattle.guarantees.proofs.TheNextDay.CellRecords.{unsigned_zero, sheet_cell}
use Rattle.guarantees.proofs.TheNextDay.KeyFits.{KeyFits, HoldsOfAll, table_fits}
use Rattle.guarantees.proofs.TheNextDay.NextFile.{Carries}
use Rattle.guarantees.proofs.TheNextDay.NextCells.{cells_of_state, holds_first, holds_later, KeptCell, cells_kept, cells_absent, cells_open, balance_above, cells_limit}

-- ---- the sheet's records of cells

-- The words of a table's key.
pub words_at_lem : (t ws : List ℕ) (i : ℕ) → i < length t
    → (key_high (table_words t ++ ws) i ≡ high_word (get_or t i 0)) × (key_low (table_words t ++ ws) i ≡ low_word (get_or t i 0))
unfolding table_words
words_at_lem [] ws i h = absurd (omega arith)
words_at_lem (k ∷ ks) ws zero h = (refl, refl)
words_at_lem (k ∷ ks) ws (suc i) h =
    let high : 2 * suc i ≡ suc (suc (2 * i)) = omega arith in
    let low : 2 * suc i + 1 ≡ suc (suc (2 * i + 1)) = omega arith in
    let rest = words_at_lem ks ws i (omega arith) in
    (rw high rest.0, rw low rest.1)

module _ (σ : State) (keys : List ℕ) (cells : List ℤ) where
  -- The buffers have the key and its value at a cell number.
  record Stands (n k : ℕ) : Type 0 where
    high : key_high keys n ≡ high_word k
    low : key_low keys n ≡ low_word k
    value : cell_at cells n ≡ σ k

  -- The records of the cells from a number on, whose keys are given, are those of the non-zero ones.
  records_are : (ks : List ℕ) (n : ℕ) → ((i : ℕ) → i < length ks → Stands (n + i) (get_or ks i 0)) → HoldsOfAll (λ k. mag (σ k) < 2 ^ 63) ks
      → flatten (cell_records keys cells (length ks) n) ≡ records cell_record (cells_of_state σ ks)
  unfolding cell_records cells_of_state records flatten
  records_are [] n at fit = refl
  records_are (k ∷ ks) n at fit =
      let here : Stands n k = subst (λ (m : ℕ). Stands m k) (add-zero n) (at 0 (omega arith)) in
      let rest : flatten (cell_records keys cells (length ks) (n + 1)) ≡ records cell_record (cells_of_state σ ks) =
      records_are ks (n + 1) (λ i h. let far : n + suc i ≡ n + 1 + i = omega arith in subst (λ (m : ℕ). Stands m (get_or ks i 0)) far (at (suc i) (omega arith)))
      (holds_later (λ j. mag (σ j) < 2 ^ 63) k ks fit) in
      joined_append (records_of_cell (key_high keys n) (key_low keys n) (unsigned 64 (cell_at cells n))) (cell_records keys cells (length ks) (n + 1))
      ∙ rw (here.value, here.high, here.low, rest, sheet_cell k (σ k), unsigned_zero (σ k) (holds_first (λ j. mag (σ j) < 2 ^ 63) k ks fit))
      (go (eq_z (σ k) (pos 0)))
    where
      own : List ℕ
      own = cell_record (record { key = k; value = σ k })

      go : (t : Bool) → flatten (if t then [] else (own ∷ [])) ++ records cell_record (cells_of_state σ ks)
          ≡ records cell_record (if t then cells_of_state σ ks else record { key = k; value = σ k } ∷ cells_of_state σ ks)
      go true = refl
      go false = ap (λ (s : List ℕ). s ++ records cell_record (cells_of_state σ ks)) (joined_one own)

-- ---- over plain data

-- The cells of a table of keys, whose values are of 64 bits.
module _ (table : List ℕ) (σ : State) (kept : HoldsOfAll (KeptCell σ) table) (room : ℕ) (cells : List ℤ)
    (same : (i : ℕ) → i < length table → cell_at cells i ≡ σ (get_or table i 0)) where
  sheet_bytes_lem : flatten (cell_records (padded room 0 (table_words table)) cells (length table) 0) ≡ records cell_record (cells_of_state σ table)
  sheet_bytes_lem =
      records_are σ (padded room 0 (table_words table)) cells table 0
      (λ i h.
      let first : 0 + i ≡ i = omega arith in
      let words = words_at_lem table (repeated (room - length (table_words table)) 0) i h in
      subst (λ (m : ℕ). Stands σ (padded room 0 (table_words table)) cells m (get_or table i 0)) (sym first)
      (record { high = words.0; low = words.1; value = same i h }))
      (λ k m. (kept k m).value)

-- ---- of a run

-- The run has the table's keys, and its cells hold a state within the limit, with values of 64 bits and 0 off the table: its kind 2 records are
-- those of the state's cells.
pub next_day : (r : Run) (table : List ℕ) (σ : State) (room : ℕ) → r.keys ≡ padded room 0 (table_words table) → r.head.cells ≡ length table
    → Hold table σ r.cells → RisingKeys table → length table ≤ max_keys → HoldsOfAll KeyFits table → HoldsOfAll (λ k. mag (σ k) < 2 ^ 63) table
    → state_within_limit σ ≡ true → ((k : ℕ) → member k table ≡ false → σ k ≡ pos 0) → Carries r σ (cells_of_state σ table)
next_day r table σ room keys count hold rising few fit small within none =
    record {
      bytes =
          ap (λ (ks : List ℕ). flatten (cell_records ks r.cells r.head.cells 0)) keys
          ∙ ap (λ (n : ℕ). flatten (cell_records (padded room 0 (table_words table)) r.cells n 0)) count
          ∙ sheet_bytes_lem table σ kept room r.cells
          (λ i h. ap (cell_at r.cells) (sym (cell_at_lem table i rising h)) ∙ hold.same (get_or table i 0) (member_at table i h));
      keeps = cells_open σ table rising few kept (cells_limit σ within table rising fit);
      values = λ k. value k (member k table) refl;
    }
  where
    kept : HoldsOfAll (KeptCell σ) table
    kept k m = record { key = fit k m; value = small k m; above = balance_above σ within k (fit k m) }

    value : (k : ℕ) (t : Bool) → member k table ≡ t → opening_value (cells_of_state σ table) k ≡ σ k
    value k true m = cells_kept σ k table m
    value k false m = cells_absent σ k table m ∙ sym (none k m)

-- After an accepted opening: whatever run still has its keys and its number of cells.
pub opened_next_day : (s : Sizes) (file : List ℕ) (workers : ℕ) → AreBytes file → (o : AfterOpening s file workers) (r : Run) (σ : State)
    → r.keys ≡ (opening_of s file workers).run.keys → r.head.cells ≡ (opening_of s file workers).run.head.cells
    → Hold o.table σ r.cells → HoldsOfAll (λ k. mag (σ k) < 2 ^ 63) o.table → state_within_limit σ ≡ true
    → ((k : ℕ) → member k o.table ≡ false → σ k ≡ pos 0) → Carries r σ (cells_of_state σ o.table)
opened_next_day s file workers bytes o r σ keys count hold small within =
    next_day r o.table σ s.keys (keys ∙ o.opened.keys) (count ∙ ap (λ h. h.cells) o.opened.head) hold o.opened.rising
    o.opened.few_keys (table_fits s file workers bytes o) small within
