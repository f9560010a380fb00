-- Cells that hold a state of the rule: after a store, after an amount has moved, and after a restoration.
use mathlib.Core.Path.{◌≡◌, refl, sym, ap, ◌∙◌}
use mathlib.Core.Bool.{Bool, true, false, false≢true}
use mathlib.Core.List.{List, map}
use Prim.Native.Nat.{ℕ, ◌≤◌, ◌<◌}
use native.Mathlib.Decide.{ℕ_discrete}
use native.Mathlib.Omega.{arith}
use lib.IntN.{ℤ, pos, ◌+ℤ◌, ◌-ℤ◌}
use lib.ListN.{length, set, length-set}
use lib.Seq.{get_or-set_same, get_or-set_other}
use lib.Signed.{lt_z, non_neg}
use Rattle.block.specs.Limits.{max_keys}
use Rattle.block.specs.Key.{is_balance}
use Rattle.footprint.specs.Access.{Access}
use Rattle.footprint.specs.Sets.{write_set}
use Rattle.footprint.specs.Conflict.{member}
use Rattle.footprint.specs.Table.{cell_number}
use Rattle.footprint.specs.Plan.{entry_word, entry_writes}
use Rattle.rule.specs.Rule.{State, update, credit, debit, state_within_limit}
use Rattle.rule.proofs.LimitLaws.{update_same, update_other, balance_key, balance_keys, limit_other, limit_move}
use Rattle.footprint.specs.EntryUses.{some_entry_uses}
use Rattle.footprint.proofs.EntryLaws.{uses_writes}
use Rattle.footprint.proofs.TableLaws.{cell_lt, cell_injective}
use Rattle.machine.specs.Step.{cell_at, saved_of}
use Rattle.machine.specs.CallInRun.{Hold}
use Rattle.machine.proofs.LookupLaws.{KeysInTable, in_each}
use Rattle.machine.proofs.RestoreLaws.{restored_from, restored_length, restored_other, restored_back}

-- Where a call stands in the rule: its cells hold the rule's state, which keeps the balance limit and is like the state at the begin
-- outside the call's write set.
pub record Now (table written : List ℕ) (start σ : State) (cells : List ℤ) : Type 0 where
  pub hold : Hold table σ cells
  pub limit : state_within_limit σ ≡ true
  pub outside : (k : ℕ) → member k written ≡ false → σ k ≡ start k

pub hold_alike : (table : List ℕ) (σ τ : State) (cells : List ℤ) → ((k : ℕ) → σ k ≡ τ k) → Hold table σ cells → Hold table τ cells
hold_alike table σ τ cells e h = record { room = h.room; same = λ k m. h.same k m ∙ e k }

-- The cells after m has moved from the cell of key k to that of key j.
abbrev pub moved_cells : List ℕ → List ℤ → (k j : ℕ) → ℤ → List ℤ
moved_cells table cells k j m =
    set (set cells (cell_number table k) (cell_at cells (cell_number table k) -ℤ m)) (cell_number table j) (cell_at cells (cell_number table j) +ℤ m)

-- A key outside the written ones is none of them.
apart_from : (written : List ℕ) (j k : ℕ) → member k written ≡ true → member j written ≡ false → j ≡ k → ⊥
apart_from written j k in' out e = false≢true (sym out ∙ ap (λ (i : ℕ). member i written) e ∙ in')

module _ (table : List ℕ) (few : length table ≤ max_keys) where
  -- A store to a key's cell.
  pub hold_set : (σ : State) (cells : List ℤ) (k : ℕ) (v : ℤ) → member k table ≡ true → Hold table σ cells
      → Hold table (update σ k v) (set cells (cell_number table k) v)
  hold_set σ cells k v m h =
      record {
        room = rw (length-set cells (cell_number table k) v) h.room;
        same = λ j i. go j i (ℕ_discrete j k);
      }
    where
      go : (j : ℕ) → member j table ≡ true → Dec (j ≡ k) → cell_at (set cells (cell_number table k) v) (cell_number table j) ≡ update σ k v j
      go j i (yes e) =
          let small : cell_number table k < length table = cell_lt table k m in
          let room : max_keys ≤ length cells = h.room in
          rw e (get_or-set_same cells (cell_number table k) v (pos 0) (omega arith) ∙ sym (update_same σ k v))
      go j i (no d) =
          get_or-set_other cells (cell_number table k) (cell_number table j) v (pos 0) (λ s. d (cell_injective table j k i m s))
          ∙ h.same j i ∙ sym (update_other σ k v j d)

  -- An amount that moves from one key's cell to another's.
  pub hold_move : (σ : State) (cells : List ℤ) (k j : ℕ) (m : ℤ) → member k table ≡ true → member j table ≡ true → (j ≡ k → ⊥) → Hold table σ cells
      → Hold table (credit (debit σ k m) j m)
      (moved_cells table cells k j m)
  hold_move σ cells k j m mk mj d h =
      rw (h.same k mk, h.same j mj, ← update_other σ k (σ k -ℤ m) j d)
      (hold_set (debit σ k m) (set cells (cell_number table k) (σ k -ℤ m)) j (debit σ k m j +ℤ m) mj (hold_set σ cells k (σ k -ℤ m) mk h))

  module _ (written : List ℕ) (start σ : State) (cells : List ℤ) (now : Now table written start σ cells) where
    outside_update : (τ : State) (k : ℕ) (v : ℤ) → member k written ≡ true → ((j : ℕ) → member j written ≡ false → τ j ≡ start j)
        → (j : ℕ) → member j written ≡ false → update τ k v j ≡ start j
    outside_update τ k v m h j out = update_other τ k v j (apart_from written j k m out) ∙ h j out

    -- A store to a cell of the write set that is no balance.
    pub now_store : (k : ℕ) (v : ℤ) → member k table ≡ true → member k written ≡ true → is_balance k ≡ false
        → Now table written start (update σ k v) (set cells (cell_number table k) v)
    now_store k v mt mw other =
        record {
          hold = hold_set σ cells k v mt now.hold;
          limit = limit_other σ now.limit k v other;
          outside = outside_update σ k v mw now.outside;
        }

    -- An amount that moves between two balances of the write set.
    pub now_move : (a b : ℕ) → a < 65536 → b < 65536 → (b ≡ a → ⊥) → (m : ℤ) → non_neg m ≡ true → lt_z (σ (balance_key a)) m ≡ false
        → member (balance_key a) table ≡ true → member (balance_key b) table ≡ true
        → member (balance_key a) written ≡ true → member (balance_key b) written ≡ true
        → Now table written start (credit (debit σ (balance_key a) m) (balance_key b) m)
        (moved_cells table cells (balance_key a) (balance_key b) m)
    now_move a b la lb d m s enough ta tb wa wb =
        record {
          hold = hold_move σ cells (balance_key a) (balance_key b) m ta tb (λ e. d (balance_keys b a e)) now.hold;
          limit = limit_move σ now.limit a b la lb m s enough;
          outside =
              outside_update (debit σ (balance_key a) m) (balance_key b) (debit σ (balance_key a) m (balance_key b) +ℤ m) wb
              (outside_update σ (balance_key a) (σ (balance_key a) -ℤ m) wa now.outside);
        }

  -- Restored cells hold the state at the begin.
  pub hold_back : (es : List Access) (start σ : State) (old cells : List ℤ) → KeysInTable table es → Hold table start old → Now table (write_set es) start σ cells
      → Hold table start (restored_from table old es cells)
  hold_back es start σ old cells known first now =
      record {
        room = rw (restored_length words (saved_of words old) cells) now.hold.room;
        same = λ k m. go k m (member k (write_set es)) refl;
      }
    where
      words : List ℕ
      words = map (entry_word table) es

      writes : (k : ℕ) → member k table ≡ true → some_entry_uses entry_writes (cell_number table k) words ≡ member k (write_set es)
      writes k m = uses_writes table k m es (in_each table es known)

      go : (k : ℕ) → member k table ≡ true → (b : Bool) → member k (write_set es) ≡ b → cell_at (restored_from table old es cells) (cell_number table k) ≡ start k
      go k m true e =
          let inside : cell_number table k < length cells = omega (arith, few, cell_lt table k m, now.hold.room) in
          restored_back words old cells (cell_number table k) inside (writes k m ∙ e) ∙ first.same k m
      go k m false e =
          restored_other words (saved_of words old) cells (cell_number table k) (writes k m ∙ e) ∙ now.hold.same k m ∙ now.outside k e
