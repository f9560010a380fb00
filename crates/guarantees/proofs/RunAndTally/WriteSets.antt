-- The cells that a call of an opened run may write are those of its write set.
use mathlib.Core.Path.{◌≡◌, sym, ap, ap₂, ◌∙◌}
use mathlib.Core.Bool.{true}
use mathlib.Core.List.{List, map}
use Prim.Native.Nat.{ℕ, ◌<◌}
use native.Mathlib.Omega.{arith}
use lib.ListN.{length, get_or}
use Rattle.wire.specs.Bytes.{padded}
use Rattle.footprint.specs.Access.{Access}
use Rattle.footprint.specs.Sets.{sets_of, write_set}
use Rattle.footprint.specs.Conflict.{member}
use Rattle.footprint.specs.Table.{cell_number}
use Rattle.footprint.specs.Plan.{entry_word, table_words, entry_writes}
use Rattle.footprint.specs.KeyWords.{key_at}
use Rattle.footprint.proofs.TableLaws.{member_at, cell_at_lem}
use Rattle.footprint.proofs.TableWordLaws.{keys_at, keys_padded}
use Rattle.footprint.specs.Listed.{AllListed}
use Rattle.footprint.proofs.EntryLaws.{listed_keys, uses_writes}
use Rattle.block.specs.BlockOfFile.{block_of, call_count}
use Rattle.machine.specs.Run.{Run, Sizes}
use Rattle.machine.specs.declared.Head.{Head}
use Rattle.guarantees.specs.Agreement.{may_write}
use Rattle.guarantees.proofs.CallsOfRun.ViewCalls.{any_entry}
use Rattle.guarantees.proofs.CallsOfRun.ViewEntries.{any_uses}
use Rattle.guarantees.proofs.AcceptedOpening.AfterOpening.{AfterOpening}
use Rattle.guarantees.proofs.FollowingMachine.OpenedRuns.{opened_run, opened_calls}

-- ---- the cells of a table

-- The key at a place of a table's buffer.
pub key_at_lem : (room : ℕ) (table : List ℕ) (x : ℕ) → x < length table → key_at (padded room 0 (table_words table)) x ≡ get_or table x 0
key_at_lem room table x h =
    sym (keys_at (length table) (padded room 0 (table_words table)) x h) ∙ ap (λ (t : List ℕ). get_or t x 0) (keys_padded room table)

-- The entries of a set write a key's cell if the set writes the key.
entries_write : (table : List ℕ) (k : ℕ) → member k table ≡ true → (es : List Access) → AllListed table es
    → any_entry entry_writes (map (entry_word table) es) (cell_number table k) ≡ member k (write_set es)
entries_write table k known es l =
    any_uses entry_writes (map (entry_word table) es) (cell_number table k) ∙ uses_writes table k known es (listed_keys table es l)

-- ---- an opened run

module _ (s : Sizes) (file : List ℕ) (workers : ℕ) (after : AfterOpening s file workers) where
  abbrev r₀ : Run
  r₀ = opened_run s file workers

  cells_are : r₀.head.cells ≡ length after.table
  cells_are = ap (λ (h : Head). h.cells) after.opened.head

  pub may_write_lem : (c : ℕ) → c < call_count file → (x : ℕ) → x < r₀.head.cells
      → may_write file r₀ c x ≡ (opened_calls s file workers).wr c x
  may_write_lem c l x h =
      let o = after.opened.calls c l in
      let inside : x < length after.table = omega (arith, cells_are) in
      let key : key_at r₀.keys x ≡ get_or after.table x 0 =
      ap (λ (ks : List ℕ). key_at ks x) after.opened.keys ∙ key_at_lem s.keys after.table x inside in
      ap₂ (λ (k : ℕ) (es : List Access). member k (write_set es)) key o.1.own
      ∙ sym
      (entries_write after.table (get_or after.table x 0) (member_at after.table x inside)
      (sets_of file (block_of file).functions o.0) o.1.listed)
      ∙ ap₂ (any_entry entry_writes) (sym o.1.entries) (cell_at_lem after.table x after.opened.rising inside)
