-- Laws of a call's entries: those of a set are proper, and entries that do not wait for others share no cell that one of them writes.
use mathlib.Core.Path.{◌≡◌, refl, sym, ap, ◌∙◌}
use mathlib.Core.Bool.{Bool, true, false, ◌&&◌, ◌||◌}
use mathlib.Core.List.{List, [], ◌∷◌, map}
use Prim.Native.Nat.{ℕ, ◌%◌, ◌≤◌, ◌<◌}
use native.Mathlib.Omega.{arith}
use borrow.Author.Tests.{eqb-false, eqb-true}
use lib.Dec.{eqb}
use lib.ListN.{length}
use Rattle.std.specs.Prelude.{if◌then◌else◌}
use Rattle.arith.proofs.ChoiceLaws.{neither}
use Rattle.block.specs.Limits.{max_keys}
use Rattle.schedule.proofs.RunLaws.{one_answer}
use Rattle.footprint.specs.Access.{Access}
use Rattle.footprint.specs.Table.{cell_number}
use Rattle.footprint.specs.Plan.{entry_word, entry_cell, entry_reads, entry_writes}
use Rattle.footprint.specs.EntryUses.{entry_touches_cell, against, any_of, some_entry_uses}
use Rattle.footprint.specs.Listed.{AllListed}
use Rattle.footprint.proofs.EntryLaws.{entry_cell_lem, entries_wait}
use Rattle.footprint.proofs.TableLaws.{cell_lt}
use Rattle.machine.proofs.RestoreLaws.{entry_flagged}
use Rattle.guarantees.proofs.CallsOfRun.ViewCalls.{any_entry, Proper}

-- ---- entries are proper

-- Each entry has a flag, and a cell of the table.
pub entries_proper : (table : List ℕ) (es : List Access) → length table ≤ max_keys → AllListed table es → Proper (map (entry_word table) es)
entries_proper table [] few all = tt
entries_proper table (e ∷ es) few all =
    let inside : cell_number table e.key < length table = cell_lt table e.key all.0.in_table in
    let same : entry_cell (entry_word table e) ≡ cell_number table e.key = entry_cell_lem table e in
    ((eqb-false (entry_word table e % 4) 0 (entry_flagged table e all.0.has_use), omega arith), entries_proper table es few all.1)

-- ---- entries apart

-- Entries that are used in no way that a test allows have no cell by that test.
weaker : (p q : ℕ → Bool) → ((e : ℕ) → p e ≡ true → q e ≡ true) → (x : ℕ) (es : List ℕ) → some_entry_uses q x es ≡ false → any_entry p es x ≡ false
unfolding any_of any_entry
weaker p q h x [] e = refl
weaker p q h x (f ∷ es) e = go (p f) (q f) (eqb (entry_cell f) x) (h f) e (weaker p q h x es)
  where
    go : (a b t : Bool) → (a ≡ true → b ≡ true) → ((b && t) || some_entry_uses q x es) ≡ false → (some_entry_uses q x es ≡ false → any_entry p es x ≡ false)
        → ((a && t) || any_entry p es x) ≡ false
    go true true true i e ih = one_answer refl e
    go true true false i e ih = ih e
    go true false t i e ih = one_answer (i refl) refl
    go false true true i e ih = one_answer refl e
    go false true false i e ih = ih e
    go false false t i e ih = ih e

against_writes : (f e : ℕ) → entry_writes e ≡ true → against f e ≡ true
against_writes f e h = go (entry_writes f)
  where
    go : (b : Bool) → (if b then entry_touches_cell else entry_writes) e ≡ true
    go true = refl
    go false = h

none_left_lem : (p t q a b : Bool) → (q ≡ true → ⊥) → a || b ≡ false → (((p && q) || a) || ((t && q) || b)) ≡ false
none_left_lem p t true a b h e = absurd (h refl)
none_left_lem true true false a b h e = e
none_left_lem true false false a b h e = e
none_left_lem false true false a b h e = e
none_left_lem false false false a b h e = e

join_or : (a b : Bool) → a ≡ false → b ≡ false → a || b ≡ false
join_or a b e f = rw (e, f)

-- The later entries `fs` do not wait for the earlier ones: no write of the one meets an entry of the other.
pub left_apart : (es fs : List ℕ) → entries_wait es fs ≡ false → (x : ℕ) → any_entry entry_writes es x ≡ true
    → (any_entry entry_reads fs x || any_entry entry_writes fs x) ≡ false
unfolding any_of any_entry
left_apart es [] h x e = refl
left_apart es (f ∷ fs) h x e =
    let apart = neither (some_entry_uses (against f) (entry_cell f) es) (entries_wait es fs) h in
    none_left_lem (entry_reads f) (entry_writes f) (eqb (entry_cell f) x) (any_entry entry_reads fs x) (any_entry entry_writes fs x)
    (λ t. one_answer e
    (ap (any_entry entry_writes es) (sym (eqb-true (entry_cell f) x t))
    ∙ weaker entry_writes (against f) (against_writes f) (entry_cell f) es apart.0))
    (left_apart es fs apart.1 x e)

pub right_apart : (es fs : List ℕ) → entries_wait es fs ≡ false → (x : ℕ) → any_entry entry_writes fs x ≡ true
    → (any_entry entry_reads es x || any_entry entry_writes es x) ≡ false
unfolding any_of any_entry
right_apart es [] h x e = one_answer e refl
right_apart es (f ∷ fs) h x e =
    let apart = neither (some_entry_uses (against f) (entry_cell f) es) (entries_wait es fs) h in
    go (entry_writes f) (eqb (entry_cell f) x) refl apart.0 e (right_apart es fs apart.1 x)
  where
    clear : some_entry_uses entry_touches_cell x es ≡ false → (any_entry entry_reads es x || any_entry entry_writes es x) ≡ false
    clear u =
        join_or (any_entry entry_reads es x) (any_entry entry_writes es x)
        (weaker entry_reads entry_touches_cell (λ e h. refl) x es u) (weaker entry_writes entry_touches_cell (λ e h. refl) x es u)

    go : (b q : Bool) → eqb (entry_cell f) x ≡ q → some_entry_uses (if b then entry_touches_cell else entry_writes) (entry_cell f) es ≡ false → ((b && q) || any_entry entry_writes fs x) ≡ true
        → (any_entry entry_writes fs x ≡ true → (any_entry entry_reads es x || any_entry entry_writes es x) ≡ false)
        → (any_entry entry_reads es x || any_entry entry_writes es x) ≡ false
    go true true t u e ih = clear (ap (λ (y : ℕ). some_entry_uses entry_touches_cell y es) (sym (eqb-true (entry_cell f) x t)) ∙ u)
    go true false t u e ih = ih e
    go false true t u e ih = ih e
    go false false t u e ih = ih e
