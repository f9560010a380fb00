-- Restoring a call's old values: the cells that its entries write are as at its begin, every other cell is as it was; and the entries of
-- a made call can be restored.
use mathlib.Core.Path.{◌≡◌, refl, sym, ap₂, ◌∙◌}
use mathlib.Core.Bool.{Bool, true, false, ◌&&◌, ◌||◌, not, false≢true, or-true}
use mathlib.Core.List.{List, [], ◌∷◌, map}
use Prim.Native.Nat.{ℕ, ◌+◌, ◌*◌, ◌%◌, ◌≤◌, ◌<◌}
use native.Mathlib.Decide.{ℕ_discrete}
use native.Mathlib.Omega.{arith}
use borrow.Author.Tests.{eqb-true, eq-eqb, ne_eqb, lt-ltb, le-leb}
use lib.IntN.{ℤ, pos}
use lib.Dec.{eqb}
use lib.ListN.{length, set, length-set}
use lib.Seq.{get_or-set_same, get_or-set_other}
use Rattle.std.specs.Prelude.{if◌then◌else◌}
use Rattle.arith.proofs.ChoiceLaws.{by_test, if_all, both, neither}
use Rattle.wire.specs.Rows.{bit}
use Rattle.block.specs.Limits.{max_call_keys, max_keys}
use Rattle.footprint.specs.Access.{Access}
use Rattle.wire.specs.All.{All}
use Rattle.footprint.specs.Table.{cell_number}
use Rattle.footprint.specs.Plan.{entry_word, entry_cell, entry_writes}
use Rattle.footprint.specs.Listed.{Used}
use Rattle.footprint.specs.EntryUses.{any_of, some_entry_uses}
use Rattle.footprint.proofs.TableLaws.{cell_lt}
use Rattle.footprint.proofs.EntryLaws.{entry_cell_lem}
use Rattle.machine.proofs.LookupLaws.{KeysInTable, in_first, in_rest}
use Rattle.machine.specs.Step.{cell_at, entries_allowed, restorable, saved_of, restored}

-- ---- the cells after a restoration

-- The cells with one entry's old value restored.
abbrev pub one_restored : ℕ → ℤ → List ℤ → List ℤ
one_restored e old cells = if entry_writes e then set cells (entry_cell e) old else cells

pub onward_length : (e : ℕ) (old : ℤ) (cells : List ℤ) → length (one_restored e old cells) ≡ length cells
onward_length e old cells =
    if_all (λ (l : List ℤ). length l ≡ length cells) (entry_writes e) (λ w. length-set cells (entry_cell e) old) (λ w. refl)

pub restored_length : (es : List ℕ) (saved cells : List ℤ) → length (restored es saved cells) ≡ length cells
unfolding restored
restored_length [] saved cells = refl
restored_length (e ∷ es) [] cells = refl
restored_length (e ∷ es) (old ∷ saved) cells = restored_length es saved (one_restored e old cells) ∙ onward_length e old cells

-- A cell that no entry writes stays.
pub restored_other : (es : List ℕ) (saved cells : List ℤ) (x : ℕ) → some_entry_uses entry_writes x es ≡ false
    → cell_at (restored es saved cells) x ≡ cell_at cells x
unfolding restored any_of
restored_other [] saved cells x h = refl
restored_other (e ∷ es) [] cells x h = refl
restored_other (e ∷ es) (old ∷ saved) cells x h =
    let apart = neither (entry_writes e && eqb (entry_cell e) x) (some_entry_uses entry_writes x es) h in
    restored_other es saved (one_restored e old cells) x apart.1
    ∙ if_all (λ (l : List ℤ). cell_at l x ≡ cell_at cells x) (entry_writes e)
    (λ w. get_or-set_other cells (entry_cell e) x old (pos 0) (λ q. false≢true (sym apart.0 ∙ ap₂ ◌&&◌ w (eq-eqb (entry_cell e) x (sym q)))))
    (λ w. refl)

-- One cell set to its value in another list, if others agree already.
set_back : (s s₁ : List ℤ) (n x : ℕ) → x < length s → (¬ (x ≡ n) → cell_at s x ≡ cell_at s₁ x) → cell_at (set s n (cell_at s₁ n)) x ≡ cell_at s₁ x
set_back s s₁ n x l h = go (ℕ_discrete x n)
  where
    go : Dec (x ≡ n) → cell_at (set s n (cell_at s₁ n)) x ≡ cell_at s₁ x
    go (yes q) = rw q (get_or-set_same s n (cell_at s₁ n) (pos 0) (omega (arith, l)))
    go (no d) = get_or-set_other s n x (cell_at s₁ n) (pos 0) d ∙ h d

-- The old value that an entry keeps.
abbrev kept : ℕ → List ℤ → ℤ
kept e s₁ = if entry_writes e then cell_at s₁ (entry_cell e) else pos 0

-- A cell that is as it was when the old values were kept stays so.
restored_same : (es : List ℕ) (s₁ s : List ℤ) (x : ℕ) → x < length s → cell_at s x ≡ cell_at s₁ x
    → cell_at (restored es (saved_of es s₁) s) x ≡ cell_at s₁ x
unfolding restored saved_of
restored_same [] s₁ s x l h = h
restored_same (e ∷ es) s₁ s x l h =
    restored_same es s₁ (one_restored e (kept e s₁) s) x (rw (onward_length e (kept e s₁) s) l)
    (by_test (λ t. cell_at (if t then set s (entry_cell e) (if t then cell_at s₁ (entry_cell e) else pos 0) else s) x ≡ cell_at s₁ x) (entry_writes e)
    (λ w. set_back s s₁ (entry_cell e) x l (λ d. h)) (λ w. h))

-- A cell that an entry writes is as it was when the old values were kept, also one that stands in two entries.
pub restored_back : (es : List ℕ) (s₁ s : List ℤ) (x : ℕ) → x < length s → some_entry_uses entry_writes x es ≡ true
    → cell_at (restored es (saved_of es s₁) s) x ≡ cell_at s₁ x
unfolding restored saved_of any_of
restored_back [] s₁ s x l m = absurd (false≢true m)
restored_back (e ∷ es) s₁ s x l m =
    go (entry_writes e && eqb (entry_cell e) x) refl m (rw (onward_length e (kept e s₁) s) l)
    (restored_back es s₁ (one_restored e (kept e s₁) s) x (rw (onward_length e (kept e s₁) s) l))
  where
    here : entry_writes e ≡ true → entry_cell e ≡ x → cell_at (one_restored e (kept e s₁) s) x ≡ cell_at s₁ x
    here w q = rw w (set_back s s₁ (entry_cell e) x l (λ d. absurd (d (sym q))))

    go : (b : Bool) → (entry_writes e && eqb (entry_cell e) x) ≡ b → (b || some_entry_uses entry_writes x es) ≡ true
        → x < length (one_restored e (kept e s₁) s)
        → (some_entry_uses entry_writes x es ≡ true → cell_at (restored es (saved_of es s₁) (one_restored e (kept e s₁) s)) x ≡ cell_at s₁ x)
        → cell_at (restored es (saved_of es s₁) (one_restored e (kept e s₁) s)) x ≡ cell_at s₁ x
    go true f m inside rest =
        let h = both (entry_writes e) (eqb (entry_cell e) x) f in
        restored_same es s₁ (one_restored e (kept e s₁) s) x inside (here h.0 (eqb-true (entry_cell e) x h.1))
    go false f m inside rest = rest m

-- The cells after the entries of these accesses are restored from what was kept of `old`.
abbrev pub restored_from : (table : List ℕ) (old : List ℤ) → List Access → List ℤ → List ℤ
restored_from table old es cells = restored (map (entry_word table) es) (saved_of (map (entry_word table) es) old) cells

-- ---- made entries can be restored

flag_used : (n : ℕ) (r w : Bool) → (r || w) ≡ true → eqb ((n * 4 + bit r + 2 * bit w) % 4) 0 ≡ false
flag_used n true true h = let e : (n * 4 + 1 + 2 * 1) % 4 ≡ 0 → ⊥ = omega arith in ne_eqb ((n * 4 + 1 + 2 * 1) % 4) 0 e
flag_used n true false h = let e : (n * 4 + 1 + 2 * 0) % 4 ≡ 0 → ⊥ = omega arith in ne_eqb ((n * 4 + 1 + 2 * 0) % 4) 0 e
flag_used n false true h = let e : (n * 4 + 0 + 2 * 1) % 4 ≡ 0 → ⊥ = omega arith in ne_eqb ((n * 4 + 0 + 2 * 1) % 4) 0 e
flag_used n false false h = absurd (false≢true h)

pub entry_flagged : (table : List ℕ) (e : Access) → Used e → eqb (entry_word table e % 4) 0 ≡ false
unfolding entry_word
entry_flagged table e u = flag_used (cell_number table e.key) e.reads e.writes u.used

module _ (table : List ℕ) (few : length table ≤ max_keys) where
  pub entries_allowed_lem : (es : List Access) → All Used es → KeysInTable table es → entries_allowed (map (entry_word table) es) ≡ true
  unfolding entries_allowed
  entries_allowed_lem [] used known = refl
  entries_allowed_lem (e ∷ es) used known =
      let small : cell_number table e.key < length table = cell_lt table e.key (in_first table e es known) in
      rw (
        entry_flagged table e used.0,
        entry_cell_lem table e,
        lt-ltb (cell_number table e.key) max_keys (omega arith),
        or-true (not (entry_writes (entry_word table e))),
        entries_allowed_lem es used.1 (in_rest table e es known),
      )

  pub made_restorable : (es : List Access) (count : ℕ) → count ≤ max_call_keys → All Used es → KeysInTable table es
      → restorable count (map (entry_word table) es) ≡ true
  made_restorable es count small used known = rw (le-leb count max_call_keys small, entries_allowed_lem es used known)
