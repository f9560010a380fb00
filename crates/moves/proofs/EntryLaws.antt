-- The mathematics of the proofs of `entries`, over plain variables: what is asked of each entry, and the turns over a call's entries.
use mathlib.Core.Path.{◌≡◌, refl, ◌∙◌}
use mathlib.Core.Bool.{Bool, ◌&&◌, ◌||◌, not}
use mathlib.Core.List.{List, [], ◌∷◌}
use mathlib.Core.Logic.{◌⊎◌, inl, inr}
use Prim.Native.Nat.{ℕ, ◌+◌, ◌%◌, ◌≤◌, ◌<◌}
use native.Mathlib.Nat.{add_assoc}
use borrow.Author.Tests.{le-leb}
use lib.Dec.{eqb, ltb}
use lib.IntN.{ℤ, pos}
use lib.ListN.{length, get_or, set, drop}
use Rattle.std.specs.List.{list_all}
use Rattle.std.specs.Prelude.{if◌then◌else◌}
use Rattle.std.proofs.lemmas.List.{at_drop_more}
use Rattle.wire.specs.Bytes.{stored}
use Rattle.block.specs.Limits.{max_call_keys, max_keys}
use Rattle.footprint.specs.Plan.{entry_cell, entry_writes}
use Rattle.machine.specs.Step.{cell_at, entries_allowed, restorable, saved_of, restored}

-- ---- each entry can be used to keep and to restore

abbrev pub entry_allowed : ℕ → Bool
entry_allowed e = not (eqb (e % 4) 0) && (not (entry_writes e) || ltb (entry_cell e) max_keys)

allowed_each : (es : List ℕ) → list_all entry_allowed es ≡ entries_allowed es
unfolding entries_allowed
allowed_each [] = refl
allowed_each (e ∷ es) = rw (allowed_each es)

pub restorable_each : (n : ℕ) {es own : List ℕ} {r : Bool} → n ≤ max_call_keys → own ≡ es → r ≡ list_all entry_allowed own → r ≡ restorable n es
restorable_each n {es} few e f = rw (le-leb n max_call_keys few, ← allowed_each es, ← e) f

-- ---- a turn of keeping stores the next entry's value

pub save_turn : (es : List ℕ) (cells : List ℤ) (base k : ℕ) → k < length es → (now : List ℤ) {next : List ℤ} {old : ℤ}
    → old ≡ (if entry_writes (get_or es k 0) then cell_at cells (entry_cell (get_or es k 0)) else pos 0) → next ≡ set now (base + k) old
    → stored now (base + k) (saved_of (drop k es) cells) ≡ stored next (base + (k + 1)) (saved_of (drop (k + 1) es) cells)
unfolding stored saved_of
save_turn es cells base k l now e f =
    at_drop_more (λ rest. stored now (base + k) (saved_of rest cells)) es k 0 l ∙ rw (f, e, ← add_assoc base k 1)

pub save_end : (cells saved : List ℤ) (at : ℕ) → stored saved at (saved_of [] cells) ≡ saved
unfolding stored saved_of
save_end cells saved at = refl

-- ---- a turn of restoring takes the next entry with its old value

pub restore_turn : (cells : List ℤ) {es more : List ℕ} {saved later next : List ℤ} {e : ℕ} {old : ℤ} → es ≡ e ∷ more → saved ≡ old ∷ later
    → next ≡ (if entry_writes e then set cells (entry_cell e) old else cells) → restored es saved cells ≡ restored more later next
unfolding restored
restore_turn cells f g h = rw (f, g, h)

-- Where either is at its end, all are restored.
pub restore_end : (es : List ℕ) (saved cells : List ℤ) → (es ≡ []) ⊎ (saved ≡ []) → restored es saved cells ≡ cells
unfolding restored
restore_end [] saved cells h = refl
restore_end (e ∷ es) [] cells h = refl
restore_end (e ∷ es) (old ∷ saved) cells (inl f) = absurd cc
restore_end (e ∷ es) (old ∷ saved) cells (inr f) = absurd cc
