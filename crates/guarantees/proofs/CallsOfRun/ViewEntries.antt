-- The entries of a call: which cell a lookup finds, and what is kept of the cells and restored in them.
use mathlib.Core.Path.{◌≡◌, refl, sym, ap, ◌∙◌}
use mathlib.Core.Bool.{Bool, true, false, ◌&&◌, ◌||◌, not, or-true, false≢true}
use mathlib.Core.List.{List, [], ◌∷◌}
use Prim.Native.Nat.{ℕ, ◌≤◌, ◌<◌}
use native.Mathlib.Omega.{arith}
use native.Mathlib.Decide.{ℕ_discrete}
use borrow.Author.Tests.{ltb-true, not-false, eqb-true, eq-eqb}
use lib.IntN.{ℤ, pos}
use lib.Dec.{eqb, leb, ltb}
use lib.ListN.{length, set}
use lib.Seq.{get_or-set_same, get_or-set_other}
use Rattle.std.specs.Prelude.{if◌then◌else◌, None, Option, Some}
use Rattle.arith.proofs.ChoiceLaws.{both, by_test, if_all}
use Rattle.schedule.proofs.RunLaws as runs
use Rattle.block.specs.Limits.{max_call_keys, max_keys}
use Rattle.footprint.specs.Access.{Access}
use Rattle.footprint.specs.EntryUses.{any_of, some_entry_uses}
use Rattle.machine.specs.Run.{has_key}
use Rattle.footprint.specs.Plan.{entry_cell, entry_reads, entry_writes}
use Rattle.machine.proofs.RestoreLaws.{one_restored, onward_length, restored_other, restored_back}
use Rattle.machine.specs.Step.{View, find_entry, lookup, cell_at, saved_of, restored}
use Rattle.guarantees.proofs.CallsOfRun.ViewCalls.{any_entry, Proper}

-- ---- what a lookup finds

-- The cell has a number of the table and the key, and an entry with the flags that the access wants.
pub record EntryFound (keys es : List ℕ) (a : Access) (n : ℕ) : Type 0 where
  pub low : n < max_keys
  pub key : has_key keys n a.key ≡ true
  pub read : a.reads ≡ true → any_entry entry_reads es n ≡ true
  pub written : a.writes ≡ true → any_entry entry_writes es n ≡ true

abbrev pub Finds : (keys es : List ℕ) → Access → Option ℕ → Type 0
Finds keys es a (Some n) = EntryFound keys es a n
Finds keys es a None = Unit {0}

any_first : (test : ℕ → Bool) (e : ℕ) (es : List ℕ) → test e ≡ true → any_entry test (e ∷ es) (entry_cell e) ≡ true
unfolding any_entry
any_first test e es t = rw (t, eq-eqb (entry_cell e) (entry_cell e) refl)

any_later : (test : ℕ → Bool) (e : ℕ) (es : List ℕ) (x : ℕ) → any_entry test es x ≡ true → any_entry test (e ∷ es) x ≡ true
unfolding any_entry
any_later test e es x h = rw h (or-true (test e && eqb (entry_cell e) x))

-- The same, by the test of the analysis.
pub any_uses : (test : ℕ → Bool) (es : List ℕ) (x : ℕ) → any_entry test es x ≡ some_entry_uses test x es
unfolding any_entry any_of
any_uses test [] x = refl
any_uses test (e ∷ es) x = ap (λ (b : Bool). (test e && eqb (entry_cell e) x) || b) (any_uses test es x)

-- A cell of an entry is one of the table.
any_low : (test : ℕ → Bool) (es : List ℕ) → Proper es → (x : ℕ) → any_entry test es x ≡ true → x < max_keys
unfolding any_entry
any_low test [] p x m = absurd (false≢true m)
any_low test (e ∷ es) p x m = go (test e && eqb (entry_cell e) x) refl m (any_low test es p.1 x)
  where
    go : (b : Bool) → (test e && eqb (entry_cell e) x) ≡ b → (b || any_entry test es x) ≡ true → (any_entry test es x ≡ true → x < max_keys)
        → x < max_keys
    go true f m later = omega (arith, p.0.1, eqb-true (entry_cell e) x (both (test e) (eqb (entry_cell e) x) f).1)
    go false f m later = later m

-- A flag that is wanted is there.
wanted : (want flag : Bool) → (not want || flag) ≡ true → want ≡ true → flag ≡ true
wanted true flag h w = h
wanted false flag h w = absurd (false≢true w)

later : (keys : List ℕ) (e : ℕ) (es : List ℕ) (a : Access) (k : Option ℕ) → Finds keys es a k → Finds keys (e ∷ es) a k
later keys e es a (Some n) f =
    record {
      low = f.low;
      key = f.key;
      read = λ r. any_later entry_reads e es n (f.read r);
      written = λ w. any_later entry_writes e es n (f.written w);
    }
later keys e es a None f = tt

find_finds : (keys es : List ℕ) (a : Access) → Finds keys es a (find_entry keys es a)
unfolding find_entry
find_finds keys [] a = tt
find_finds keys (e ∷ es) a =
    if_all (Finds keys (e ∷ es) a) (not (ltb (entry_cell e) max_keys)) (λ h. tt) λ low.
    if_all (Finds keys (e ∷ es) a) (has_key keys (entry_cell e) a.key)
    (λ h.
    if_all (Finds keys (e ∷ es) a) ((not a.reads || entry_reads e) && (not a.writes || entry_writes e))
    (λ flags.
    let f = both (not a.reads || entry_reads e) (not a.writes || entry_writes e) flags in
    record {
      low = ltb-true (entry_cell e) max_keys (not-false (ltb (entry_cell e) max_keys) low);
      key = h;
      read = λ r. any_first entry_reads e es (wanted a.reads (entry_reads e) f.0 r);
      written = λ w. any_first entry_writes e es (wanted a.writes (entry_writes e) f.1 w);
    })
    (λ h. tt))
    (λ h. later keys e es a (find_entry keys es a) (find_finds keys es a))

pub lookup_finds : (v : View) (a : Access) → Finds v.keys v.entries a (lookup v a)
unfolding lookup
lookup_finds v a =
    if_all (Finds v.keys v.entries a) (leb v.count max_call_keys) (λ h. find_finds v.keys v.entries a) (λ h. tt)

-- ---- one cell set

-- In two lists of cells that both have the cell.
pub set_alike : (s s' : List ℤ) (n : ℕ) (z : ℤ) (x : ℕ) → n < length s → n < length s' → cell_at s x ≡ cell_at s' x
    → cell_at (set s n z) x ≡ cell_at (set s' n z) x
set_alike s s' n z x l l' e = go (ℕ_discrete x n)
  where
    go : Dec (x ≡ n) → cell_at (set s n z) x ≡ cell_at (set s' n z) x
    go (yes q) = rw q (get_or-set_same s n z (pos 0) l ∙ sym (get_or-set_same s' n z (pos 0) l'))
    go (no h) = get_or-set_other s n x z (pos 0) h ∙ e ∙ sym (get_or-set_other s' n x z (pos 0) h)

-- Where an entry that is written has the first cell and none has the second, they differ.
pub set_outside : (es : List ℕ) (s : List ℤ) (n : ℕ) (z : ℤ) (x : ℕ) → any_entry entry_writes es n ≡ true → any_entry entry_writes es x ≡ false
    → cell_at (set s n z) x ≡ cell_at s x
set_outside es s n z x w f = get_or-set_other s n x z (pos 0) (λ q. runs.one_answer w (ap (any_entry entry_writes es) (sym q) ∙ f))

-- ---- the write set kept and restored

-- What is kept depends on the cells that are written.
pub saved_alike : (es : List ℕ) (s s' : List ℤ) → ((x : ℕ) → any_entry entry_writes es x ≡ true → cell_at s x ≡ cell_at s' x)
    → saved_of es s ≡ saved_of es s'
unfolding saved_of
saved_alike [] s s' h = refl
saved_alike (e ∷ es) s s' h =
    go (entry_writes e) (λ w. h (entry_cell e) (any_first entry_writes e es w))
    (saved_alike es s s' (λ x m. h x (any_later entry_writes e es x m)))
  where
    go : (b : Bool) → (b ≡ true → cell_at s (entry_cell e) ≡ cell_at s' (entry_cell e)) → saved_of es s ≡ saved_of es s'
        → (if b then cell_at s (entry_cell e) else pos 0) ∷ saved_of es s ≡ (if b then cell_at s' (entry_cell e) else pos 0) ∷ saved_of es s'
    go true first rest = rw (first refl, rest)
    go false first rest = ap (λ (t : List ℤ). pos 0 ∷ t) rest

-- Other cells stay.
pub restored_frame : (es : List ℕ) (saved cells : List ℤ) (x : ℕ) → any_entry entry_writes es x ≡ false
    → cell_at (restored es saved cells) x ≡ cell_at cells x
restored_frame es saved cells x h = restored_other es saved cells x (sym (any_uses entry_writes es x) ∙ h)

onward_good : (e : ℕ) (old : ℤ) (s : List ℤ) → max_keys ≤ length s → max_keys ≤ length (one_restored e old s)
onward_good e old s g = rw (onward_length e old s) g

-- The cells behind a restore depend on the same cells before it.
pub restored_alike : (es : List ℕ) → Proper es → (saved s s' : List ℤ) (x : ℕ) → max_keys ≤ length s → max_keys ≤ length s'
    → cell_at s x ≡ cell_at s' x → cell_at (restored es saved s) x ≡ cell_at (restored es saved s') x
unfolding restored
restored_alike [] p saved s s' x g g' h = h
restored_alike (e ∷ es) p [] s s' x g g' h = h
restored_alike (e ∷ es) p (old ∷ saved) s s' x g g' h =
    let low : entry_cell e < max_keys = p.0.1 in
    restored_alike es p.1 saved (one_restored e old s) (one_restored e old s') x (onward_good e old s g) (onward_good e old s' g')
    (by_test
    (λ t. cell_at (if t then set s (entry_cell e) old else s) x ≡ cell_at (if t then set s' (entry_cell e) old else s') x) (entry_writes e)
    (λ w. set_alike s s' (entry_cell e) old x (omega arith) (omega arith) h) (λ w. h))

-- Every cell of the write set is as it was when the old values were kept.
pub written_back : (es : List ℕ) → Proper es → (s₁ s : List ℤ) (x : ℕ) → max_keys ≤ length s → any_entry entry_writes es x ≡ true
    → cell_at (restored es (saved_of es s₁) s) x ≡ cell_at s₁ x
written_back es p s₁ s x g m =
    let low : x < max_keys = any_low entry_writes es p x m in
    restored_back es s₁ s x (omega arith) (sym (any_uses entry_writes es x) ∙ m)
