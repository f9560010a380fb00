-- What the entries of calls tell: a cell's uses are its key's, and a call waits exactly for the calls in conflict with it.
use mathlib.Core.Path.{◌≡◌, refl, sym, ap, ap₂, ◌∙◌}
use mathlib.Core.Bool.{Bool, true, false, ◌&&◌, ◌||◌, false≢true}
use mathlib.Core.List.{List, [], ◌∷◌, ◌++◌}
use Prim.Native.Nat.{ℕ, ◌+◌, ◌*◌, ◌%◌, ◌<◌}
use native.Mathlib.Decide.{ℕ_discrete}
use native.Mathlib.Omega.{arith}
use borrow.Author.Tests.{eq-eqb, ne_eqb}
use lib.Dec.{eqb, leb}
use lib.ListN.{length}
use Rattle.std.specs.Prelude.{if◌then◌else◌}
use Rattle.wire.specs.Rows.{bit}
use Rattle.footprint.specs.Access.{Access}
use Rattle.footprint.specs.Sets.{read_set, write_set}
use Rattle.footprint.specs.Conflict.{member, apart, strong_swap, conflict}
use Rattle.footprint.proofs.ConflictLaws.{eqb_sym, not_both, member_pick, member_append, meet_left, meet_append, meet_right, meet_none, meet}
use Rattle.wire.specs.All.{All}
use Rattle.footprint.specs.Table.{cell_number}
use Rattle.footprint.proofs.TableLaws.{cell_lt, cell_injective}
use Rattle.footprint.specs.Plan.{entry_word, entry_cell, entry_writes}
use Rattle.footprint.specs.EntryUses.{entry_touches_cell, against, any_of, some_entry_uses, entry_words}
use Rattle.footprint.specs.Listed.{AccessListed, AllListed}

-- ---- cell numbers

-- Keys of the table have equal numbers only if they are equal.
pub number_same : (keys : List ℕ) (k l : ℕ) → member k keys ≡ true → member l keys ≡ true → eqb (cell_number keys k) (cell_number keys l) ≡ eqb k l
number_same keys k l hk hl = go (ℕ_discrete k l)
  where
    go : Dec (k ≡ l) → eqb (cell_number keys k) (cell_number keys l) ≡ eqb k l
    go (yes e) = eq-eqb (cell_number keys k) (cell_number keys l) (ap (cell_number keys) e) ∙ sym (eq-eqb k l e)
    go (no n) =
        ne_eqb (cell_number keys k) (cell_number keys l) (λ e. n (cell_injective keys k l hk hl e)) ∙ sym (ne_eqb k l n)

-- ---- entry words

bit_lt : (b : Bool) → bit b < 2
bit_lt true = omega arith
bit_lt false = omega arith

pub entry_cell_lem : (keys : List ℕ) (e : Access) → entry_cell (entry_word keys e) ≡ cell_number keys e.key
unfolding entry_word
entry_cell_lem keys e =
    let r : bit e.reads < 2 = bit_lt e.reads in
    let w : bit e.writes < 2 = bit_lt e.writes in
    omega arith

flags : (n : ℕ) (r w : Bool) → leb 2 ((n * 4 + bit r + 2 * bit w) % 4) ≡ w
flags n true true = let e : (n * 4 + 1 + 2 * 1) % 4 ≡ 3 = omega arith in ap (leb 2) e
flags n true false = let e : (n * 4 + 1 + 2 * 0) % 4 ≡ 1 = omega arith in ap (leb 2) e
flags n false true = let e : (n * 4 + 0 + 2 * 1) % 4 ≡ 2 = omega arith in ap (leb 2) e
flags n false false = let e : (n * 4 + 0 + 2 * 0) % 4 ≡ 0 = omega arith in ap (leb 2) e

pub entry_writes_lem : (keys : List ℕ) (e : Access) → entry_writes (entry_word keys e) ≡ e.writes
unfolding entry_word
entry_writes_lem keys e = flags (cell_number keys e.key) e.reads e.writes

pub entry_lt : (keys : List ℕ) (e : Access) → member e.key keys ≡ true → entry_word keys e < 4 * length keys
unfolding entry_word
entry_lt keys e h =
    let r : bit e.reads < 2 = bit_lt e.reads in
    let w : bit e.writes < 2 = bit_lt e.writes in
    let n : cell_number keys e.key < length keys = cell_lt keys e.key h in
    omega arith

-- ---- a cell's uses are its key's

-- A key is in a set if it is the first access's key or in the rest of the set.
first_use : (r w q a b : Bool) → r || w ≡ true → q || (a || b) ≡ ((r && q) || a) || ((w && q) || b)
first_use true true true a b h = refl
first_use true true false a b h = refl
first_use true false true a b h = refl
first_use true false false a b h = refl
first_use false true true true b h = refl
first_use false true true false b h = refl
first_use false true false a b h = refl
first_use false false q a b h = absurd (false≢true h)

-- An access to a key of the table.
abbrev pub InKeys : List ℕ → Access → Type 0
InKeys keys e = member e.key keys ≡ true

pub listed_keys : (keys : List ℕ) (s : List Access) → AllListed keys s → All (InKeys keys) s
listed_keys keys [] l = tt
listed_keys keys (e ∷ s) l = (l.0.in_table, listed_keys keys s l.1)

module _ (keys : List ℕ) (k : ℕ) (known : member k keys ≡ true) where
  same_key : (e : Access) → member e.key keys ≡ true → eqb (entry_cell (entry_word keys e)) (cell_number keys k) ≡ eqb k e.key
  same_key e m =
      ap (λ (x : ℕ). eqb x (cell_number keys k)) (entry_cell_lem keys e)
      ∙ number_same keys e.key k m known ∙ eqb_sym e.key k

  pub uses_writes : (s : List Access) → All (InKeys keys) s → some_entry_uses entry_writes (cell_number keys k) (entry_words keys s) ≡ member k (write_set s)
  unfolding any_of member write_set
  uses_writes [] l = refl
  uses_writes (e ∷ s) l =
      ap₂ ◌||◌ (ap₂ ◌&&◌ (entry_writes_lem keys e) (same_key e l.0)) (uses_writes s l.1)
      ∙ sym (member_pick k e.key (write_set s) e.writes)

  uses_touches : (s : List Access) → AllListed keys s
      → some_entry_uses entry_touches_cell (cell_number keys k) (entry_words keys s) ≡ member k (read_set s) || member k (write_set s)
  unfolding any_of member read_set write_set
  uses_touches [] l = refl
  uses_touches (e ∷ s) l =
      ap₂ ◌||◌ (same_key e l.0.in_table) (uses_touches s l.1)
      ∙ first_use e.reads e.writes (eqb k e.key) (member k (read_set s)) (member k (write_set s)) l.0.has_use.used
      ∙ sym (ap₂ ◌||◌ (member_pick k e.key (read_set s) e.reads) (member_pick k e.key (write_set s) e.writes))

-- ---- a call waits exactly for the calls in conflict

uses_pick : (x : ℕ) (es : List ℕ) (b : Bool) → some_entry_uses (if b then entry_touches_cell else entry_writes) x es ≡ if b then some_entry_uses entry_touches_cell x es else some_entry_uses entry_writes x es
uses_pick x es true = refl
uses_pick x es false = refl

-- Whether a call of the second entries waits for one of the first.
abbrev pub entries_wait : List ℕ → List ℕ → Bool
entries_wait earlier later = any_of (λ e. some_entry_uses (against e) (entry_cell e) earlier) later

-- What one access more of the later set adds, for a first set that reads its key by p and writes it by m.
turn : (r w p m x y z : Bool) → r || w ≡ true
    → (if w then p || m else m) || (x || (y || z)) ≡ ((w && (p || m)) || x) || (((r && m) || y) || ((w && m) || z))
turn true true true m x y z h = refl
turn true true false true x y z h = refl
turn true true false false x y z h = refl
turn false true true m x y z h = refl
turn false true false true x y z h = refl
turn false true false false x y z h = refl
turn true false p true true y z h = refl
turn true false p true false y z h = refl
turn true false p false x y z h = refl
turn false false p m x y z h = absurd (false≢true h)

module _ (keys : List ℕ) (s : List Access) (listed : AllListed keys s) where
  entry_waits : (e : Access) → AccessListed keys e
      → some_entry_uses (against (entry_word keys e)) (entry_cell (entry_word keys e)) (entry_words keys s)
      ≡ if e.writes then member e.key (read_set s) || member e.key (write_set s) else member e.key (write_set s)
  entry_waits e l =
      ap₂ (λ (b : Bool) (x : ℕ). some_entry_uses (if b then entry_touches_cell else entry_writes) x (entry_words keys s)) (entry_writes_lem keys e) (entry_cell_lem keys e)
      ∙ uses_pick (cell_number keys e.key) (entry_words keys s) e.writes
      ∙ ap₂ (λ (t u : Bool). if e.writes then t else u) (uses_touches keys e.key l.in_table s listed)
      (uses_writes keys e.key l.in_table s (listed_keys keys s listed))

  -- Where the second set writes what the first has, reads what it writes, or writes what it writes.
  meets : List Access → Bool
  meets t = meet (read_set s ++ write_set s) (write_set t) || (meet (read_set t) (write_set s) || meet (write_set t) (write_set s))

  meets_conflict : (t : List Access) → meets t ≡ conflict s t
  unfolding meets strong_swap
  meets_conflict t =
      ap (λ (b : Bool). meet (read_set s ++ write_set s) (write_set t) || b) (sym (meet_append (read_set t) (write_set t) (write_set s)))
      ∙ sym (not_both (apart (read_set s ++ write_set s) (write_set t)) (apart (read_set t ++ write_set t) (write_set s)))

  meets_more : (e : Access) (t : List Access) → AccessListed keys e
      → (if e.writes then member e.key (read_set s) || member e.key (write_set s) else member e.key (write_set s)) || meets t ≡ meets (e ∷ t)
  unfolding meets read_set write_set
  meets_more e t l =
      turn e.reads e.writes (member e.key (read_set s)) (member e.key (write_set s))
      (meet (read_set s ++ write_set s) (write_set t)) (meet (read_set t) (write_set s)) (meet (write_set t) (write_set s)) l.has_use.used
      ∙ sym
      (ap₂ ◌||◌
      (meet_right (read_set s ++ write_set s) e.key (write_set t) e.writes
      ∙ ap (λ (b : Bool). (e.writes && b) || meet (read_set s ++ write_set s) (write_set t)) (member_append e.key (read_set s) (write_set s)))
      (ap₂ ◌||◌ (meet_left e.key (read_set t) (write_set s) e.reads) (meet_left e.key (write_set t) (write_set s) e.writes)))

  meets_none : false ≡ meets []
  unfolding meets read_set write_set apart
  meets_none = ap (λ (b : Bool). b || false) (sym (meet_none (read_set s ++ write_set s)))

  waits_meets : (t : List Access) → AllListed keys t → entries_wait (entry_words keys s) (entry_words keys t) ≡ meets t
  unfolding any_of
  waits_meets [] l = meets_none
  waits_meets (e ∷ t) l = ap₂ ◌||◌ (entry_waits e l.0) (waits_meets t l.1) ∙ meets_more e t l.0

  pub waits_conflict : (t : List Access) → AllListed keys t → entries_wait (entry_words keys s) (entry_words keys t) ≡ conflict s t
  waits_conflict t l = waits_meets t l ∙ meets_conflict t
