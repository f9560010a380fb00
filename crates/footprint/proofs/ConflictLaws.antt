-- Laws of the conflict definition: sets that meet, and the bits of a row.
use mathlib.Core.Path.{◌≡◌, refl, sym, ap, ap₂, ◌∙◌}
use mathlib.Core.Bool.{Bool, true, false, ◌&&◌, ◌||◌, not, or_assoc}
use mathlib.Core.List.{List, [], ◌∷◌, ◌++◌}
use Prim.Native.Nat.{ℕ, zero, suc, ◌<◌, ◌≤◌}
use native.Mathlib.Omega.{arith}
use native.Mathlib.Decide.{dec_lt, ℕ_discrete}
use borrow.Author.Tests.{eq-eqb, ne_eqb, lt-ltb, le-ltb}
use lib.Dec.{eqb, ltb}
use lib.ListN.{length, get_or, take, get_or-eq_default}
use lib.Seq.{length-take-le, get_or-take}
use Rattle.std.specs.Prelude.{if◌then◌else◌}
use Rattle.wire.specs.Rows.{in_row}
use Rattle.wire.proofs.RowLaws.{in_row_row_of}
use Rattle.block.specs.Limits.{max_calls}
use Rattle.footprint.specs.Access.{Access}
use Rattle.footprint.specs.Sets.{read_set, write_set}
use Rattle.footprint.specs.Conflict.{member, apart, strong_swap, conflict, conflict_bits, row_for}

-- ---- tests

pub eqb_sym : (a b : ℕ) → eqb a b ≡ eqb b a
eqb_sym a b = go (ℕ_discrete a b)
  where
    go : Dec (a ≡ b) → eqb a b ≡ eqb b a
    go (yes e) = eq-eqb a b e ∙ sym (eq-eqb b a (sym e))
    go (no n) = ne_eqb a b n ∙ sym (ne_eqb b a (λ e. n (sym e)))

pub or-false : (b : Bool) → b ≡ b || false
or-false true = refl
or-false false = refl

pub or_swap : (a b c d : Bool) → (a || b) || (c || d) ≡ (a || c) || (b || d)
or_swap true b c d = refl
or_swap false true true d = refl
or_swap false true false d = refl
or_swap false false c d = refl

pub not_both : (a b : Bool) → not (a && b) ≡ not a || not b
not_both true b = refl
not_both false b = refl

pub not_out : (a b : Bool) → not (not a && b) ≡ a || not b
not_out true b = refl
not_out false b = refl

-- ---- keys in sets

pub member_pick : (k l : ℕ) (ls : List ℕ) (b : Bool) → member k (if b then l ∷ ls else ls) ≡ (b && eqb k l) || member k ls
unfolding member
member_pick k l ls true = refl
member_pick k l ls false = refl

pub member_append : (k : ℕ) (ks ls : List ℕ) → member k (ks ++ ls) ≡ member k ks || member k ls
unfolding member
member_append k [] ls = refl
member_append k (l ∷ ks) ls = ap (λ (b : Bool). eqb k l || b) (member_append k ks ls) ∙ sym (or_assoc (eqb k l) (member k ks) (member k ls))

-- Whether two sets have a key in common.
abbrev pub meet : List ℕ → List ℕ → Bool
meet ks ls = not (apart ks ls)

pub meet_left : (k : ℕ) (ks ls : List ℕ) (b : Bool) → meet (if b then k ∷ ks else ks) ls ≡ (b && member k ls) || meet ks ls
unfolding apart
meet_left k ks ls true = not_out (member k ls) (apart ks ls)
meet_left k ks ls false = refl

pub meet_append : (js ks ls : List ℕ) → meet (js ++ ks) ls ≡ meet js ls || meet ks ls
unfolding apart
meet_append [] ks ls = refl
meet_append (j ∷ js) ks ls =
    not_out (member j ls) (apart (js ++ ks) ls)
    ∙ ap (λ (b : Bool). member j ls || b) (meet_append js ks ls)
    ∙ sym (or_assoc (member j ls) (meet js ls) (meet ks ls))
    ∙ ap (λ (b : Bool). b || meet ks ls) (sym (not_out (member j ls) (apart js ls)))

pub meet_cons : (ks : List ℕ) (l : ℕ) (ls : List ℕ) → meet ks (l ∷ ls) ≡ member l ks || meet ks ls
unfolding apart member
meet_cons [] l ls = refl
meet_cons (k ∷ ks) l ls =
    not_out (member k (l ∷ ls)) (apart ks (l ∷ ls))
    ∙ ap₂ (λ (a b : Bool). (a || member k ls) || b) (eqb_sym k l) (meet_cons ks l ls)
    ∙ or_swap (eqb l k) (member k ls) (member l ks) (meet ks ls)
    ∙ ap (λ (b : Bool). (eqb l k || member l ks) || b) (sym (not_out (member k ls) (apart ks ls)))

pub meet_right : (ks : List ℕ) (l : ℕ) (ls : List ℕ) (b : Bool) → meet ks (if b then l ∷ ls else ls) ≡ (b && member l ks) || meet ks ls
meet_right ks l ls true = meet_cons ks l ls
meet_right ks l ls false = refl

pub meet_none : (ks : List ℕ) → meet ks [] ≡ false
unfolding apart member
meet_none [] = refl
meet_none (k ∷ ks) = meet_none ks

-- ---- rows

pub conflict_length : (sets : List (List Access)) (t : List Access) → length (conflict_bits sets t) ≡ length sets
unfolding conflict_bits
conflict_length [] t = refl
conflict_length (s ∷ sets) t = ap suc (conflict_length sets t)

pub bit_conflict : (t : List Access) (sets : List (List Access)) (i : ℕ) → get_or (conflict_bits sets t) i false ≡ conflict (get_or sets i []) t
unfolding conflict_bits strong_swap apart read_set write_set
bit_conflict t [] i = sym (meet_none (read_set t ++ write_set t))
bit_conflict t (s ∷ sets) zero = refl
bit_conflict t (s ∷ sets) (suc i) = bit_conflict t sets i

-- Bit i of a call's row is set exactly when there is a call i before it and the strong-swap test of the two fails.
pub row_bit : (sets : List (List Access)) (t : List Access) (i : ℕ) → length sets ≤ max_calls → in_row (row_for sets t) i ≡ conflict (get_or sets i []) t
row_bit sets t i short = in_row_row_of (conflict_bits sets t) i (rw (conflict_length sets t) short) ∙ bit_conflict t sets i

-- "Call i is before j if i < j and either one's write set meets the other's reads or writes": every bit of the row of call j.
pub row_exact : (sets : List (List Access)) (j i : ℕ) → j < length sets → length sets ≤ max_calls
    → in_row (row_for (take j sets) (get_or sets j [])) i ≡ (ltb i j && not (strong_swap (get_or sets i []) (get_or sets j [])))
unfolding conflict_bits
row_exact sets j i h short =
    let few : length (take j sets) ≡ j = length-take-le j sets (omega arith) in
    row_bit (take j sets) later i (omega (arith, few)) ∙ go (dec_lt i j) few
  where
    later : List Access
    later = get_or sets j []

    go : Dec (i < j) → length (take j sets) ≡ j → conflict (get_or (take j sets) i []) later ≡ (ltb i j && conflict (get_or sets i []) later)
    go (yes l) few = rw (lt-ltb i j l) (ap (λ (s : List Access). conflict s later) (get_or-take j sets i [] l))
    go (no l) few =
        rw (le-ltb i j (omega arith))
        (ap (λ (s : List Access). conflict s later) (get_or-eq_default (take j sets) [] (omega (arith, few))) ∙ sym (bit_conflict later [] i))
