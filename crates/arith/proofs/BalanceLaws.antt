-- Moving an amount between two balances: the sum is kept, nothing falls below zero, and within the limit every balance stays a value.
use mathlib.Core.Path.{◌≡◌, refl, ap}
use mathlib.Core.Bool.{Bool, true, ◌&&◌}
use mathlib.Core.List.{List, [], ◌∷◌, ◌++◌}
use Prim.Native.Nat.{ℕ, zero, suc, ◌+◌, ◌^◌, ◌<◌, ◌≤◌}
use native.Mathlib.Nat.{le_of_suc-le-suc}
use native.Mathlib.Omega.{arith}
use lib.IntN.{ℤ, pos, ◌+ℤ◌, ◌-ℤ◌}
use lib.ListN.{length, get_or, set, length-set}
use lib.Seq.{get_or-set_other}
use lib.Signed.{le_z, non_neg}
use Rattle.arith.proofs.ChoiceLaws.{both}
use Rattle.arith.specs.Balance.{total, none_below_zero, within_limit, largest}
use Rattle.arith.proofs.IntegerLaws.{pos_part, neg_part, N-zero, equal, sum, diff, le_z_true, le_le_z, non_neg_true, non_neg_of}

-- The balance at a place; past the end there is none, and it reads 0.
abbrev pub balance : List ℤ → ℕ → ℤ
balance bs i = get_or bs i (pos 0)

-- The balances after m went from place i to place j.
abbrev pub balances_moved : List ℤ → ℕ → ℕ → ℤ → List ℤ
balances_moved bs i j m = set (set bs i (balance bs i -ℤ m)) j (balance bs j +ℤ m)

-- ---- the sum

pub total_set : (bs : List ℤ) (i : ℕ) (v : ℤ) → i < length bs → pos_part (total (set bs i v)) + neg_part (total bs) + pos_part (balance bs i) + neg_part v ≡ neg_part (total (set bs i v)) + pos_part (total bs) + neg_part (balance bs i) + pos_part v
unfolding total
total_set [] i v h = absurd (omega arith)
total_set (b ∷ bs) zero v h = omega (arith, sum b (total bs), sum v (total bs))
total_set (b ∷ bs) (suc i) v h =
    omega (arith, sum b (total bs), sum b (total (set bs i v)), total_set bs i v (le_of_suc-le-suc h))

pub total_moved : (bs : List ℤ) (i j : ℕ) (m : ℤ) → i < length bs → j < length bs → (j ≡ i → ⊥) → total (balances_moved bs i j m) ≡ total bs
total_moved bs i j m h k d =
    let x = balance bs i in
    let y = balance bs j in
    let cs = set bs i (x -ℤ m) in
    let l : j < length cs = rw length-set k in
    let e : balance cs j ≡ y = get_or-set_other bs i j (x -ℤ m) (pos 0) d in
    let s = total_set cs j (y +ℤ m) l in
    equal (total (balances_moved bs i j m)) (total bs) (omega (arith, total_set bs i (x -ℤ m) h, rw e at s, sum y m, diff x m))

-- ---- no balance below zero

both_and : (a b : Bool) → a ≡ true → b ≡ true → (a && b) ≡ true
both_and a b e f = rw (e, f)

pub balance_from_zero : (bs : List ℤ) (i : ℕ) → none_below_zero bs ≡ true → neg_part (balance bs i) ≡ 0
unfolding none_below_zero
balance_from_zero [] i e = refl
balance_from_zero (b ∷ bs) zero e = non_neg_true b (both (non_neg b) (none_below_zero bs) e).0
balance_from_zero (b ∷ bs) (suc i) e = balance_from_zero bs i (both (non_neg b) (none_below_zero bs) e).1

pub set_from_zero : (bs : List ℤ) (i : ℕ) (v : ℤ) → none_below_zero bs ≡ true → neg_part v ≤ pos_part v → none_below_zero (set bs i v) ≡ true
unfolding none_below_zero
set_from_zero [] i v e h = refl
set_from_zero (b ∷ bs) zero v e h =
    both_and (non_neg v) (none_below_zero bs) (non_neg_of v h) (both (non_neg b) (none_below_zero bs) e).1
set_from_zero (b ∷ bs) (suc i) v e h =
    let o = both (non_neg b) (none_below_zero bs) e in
    both_and (non_neg b) (none_below_zero (set bs i v)) o.0 (set_from_zero bs i v o.1 h)

-- The source had at least m, and m is not below zero.
pub moved_from_zero : (bs : List ℤ) (i j : ℕ) (m : ℤ) → none_below_zero bs ≡ true → non_neg m ≡ true → le_z m (balance bs i) ≡ true → none_below_zero (balances_moved bs i j m) ≡ true
moved_from_zero bs i j m e s l =
    let x = balance bs i in
    let y = balance bs j in
    set_from_zero (set bs i (x -ℤ m)) j (y +ℤ m)
    (set_from_zero bs i (x -ℤ m) e (omega (arith, diff x m, le_z_true m x l)))
    (omega (arith, sum y m, non_neg_true m s, balance_from_zero bs j e))

-- ---- the limit

-- Where none is below zero, the sum is not either, and one balance, or two at different places, are within it.
pub total_from_zero : (bs : List ℤ) → none_below_zero bs ≡ true → neg_part (total bs) ≡ 0
unfolding total none_below_zero
total_from_zero [] e = refl
total_from_zero (b ∷ bs) e =
    let o = both (non_neg b) (none_below_zero bs) e in
    N-zero (b +ℤ total bs) (omega (arith, sum b (total bs), non_neg_true b o.0, total_from_zero bs o.1))

-- The sum of a first balance and the others, and that none of the others is below zero.
total_first : (b : ℤ) (bs : List ℤ) → none_below_zero (b ∷ bs) ≡ true → (pos_part (total (b ∷ bs)) ≡ pos_part b + pos_part (total bs)) × (none_below_zero bs ≡ true)
unfolding total none_below_zero
total_first b bs e =
    let o = both (non_neg b) (none_below_zero bs) e in
    (omega (arith, sum b (total bs), non_neg_true b o.0, total_from_zero bs o.1, total_from_zero (b ∷ bs) e), o.1)

-- Those at the front are not below zero either, and add up to no more than all.
pub total_front : (xs ys : List ℤ) → none_below_zero (xs ++ ys) ≡ true → (none_below_zero xs ≡ true) × (pos_part (total xs) ≤ pos_part (total (xs ++ ys)))
unfolding none_below_zero total
total_front [] ys e = (refl, omega arith)
total_front (x ∷ xs) ys e =
    let o = total_first x (xs ++ ys) e in
    let ih = total_front xs ys o.1 in
    let none : none_below_zero (x ∷ xs) ≡ true = both_and (non_neg x) (none_below_zero xs) (both (non_neg x) (none_below_zero (xs ++ ys)) e).0 ih.0 in
    (none, omega (arith, o.0, (total_first x xs none).0, ih.1))

pub one_below_total : (bs : List ℤ) (i : ℕ) → none_below_zero bs ≡ true → pos_part (balance bs i) ≤ pos_part (total bs)
one_below_total [] i e = omega arith
one_below_total (b ∷ bs) zero e = omega (arith, (total_first b bs e).0)
one_below_total (b ∷ bs) (suc i) e =
    let o = total_first b bs e in
    omega (arith, o.0, one_below_total bs i o.1)

pub two_below_total : (bs : List ℤ) (i j : ℕ) → (j ≡ i → ⊥) → none_below_zero bs ≡ true → pos_part (balance bs i) + pos_part (balance bs j) ≤ pos_part (total bs)
two_below_total [] i j d e = omega arith
two_below_total (b ∷ bs) zero zero d e = absurd (d refl)
two_below_total (b ∷ bs) zero (suc j) d e =
    let o = total_first b bs e in
    omega (arith, o.0, one_below_total bs j o.1)
two_below_total (b ∷ bs) (suc i) zero d e =
    let o = total_first b bs e in
    omega (arith, o.0, one_below_total bs i o.1)
two_below_total (b ∷ bs) (suc i) (suc j) d e =
    let o = total_first b bs e in
    omega (arith, o.0, two_below_total bs i j (λ h. d (ap suc h)) o.1)

-- What the limit says.
pub record BalancesWithin (bs : List ℤ) : Type 0 where
  pub from_zero : none_below_zero bs ≡ true
  pub at_most : pos_part (total bs) < 2 ^ 63

pub limit_within : (bs : List ℤ) → within_limit bs ≡ true → BalancesWithin bs
limit_within bs e =
    let o = both (none_below_zero bs) (le_z (total bs) largest) e in
    record {
      from_zero = o.0;
      at_most = omega (arith, le_z_true (total bs) largest o.1, total_from_zero bs o.0);
    }

pub within_limit_lem : (bs : List ℤ) → BalancesWithin bs → within_limit bs ≡ true
within_limit_lem bs w =
    both_and (none_below_zero bs) (le_z (total bs) largest) w.from_zero
    (le_le_z (total bs) largest (omega (arith, w.at_most)))

-- A value from 0 to the largest passes the test against the largest.
from_zero_largest : (z : ℤ) → neg_part z ≡ 0 → pos_part z < 2 ^ 63 → le_z z largest ≡ true
from_zero_largest z h k = le_le_z z largest (omega arith)

module _ (bs : List ℤ) (e : within_limit bs ≡ true) where
  below_largest : (i : ℕ) → pos_part (balance bs i) < 2 ^ 63
  below_largest i = let w = limit_within bs e in omega (arith, one_below_total bs i w.from_zero, w.at_most)

  -- Each balance is at most the largest.
  pub balance_largest : (i : ℕ) → le_z (balance bs i) largest ≡ true
  balance_largest i = from_zero_largest (balance bs i) (balance_from_zero bs i (limit_within bs e).from_zero) (below_largest i)

  -- So is each balance plus what another could pay.
  module _ (i j : ℕ) (m : ℤ) (d : j ≡ i → ⊥) (s : non_neg m ≡ true) (l : le_z m (balance bs i) ≡ true) where
    taken : (neg_part (balance bs j +ℤ m) ≡ 0) × (pos_part (balance bs j +ℤ m) < 2 ^ 63)
    taken =
        let w = limit_within bs e in
        let x = balance bs i in
        let y = balance bs j in
        let n : neg_part (y +ℤ m) ≡ 0 = N-zero (y +ℤ m) (omega (arith, sum y m, non_neg_true m s, balance_from_zero bs j w.from_zero)) in
        (n, omega (arith, sum y m, non_neg_true m s, balance_from_zero bs j w.from_zero, balance_from_zero bs i w.from_zero, le_z_true m x l, two_below_total bs i j d w.from_zero, w.at_most))

    pub plus_largest : le_z (balance bs j +ℤ m) largest ≡ true
    plus_largest = from_zero_largest (balance bs j +ℤ m) taken.0 taken.1

    -- And the limit holds after the move.
    pub moved_limit : i < length bs → j < length bs → within_limit (balances_moved bs i j m) ≡ true
    moved_limit h k =
        let w = limit_within bs e in
        within_limit_lem (balances_moved bs i j m) (record {
          from_zero = moved_from_zero bs i j m w.from_zero s l;
          at_most = rw (total_moved bs i j m h k d) w.at_most;
        })
