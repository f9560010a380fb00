-- The state that the opening's cells make keeps the balance limit: the balances of all addresses add up to no more than those among the
-- cells.
use mathlib.Core.Path.{◌≡◌, refl, sym, ap, subst, ◌∙◌}
use mathlib.Core.Bool.{Bool, true, false, ◌&&◌, false≢true}
use mathlib.Core.List.{List, [], ◌∷◌, ◌++◌, map, map-append}
use Prim.Native.Nat.{ℕ, zero, suc, ◌+◌, ◌^◌, ◌≤◌, ◌<◌}
use native.Mathlib.Omega.{arith}
use borrow.Author.Tests.{eqb-true, ne_eqb}
use lib.Dec.{eqb}
use lib.IntN.{ℤ, pos, ◌+ℤ◌}
use lib.Signed.{non_neg}
use Rattle.std.specs.Prelude.{if◌then◌else◌}
use Rattle.arith.proofs.ChoiceLaws.{both}
use Rattle.arith.specs.Balance.{total, none_below_zero, within_limit}
use Rattle.arith.proofs.BalanceLaws.{BalancesWithin, limit_within, within_limit_lem, total_from_zero}
use Rattle.arith.proofs.IntegerLaws.{pos_part, neg_part, sum, non_neg_true, N-zero}
use Rattle.wire.specs.Bytes.{below}
use Rattle.block.specs.Key.{is_balance}
use Rattle.block.specs.Record.{Cell}
use Rattle.block.specs.Reader.{balances}
use Rattle.rule.proofs.LimitLaws.{balance_key, balance_is}
use Rattle.footprint.specs.Plan.{opening_value}
use Rattle.rule.specs.Rule.{state_within_limit}

-- ---- sums over the addresses below n

unfoldable sum_below : (ℕ → ℕ) → ℕ → ℕ
sum_below f zero = 0
sum_below f (suc n) = sum_below f n + f n

sum_none : (f : ℕ → ℕ) (n : ℕ) → ((a : ℕ) → a < n → f a ≡ 0) → sum_below f n ≡ 0
unfolding sum_below
sum_none f zero h = refl
sum_none f (suc n) h = omega (arith, sum_none f n (λ a l. h a (omega arith)), h n (omega arith))

sum_le : (f g h : ℕ → ℕ) (n : ℕ) → ((a : ℕ) → f a ≤ g a + h a) → sum_below f n ≤ sum_below g n + sum_below h n
unfolding sum_below
sum_le f g h zero le = omega arith
sum_le f g h (suc n) le = omega (arith, sum_le f g h n le, le n)

-- A value that stands at one key is counted for one address at most.
abbrev single : ℕ → ℕ → ℕ → ℕ
single k v address = if eqb (balance_key address) k then v else 0

sum_single : (k v n : ℕ) → sum_below (single k v) n ≤ v
unfolding sum_below
sum_single k v zero = omega arith
sum_single k v (suc n) = go (eqb (balance_key n) k) refl (sum_single k v n)
  where
    go : (b : Bool) → eqb (balance_key n) k ≡ b → sum_below (single k v) n ≤ v → sum_below (single k v) n + (if b then v else 0) ≤ v
    go true e ih =
        let same : balance_key n ≡ k = eqb-true (balance_key n) k e in
        let others : sum_below (single k v) n ≡ 0 =
        sum_none (single k v) n (λ a less. let differ : balance_key a ≡ k → ⊥ = omega arith in rw (ne_eqb (balance_key a) k differ)) in
        omega arith
    go false e ih = omega arith

-- ---- the total of a state's balances

total_snoc : (bs : List ℤ) (z : ℤ) → pos_part (total (bs ++ (z ∷ []))) + (neg_part (total bs) + neg_part z) ≡ pos_part (total bs) + pos_part z + neg_part (total (bs ++ (z ∷ [])))
unfolding total
total_snoc [] z = omega (arith, sum z (pos 0))
total_snoc (b ∷ bs) z = omega (arith, sum b (total bs), sum b (total (bs ++ (z ∷ []))), total_snoc bs z)

none_snoc : (bs : List ℤ) (z : ℤ) → none_below_zero bs ≡ true → non_neg z ≡ true → none_below_zero (bs ++ (z ∷ [])) ≡ true
unfolding none_below_zero
none_snoc [] z e h = rw h
none_snoc (b ∷ bs) z e h = go (non_neg b) (none_below_zero bs) e (λ f. none_snoc bs z f h)
  where
    go : (s t : Bool) → (s && t) ≡ true → (t ≡ true → none_below_zero (bs ++ (z ∷ [])) ≡ true) → (s && none_below_zero (bs ++ (z ∷ []))) ≡ true
    go true t e f = f e
    go false t e f = e

pub total_first : (b : ℤ) (bs : List ℤ) → non_neg b ≡ true → none_below_zero bs ≡ true → pos_part (total (b ∷ bs)) ≡ pos_part b + pos_part (total bs)
unfolding total
total_first b bs h e =
    let own : neg_part b ≡ 0 = non_neg_true b h in
    let rest : neg_part (total bs) ≡ 0 = total_from_zero bs e in
    let whole : neg_part (b +ℤ total bs) ≡ 0 = N-zero (b +ℤ total bs) (omega (arith, sum b (total bs))) in
    omega (arith, sum b (total bs))

module _ (f : ℕ → ℤ) (above : (a : ℕ) → non_neg (f a) ≡ true) where
  none_map : (n : ℕ) → none_below_zero (map f (below n)) ≡ true
  unfolding below none_below_zero
  none_map zero = refl
  none_map (suc n) = rw (map-append f (below n) (n ∷ [])) (none_snoc (map f (below n)) (f n) (none_map n) (above n))

  total_map : (n : ℕ) → pos_part (total (map f (below n))) ≡ sum_below (λ a. pos_part (f a)) n
  unfolding below total sum_below
  total_map zero = refl
  total_map (suc n) =
      rw (map-append f (below n) (n ∷ []))
      (omega (
        arith,
        total_snoc (map f (below n)) (f n),
        total_map n,
        total_from_zero (map f (below n)) (none_map n),
        non_neg_true (f n) (above n),
        total_from_zero (map f (below n) ++ (f n ∷ [])) (none_snoc (map f (below n)) (f n) (none_map n) (above n)),
      ))

-- ---- the opening's cells

-- Where no balance among the cells is below zero: the first cell, and the others.
first_from_zero : (c : Cell) (cs : List Cell) → none_below_zero (balances (c ∷ cs)) ≡ true
    → (is_balance c.key ≡ true → non_neg c.value ≡ true) × (none_below_zero (balances cs) ≡ true)
unfolding balances none_below_zero
first_from_zero c cs e = go (is_balance c.key) e
  where
    go : (b : Bool) → none_below_zero (if b then c.value ∷ balances cs else balances cs) ≡ true
        → (b ≡ true → non_neg c.value ≡ true) × (none_below_zero (balances cs) ≡ true)
    go true f = let o = both (non_neg c.value) (none_below_zero (balances cs)) f in ((λ g. o.0), o.1)
    go false f = ((λ g. absurd (false≢true g)), f)

-- No balance of the opening's state is below zero.
value_above : (cs : List Cell) → none_below_zero (balances cs) ≡ true → (a : ℕ) → non_neg (opening_value cs (balance_key a)) ≡ true
unfolding opening_value
value_above [] e a = refl
value_above (c ∷ cs) e a = go (eqb (balance_key a) c.key) refl (value_above cs (first_from_zero c cs e).1 a)
  where
    go : (b : Bool) → eqb (balance_key a) c.key ≡ b → non_neg (opening_value cs (balance_key a)) ≡ true
        → non_neg (if b then c.value else opening_value cs (balance_key a)) ≡ true
    go true f ih = (first_from_zero c cs e).0 (subst (λ (k : ℕ). is_balance k ≡ true) (eqb-true (balance_key a) c.key f) (balance_is a))
    go false f ih = ih

-- Their sum is at most that of the balances among the cells: each cell counts for one address at most, and only as a balance.
value_sum : (cs : List Cell) → none_below_zero (balances cs) ≡ true → (n : ℕ) → sum_below (λ a. pos_part (opening_value cs (balance_key a))) n ≤ pos_part (total (balances cs))
unfolding opening_value balances
value_sum [] e n = rw (sum_none (λ a. 0) n (λ a h. refl)) (omega arith)
value_sum (c ∷ cs) e n =
    let rest : none_below_zero (balances cs) ≡ true = (first_from_zero c cs e).1 in
    let parts : sum_below (λ a. pos_part (opening_value (c ∷ cs) (balance_key a))) n ≤ sum_below (single c.key (pos_part c.value)) n + sum_below (λ a. pos_part (opening_value cs (balance_key a))) n =
    sum_le (λ a. pos_part (opening_value (c ∷ cs) (balance_key a))) (single c.key (pos_part c.value)) (λ a. pos_part (opening_value cs (balance_key a))) n
    (λ a. part (eqb (balance_key a) c.key) (opening_value cs (balance_key a))) in
    let ih : sum_below (λ a. pos_part (opening_value cs (balance_key a))) n ≤ pos_part (total (balances cs)) = value_sum cs rest n in
    go (is_balance c.key) refl parts ih rest
  where
    part : (b : Bool) (z : ℤ) → pos_part (if b then c.value else z) ≤ (if b then pos_part c.value else 0) + pos_part z
    part true z = omega arith
    part false z = omega arith

    go : (b : Bool) → is_balance c.key ≡ b
        → sum_below (λ a. pos_part (opening_value (c ∷ cs) (balance_key a))) n ≤ sum_below (single c.key (pos_part c.value)) n + sum_below (λ a. pos_part (opening_value cs (balance_key a))) n
        → sum_below (λ a. pos_part (opening_value cs (balance_key a))) n ≤ pos_part (total (balances cs)) → none_below_zero (balances cs) ≡ true
        → sum_below (λ a. pos_part (opening_value (c ∷ cs) (balance_key a))) n ≤ pos_part (total (if b then c.value ∷ balances cs else balances cs))
    go true own parts ih rest =
        omega (arith, sum_single c.key (pos_part c.value) n, total_first c.value (balances cs) ((first_from_zero c cs e).0 own) rest)
    go false own parts ih rest =
        let nowhere : sum_below (single c.key (pos_part c.value)) n ≡ 0 =
        sum_none (single c.key (pos_part c.value)) n
        (λ a h. rw (ne_eqb (balance_key a) c.key (λ f. false≢true (sym own ∙ ap is_balance (sym f) ∙ balance_is a)))) in
        omega arith

-- The state that an opening's cells make keeps the limit that its balances keep.
pub opening_limit : (cs : List Cell) → within_limit (balances cs) ≡ true → state_within_limit (opening_value cs) ≡ true
opening_limit cs e =
    let w : BalancesWithin (balances cs) = limit_within (balances cs) e in
    let above : (a : ℕ) → non_neg (opening_value cs (balance_key a)) ≡ true = value_above cs w.from_zero in
    within_limit_lem (map (λ a. opening_value cs (balance_key a)) (below 65536))
    (record {
      from_zero = none_map (λ a. opening_value cs (balance_key a)) above 65536;
      at_most = rw (total_map (λ a. opening_value cs (balance_key a)) above 65536) (under (value_sum cs w.from_zero 65536) w.at_most);
    })
  where
    under : {m n : ℕ} → m ≤ n → n < 2 ^ 63 → m < 2 ^ 63
    under h k = omega arith
