-- The balance limit of a state: what it says of each balance, and that it is kept where an amount moves between two balances and where
-- another cell changes.
use mathlib.Core.Path.{◌≡◌, refl, sym, ap, ap₂, ◌∙◌}
use mathlib.Core.Bool.{true, false}
use mathlib.Core.List.{List, [], ◌∷◌, ◌++◌, map, map-append}
use Prim.Native.Nat.{ℕ, zero, suc, ◌^◌, ◌<◌}
use native.Mathlib.Omega.{arith}
use native.Mathlib.Decide.{dec_lt, ℕ_discrete}
use borrow.Author.Tests.{eq-eqb, ne_eqb}
use lib.Dec.{lit<}
use lib.IntN.{ℤ, pos, ◌+ℤ◌, ◌-ℤ◌}
use lib.ListN.{length, get_or, set, length-append, length-map, length-set, get_or-append}
use lib.Seq.{get_or-append_seam, get_or-set_same, get_or-set_other, ext_get_or}
use lib.Signed.{lt_z, le_z, non_neg}
use Rattle.arith.specs.Balance.{largest, within_limit}
use Rattle.arith.proofs.BalanceLaws.{balances_moved, balance_from_zero, balance_largest, plus_largest, moved_limit, limit_within}
use Rattle.arith.proofs.IntegerLaws.{equal, sum, diff, lt_z_false, le_le_z, non_neg_of, clash}
use Rattle.wire.specs.Bytes.{below}
use Rattle.block.specs.Key.{key_of, field_in, is_balance}
use Rattle.block.proofs.KeyLaws.{field_of}
use Rattle.rule.specs.Rule.{State, update, credit, debit, balances_in, state_within_limit}

-- ---- a list of the values of a function below n

below_length : (n : ℕ) → length (below n) ≡ n
unfolding below
below_length zero = refl
below_length (suc n) = length-append (below n) (n ∷ []) ∙ (let e : length (below n) ≡ n = below_length n in omega arith)

module _ (g : ℕ → ℤ) where
  listed_length : (n : ℕ) → length (map g (below n)) ≡ n
  listed_length n = length-map (below n) g ∙ below_length n

  listed_at : (n i : ℕ) → i < n → get_or (map g (below n)) i (pos 0) ≡ g i
  unfolding below
  listed_at zero i h = absurd (omega arith)
  listed_at (suc n) i h =
      ap (λ (l : List ℤ). get_or l i (pos 0)) (map-append g (below n) (n ∷ [])) ∙ go (dec_lt i n) (listed_at n i)
    where
      go : Dec (i < n) → (i < n → get_or (map g (below n)) i (pos 0) ≡ g i) → get_or (map g (below n) ++ (g n ∷ [])) i (pos 0) ≡ g i
      go (yes l) ih = get_or-append (map g (below n)) (g n ∷ []) (pos 0) i (rw (listed_length n) l) ∙ ih l
      go (no l) ih =
          let e : i ≡ n = omega arith in
          ap (λ (j : ℕ). get_or (map g (below n) ++ (g n ∷ [])) j (pos 0)) (e ∙ sym (listed_length n))
          ∙ get_or-append_seam (map g (below n)) (g n) [] (pos 0)
          ∙ ap g (sym e)

module _ (g h : ℕ → ℤ) (n : ℕ) where
  listed_alike : ((i : ℕ) → i < n → g i ≡ h i) → map g (below n) ≡ map h (below n)
  listed_alike e =
      ext_get_or (pos 0) (map g (below n)) (map h (below n)) (listed_length g n ∙ sym (listed_length h n))
      (λ i l. let k : i < n = rw (listed_length g n) at l in listed_at g n i k ∙ e i k ∙ sym (listed_at h n i k))

  -- A function that differs at one place has the list with that place set.
  listed_set : (i : ℕ) (v : ℤ) → i < n → h i ≡ v → ((j : ℕ) → (j ≡ i → ⊥) → h j ≡ g j) → map h (below n) ≡ set (map g (below n)) i v
  listed_set i v l e f =
      ext_get_or (pos 0) (map h (below n)) (set (map g (below n)) i v)
      (listed_length h n ∙ sym (length-set (map g (below n)) i v ∙ listed_length g n))
      (λ j k. let m : j < n = rw (listed_length h n) at k in listed_at h n j m ∙ go j m (ℕ_discrete j i))
    where
      go : (j : ℕ) → j < n → Dec (j ≡ i) → h j ≡ get_or (set (map g (below n)) i v) j (pos 0)
      go j m (yes s) =
          ap h s ∙ e ∙ sym (get_or-set_same (map g (below n)) i v (pos 0) (rw (listed_length g n) l))
          ∙ ap (λ (t : ℕ). get_or (set (map g (below n)) i v) t (pos 0)) (sym s)
      go j m (no d) = f j d ∙ sym (listed_at g n j m) ∙ sym (get_or-set_other (map g (below n)) i j v (pos 0) d)

-- ---- states and keys

pub update_same : (σ : State) (k : ℕ) (v : ℤ) → update σ k v k ≡ v
unfolding update
update_same σ k v = rw (eq-eqb k k refl)

pub update_other : (σ : State) (k : ℕ) (v : ℤ) (l : ℕ) → (l ≡ k → ⊥) → update σ k v l ≡ σ l
unfolding update
update_other σ k v l d = rw (ne_eqb l k d)

-- The key of an address's balance.
abbrev pub balance_key : ℕ → ℕ
balance_key address = key_of address 0 0 0

pub balance_keys : (a b : ℕ) → balance_key a ≡ balance_key b → a ≡ b
balance_keys a b e = omega arith

pub balance_is : (address : ℕ) → is_balance (balance_key address) ≡ true
balance_is address = eq-eqb (field_in (balance_key address)) 0 (field_of address 0 0 0 (lit< tt) (lit< tt) (lit< tt))

pub cell_is_not : (address field a b : ℕ) → field < 2 ^ 16 → a < 2 ^ 32 → b < 2 ^ 32 → (field ≡ 0 → ⊥) → is_balance (key_of address field a b) ≡ false
cell_is_not address field a b hf ha hb d =
    ne_eqb (field_in (key_of address field a b)) 0 (λ e. d (sym (field_of address field a b hf ha hb) ∙ e))

minus_plus : (x m : ℤ) → x -ℤ m +ℤ m ≡ x
minus_plus x m = equal (x -ℤ m +ℤ m) x (omega (arith, sum (x -ℤ m) m, diff x m))

-- What is taken from a cell and put back leaves it as it was.
pub move_self : (σ : State) (k : ℕ) (m : ℤ) (l : ℕ) → credit (debit σ k m) k m l ≡ σ l
move_self σ k m l = go (ℕ_discrete l k)
  where
    less : State
    less = debit σ k m

    go : Dec (l ≡ k) → credit less k m l ≡ σ l
    go (yes e) =
        ap (credit less k m) e ∙ update_same less k (less k +ℤ m) ∙ ap (λ (x : ℤ). x +ℤ m) (update_same σ k (σ k -ℤ m))
        ∙ minus_plus (σ k) m
        ∙ ap σ (sym e)
    go (no d) = update_other less k (less k +ℤ m) l d ∙ update_other σ k (σ k -ℤ m) l d

-- ---- the list of all balances

pub balances_at : (σ : State) (a : ℕ) → a < 65536 → get_or (balances_in σ) a (pos 0) ≡ σ (balance_key a)
balances_at σ a h = listed_at (λ address. σ (balance_key address)) 65536 a h

balances_length : (σ : State) → length (balances_in σ) ≡ 65536
balances_length σ = listed_length (λ address. σ (balance_key address)) 65536

balances_update : (σ : State) (a : ℕ) (v : ℤ) → a < 65536 → balances_in (update σ (balance_key a) v) ≡ set (balances_in σ) a v
balances_update σ a v h =
    listed_set (λ address. σ (balance_key address)) (λ address. update σ (balance_key a) v (balance_key address)) 65536 a v h
    (update_same σ (balance_key a) v) (λ j d. update_other σ (balance_key a) v (balance_key j) (λ e. d (balance_keys j a e)))

-- The limit speaks of balances alone.
pub limit_alike : (σ τ : State) → ((a : ℕ) → a < 65536 → σ (balance_key a) ≡ τ (balance_key a)) → state_within_limit σ ≡ state_within_limit τ
limit_alike σ τ e =
    ap within_limit (listed_alike (λ address. σ (balance_key address)) (λ address. τ (balance_key address)) 65536 e)

-- ---- within the limit

-- An amount m that the test of a balance x against it lets pass.
enough : (x m : ℤ) → lt_z x m ≡ false → le_z m x ≡ true
enough x m e = le_le_z m x (lt_z_false x m e)

module _ (σ : State) (within : state_within_limit σ ≡ true) where
  -- Each balance is from 0 to the largest value.
  pub limit_balance : (a : ℕ) → a < 65536 → (non_neg (σ (balance_key a)) ≡ true) × (le_z (σ (balance_key a)) largest ≡ true)
  limit_balance a h =
      let bs : List ℤ = balances_in σ in (
        rw (← balances_at σ a h) (non_neg_of (get_or bs a (pos 0)) (omega (arith, balance_from_zero bs a (limit_within bs within).from_zero))),
        rw (← balances_at σ a h) (balance_largest bs within a),
      )

  -- So is a balance and what another could pay.
  pub limit_sum : (a b : ℕ) → a < 65536 → b < 65536 → (a ≡ b → ⊥) → (m : ℤ) → non_neg m ≡ true → lt_z (σ (balance_key a)) m ≡ false
      → le_z (σ (balance_key b) +ℤ m) largest ≡ true
  limit_sum a b ha hb d m s l =
      let bs : List ℤ = balances_in σ in
      rw (← balances_at σ b hb)
      (plus_largest bs within a b m (λ e. d (sym e)) s (rw (balances_at σ a ha) (enough (σ (balance_key a)) m l)))

  -- A cell that is no balance may take any value.
  pub limit_other : (k : ℕ) (v : ℤ) → is_balance k ≡ false → state_within_limit (update σ k v) ≡ true
  limit_other k v e =
      limit_alike (update σ k v) σ
      (λ a h. update_other σ k v (balance_key a) (λ s. clash (sym (ap is_balance s ∙ e) ∙ balance_is a)))
      ∙ within

  -- An amount that a balance holds may move to another, or to itself.
  pub limit_move : (a b : ℕ) → a < 65536 → b < 65536 → (m : ℤ) → non_neg m ≡ true → lt_z (σ (balance_key a)) m ≡ false
      → state_within_limit (credit (debit σ (balance_key a) m) (balance_key b) m) ≡ true
  limit_move a b ha hb m s l = go (ℕ_discrete b a)
    where
      bs : List ℤ
      bs = balances_in σ

      less : State
      less = debit σ (balance_key a) m

      go : Dec (b ≡ a) → state_within_limit (credit less (balance_key b) m) ≡ true
      go (yes e) =
          rw e (limit_alike (credit less (balance_key a) m) σ (λ i h. move_self σ (balance_key a) m (balance_key i)) ∙ within)
      go (no d) =
          let at_a : get_or bs a (pos 0) ≡ σ (balance_key a) = balances_at σ a ha in
          let at_b : get_or bs b (pos 0) ≡ σ (balance_key b) = balances_at σ b hb in
          let less_b : less (balance_key b) ≡ σ (balance_key b) =
          update_other σ (balance_key a) (σ (balance_key a) -ℤ m) (balance_key b) (λ e. d (balance_keys b a e))
          in
          let lists : balances_in (credit less (balance_key b) m) ≡ balances_moved bs a b m =
          balances_update less b (less (balance_key b) +ℤ m) hb
          ∙ ap₂ (λ (cs : List ℤ) (x : ℤ). set cs b (x +ℤ m)) (balances_update σ a (σ (balance_key a) -ℤ m) ha) less_b
          ∙ ap₂ (λ (x y : ℤ). set (set bs a (x -ℤ m)) b (y +ℤ m)) (sym at_a) (sym at_b)
          in
          ap within_limit lists
          ∙ moved_limit bs within a b m d s (rw at_a (enough (σ (balance_key a)) m l)) (rw (balances_length σ) ha) (rw (balances_length σ) hb)
