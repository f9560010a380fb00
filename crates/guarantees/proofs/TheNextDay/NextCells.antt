-- The non-zero cells of a state over a table of keys: they keep the rules of opening cells, and what they open is the state.
use mathlib.Core.Path.{◌≡◌, refl, sym, ap, subst, subst⁻¹, ◌∙◌}
use mathlib.Core.Bool.{Bool, true, false, ◌||◌}
use mathlib.Core.List.{List, [], ◌∷◌, map}
use Prim.Native.Nat.{ℕ, zero, suc, ◌+◌, ◌-◌, ◌^◌, ◌≤◌, ◌<◌}
use native.Mathlib.Nat.{le_refl}
use native.Mathlib.Omega.{arith}
use borrow.Author.Tests.{eqb-true, eqb-false, eq-eqb, lt-ltb}
use lib.Dec.{eqb}
use lib.IntN.{ℤ, pos, negsuc}
use lib.ListN.{length, get_or, drop}
use lib.Signed.{mag, le_z, lt_z, non_neg}
use Rattle.arith.specs.Balance.{total, largest, none_below_zero, within_limit}
use Rattle.arith.proofs.BalanceLaws.{limit_within, within_limit_lem}
use Rattle.std.specs.Prelude.{if◌then◌else◌}
use Rattle.arith.proofs.ChoiceLaws.{both}
use Rattle.arith.specs.Compare.{eq_z}
use Rattle.arith.proofs.IntegerLaws.{pos_part, clash, eq_z_true, eq_z_false}
use Rattle.block.specs.Key.{address_of, address_in, field_in, a_in, b_in, is_balance, key_allowed}
use Rattle.wire.specs.All.{All}
use Rattle.block.specs.Encoding.{Ascending, CellKeeps, CellsKeep}
use Rattle.block.proofs.KeyLaws.{key_parts}
use Rattle.block.specs.Limits.{max_cells}
use Rattle.block.specs.Record.{Cell}
use Rattle.block.specs.Reader.{balances}
use Rattle.block.specs.declared.address.Address.{Address}
use Rattle.block.specs.declared.address.Address.TheVariants.{OfAccount, OfContract}
use Rattle.footprint.specs.Conflict.{member}
use Rattle.rule.proofs.LimitLaws.{balance_key, balances_at, limit_balance}
use Rattle.footprint.specs.Plan.{opening_value}
use Rattle.rule.specs.Rule.{State, balances_in, state_within_limit}
use Rattle.footprint.specs.KeyWords.{Above, RisingKeys}
use Rattle.guarantees.proofs.TheNextDay.KeyFits.{KeyFits, HoldsOfAll, holds_none, holds_cons}
use Rattle.guarantees.proofs.AcceptedOpening.OpeningLimit.{total_first}

-- "all non-zero cells by key": those of a state, of the keys of a rising table.
unfoldable pub cells_of_state : State → List ℕ → List Cell
cells_of_state σ [] = []
cells_of_state σ (k ∷ ks) = if eq_z (σ k) (pos 0) then cells_of_state σ ks else record { key = k; value = σ k } ∷ cells_of_state σ ks

-- ---- the table's first key and the others

first_in : (k : ℕ) (ks : List ℕ) → member k (k ∷ ks) ≡ true
unfolding member
first_in k ks = rw (eq-eqb k k refl)

later_in : (j k : ℕ) (ks : List ℕ) → member j ks ≡ true → member j (k ∷ ks) ≡ true
unfolding member
later_in j k ks m = go (eqb j k)
  where
    go : (t : Bool) → (t || member j ks) ≡ true
    go true = refl
    go false = m

module _ (K : ℕ → Type 0) (k : ℕ) (ks : List ℕ) (all : HoldsOfAll K (k ∷ ks)) where
  pub holds_first : K k
  holds_first = all k (first_in k ks)

  pub holds_later : HoldsOfAll K ks
  holds_later j m = all j (later_in j k ks m)

-- What holds of the cells of the first key and the others, shown of its two cases.
cells_cases : (Q : List Cell → Type 0) (σ : State) (k : ℕ) (ks : List ℕ) → Q (cells_of_state σ ks)
    → (eq_z (σ k) (pos 0) ≡ false → Q (record { key = k; value = σ k } ∷ cells_of_state σ ks)) → Q (cells_of_state σ (k ∷ ks))
unfolding cells_of_state
cells_cases Q σ k ks f g = go (eq_z (σ k) (pos 0)) refl
  where
    go : (t : Bool) → eq_z (σ k) (pos 0) ≡ t → Q (if t then cells_of_state σ ks else record { key = k; value = σ k } ∷ cells_of_state σ ks)
    go true e = f
    go false e = g e

-- ---- what they open

module _ (σ : State) (k : ℕ) where
  -- "an absent cell reads 0"
  pub cells_value : (table : List ℕ) → opening_value (cells_of_state σ table) k ≡ (if member k table then σ k else pos 0)
  unfolding opening_value cells_of_state member
  cells_value [] = refl
  cells_value (l ∷ ls) = go (eq_z (σ l) (pos 0)) refl (eqb k l) refl (cells_value ls)
    where
      either : (t : Bool) → σ k ≡ pos 0 → (if t then σ k else pos 0) ≡ σ k
      either true e = refl
      either false e = sym e

      go : (z : Bool) → eq_z (σ l) (pos 0) ≡ z → (t : Bool) → eqb k l ≡ t → opening_value (cells_of_state σ ls) k ≡ (if member k ls then σ k else pos 0)
          → opening_value (if z then cells_of_state σ ls else record { key = l; value = σ l } ∷ cells_of_state σ ls) k ≡ (if t || member k ls then σ k else pos 0)
      go true none true e ih = ih ∙ either (member k ls) (ap σ (eqb-true k l e) ∙ eq_z_true (σ l) (pos 0) none)
      go true none false e ih = ih
      go false some true e ih = rw e (ap σ (sym (eqb-true k l e)))
      go false some false e ih = rw e ih

  module _ (table : List ℕ) where
    pub cells_kept : member k table ≡ true → opening_value (cells_of_state σ table) k ≡ σ k
    cells_kept m = cells_value table ∙ rw m

    pub cells_absent : member k table ≡ false → opening_value (cells_of_state σ table) k ≡ pos 0
    cells_absent m = cells_value table ∙ rw m

-- ---- their number, order and ranges

cells_few : (σ : State) (table : List ℕ) → length (cells_of_state σ table) ≤ length table
unfolding cells_of_state
cells_few σ [] = omega arith
cells_few σ (k ∷ ks) =
    let rest : length (cells_of_state σ ks) ≤ length ks = cells_few σ ks in
    cells_cases (λ (cs : List Cell). length cs ≤ suc (length ks)) σ k ks (omega arith) (λ e. omega arith)

cells_above : (σ : State) (l : ℕ) (ks : List ℕ) → Above l ks → Above l (map (λ c. c.key) (cells_of_state σ ks))
unfolding cells_of_state
cells_above σ l [] a = tt
cells_above σ l (k ∷ ks) a =
    let rest : Above l (map (λ c. c.key) (cells_of_state σ ks)) = cells_above σ l ks a.1 in
    cells_cases (λ (cs : List Cell). Above l (map (λ c. c.key) cs)) σ k ks rest (λ e. (a.0, rest))

cells_rising : (σ : State) (table : List ℕ) → RisingKeys table → RisingKeys (map (λ c. c.key) (cells_of_state σ table))
unfolding cells_of_state
cells_rising σ [] r = tt
cells_rising σ (k ∷ ks) r =
    let rest : RisingKeys (map (λ c. c.key) (cells_of_state σ ks)) = cells_rising σ ks r.1 in
    cells_cases (λ (cs : List Cell). RisingKeys (map (λ c. c.key) cs)) σ k ks rest (λ e. (cells_above σ k ks r.0, rest))

-- What a key and its value must keep for a cell to be allowed.
pub record KeptCell (σ : State) (k : ℕ) : Type 0 where
  pub key : KeyFits k
  pub value : mag (σ k) < 2 ^ 63
  pub above : is_balance k ≡ true → non_neg (σ k) ≡ true

value_above : (z : ℤ) → non_neg z ≡ true → eq_z z (pos 0) ≡ false → lt_z (pos 0) z ≡ true
value_above (pos n) e f = let some : n ≡ 0 → ⊥ = eqb-false n 0 f in lt-ltb 0 n (omega arith)
value_above (negsuc n) e f = clash e

kept_cell : (σ : State) (k : ℕ) → KeptCell σ k → eq_z (σ k) (pos 0) ≡ false → CellKeeps (record { key = k; value = σ k })
kept_cell σ k own e =
    record {
      key = own.key.small;
      allowed = own.key.allowed;
      value = own.value;
      some = eq_z_false (σ k) (pos 0) e;
      above = λ balance. value_above (σ k) (own.above balance) e;
    }

cells_each : (σ : State) (table : List ℕ) → HoldsOfAll (KeptCell σ) table → All CellKeeps (cells_of_state σ table)
unfolding cells_of_state
cells_each σ [] all = tt
cells_each σ (k ∷ ks) all =
    let own : KeptCell σ k = holds_first (KeptCell σ) k ks all in
    let rest : All CellKeeps (cells_of_state σ ks) = cells_each σ ks (holds_later (KeptCell σ) k ks all) in
    cells_cases (All CellKeeps) σ k ks rest (λ e. (kept_cell σ k own e, rest))

rising_ascends : (ks : List ℕ) → RisingKeys ks → Ascending ks
unfolding Ascending
rising_ascends [] r = tt
rising_ascends (k ∷ []) r = tt
rising_ascends (k ∷ l ∷ ks) r = (r.0.0, rising_ascends (l ∷ ks) r.1)

-- The cells of a state keep the rules of opening cells.
pub cells_open : (σ : State) (table : List ℕ) → RisingKeys table → length table ≤ max_cells → HoldsOfAll (KeptCell σ) table
    → within_limit (balances (cells_of_state σ table)) ≡ true → CellsKeep (cells_of_state σ table)
cells_open σ table rising few kept limit =
    record {
      each = cells_each σ table kept;
      rising = rising_ascends (map (λ c. c.key) (cells_of_state σ table)) (cells_rising σ table rising);
      few = let less : length (cells_of_state σ table) ≤ length table = cells_few σ table in omega arith;
      sum = (both (none_below_zero (balances (cells_of_state σ table))) (le_z (total (balances (cells_of_state σ table))) largest) limit).1;
    }

-- ---- the limit of a state is that of its cells

-- A fitting key with field 0 is that of its address's balance.
no_parts : (address : Address) (a b : ℕ) → key_allowed address 0 a b ≡ true → (a ≡ 0) × (b ≡ 0)
unfolding key_allowed
no_parts (OfAccount account) a b e = let o = both (eqb a 0) (eqb b 0) e in (eqb-true a 0 o.0, eqb-true b 0 o.1)
no_parts (OfContract contract) a b e = let o = both (eqb a 0) (eqb b 0) e in (eqb-true a 0 o.0, eqb-true b 0 o.1)

pub balance_key_lem : (k : ℕ) → KeyFits k → is_balance k ≡ true → (k ≡ balance_key (address_in k)) × (address_in k < 65536)
balance_key_lem k fits own =
    let field : field_in k ≡ 0 = eqb-true (field_in k) 0 own in
    let small : k < 2 ^ 96 = fits.small in
    let o : (a_in k ≡ 0) × (b_in k ≡ 0) = no_parts (address_of (address_in k)) (a_in k) (b_in k) (rw field at fits.allowed) in
    (sym (rw (field, o.0, o.1) at (key_parts k)), omega arith)

-- A sum of balances from a place on: the balance at the place, and those behind it.
drop_total : (bs : List ℤ) (a : ℕ) → none_below_zero bs ≡ true → pos_part (total (drop a bs)) ≡ pos_part (get_or bs a (pos 0)) + pos_part (total (drop (suc a) bs))
unfolding none_below_zero total
drop_total [] zero e = refl
drop_total [] (suc a) e = refl
drop_total (b ∷ bs) zero e = let o = both (non_neg b) (none_below_zero bs) e in total_first b bs o.0 o.1
drop_total (b ∷ bs) (suc a) e = drop_total bs a (both (non_neg b) (none_below_zero bs) e).1

drop_falls : (bs : List ℤ) (d n a : ℕ) → a ≡ d + n → none_below_zero bs ≡ true → pos_part (total (drop a bs)) ≤ pos_part (total (drop n bs))
drop_falls bs zero n a h e = let same : a ≡ n = omega arith in rw same (le_refl _)
drop_falls bs (suc d) n a h e =
    let next : a ≡ suc (d + n) = omega arith in
    rw next (omega (arith, drop_total bs (d + n) e, drop_falls bs d n (d + n) refl e))

above_holds : (l : ℕ) (ks : List ℕ) → Above l ks → HoldsOfAll (λ k. l < k) ks
above_holds l [] a = holds_none (λ k. l < k)
above_holds l (k ∷ ks) a = holds_cons (λ j. l < j) k ks a.0 (above_holds l ks a.1)

module _ (σ : State) (within : state_within_limit σ ≡ true) where
  abbrev all : List ℤ
  all = balances_in σ

  none_below : none_below_zero all ≡ true
  none_below = (limit_within all within).from_zero

  -- A balance of a fitting key is from 0 up.
  pub balance_above : (k : ℕ) → KeyFits k → is_balance k ≡ true → non_neg (σ k) ≡ true
  balance_above k fits own =
      let o = balance_key_lem k fits own in
      subst⁻¹ (λ (j : ℕ). non_neg (σ j) ≡ true) o.0 (limit_balance σ within (address_in k) o.1).0

  -- It is one of the balances from any place on that is not above its address.
  balance_counted : (k n : ℕ) → KeyFits k → is_balance k ≡ true → n ≤ address_in k
      → pos_part (σ k) + pos_part (total (drop (suc (address_in k)) all)) ≤ pos_part (total (drop n all))
  balance_counted k n fits own up =
      let a : ℕ = address_in k in
      let o = balance_key_lem k fits own in
      let here : get_or all a (pos 0) ≡ σ k = balances_at σ a o.1 ∙ ap σ (sym o.0) in
      let counted : pos_part (total (drop a all)) ≡ pos_part (σ k) + pos_part (total (drop (suc a) all)) =
      subst (λ (z : ℤ). pos_part (total (drop a all)) ≡ pos_part z + pos_part (total (drop (suc a) all))) here (drop_total all a none_below) in
      omega (arith, drop_falls all (a - n) n a (omega arith) none_below)

  -- Balances of which none is below zero, and which add up to no more than all balances from n on; and keys of balances from n on.
  abbrev Counted : ℕ → List ℤ → Type 0
  Counted n bs = (none_below_zero bs ≡ true) × (pos_part (total bs) ≤ pos_part (total (drop n all)))

  abbrev From : ℕ → ℕ → Type 0
  From n k = is_balance k ≡ true → n ≤ address_in k

  counted_first : (k n : ℕ) (bs : List ℤ) → KeyFits k → is_balance k ≡ true → n ≤ address_in k → Counted (suc (address_in k)) bs → Counted n (σ k ∷ bs)
  unfolding none_below_zero
  counted_first k n bs fits own up c =
      let above : non_neg (σ k) ≡ true = balance_above k fits own in
      let rest : pos_part (total bs) ≤ pos_part (total (drop (suc (address_in k)) all)) = c.1 in
      let more : pos_part (σ k) + pos_part (total (drop (suc (address_in k)) all)) ≤ pos_part (total (drop n all)) = balance_counted k n fits own up in
      let first : pos_part (total (σ k ∷ bs)) ≡ pos_part (σ k) + pos_part (total bs) = total_first (σ k) bs above c.0 in
      (rw above c.0, omega arith)

  -- A fitting balance key above another has a greater address.
  from_next : (k j : ℕ) → KeyFits k → is_balance k ≡ true → KeyFits j → k < j → From (suc (address_in k)) j
  from_next k j fk own fj less own' =
      let a : ℕ = address_in k in
      let b : ℕ = address_in j in
      let ek : k ≡ balance_key a = (balance_key_lem k fk own).0 in
      let ej : j ≡ balance_key b = (balance_key_lem j fj own').0 in
      multiples a b k j ek ej less
    where
      multiples : (a b k j : ℕ) → k ≡ balance_key a → j ≡ balance_key b → k < j → suc a ≤ b
      multiples a b k j ek ej less = omega arith

  -- The balances of rising keys whose addresses are not below n are such balances.
  balances_counted : (ks : List ℕ) (n : ℕ) → RisingKeys ks → HoldsOfAll KeyFits ks → HoldsOfAll (From n) ks → Counted n (balances (cells_of_state σ ks))
  unfolding cells_of_state balances total none_below_zero
  balances_counted [] n r fit low = (refl, omega arith)
  balances_counted (k ∷ ks) n r fit low =
      let later : (m : ℕ) → HoldsOfAll (From m) ks → Counted m (balances (cells_of_state σ ks)) = λ m. balances_counted ks m r.1 (holds_later KeyFits k ks fit) in
      cells_cases (λ (cs : List Cell). Counted n (balances cs)) σ k ks (later n (holds_later (From n) k ks low))
      (λ e. go later (is_balance k) refl)
    where
      own_fits : KeyFits k
      own_fits = holds_first KeyFits k ks fit

      go : ((m : ℕ) → HoldsOfAll (From m) ks → Counted m (balances (cells_of_state σ ks)))
          → (t : Bool) → is_balance k ≡ t → Counted n (if t then σ k ∷ balances (cells_of_state σ ks) else balances (cells_of_state σ ks))
      go later true own =
          counted_first k n (balances (cells_of_state σ ks)) own_fits own (holds_first (From n) k ks low own)
          (later (suc (address_in k)) (λ j m. from_next k j own_fits own (holds_later KeyFits k ks fit j m) (above_holds k ks r.0 j m)))
      go later false own = later n (holds_later (From n) k ks low)

  -- The balances among the cells of a state within the limit keep the limit.
  pub cells_limit : (table : List ℕ) → RisingKeys table → HoldsOfAll KeyFits table → within_limit (balances (cells_of_state σ table)) ≡ true
  cells_limit table rising fit =
      let c : Counted 0 (balances (cells_of_state σ table)) = balances_counted table 0 rising fit (λ k m own. omega arith) in
      let most : pos_part (total all) < 2 ^ 63 = (limit_within all within).at_most in
      let le : pos_part (total (balances (cells_of_state σ table))) ≤ pos_part (total all) = c.1 in
      within_limit_lem (balances (cells_of_state σ table)) (record { from_zero = c.0; at_most = omega arith })
