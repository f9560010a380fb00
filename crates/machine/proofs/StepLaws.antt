-- One step of a call: its range, how many steps it can still take at most, what an action that fits its place is, and what that leaves.
use Rattle.arith.specs.declared.NoResult.TheVariants.{Overflow, ZeroDivisor}
use Rattle.arith.specs.declared.NoResult.{NoResult}
use Rattle.block.specs.declared.address.Account.{Account}
use mathlib.Core.Path.{◌≡◌, refl, subst, ◌∙◌}
use mathlib.Core.Bool.{Bool, true, ◌&&◌, not}
use mathlib.Core.List.{List, [], ◌∷◌}
use Prim.Native.Nat.{ℕ, ◌+◌, ◌-◌, ◌≤◌, ◌<◌}
use native.Mathlib.Omega.{arith}
use lib.IntN.{ℤ, pos, ◌+ℤ◌}
use lib.Signed.{lt_z, le_z, non_neg}
use lib.ListN.{length, length-set}
use Rattle.arith.specs.Balance.{largest}
use Rattle.std.specs.Prelude.{if◌then◌else◌, None, Option, Some, Err, Ok, Result}
use Rattle.arith.proofs.ChoiceLaws.{if_all, by_test}
use Rattle.arith.specs.Exact.{add_of, sub_of, mul_of, div_of}
use Rattle.arith.specs.Compare.{eq_z}
use Rattle.block.specs.Key.{account_balance, contract_balance, is_balance}
use Rattle.block.specs.Limits.{max_code, max_fuel}
use Rattle.block.proofs.DecodeLaws.{JumpsWithin}
use Rattle.block.specs.Outcomes.{balance_too_low, out_of_fuel, last_outcome, max_count}
use Rattle.block.specs.declared.Call.{Call}
use Rattle.block.specs.declared.Instr.{Instr}
use Rattle.block.specs.declared.Instr.TheVariants.{Stop, Throw, Set, Arg, Sender, Value, Add, Sub, Mul, Div, Get, Put, Bal, Pay, Jeq, Jlt}
use Rattle.block.specs.Record.{argument}
use Rattle.footprint.specs.Access.{Access, changing, writing, entry_accesses, pay_accesses, accesses}
use Rattle.block.specs.Naming.{target_of}
use Rattle.machine.specs.Action.{place_of, register, assign, doing, jump, checked_action, pay_action, instr_action, entry_action}
use Rattle.machine.specs.Step.{View, Local, Performed, broken, onward, ending, Stepped, damaged, more, done, cell_at, lookup, load_cell, store_cell, deposit_cell, transfer_cells, access_at, perform}
use Rattle.machine.specs.Serial.{step_limit}
use Rattle.machine.specs.declared.Action.{Action}
use Rattle.machine.specs.declared.Next.{Next}
use Rattle.machine.specs.declared.Next.TheVariants.{Go, End, Load, Store, Transfer}

-- ---- range and steps left

-- "fuel .. 1 to 65,535"
abbrev pub FuelInRange : (fuel : ℕ) → Type 0
FuelInRange fuel = (0 < fuel) × (fuel ≤ max_fuel)

-- A call in its range: its code within the limit, its place at most the code's length word, its count at most its fuel, and 0 at the entry.
pub record Ranged (v : View) (place count : ℕ) : Type 0 where
  pub code : v.code ≤ max_code + 1
  pub within : place ≤ v.code
  pub fuel : FuelInRange v.call.fuel
  pub counted : count ≤ v.call.fuel
  pub entry : place ≡ 0 → count ≡ 0

-- The steps that it can still take at most: one for each instruction that it has fuel for, one for the end, and at the entry one for that.
abbrev pub steps_left : View → (place count : ℕ) → ℕ
steps_left v place count = v.call.fuel + 1 - count + (1 - place)

pub ranged_count : {v : View} {place count : ℕ} → Ranged v place count → count ≤ max_count
ranged_count r = omega (arith, r.fuel.1, r.counted)

pub ranged_left : {v : View} {place count : ℕ} → Ranged v place count → 0 < steps_left v place count
ranged_left r = omega (arith, r.counted)

-- A begun call. "a call takes at most fuel plus 2 accepted steps".
pub begun_ranged : (v : View) → v.code ≤ max_code + 1 → FuelInRange v.call.fuel → Ranged v 0 0
begun_ranged v few fuel = record { code = few; within = omega arith; fuel = fuel; counted = omega arith; entry = λ e. refl }

pub begun_left : (v : View) → steps_left v 0 0 ≤ step_limit v.call.fuel
begun_left v = omega arith

-- On to a place and a count in range, with fewer steps left.
pub record Lowers (v : View) (place count to n : ℕ) : Type 0 where
  pub range : Ranged v to n
  pub lower : steps_left v to n < steps_left v place count

-- The same from a place and a count in range.
abbrev pub Leads : View → (place count to n : ℕ) → Type 0
Leads v place count to n = Ranged v place count → Lowers v place count to n

-- To an instruction's place within the code, with a count within the fuel and fewer steps left.
leads : (v : View) (place count to n : ℕ)
    → (Ranged v place count → (0 < to) × (to ≤ v.code) × (n ≤ v.call.fuel) × (steps_left v to n < steps_left v place count))
    → Leads v place count to n
leads v place count to n f r =
    let there = f r in
    record {
      range = record { code = r.code; within = there.1; fuel = r.fuel; counted = there.2; entry = λ e. omega (arith, e, there.0) };
      lower = there.3;
    }

-- An instruction takes one of the steps that are left.
one_fewer : (fuel count place to : ℕ) → 0 < place → 0 < to → count < fuel → fuel + 1 - (count + 1) + (1 - to) < fuel + 1 - count + (1 - place)
one_fewer fuel count place to some there less =
    let at : 1 - place ≡ 0 = omega arith in
    let next : 1 - to ≡ 0 = omega arith in
    omega arith

-- A place that is not the code's end leads on to the next one: the entry's with the count 0; an instruction's that has fuel, with the count 1 higher, to a
-- jump's target too.
module _ (v : View) (place count : ℕ) (inside : ¬ (place ≡ v.code)) where
  pub entry_leads : place ≡ 0 → Leads v place count (place + 1) 0
  entry_leads e = leads v place count (place + 1) 0 (λ r. omega (arith, e, inside, r.within, r.entry e))

  module _ (some : ¬ (place ≡ 0)) (fuelled : ¬ (count ≡ v.call.fuel)) where
    pub next_leads : Leads v place count (place + 1) (count + 1)
    next_leads =
        leads v place count (place + 1) (count + 1) λ r.
        let less : count < v.call.fuel = omega (arith, fuelled, r.counted) in
        (omega arith, omega (arith, inside, r.within), omega arith, one_fewer v.call.fuel count place (place + 1) (omega (arith, some)) (omega arith) less)

    pub jump_leads : (to : ℕ) → to ≤ v.code - 1 → Leads v place count (place_of to) (count + 1)
    jump_leads to high =
        leads v place count (place_of to) (count + 1) λ r.
        let less : count < v.call.fuel = omega (arith, fuelled, r.counted) in
        (omega arith, omega (arith, some, high, r.within), omega arith, one_fewer v.call.fuel count place (place_of to) (omega (arith, some)) (omega arith) less)

-- ---- what fits a place

-- A place that acts leads on to the next one, or ends with an outcome below 7, which the fuel alone gives. A load has a first access that reads; a store one that
-- writes; a transfer one that does both, and a second that writes. `n` is the count with the place's own instruction.
abbrev pub NextFits : View → (place count n : ℕ) → List Access → Next → Type 0
NextFits v place count n as' (Go to) = Leads v place count to n
NextFits v place count n as' (End outcome) = outcome < out_of_fuel
NextFits v place count n as' (Load x) = (access_at as' 0).reads ≡ true
NextFits v place count n as' (Store value) = (access_at as' 0).writes ≡ true
NextFits v place count n as' (Transfer amount short) =
    ((access_at as' 0).reads ≡ true) × ((access_at as' 0).writes ≡ true) × ((access_at as' 1).writes ≡ true) × (short < out_of_fuel)

pub record ActionFits (v : View) (place count n : ℕ) (as' : List Access) (regs : List ℤ) (a : Action) : Type 0 where
  pub behind : Leads v place count (place + 1) n
  pub next : NextFits v place count n as' a.next
  pub registers : length a.regs ≡ length regs

module _ (v : View) (place count n : ℕ) (regs : List ℤ) (behind : Leads v place count (place + 1) n) where
  abbrev Fits : List Access → Action → Type 0
  Fits as' a = ActionFits v place count n as' regs a

  does_fit : (as' : List Access) (next : Next) → NextFits v place count n as' next → Fits as' (doing regs next)
  does_fit as' next f = record { behind = behind; next = f; registers = refl }

  assign_fits : (as' : List Access) (x : ℕ) (z : ℤ) → Fits as' (assign place regs x z)
  assign_fits as' x z = record { behind = behind; next = behind; registers = length-set regs x z }

  checked_fits : (as' : List Access) (x : ℕ) (r : Result ℤ NoResult) → Fits as' (checked_action place regs x r)
  unfolding checked_action
  checked_fits as' x (Ok z) = assign_fits as' x z
  checked_fits as' x (Err Overflow) = does_fit as' _ (omega arith)
  checked_fits as' x (Err ZeroDivisor) = does_fit as' _ (omega arith)

  pay_fits : (c : Call) (amount : ℤ) (p : Option Account) → Fits (pay_accesses c p) (pay_action regs amount p)
  unfolding pay_action pay_accesses
  pay_fits c amount (Some account) =
      does_fit (pay_accesses c (Some account)) _
      (if_all (NextFits v place count n (pay_accesses c (Some account))) (non_neg amount) (λ e. (refl, refl, refl, omega arith)) (λ e. omega arith))
  pay_fits c amount None = does_fit (pay_accesses c None) _ (omega arith)

  pub entry_fits : (c : Call) → place ≡ 0 → Fits (entry_accesses c) (entry_action c regs)
  unfolding entry_accesses entry_action
  entry_fits c e =
      by_test
      (λ t. Fits
      (if t then changing (account_balance c.sender) ∷ writing (contract_balance c.contract) ∷ [] else [])
      (doing regs (if t then Transfer c.value balance_too_low else Go (place_of 0))))
      (lt_z (pos 0) c.value) (λ t. does_fit _ _ (refl, refl, refl, omega arith))
      (λ t. does_fit _ _ (subst (λ (q : ℕ). Leads v place count (q + 1) n) e behind))

  module _ (jumps : (to : ℕ) → to ≤ v.code - 1 → Leads v place count (place_of to) n) where
    jump_fits : (to : ℕ) (t : Bool) → to ≤ v.code - 1 → Fits [] (jump place regs to t)
    jump_fits to t high =
        does_fit [] _ (if_all (λ (q : ℕ). Leads v place count q n) t (λ e. jumps to high) (λ e. behind))

    pub instr_fits : (c : Call) (i : Instr) → JumpsWithin (v.code - 1) i → Fits (accesses c i) (instr_action c place regs i)
    unfolding accesses instr_action
    instr_fits c Stop j = does_fit [] _ (omega arith)
    instr_fits c Throw j = does_fit [] _ (omega arith)
    instr_fits c (Set x value) j = assign_fits [] x value
    instr_fits c (Arg x k) j = assign_fits [] x (pos (argument c k))
    instr_fits c (Sender x) j = assign_fits [] x (pos c.sender.0)
    instr_fits c (Value x) j = assign_fits [] x c.value
    instr_fits c (Add x y z) j = checked_fits [] x (add_of (register regs y) (register regs z))
    instr_fits c (Sub x y z) j = checked_fits [] x (sub_of (register regs y) (register regs z))
    instr_fits c (Mul x y z) j = checked_fits [] x (mul_of (register regs y) (register regs z))
    instr_fits c (Div x y z) j = checked_fits [] x (div_of (register regs y) (register regs z))
    instr_fits c (Get x field a b) j = does_fit _ (Load x) refl
    instr_fits c (Put x field a b) j = does_fit _ (Store (register regs x)) refl
    instr_fits c (Bal x) j = does_fit _ (Load x) refl
    instr_fits c (Pay x target) j = pay_fits c (register regs x) (target_of c target)
    instr_fits c (Jeq x y to) j = jump_fits to (eq_z (register regs x) (register regs y)) j
    instr_fits c (Jlt x y to) j = jump_fits to (lt_z (register regs x) (register regs y)) j

-- ---- a step from a place in range

-- What it leaves: a call that goes on, in range with fewer steps left and as many registers; or one that ends with an outcome and a count in
-- their ranges.
pub record GoesLower (v : View) (place count : ℕ) (regs : List ℤ) (to n : ℕ) (regs' : List ℤ) : Type 0 where
  pub lowers : Lowers v place count to n
  pub registers : length regs' ≡ length regs

abbrev pub ReceiptBounded : (outcome count : ℕ) → Type 0
ReceiptBounded outcome count = (outcome ≤ last_outcome) × (count ≤ max_count)

abbrev pub PlaceLowers : View → (place count : ℕ) → List ℤ → Performed → Type 0
PlaceLowers v place count regs broken = Unit {0}
PlaceLowers v place count regs (onward to n regs' cells) = GoesLower v place count regs to n regs'
PlaceLowers v place count regs (ending outcome n) = ReceiptBounded outcome n

abbrev pub StepLowers : View → Local → Stepped → Type 0
StepLowers v l damaged = Unit {0}
StepLowers v l (more l' cells) = GoesLower v l.place l.count l.regs l'.place l'.count l'.regs
StepLowers v l (done outcome count cells) = ReceiptBounded outcome count

module _ (v : View) (place count : ℕ) (regs : List ℤ) (range : Ranged v place count) (cells : List ℤ) where
  abbrev Low : Performed → Type 0
  Low = PlaceLowers v place count regs

  module _ (n : ℕ) (on : Lowers v place count (place + 1) n) (regs' : List ℤ) (same : length regs' ≡ length regs) where
    load_lowers : (x : ℕ) (a : Access) (found : Option ℕ) → Low (load_cell place n regs' x a cells found)
    unfolding load_cell
    load_lowers x a None = tt
    load_lowers x a (Some m) =
        if_all Low (is_balance a.key && not (non_neg (cell_at cells m))) (λ h. tt)
        (λ h. record { lowers = on; registers = length-set regs' x (cell_at cells m) ∙ same })

    store_lowers : (z : ℤ) (found : Option ℕ) → Low (store_cell place n regs' z cells found)
    unfolding store_cell
    store_lowers z None = tt
    store_lowers z (Some m) = record { lowers = on; registers = same }

    deposit_lowers : (amount : ℤ) (m : ℕ) (found : Option ℕ) → Low (deposit_cell place n regs' amount m cells found)
    unfolding deposit_cell
    deposit_lowers amount m None = tt
    deposit_lowers amount m (Some k) =
        if_all Low (non_neg (cell_at cells k) && le_z (cell_at cells k +ℤ amount) largest) (λ h. record { lowers = on; registers = same }) (λ h. tt)

    transfer_lowers : (amount : ℤ) (short : ℕ) → short < out_of_fuel → (to : Access) (found : Option ℕ)
        → Low (transfer_cells v place n regs' amount short to cells found)
    unfolding transfer_cells
    transfer_lowers amount short few to None = tt
    transfer_lowers amount short few to (Some m) =
        if_all Low (not (non_neg (cell_at cells m))) (λ h. tt) λ h.
        if_all Low (lt_z (cell_at cells m) amount) (λ h. (omega (arith, few), ranged_count on.range)) (λ h. deposit_lowers amount m (lookup v to))

    pub perform_lowers : (as' : List Access) (next : Next) → NextFits v place count n as' next → Low (perform v place n as' regs' next cells)
    unfolding perform
    perform_lowers as' (Go to) f = record { lowers = f range; registers = same }
    perform_lowers as' (End outcome) f = (omega (arith, f), ranged_count on.range)
    perform_lowers as' (Load x) f = load_lowers x (access_at as' 0) (lookup v (access_at as' 0))
    perform_lowers as' (Store z) f = store_lowers z (lookup v (access_at as' 0))
    perform_lowers as' (Transfer amount short) f = transfer_lowers amount short f.3 (access_at as' 1) (lookup v (access_at as' 0))
