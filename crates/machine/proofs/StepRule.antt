-- One step of a call does what one turn of the published rule does: a lemma for each thing that a place can do, and a clause for
-- each instruction.
use Rattle.arith.specs.declared.NoResult.TheVariants.{Overflow, ZeroDivisor}
use Rattle.arith.specs.declared.NoResult.{NoResult}
use Rattle.block.specs.declared.address.Account.{Account}
use mathlib.Core.Path.{◌≡◌, refl, sym, ap, ◌∙◌, subst⁻¹}
use mathlib.Core.Bool.{Bool, true, false, ◌&&◌, not, and-false}
use mathlib.Core.List.{List, [], map}
use Prim.Native.Nat.{ℕ, ◌+◌, ◌^◌, ◌≤◌, ◌<◌}
use native.Mathlib.Omega.{arith}
use lib.IntN.{ℤ, pos}
use lib.Dec.{ltb}
use lib.ListN.{length, get_or, set}
use lib.Signed.{lt_z, non_neg}
use Rattle.std.specs.Prelude.{if◌then◌else◌, Option, Some, Err, Ok, Result}
use Rattle.arith.specs.Compare.{eq_z}
use Rattle.arith.specs.Exact.{add_of, sub_of, mul_of, div_of}
use Rattle.arith.proofs.IntegerLaws.{pos_part, neg_part, equal, lt_z_true, lt_z_false, ne_eq_z, eq_eq_z}
use Rattle.block.specs.Limits.{max_keys}
use Rattle.block.specs.Key.{first_contract, is_balance, payee_of}
use Rattle.block.proofs.KeyLaws.{payee_all}
use Rattle.block.proofs.DecodeLaws.{CellSourcesFit, InstrFits}
use Rattle.block.specs.Record.{argument}
use Rattle.block.specs.declared.Call.{Call}
use Rattle.block.specs.declared.Source.{Source}
use Rattle.block.specs.declared.Instr.{Instr}
use Rattle.block.specs.declared.Instr.TheVariants.{Stop, Throw, Set, Arg, Sender, Value, Add, Sub, Mul, Div, Get, Put, Bal, Pay, Jeq, Jlt}
use Rattle.footprint.specs.Access.{Access, reading, writing, changing, pay_accesses, accesses}
use Rattle.block.specs.Naming.{source_value, cell_key}
use Rattle.footprint.proofs.SetAccessLaws.{source_below}
use Rattle.footprint.specs.Sets.{write_set}
use Rattle.wire.specs.All.{All}
use Rattle.footprint.specs.Table.{cell_number}
use Rattle.footprint.specs.Plan.{entry_word}
use Rattle.rule.specs.Rule as rule
use Rattle.rule.specs.Rule.{State, update, credit, debit, ends, fails, Course, before, over, transfer, execute, Left, settle}
use Rattle.rule.proofs.LimitLaws.{balance_key, cell_is_not, limit_balance, limit_sum}
use Rattle.footprint.specs.SafeSets.{CallBounded}
use Rattle.rule.proofs.TurnLaws.{body_steps}
use Rattle.machine.specs.Action as action
use Rattle.machine.specs.Action.{pay_action, instr_action}
use Rattle.block.specs.Outcomes.{thrown, out_of_range, zero_divisor}
use Rattle.machine.specs.Step.{View, Local, Performed, onward, ending, Stepped, damaged, more, done, cell_at, lookup, restorable, saved_of, restored, finish, concluded, load_cell, store_cell, deposit_cell, transfer_cells, perform, perform_action}
use Rattle.machine.specs.CallInRun.{step_times, steps_taken, Hold, EndsAsRule, LeavesAsRule}
use Rattle.machine.proofs.LookupLaws.{Covered, KeysInTable}
use Rattle.machine.proofs.RestoreLaws.{restored_from}
use Rattle.machine.proofs.HoldLaws.{Now, moved_cells, now_store, now_move, hold_back}

-- At most `fuel` steps from here lead to the call's end, with what the rule leaves; and they are the steps of the rule's body beyond a count of n.
pub record Completes (table : List ℕ) (left : Left) (fuel : ℕ) (v : View) (s : Stepped) (n : ℕ) : Type 0 where
  pub leaves : LeavesAsRule table left (step_times fuel v s)
  pub steps : n + steps_taken fuel v s ≡ body_steps left

-- What a view is made of: a table of at most 1,024 keys and sets whose keys are all in it, found and restored by its entries.
pub record MadeOf (v : View) (table : List ℕ) (es : List Access) : Type 0 where
  pub few : length table ≤ max_keys
  pub known : KeysInTable table es
  pub found : (a : Access) → Covered es a → lookup v a ≡ Some (cell_number table a.key)
  pub able : restorable v.count v.entries ≡ true
  pub entries : v.entries ≡ map (entry_word table) es

-- "to instruction w if x = y": by the rule's order tests and by the step's test of equality.
jeq_same : (x y : ℤ) (next to : ℕ) → (if lt_z x y then next else if lt_z y x then next else to) ≡ (if eq_z x y then to else next)
jeq_same x y next to = go (lt_z x y) refl (lt_z y x) refl
  where
    go : (s : Bool) → lt_z x y ≡ s → (t : Bool) → lt_z y x ≡ t → (if s then next else if t then next else to) ≡ (if eq_z x y then to else next)
    go true h t k = rw (ne_eq_z x y (λ e. omega (arith, lt_z_true x y h, ap pos_part e, ap neg_part e)))
    go false h true k = rw (ne_eq_z x y (λ e. omega (arith, lt_z_true y x k, ap pos_part e, ap neg_part e)))
    go false h false k = rw (eq_eq_z x y (equal x y (omega (arith, lt_z_false x y h, lt_z_false y x k))))

-- A call that began at a state, in cells that held it.
module _ (v : View) (table : List ℕ) (es : List Access) (start : State) (old : List ℤ) where
  abbrev pub rule_local : ℕ → List ℤ → ℕ → Local
  rule_local place ρ n = record { place = place; count = n; regs = ρ; saved = saved_of v.entries old }

  -- The call goes on at instruction q, in the registers, count and state of the rule.
  pub record GoesOn (q : ℕ) (ρ : List ℤ) (n : ℕ) (σ : State) (l : Local) (cells : List ℤ) : Type 0 where
    pub here : l ≡ rule_local (q + 1) ρ n
    pub now : Now table (write_set es) start σ cells

  -- A step matches a turn of the rule.
  abbrev pub Match : Course → Stepped → Type 0
  Match (before q ρ n σ) damaged = ⊥
  Match (before q ρ n σ) (more l cells) = GoesOn q ρ n σ l cells
  Match (before q ρ n σ) (done outcome count cells) = ⊥
  Match (over r) damaged = ⊥
  Match (over r) (more l cells) = ⊥
  Match (over r) (done outcome count cells) = EndsAsRule table (settle start r) outcome count cells

-- Each step of such a call, where its view is made and the cells held the state.
module _ (v : View) (table : List ℕ) (es : List Access) (made : MadeOf v table es) (start : State) (old : List ℤ)
    (first : Hold table start old) where
  abbrev Matches : Course → Stepped → Type 0
  Matches = Match v table es start old

  -- The old values that the call keeps, and what a step makes of what its place comes to.
  abbrev kept : List ℤ
  kept = saved_of v.entries old

  abbrev Concludes : Course → List ℤ → Performed → Type 0
  Concludes t cells x = Matches t (concluded v kept cells x)

  -- ---- the end of a call

  -- "On 3, 4, 5 the same step restores every cell of the write set", and on 6 of M-103.
  module _ (σ : State) (cells : List ℤ) (now : Now table (write_set es) start σ cells) where
    finish_restores : (outcome count : ℕ) → ltb outcome thrown ≡ false → finish v kept outcome count cells ≡ done outcome count (restored_from table old es cells)
    unfolding finish
    finish_restores outcome count high =
        rw (high, made.able) (ap (λ (xs : List ℕ). done outcome count (restored xs (saved_of xs old) cells)) made.entries)

    pub fails_match : (outcome count : ℕ) → ltb outcome thrown ≡ false → Concludes (over (fails outcome count)) cells (ending outcome count)
    unfolding settle concluded
    fails_match outcome count high =
        subst⁻¹ (Matches (over (fails outcome count))) (finish_restores outcome count high)
        (record { same_outcome = refl; same_count = refl; hold = hold_back table made.few es start σ old cells made.known first now })

  -- ---- an amount that moves between two balances

  module _ (σ : State) (cells : List ℤ) (now : Now table (write_set es) start σ cells) (a b : ℕ) (la : a < 65536) (lb : b < 65536) (d : b ≡ a → ⊥)
      (from : Covered es (changing (balance_key a))) (to : Covered es (writing (balance_key b))) (place count : ℕ) (ρ : List ℤ) (m : ℤ) (short : ℕ) where
    holds_a : cell_at cells (cell_number table (balance_key a)) ≡ σ (balance_key a)
    holds_a = now.hold.same (balance_key a) (made.known (balance_key a) from.key)

    holds_b : cell_at cells (cell_number table (balance_key b)) ≡ σ (balance_key b)
    holds_b = now.hold.same (balance_key b) (made.known (balance_key b) to.key)

    pub transfer_short : lt_z (σ (balance_key a)) m ≡ true
        → transfer_cells v place count ρ m short (writing (balance_key b)) cells (lookup v (changing (balance_key a))) ≡ ending short count
    unfolding transfer_cells
    transfer_short less = rw (made.found (changing (balance_key a)) from, holds_a, (limit_balance σ now.limit a la).0, less)

    pub transfer_moves : non_neg m ≡ true → lt_z (σ (balance_key a)) m ≡ false
        → transfer_cells v place count ρ m short (writing (balance_key b)) cells (lookup v (changing (balance_key a)))
        ≡ onward (place + 1) count ρ (moved_cells table cells (balance_key a) (balance_key b) m)
    unfolding transfer_cells deposit_cell
    transfer_moves s enough =
        rw (
          made.found (changing (balance_key a)) from,
          made.found (writing (balance_key b)) to,
          holds_a,
          holds_b,
          (limit_balance σ now.limit a la).0,
          enough,
          (limit_balance σ now.limit b lb).0,
          limit_sum σ now.limit a b la lb (λ e. d (sym e)) m s enough,
        )

    pub transfer_now : non_neg m ≡ true → lt_z (σ (balance_key a)) m ≡ false
        → Now table (write_set es) start (credit (debit σ (balance_key a) m) (balance_key b) m) (moved_cells table cells (balance_key a) (balance_key b) m)
    transfer_now s enough =
        now_move table made.few (write_set es) start σ cells now a b la lb d m s enough (made.known (balance_key a) from.key)
        (made.known (balance_key b) to.key) (from.written refl) (to.written refl)

  -- ---- one lemma for each thing that a place does

  module _ (p : ℕ) (σ : State) (cells : List ℤ) (now : Now table (write_set es) start σ cells) (ρ : List ℤ) (n : ℕ) where
    go_match : (q : ℕ) (ρ' : List ℤ) → Concludes (before q ρ' n σ) cells (onward (q + 1) n ρ' cells)
    unfolding concluded
    go_match q ρ' = record { here = refl; now = now }

    -- The next place, in a new state.
    next_match : (ρ' : List ℤ) (τ : State) (cells' : List ℤ) → Now table (write_set es) start τ cells'
        → Concludes (before (p + 1) ρ' n τ) cells (onward (p + 1 + 1) n ρ' cells')
    unfolding concluded
    next_match ρ' τ cells' then' = record { here = refl; now = then' }

    end_match : (outcome : ℕ) → ltb outcome thrown ≡ false → Concludes (over (fails outcome n)) cells (ending outcome n)
    end_match outcome high = fails_match σ cells now outcome n high

    stop_match : Concludes (over (ends σ n false)) cells (ending 0 n)
    unfolding concluded finish settle
    stop_match = record { same_outcome = refl; same_count = refl; hold = now.hold }

    checked_match : (as' : List Access) (x : ℕ) (r : Result ℤ NoResult)
        → Concludes (rule.assign_checked p ρ n σ x r) cells (perform_action v (p + 1) n as' (action.checked_action (p + 1) ρ x r) cells)
    unfolding rule.assign_checked action.checked_action perform
    checked_match as' x (Ok value) = next_match (set ρ x value) σ cells now
    checked_match as' x (Err Overflow) = end_match out_of_range refl
    checked_match as' x (Err ZeroDivisor) = end_match zero_divisor refl

    -- A loaded value is the state's; a balance is not below zero.
    load_match : (x k : ℕ) → Covered es (reading k) → (is_balance k && not (non_neg (σ k))) ≡ false
        → Concludes (before (p + 1) (set ρ x (σ k)) n σ) cells (load_cell (p + 1) n ρ x (reading k) cells (lookup v (reading k)))
    unfolding load_cell
    load_match x k covered fine =
        rw (made.found (reading k) covered, now.hold.same k (made.known k covered.key), fine) (next_match (set ρ x (σ k)) σ cells now)

    store_match : (k : ℕ) (value : ℤ) → Covered es (writing k) → is_balance k ≡ false
        → Concludes (before (p + 1) ρ n (update σ k value)) cells (store_cell (p + 1) n ρ value cells (lookup v (writing k)))
    unfolding store_cell
    store_match k value covered other =
        rw (made.found (writing k) covered)
        (next_match ρ (update σ k value) (set cells (cell_number table k) value)
        (now_store table made.few (write_set es) start σ cells now k value (made.known k covered.key) (covered.written refl) other))

    -- ---- the instructions of a call

    module _ (c : Call) (in-range : CallBounded c) where
      abbrev Pays : ℤ → Option Account → Type 0
      Pays amount payee = Concludes (transfer c p ρ n σ amount payee) cells (perform_action v (p + 1) n (pay_accesses c payee) (pay_action ρ amount payee) cells)

      abbrev account : ℕ → Option Account
      account target = Some (record { 0 = target })

      pay_account : (amount : ℤ) (target : ℕ) → target < first_contract → Covered es (changing (balance_key c.contract.0)) → Covered es (writing (balance_key target))
          → Pays amount (account target)
      unfolding pay_accesses pay_action transfer perform
      pay_account amount target low from to = go (non_neg amount) refl (lt_z (σ (balance_key a)) amount) refl
        where
          a : ℕ
          a = c.contract.0

          small : c.contract.0 < 65536
          small = in-range.ranges.contract

          apart : target ≡ c.contract.0 → ⊥
          apart e = let high : first_contract ≤ c.contract.0 = in-range.contract in omega arith

          go : (t : Bool) → non_neg amount ≡ t → (u : Bool) → lt_z (σ (balance_key a)) amount ≡ u → Pays amount (account target)
          go false s u less = rw s (end_match 5 refl)
          go true s true less =
              rw (s, less, transfer_short σ cells now a target small (omega arith) apart from to (p + 1) n ρ amount 5 less) (end_match 5 refl)
          go true s false enough =
              rw (s, enough, transfer_moves σ cells now a target small (omega arith) apart from to (p + 1) n ρ amount 5 s enough)
              (next_match ρ (credit (debit σ (balance_key a) amount) (balance_key target) amount)
              (moved_cells table cells (balance_key a) (balance_key target) amount)
              (transfer_now σ cells now a target small (omega arith) apart from to (p + 1) n ρ amount 5 s enough))

      -- "PAY with 5 if the amount is negative, the target no account, or the contract's balance lower", and where it is account 0.
      pay_match : (amount : ℤ) (target : ℕ) → All (Covered es) (pay_accesses c (payee_of target)) → Pays amount (payee_of target)
      unfolding pay_accesses pay_action transfer perform
      pay_match amount target =
          payee_all (λ (p : Option Account). All (Covered es) (pay_accesses c p) → Pays amount p) target
          (λ other low covered. pay_account amount target low covered.0 covered.1.0) (λ covered. end_match 5 refl)

      -- The cell of GET and PUT is no balance.
      cell_other : (field : ℕ) (a b : Source) → CellSourcesFit (2 ^ 16) field a b → is_balance (cell_key c field a b) ≡ false
      cell_other field a b fits =
          cell_is_not c.contract.0 field (source_value c a) (source_value c b) fits.below (source_below c a in-range.ranges fits.first)
          (source_below c b in-range.ranges fits.second) (λ e. omega (arith, fits.above))

      -- A jump, or the next instruction.
      jump_match : (t : Bool) (to : ℕ)
          → Concludes (before (if t then to else p + 1) ρ n σ) cells (onward (if t then to + 1 else p + 1 + 1) n ρ cells)
      jump_match true to = go_match to ρ
      jump_match false to = next_match ρ σ cells now

      -- An instruction: its own step and its own turn.
      pub instr_match : (i : Instr) → InstrFits (2 ^ 16) i → All (Covered es) (accesses c i)
          → Concludes (execute c p ρ n σ i) cells (perform_action v (p + 1) n (accesses c i) (instr_action c (p + 1) ρ i) cells)
      unfolding execute accesses instr_action perform
      instr_match Stop fit covered = stop_match
      instr_match Throw fit covered = end_match 3 refl
      instr_match (Set x value) fit covered = next_match (set ρ x value) σ cells now
      instr_match (Arg x k) fit covered = next_match (set ρ x (pos (argument c k))) σ cells now
      instr_match (Sender x) fit covered = next_match (set ρ x (pos c.sender.0)) σ cells now
      instr_match (Value x) fit covered = next_match (set ρ x c.value) σ cells now
      instr_match (Add x y z) fit covered = checked_match [] x (add_of (get_or ρ y (pos 0)) (get_or ρ z (pos 0)))
      instr_match (Sub x y z) fit covered = checked_match [] x (sub_of (get_or ρ y (pos 0)) (get_or ρ z (pos 0)))
      instr_match (Mul x y z) fit covered = checked_match [] x (mul_of (get_or ρ y (pos 0)) (get_or ρ z (pos 0)))
      instr_match (Div x y z) fit covered = checked_match [] x (div_of (get_or ρ y (pos 0)) (get_or ρ z (pos 0)))
      instr_match (Get x field a b) fit covered =
          load_match x (cell_key c field a b) covered.0 (ap (λ (t : Bool). t && not (non_neg (σ (cell_key c field a b)))) (cell_other field a b fit))
      instr_match (Put x field a b) fit covered =
          store_match (cell_key c field a b) (get_or ρ x (pos 0)) covered.0 (cell_other field a b fit)
      instr_match (Bal x) fit covered =
          load_match x (balance_key c.contract.0) covered.0
          (ap (λ (t : Bool). is_balance (balance_key c.contract.0) && not t) (limit_balance σ now.limit c.contract.0 in-range.ranges.contract).0
          ∙ and-false (is_balance (balance_key c.contract.0)))
      instr_match (Pay x target) fit covered = pay_match (get_or ρ x (pos 0)) (source_value c target) covered
      instr_match (Jeq x y to) fit covered =
          rw (jeq_same (get_or ρ x (pos 0)) (get_or ρ y (pos 0)) (p + 1) to) (jump_match (eq_z (get_or ρ x (pos 0)) (get_or ρ y (pos 0))) to)
      instr_match (Jlt x y to) fit covered = jump_match (lt_z (get_or ρ x (pos 0)) (get_or ρ y (pos 0))) to
