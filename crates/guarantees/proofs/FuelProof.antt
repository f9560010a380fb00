-- M-104 holds: the rule's body with so much fuel goes as its turns do, until it is over, its code has ended or its fuel is spent; each turn counts one; and a step tests the fuel as the
-- request says.
use mathlib.Core.Path.{◌≡◌, refl, sym, ap, subst, ◌∙◌}
use mathlib.Core.Bool.{true, ◌&&◌, ◌||◌, not, or-true}
use mathlib.Core.List.{List}
use mathlib.Core.Logic.{◌⊎◌, inl, inr}
use Prim.Native.Nat.{ℕ, zero, suc, ◌+◌, ◌-◌, ◌*◌, ◌≤◌, ◌<◌}
use native.Mathlib.Nat.{zero-add}
use native.Mathlib.Omega.{arith}
use borrow.Author.Tests.{eq-eqb, ne_eqb, lt-ltb, le-ltb}
use lib.Dec.{eqb, leb, ltb}
use lib.IntN.{ℤ, ◌+ℤ◌}
use lib.ListN.{drop}
use lib.Signed.{lt_z, le_z, non_neg}
use Rattle.arith.specs.Balance.{largest}
use Rattle.std.specs.Prelude.{if◌then◌else◌, None, Option, Some, slice_get, Ok}
use Rattle.arith.proofs.ChoiceLaws.{if_all}
use Rattle.block.specs.Instruction.{is_register, allowed, decode_jump, decode_parts}
use Rattle.block.specs.Key.{account_balance, is_balance}
use Rattle.block.specs.Limits.{max_code}
use Rattle.block.specs.Naming.{function_of}
use Rattle.block.specs.Outcomes.{out_of_fuel}
use Rattle.block.specs.Record.{Function, head_bytes, call_record_bytes, call_of}
use Rattle.block.specs.declared.Call.{Call}
use Rattle.block.specs.declared.Instr.{Instr}
use Rattle.block.specs.declared.Instr.TheVariants.{Jeq, Jlt}
use Rattle.footprint.specs.Access.{Access, entry_accesses}
use Rattle.footprint.specs.SetsInWords.{instructions_of}
use Rattle.footprint.specs.Plan.{code_length}
use Rattle.rule.specs.Rule.{State, BodyResult, ends, fails, Course, before, over, execute_at, unfuelled, run_body, Left, settle, run_function, transaction_by, transaction}
use Rattle.rule.proofs.TurnLaws.{OneMore, turn_one, body_over}
use Rattle.machine.specs.Run.{Run, zero_registers, plan_word, place_in, count_in}
use Rattle.machine.specs.Action.{entry_action}
use Rattle.machine.specs.Step.{View, Performed, broken, onward, ending, damaged, done, restorable, restored, cell_at, lookup, load_cell, store_cell, deposit_cell, transfer_cells, access_at, perform, step_entry, step_body, step_place, finish, concluded, step_call}
use Rattle.machine.specs.Moves.{Moved, held_by, stay, view_of, local_of, stepped, step_record, step_held, step_for, step_of}
use Rattle.machine.specs.declared.Answer.TheVariants.{Damaged}
use Rattle.machine.specs.declared.Next.{Next}
use Rattle.machine.specs.declared.Next.TheVariants.{Go, End, Load, Store, Transfer}
use Rattle.machine.proofs.StepLaws.{NextFits}
use Rattle.machine.proofs.PlaceLaws.{place_all}
use Rattle.guarantees.specs.Turns.{turned, entered, failed_with}
use Rattle.guarantees.specs.Fuel.{Runs, Stands, Due, Ended, RuleFuel, StepFuel, with_fuel, FuelHolds}
use Rattle.guarantees.proofs.TurnedLaws.{run_turned, StandsAfter, OverOrStands, over_or_stands, end_any, transaction_runs, turn_below, FailsAt, SpentAt, failed_at}

-- ---- jumps

jumps_within : (size x y to : ℕ) → is_register x ≡ true → is_register y ≡ true
    → (decode_parts size 14 x y 0 to ≡ allowed (leb to size) (Jeq x y to)) × (decode_parts size 15 x y 0 to ≡ allowed (leb to size) (Jlt x y to))
unfolding decode_parts decode_jump
jumps_within size x y to ex ey = (rw (ex, ey), rw (ex, ey))

-- ---- the rule

module _ (block : List ℕ) (functions : List Function) (c : Call) (σ : State) (f : Function) (runs : Runs functions c σ f) where
  abbrev body : List Instr
  body = instructions_of block f

  left_by : transaction block functions c σ ≡ settle σ (run_body c.fuel c body (entered c σ))
  left_by = transaction_runs block functions c σ f runs.known runs.enough

  -- After k turns, with the fuel that they left.
  run_after_lem : (k : ℕ) → k ≤ c.fuel → run_body c.fuel c body (entered c σ) ≡ run_body (c.fuel - k) c body (turned k c body (entered c σ))
  run_after_lem k few =
      let all : c.fuel ≡ k + (c.fuel - k) = omega arith in
      ap (λ (t : ℕ). run_body t c body (entered c σ)) all ∙ run_turned k (c.fuel - k) c body (entered c σ)

  over_within : (k : ℕ) → k ≤ c.fuel → (r : BodyResult) → turned k c body (entered c σ) ≡ over r → transaction block functions c σ ≡ settle σ r
  over_within k few r e = left_by ∙ ap (settle σ) (run_after_lem k few ∙ ap (run_body (c.fuel - k) c body) e ∙ body_over (c.fuel - k) c body r)

  end_within : (k : ℕ) → k ≤ c.fuel → (e : Ended block c σ f k)
      → transaction block functions c σ ≡ record { outcome = 0; count = k; behind = true; state = e.at.state }
  unfolding settle
  end_within k few e =
      left_by
      ∙ ap (settle σ)
      (run_after_lem k few ∙ ap (run_body (c.fuel - k) c body) e.at.stands
      ∙ end_any (c.fuel - k) c body e.at.place e.at.regs k e.at.state e.none_due)

  out : Due block c σ f c.fuel → transaction block functions c σ ≡ failed_with out_of_fuel c.fuel σ
  unfolding settle run_body unfuelled
  out d =
      let none_left_lem : c.fuel - c.fuel ≡ 0 = omega arith in
      left_by
      ∙ ap (settle σ)
      (run_after_lem c.fuel (omega arith)
      ∙ ap (λ (t : ℕ). run_body t c body (turned c.fuel c body (entered c σ))) none_left_lem
      ∙ ap (run_body 0 c body) d.at.stands
      ∙ ap (unfuelled c.fuel d.at.state) d.due)

  -- The outcome of a body that ended, or failed.
  spent_at : (r : BodyResult) → run_body c.fuel c body (entered c σ) ≡ r → (settle σ r).outcome ≡ out_of_fuel → Due block c σ f c.fuel
  unfolding settle turned
  spent_at (ends τ m behind) run e = absurd (omega (arith, e))
  spent_at (fails o m) run e = go (failed_at c body (entered c σ) o m c.fuel 0 0 _ _ (omega arith) refl run)
    where
      go : FailsAt c body (entered c σ) o m ⊎ SpentAt c body (entered c σ) o → Due block c σ f c.fuel
      go (inl at) = absurd (omega (arith, e, turn_below c at.place at.regs at.count at.state at.instr o m at.failed))
      go (inr at) =
          record {
            at = record { place = at.place; regs = at.regs; state = at.state; stands = at.stands };
            instr = at.instr;
            due = at.due;
          }

  out_only : (transaction block functions c σ).outcome ≡ out_of_fuel → Due block c σ f c.fuel
  out_only e = spent_at (run_body c.fuel c body (entered c σ)) refl (sym (ap (λ (l : Left). l.outcome) left_by) ∙ e)

  cases : ((r : BodyResult) × (turned c.fuel c body (entered c σ) ≡ over r)) ⊎ (Ended block c σ f c.fuel ⊎ Due block c σ f c.fuel)
  cases = go (over_or_stands c.fuel c body 0 zero_registers 0 _)
    where
      standing : (s : StandsAfter c.fuel c body (entered c σ) (0 + c.fuel)) → (o : Option Instr) → slice_get body s.place ≡ o
          → Ended block c σ f c.fuel ⊎ Due block c σ f c.fuel
      standing s o found =
          let at : Stands block c σ f c.fuel =
          record {
            place = s.place;
            regs = s.regs;
            state = s.state;
            stands = s.stands ∙ ap (λ (n : ℕ). before s.place s.regs n s.state) (zero-add c.fuel);
          } in
          due at o found
        where
          due : (at : Stands block c σ f c.fuel) (o : Option Instr) → slice_get body at.place ≡ o → Ended block c σ f c.fuel ⊎ Due block c σ f c.fuel
          due at None found = inl (record { at = at; none_due = found })
          due at (Some i) found = inr (record { at = at; instr = i; due = found })

      go : OverOrStands c.fuel c body (entered c σ) (0 + c.fuel)
          → ((r : BodyResult) × (turned c.fuel c body (entered c σ) ≡ over r)) ⊎ (Ended block c σ f c.fuel ⊎ Due block c σ f c.fuel)
      go (inl over') = inl over'
      go (inr s) = inr (standing s (slice_get body s.place) refl)

  rule_fuel : RuleFuel block functions c σ f
  rule_fuel = record { cases = cases; over_within = over_within; end_within = end_within; out = out; out_only = out_only }

-- ---- the count

module _ (c : Call) (body : List Instr) (σ : State) where
  -- With so much fuel left, a body at this count ends with at most both.
  run_counted : (left p : ℕ) (ρ : List ℤ) (n : ℕ) (τ : State) → (settle σ (run_body left c body (before p ρ n τ))).count ≤ n + left
  unfolding run_body settle unfuelled
  run_counted zero p ρ n τ = go (slice_get body p)
    where
      go : (o : Option Instr) → (settle σ (unfuelled n τ o)).count ≤ n + 0
      go None = omega arith
      go (Some i) = omega arith
  run_counted (suc left) p ρ n τ = go (execute_at c p ρ n τ (slice_get body p)) (turn_one σ c p ρ n τ (slice_get body p)) (run_counted left)
    where
      go : (x : Course) → OneMore σ n x → ((q : ℕ) (ρ' : List ℤ) (m : ℕ) (υ : State) → (settle σ (run_body left c body (before q ρ' m υ))).count ≤ m + left)
          → (settle σ (run_body left c body x)).count ≤ n + suc left
      go (before q ρ' m υ) one ih = omega (arith, one, ih q ρ' m υ)
      go (over r) one ih =
          let all : (settle σ r).count ≤ n + 1 = omega (arith, one) in
          subst (λ (s : BodyResult). (settle σ s).count ≤ n + suc left) (sym (body_over left c body r)) (omega arith)

counted : (block : List ℕ) (functions : List Function) (c : Call) (σ : State) → (transaction block functions c σ).count ≤ c.fuel
unfolding transaction_by run_function
counted block functions c σ = go (function_of functions c)
  where
    go : (o : Option Function) → (transaction_by block c σ o).count ≤ c.fuel
    go None = omega arith
    go (Some f) =
        if_all (λ (l : Left). l.count ≤ c.fuel) (lt_z (σ (account_balance c.sender)) c.value) (λ e. omega arith)
        (λ e. subst (λ (k : ℕ). (run_function block c σ f).count ≤ k) (zero-add c.fuel) (run_counted c (instructions_of block f) σ c.fuel 0 _ 0 _))

-- ---- a step

-- No action that fits ends with 7.
abbrev EndsBelow : Performed → Type 0
EndsBelow broken = Unit {0}
EndsBelow (onward place n regs cells) = Unit {0}
EndsBelow (ending outcome n) = outcome < out_of_fuel

module _ (v : View) (place n : ℕ) (regs cells : List ℤ) where
  load_below : (x : ℕ) (a : Access) (found : Option ℕ) → EndsBelow (load_cell place n regs x a cells found)
  unfolding load_cell
  load_below x a None = tt
  load_below x a (Some m) = if_all EndsBelow (is_balance a.key && not (non_neg (cell_at cells m))) (λ h. tt) (λ h. tt)

  store_below : (z : ℤ) (found : Option ℕ) → EndsBelow (store_cell place n regs z cells found)
  unfolding store_cell
  store_below z None = tt
  store_below z (Some m) = tt

  deposit_below : (amount : ℤ) (m : ℕ) (found : Option ℕ) → EndsBelow (deposit_cell place n regs amount m cells found)
  unfolding deposit_cell
  deposit_below amount m None = tt
  deposit_below amount m (Some k) = if_all EndsBelow (non_neg (cell_at cells k) && le_z (cell_at cells k +ℤ amount) largest) (λ h. tt) (λ h. tt)

  transfer_below : (amount : ℤ) (short : ℕ) → short < out_of_fuel → (to : Access) (found : Option ℕ) → EndsBelow (transfer_cells v place n regs amount short to cells found)
  unfolding transfer_cells
  transfer_below amount short few to None = tt
  transfer_below amount short few to (Some m) =
      if_all EndsBelow (not (non_neg (cell_at cells m))) (λ h. tt) λ h.
      if_all EndsBelow (lt_z (cell_at cells m) amount) (λ h. few) (λ h. deposit_below amount m (lookup v to))

  perform_below : (from : ℕ) (as' : List Access) (next : Next) → NextFits v place from n as' next → EndsBelow (perform v place n as' regs next cells)
  unfolding perform
  perform_below from as' (Go to) f = tt
  perform_below from as' (End outcome) f = f
  perform_below from as' (Load x) f = load_below x (access_at as' 0) (lookup v (access_at as' 0))
  perform_below from as' (Store z) f = store_below z (lookup v (access_at as' 0))
  perform_below from as' (Transfer amount short) f = transfer_below amount short f.3 (access_at as' 1) (lookup v (access_at as' 0))

module _ (v : View) (place : ℕ) (regs cells : List ℤ) where
  abbrev fuel : ℕ
  fuel = v.call.fuel

  no_fuel : (count : ℕ) → ¬ (place ≡ 0) → fuel ≡ 0 → step_place v place count regs cells ≡ broken
  unfolding step_place step_body
  no_fuel count behind none' = rw (ne_eqb place 0 behind, eq-eqb fuel 0 none')

  count_above : (count : ℕ) → ¬ (place ≡ 0) → fuel < count → step_place v place count regs cells ≡ broken
  unfolding step_place step_body
  count_above count behind above = rw (ne_eqb place 0 behind, lt-ltb fuel count above, or-true (eqb fuel 0))

  -- A count within the fuel.
  module _ (behind : ¬ (place ≡ 0)) (fuelled : 0 < fuel) where
    fuel_some : ¬ (fuel ≡ 0)
    fuel_some e = omega (arith, e, fuelled)

    end : (count : ℕ) → count ≤ fuel → place ≡ v.code → step_place v place count regs cells ≡ ending 0 count
    unfolding step_place step_body
    end count within there = rw (ne_eqb place 0 behind, ne_eqb fuel 0 fuel_some, le-ltb fuel count within, eq-eqb place v.code there)

    spent : ¬ (place ≡ v.code) → step_place v place fuel regs cells ≡ ending out_of_fuel fuel
    unfolding step_place step_body
    spent inside =
        rw (ne_eqb place 0 behind, ne_eqb fuel 0 fuel_some, le-ltb fuel fuel (omega arith), ne_eqb place v.code inside, eq-eqb fuel fuel refl)

  spent_only : (count n : ℕ) → step_place v place count regs cells ≡ ending out_of_fuel n
      → ¬ (place ≡ 0) × ¬ (place ≡ v.code) × (count ≡ fuel) × (n ≡ fuel)
  spent_only count n =
      place_all v place count regs (λ f. f cells ≡ ending out_of_fuel n → Spent) (λ e. absurd (subst IsEnding (sym e) tt))
      (λ outcome m few less e. absurd (omega (arith, few, ap outcome_of e)))
      (λ behind inside all e. (behind, inside, all, sym (ap count_of e) ∙ all))
      (λ m as' a f e. absurd (omega (arith, subst EndsBelow e (perform_below v place m a.regs cells count as' a.next f.next))))
    where
      Spent : Type 0
      Spent = ¬ (place ≡ 0) × ¬ (place ≡ v.code) × (count ≡ fuel) × (n ≡ fuel)

      IsEnding : Performed → Type 0
      IsEnding broken = ⊥
      IsEnding (onward to m ρ after) = Unit {0}
      IsEnding (ending outcome m) = Unit {0}

      outcome_of : Performed → ℕ
      outcome_of broken = 0
      outcome_of (onward to m ρ after) = 0
      outcome_of (ending outcome m) = outcome

      count_of : Performed → ℕ
      count_of broken = 0
      count_of (onward to m ρ after) = 0
      count_of (ending outcome m) = m

  step_fuel : StepFuel v place regs cells
  step_fuel =
      record {
        no_fuel = no_fuel;
        count_above = count_above;
        end = λ count behind fuelled within there. end behind fuelled count within there;
        out = λ behind fuelled inside. spent behind fuelled inside;
        out_only = spent_only;
      }

-- ---- the entry

module _ (v : View) (new place n : ℕ) (regs cells : List ℤ) where
  transfer_any : (amount : ℤ) (short : ℕ) (to : Access) (found : Option ℕ)
      → transfer_cells (with_fuel new v) place n regs amount short to cells found ≡ transfer_cells v place n regs amount short to cells found
  unfolding transfer_cells lookup
  transfer_any amount short to None = refl
  transfer_any amount short to (Some m) = refl

  perform_any : (as' : List Access) (next : Next) → perform (with_fuel new v) place n as' regs next cells ≡ perform v place n as' regs next cells
  unfolding perform lookup
  perform_any as' (Go to) = refl
  perform_any as' (End outcome) = refl
  perform_any as' (Load x) = refl
  perform_any as' (Store z) = refl
  perform_any as' (Transfer amount short) = transfer_any amount short (access_at as' 1) (lookup v (access_at as' 0))

entry_any : (v : View) (new count : ℕ) (regs cells : List ℤ) → step_place (with_fuel new v) 0 count regs cells ≡ step_place v 0 0 regs cells
unfolding step_place step_entry entry_accesses entry_action
entry_any v new count regs cells =
    ap (λ (x : Performed). if eqb v.code 0 then ending 1 0 else x)
    (perform_any v new 0 0 (entry_action v.call regs).regs cells (entry_accesses v.call) (entry_action v.call regs).next)

-- ---- the restore, and a lent run

restores : (v : View) (saved : List ℤ) (n : ℕ) (cells : List ℤ)
    → finish v saved out_of_fuel n cells ≡ (if restorable v.count v.entries then done out_of_fuel n (restored v.entries saved cells) else damaged)
unfolding finish
restores v saved n cells = refl

module _ (block : List ℕ) (r : Run) (worker call : ℕ) (c : Call) where
  abbrev view : View
  view = view_of block r call c

  stays : ¬ (place_in r.seats worker ≡ 0) → (c.fuel ≡ 0) ⊎ (c.fuel < count_in r.seats worker)
      → stepped r worker call (step_call view (local_of r worker call) r.cells) ≡ stay r Damaged
  unfolding step_call concluded stepped
  stays behind (inl none') = rw (no_fuel view (place_in r.seats worker) _ r.cells (count_in r.seats worker) behind none')
  stays behind (inr above) = rw (count_above view (place_in r.seats worker) _ r.cells (count_in r.seats worker) behind above)

  lent : held_by r worker ≡ Ok call → ¬ (place_in r.seats worker ≡ 0)
      → call_of (drop (r.head.first_call + call_record_bytes * call + head_bytes) block) ≡ Some c
      → (c.fuel ≡ 0) ⊎ (c.fuel < count_in r.seats worker) → step_of block r worker ≡ stay r Damaged
  unfolding step_for step_held step_record
  lent held behind read bad =
      ap (step_for block r worker) held
      ∙ if_all (λ (m : Moved). m ≡ stay r Damaged)
      (ltb (max_code + 1) (plan_word r.plan call code_length) || ltb (plan_word r.plan call code_length) (place_in r.seats worker)) (λ e. refl)
      (λ e. ap (step_record block r worker call) read ∙ stays behind bad)

pub fuel_holds : FuelHolds
fuel_holds =
    record {
      jumps = jumps_within;
      rule = rule_fuel;
      counted = counted;
      step = step_fuel;
      entry = entry_any;
      restores = restores;
      lent = lent;
    }
