-- M-103 holds: what an instruction reckons is what the arithmetic answers, and an answer without a value is all that ends a call with 4 or 6, in the rule and in a step.
-- A transaction that comes to such an instruction with fuel for it ends there; and one that ended so came to it.
use Rattle.arith.specs.declared.NoResult.TheVariants.{Overflow, ZeroDivisor}
use Rattle.arith.specs.declared.NoResult.{NoResult}
use Rattle.block.specs.declared.address.Account.{Account}
use Rattle.std.proofs.lemmas.Option.{none-some}
use Rattle.std.proofs.lemmas.Option.{same_Some}
use mathlib.Core.Path.{◌≡◌, refl, sym, ap, subst, ◌∙◌}
use mathlib.Core.Bool.{Bool, true, false, ◌&&◌, not, true≢false}
use mathlib.Core.List.{List, []}
use mathlib.Core.Logic.{◌⊎◌, inl, inr}
use Prim.Native.Nat.{ℕ, zero, suc, ◌+◌, ◌-◌, ◌≤◌, ◌<◌}
use native.Mathlib.Omega.{arith}
use borrow.Author.Tests.{le-ltb}
use lib.IntN.{ℤ, pos, negsuc, ◌+ℤ◌, ◌-ℤ◌, ◌*ℤ◌}
use lib.Signed.{lt_z, le_z, non_neg}
use Rattle.std.specs.Prelude.{if◌then◌else◌, None, Option, Some, Err, Ok, Result}
use Rattle.arith.specs.Balance.{largest}
use Rattle.arith.specs.Exact.{fits64, checked, add_of, sub_of, mul_of, div_of}
use Rattle.arith.proofs.ChoiceLaws.{by_test, if_all}
use Rattle.block.specs.Key.{account_balance, contract_balance, is_balance}
use Rattle.block.specs.Outcomes.{balance_too_low, thrown, out_of_range, not_paid, zero_divisor, out_of_fuel}
use Rattle.block.specs.Naming.{function_of, target_of}
use Rattle.block.specs.Record.{Function}
use Rattle.block.specs.declared.Call.{Call}
use Rattle.block.specs.declared.Instr.{Instr}
use Rattle.block.specs.declared.Instr.TheVariants.{Stop, Throw, Set, Arg, Sender, Value, Add, Sub, Mul, Div, Get, Put, Bal, Pay, Jeq, Jlt}
use Rattle.footprint.specs.Access.{Access, accesses}
use Rattle.footprint.specs.SetsInWords.{instructions_of}
use Rattle.rule.specs.Rule.{State, BodyResult, ends, fails, Course, before, over, assign_checked, transfer, execute, execute_at, run_body, settle, unbegun, run_function, transaction_by, transaction}
use Rattle.rule.proofs.TurnLaws.{body_over}
use Rattle.machine.specs.Run.{zero_registers}
use Rattle.machine.specs.Action.{register, checked_action, pay_action, instr_action}
use Rattle.machine.specs.declared.Next.TheVariants.{End, Transfer}
use Rattle.machine.specs.Step.{View, Performed, broken, onward, ending, damaged, done, restorable, restored, cell_at, load_cell, store_cell, deposit_cell, transfer_cells, lookup, access_at, perform, perform_action, step_decoded, finish}
use Rattle.guarantees.specs.ZeroDivisors.{Reckoned, nothing, exactly, by_zero, quotient, reckoned, is_by_zero, is_outside, ComesTo, Tells, ZeroDivisorsHold}
use Rattle.guarantees.specs.Turns.{turned, entered, failed_with}
use Rattle.guarantees.proofs.TurnedLaws.{run_turned, FailsAt, SpentAt, failed_at}

-- ---- what is reckoned, and what the arithmetic answers

-- The answer to what is reckoned; nothing has a value, whichever.
answer : Reckoned → Result ℤ NoResult
answer nothing = Ok (pos 0)
answer (exactly z) = checked z
answer by_zero = Err ZeroDivisor

div_answer : (a b : ℤ) → div_of a b ≡ answer (quotient a b)
unfolding div_of quotient answer
div_answer a (pos zero) = refl
div_answer a (pos (suc d)) = refl
div_answer a (negsuc d) = refl

-- The outcome of an answer without a value.
failure : Result ℤ NoResult → Option ℕ
failure (Ok v) = None
failure (Err Overflow) = Some out_of_range
failure (Err ZeroDivisor) = Some zero_divisor

-- An outcome is that of the answers of which a test holds; and it is of no THROW, of no PAY and of no want of fuel.
record Told (outcome : ℕ) (test : Reckoned → Bool) : Type 0 where
  here : (r : Reckoned) → test r ≡ true → failure (answer r) ≡ Some outcome
  only : (r : Reckoned) → failure (answer r) ≡ Some outcome → test r ≡ true
  high : thrown < outcome
  unpaid : not_paid ≡ outcome → ⊥
  fuelled : outcome ≡ out_of_fuel → ⊥

module _ (outcome : ℕ) (test : Reckoned → Bool) (told : Told outcome test) where
  -- What reckons nothing does not end so.
  silent : {A : Type 0} → test nothing ≡ true → A
  unfolding answer failure
  silent e = absurd (none-some outcome (told.here nothing e))

  -- ---- one turn of the rule

  module _ (c : Call) (p : ℕ) (ρ : List ℤ) (n : ℕ) (σ : State) where
    checked_here : (x : ℕ) (k : Result ℤ NoResult) → failure k ≡ Some outcome → assign_checked p ρ n σ x k ≡ over (fails outcome n)
    unfolding assign_checked failure
    checked_here x (Ok v) e = absurd (none-some outcome e)
    checked_here x (Err Overflow) e = ap (λ (o : ℕ). over (fails o n)) (same_Some out_of_range outcome e)
    checked_here x (Err ZeroDivisor) e = ap (λ (o : ℕ). over (fails o n)) (same_Some zero_divisor outcome e)

    execute_here : (i : Instr) → test (reckoned ρ i) ≡ true → execute c p ρ n σ i ≡ over (fails outcome n)
    unfolding execute reckoned answer
    execute_here Stop e = silent e
    execute_here Throw e = silent e
    execute_here (Set x v) e = silent e
    execute_here (Arg x k) e = silent e
    execute_here (Sender x) e = silent e
    execute_here (Value x) e = silent e
    execute_here (Add x y z) e = checked_here x (add_of (register ρ y) (register ρ z)) (told.here (exactly (register ρ y +ℤ register ρ z)) e)
    execute_here (Sub x y z) e = checked_here x (sub_of (register ρ y) (register ρ z)) (told.here (exactly (register ρ y -ℤ register ρ z)) e)
    execute_here (Mul x y z) e = checked_here x (mul_of (register ρ y) (register ρ z)) (told.here (exactly (register ρ y *ℤ register ρ z)) e)
    execute_here (Div x y z) e =
        checked_here x (div_of (register ρ y) (register ρ z))
        (ap failure (div_answer (register ρ y) (register ρ z)) ∙ told.here (quotient (register ρ y) (register ρ z)) e)
    execute_here (Get x field a b) e = silent e
    execute_here (Put x field a b) e = silent e
    execute_here (Bal x) e = silent e
    execute_here (Pay x target) e = silent e
    execute_here (Jeq x y to) e = silent e
    execute_here (Jlt x y to) e = silent e

    -- A course that is over with the outcome has Q.
    abbrev Only : Type 0 → Course → Type 0
    Only Q (before q ρ' m τ) = Unit {0}
    Only Q (over (ends τ m behind)) = Unit {0}
    Only Q (over (fails o m)) = o ≡ outcome → Q

    checked_only : (Q : Type 0) (x : ℕ) (k : Result ℤ NoResult) → (failure k ≡ Some outcome → Q) → Only Q (assign_checked p ρ n σ x k)
    unfolding assign_checked failure
    checked_only Q x (Ok v) f = tt
    checked_only Q x (Err Overflow) f = λ e. f (ap Some e)
    checked_only Q x (Err ZeroDivisor) f = λ e. f (ap Some e)

    transfer_only : (Q : Type 0) (m : ℤ) (payee : Option Account) → Only Q (transfer c p ρ n σ m payee)
    unfolding transfer
    transfer_only Q m None = λ e. absurd (told.unpaid e)
    transfer_only Q m (Some account) =
        if_all (Only Q) (non_neg m)
        (λ s. if_all (Only Q) (lt_z (σ (contract_balance c.contract)) m) (λ t e. absurd (told.unpaid e)) (λ t. tt))
        (λ s e. absurd (told.unpaid e))

    execute_only : (i : Instr) → Only (test (reckoned ρ i) ≡ true) (execute c p ρ n σ i)
    unfolding execute reckoned answer
    execute_only Stop = tt
    execute_only Throw = λ e. absurd (omega (arith, e, told.high))
    execute_only (Set x v) = tt
    execute_only (Arg x k) = tt
    execute_only (Sender x) = tt
    execute_only (Value x) = tt
    execute_only (Add x y z) = checked_only _ x (add_of (register ρ y) (register ρ z)) (told.only (exactly (register ρ y +ℤ register ρ z)))
    execute_only (Sub x y z) = checked_only _ x (sub_of (register ρ y) (register ρ z)) (told.only (exactly (register ρ y -ℤ register ρ z)))
    execute_only (Mul x y z) = checked_only _ x (mul_of (register ρ y) (register ρ z)) (told.only (exactly (register ρ y *ℤ register ρ z)))
    execute_only (Div x y z) =
        checked_only _ x (div_of (register ρ y) (register ρ z))
        (λ e. told.only (quotient (register ρ y) (register ρ z)) (ap failure (sym (div_answer (register ρ y) (register ρ z))) ∙ e))
    execute_only (Get x field a b) = tt
    execute_only (Put x field a b) = tt
    execute_only (Bal x) = tt
    execute_only (Pay x target) = transfer_only _ (register ρ x) (target_of c target)
    execute_only (Jeq x y to) = tt
    execute_only (Jlt x y to) = tt

  turn_here : (c : Call) (p : ℕ) (ρ : List ℤ) (n : ℕ) (σ : State) (i : Instr) → test (reckoned ρ i) ≡ true
      → execute_at c p ρ n σ (Some i) ≡ over (fails outcome (n + 1))
  unfolding execute_at
  turn_here c p ρ n σ i e = execute_here c p ρ (n + 1) σ i e

  turn_only : (c : Call) (p : ℕ) (ρ : List ℤ) (n : ℕ) (σ : State) (i : Instr) (m : ℕ) → execute_at c p ρ n σ (Some i) ≡ over (fails outcome m)
      → test (reckoned ρ i) ≡ true
  unfolding execute_at
  turn_only c p ρ n σ i m e = subst (Only c p ρ (n + 1) σ (test (reckoned ρ i) ≡ true)) e (execute_only c p ρ (n + 1) σ i) refl

  -- ---- one step of the machine

  module _ (v : View) (place n : ℕ) (as' : List Access) (ρ cells : List ℤ) where
    step_here : (x : ℕ) (k : Result ℤ NoResult) → failure k ≡ Some outcome → perform_action v place n as' (checked_action place ρ x k) cells ≡ ending outcome n
    unfolding checked_action failure perform
    step_here x (Ok z) e = absurd (none-some outcome e)
    step_here x (Err Overflow) e = ap (λ (o : ℕ). ending o n) (same_Some out_of_range outcome e)
    step_here x (Err ZeroDivisor) e = ap (λ (o : ℕ). ending o n) (same_Some zero_divisor outcome e)

    -- A place that ends the call with the outcome has Q.
    abbrev Stops : Type 0 → Performed → Type 0
    Stops Q broken = Unit {0}
    Stops Q (onward to m regs after) = Unit {0}
    Stops Q (ending o m) = o ≡ outcome → Q

    step_only : (Q : Type 0) (x : ℕ) (k : Result ℤ NoResult) → (failure k ≡ Some outcome → Q) → Stops Q (perform_action v place n as' (checked_action place ρ x k) cells)
    unfolding checked_action failure perform
    step_only Q x (Ok z) f = tt
    step_only Q x (Err Overflow) f = λ e. f (ap Some e)
    step_only Q x (Err ZeroDivisor) f = λ e. f (ap Some e)

    load_stops : (Q : Type 0) (x : ℕ) (a : Access) (l : Option ℕ) → Stops Q (load_cell place n ρ x a cells l)
    unfolding load_cell
    load_stops Q x a None = tt
    load_stops Q x a (Some k) = if_all (Stops Q) (is_balance a.key && not (non_neg (cell_at cells k))) (λ t. tt) (λ t. tt)

    store_stops : (Q : Type 0) (z : ℤ) (l : Option ℕ) → Stops Q (store_cell place n ρ z cells l)
    unfolding store_cell
    store_stops Q z None = tt
    store_stops Q z (Some k) = tt

    deposit_stops : (Q : Type 0) (m : ℤ) (k : ℕ) (l : Option ℕ) → Stops Q (deposit_cell place n ρ m k cells l)
    unfolding deposit_cell
    deposit_stops Q m k None = tt
    deposit_stops Q m k (Some j) = if_all (Stops Q) (non_neg (cell_at cells j) && le_z (cell_at cells j +ℤ m) largest) (λ t. tt) (λ t. tt)

    transfer_stops : (Q : Type 0) (m : ℤ) (to : Access) (l : Option ℕ) → Stops Q (transfer_cells v place n ρ m not_paid to cells l)
    unfolding transfer_cells
    transfer_stops Q m to None = tt
    transfer_stops Q m to (Some k) =
        if_all (Stops Q) (not (non_neg (cell_at cells k))) (λ t. tt) λ t.
        if_all (Stops Q) (lt_z (cell_at cells k) m) (λ u e. absurd (told.unpaid e)) (λ u. deposit_stops Q m k (lookup v to))

    pay_stops : (Q : Type 0) (m : ℤ) (payee : Option Account) → Stops Q (perform_action v place n as' (pay_action ρ m payee) cells)
    unfolding pay_action perform
    pay_stops Q m None = λ e. absurd (told.unpaid e)
    pay_stops Q m (Some account) =
        by_test (λ t. Stops Q (perform v place n as' ρ (if t then Transfer m not_paid else End not_paid) cells)) (non_neg m)
        (λ t. transfer_stops Q m (access_at as' 1) (lookup v (access_at as' 0))) (λ t e. absurd (told.unpaid e))

  decoded_here : (v : View) (place n : ℕ) (ρ cells : List ℤ) (i : Instr) → test (reckoned ρ i) ≡ true
      → step_decoded v place n ρ cells (Some i) ≡ ending outcome (n + 1)
  unfolding step_decoded instr_action accesses reckoned answer
  decoded_here v place n ρ cells Stop e = silent e
  decoded_here v place n ρ cells Throw e = silent e
  decoded_here v place n ρ cells (Set x z) e = silent e
  decoded_here v place n ρ cells (Arg x k) e = silent e
  decoded_here v place n ρ cells (Sender x) e = silent e
  decoded_here v place n ρ cells (Value x) e = silent e
  decoded_here v place n ρ cells (Add x y z) e =
      step_here v place (n + 1) [] ρ cells x (add_of (register ρ y) (register ρ z)) (told.here (exactly (register ρ y +ℤ register ρ z)) e)
  decoded_here v place n ρ cells (Sub x y z) e =
      step_here v place (n + 1) [] ρ cells x (sub_of (register ρ y) (register ρ z)) (told.here (exactly (register ρ y -ℤ register ρ z)) e)
  decoded_here v place n ρ cells (Mul x y z) e =
      step_here v place (n + 1) [] ρ cells x (mul_of (register ρ y) (register ρ z)) (told.here (exactly (register ρ y *ℤ register ρ z)) e)
  decoded_here v place n ρ cells (Div x y z) e =
      step_here v place (n + 1) [] ρ cells x (div_of (register ρ y) (register ρ z))
      (ap failure (div_answer (register ρ y) (register ρ z)) ∙ told.here (quotient (register ρ y) (register ρ z)) e)
  decoded_here v place n ρ cells (Get x field a b) e = silent e
  decoded_here v place n ρ cells (Put x field a b) e = silent e
  decoded_here v place n ρ cells (Bal x) e = silent e
  decoded_here v place n ρ cells (Pay x target) e = silent e
  decoded_here v place n ρ cells (Jeq x y to) e = silent e
  decoded_here v place n ρ cells (Jlt x y to) e = silent e

  decoded_stops : (v : View) (place n : ℕ) (ρ cells : List ℤ) (i : Instr)
      → Stops v place (n + 1) [] ρ cells (test (reckoned ρ i) ≡ true) (step_decoded v place n ρ cells (Some i))
  unfolding step_decoded instr_action perform reckoned answer
  decoded_stops v place n ρ cells Stop = λ e. absurd (omega (arith, e, told.high))
  decoded_stops v place n ρ cells Throw = λ e. absurd (omega (arith, e, told.high))
  decoded_stops v place n ρ cells (Set x z) = tt
  decoded_stops v place n ρ cells (Arg x k) = tt
  decoded_stops v place n ρ cells (Sender x) = tt
  decoded_stops v place n ρ cells (Value x) = tt
  decoded_stops v place n ρ cells (Add x y z) =
      step_only v place (n + 1) (accesses v.call (Add x y z)) ρ cells _ x (add_of (register ρ y) (register ρ z)) (told.only (exactly (register ρ y +ℤ register ρ z)))
  decoded_stops v place n ρ cells (Sub x y z) =
      step_only v place (n + 1) (accesses v.call (Sub x y z)) ρ cells _ x (sub_of (register ρ y) (register ρ z)) (told.only (exactly (register ρ y -ℤ register ρ z)))
  decoded_stops v place n ρ cells (Mul x y z) =
      step_only v place (n + 1) (accesses v.call (Mul x y z)) ρ cells _ x (mul_of (register ρ y) (register ρ z)) (told.only (exactly (register ρ y *ℤ register ρ z)))
  decoded_stops v place n ρ cells (Div x y z) =
      step_only v place (n + 1) (accesses v.call (Div x y z)) ρ cells _ x (div_of (register ρ y) (register ρ z))
      (λ e. told.only (quotient (register ρ y) (register ρ z)) (ap failure (sym (div_answer (register ρ y) (register ρ z))) ∙ e))
  decoded_stops v place n ρ cells (Get x field a b) =
      load_stops v place (n + 1) [] ρ cells _ x (access_at (accesses v.call (Get x field a b)) 0) (lookup v (access_at (accesses v.call (Get x field a b)) 0))
  decoded_stops v place n ρ cells (Put x field a b) =
      store_stops v place (n + 1) [] ρ cells _ (register ρ x) (lookup v (access_at (accesses v.call (Put x field a b)) 0))
  decoded_stops v place n ρ cells (Bal x) =
      load_stops v place (n + 1) [] ρ cells _ x (access_at (accesses v.call (Bal x)) 0) (lookup v (access_at (accesses v.call (Bal x)) 0))
  decoded_stops v place n ρ cells (Pay x target) =
      pay_stops v place (n + 1) (accesses v.call (Pay x target)) ρ cells _ (register ρ x) (target_of v.call target)
  decoded_stops v place n ρ cells (Jeq x y to) = tt
  decoded_stops v place n ρ cells (Jlt x y to) = tt

  decoded_only : (v : View) (place n : ℕ) (ρ cells : List ℤ) (i : Instr) (m : ℕ) → step_decoded v place n ρ cells (Some i) ≡ ending outcome m
      → test (reckoned ρ i) ≡ true
  decoded_only v place n ρ cells i m e =
      subst (Stops v place (n + 1) [] ρ cells (test (reckoned ρ i) ≡ true)) e (decoded_stops v place n ρ cells i) refl

  finish_restores : (v : View) (saved : List ℤ) (n : ℕ) (cells : List ℤ)
      → finish v saved outcome n cells ≡ (if restorable v.count v.entries then done outcome n (restored v.entries saved cells) else damaged)
  unfolding finish
  finish_restores v saved n cells = let h : thrown ≤ outcome = omega (arith, told.high) in rw (le-ltb outcome thrown h) refl

  -- ---- a transaction

  module _ (block : List ℕ) (functions : List Function) (c : Call) (σ : State) where
    ends_there : (at : ComesTo test block functions c σ) → transaction block functions c σ ≡ failed_with outcome (at.count + 1) σ
    unfolding transaction_by run_function settle run_body
    ends_there at = rw (at.known, at.enough) (ap (settle σ) run)
      where
        f : Function
        f = at.function

        left : ℕ
        left = c.fuel - (at.count + 1)

        run : run_body c.fuel c (instructions_of block f) (entered c σ) ≡ fails outcome (at.count + 1)
        run =
            let turns : c.fuel ≡ at.count + suc left = omega (arith, at.fuelled) in
            ap (λ (t : ℕ). run_body t c (instructions_of block f) (entered c σ)) turns
            ∙ run_turned at.count (suc left) c (instructions_of block f) (entered c σ)
            ∙ ap (run_body (suc left) c (instructions_of block f)) at.stands
            ∙ ap (λ (o : Option Instr). run_body left c (instructions_of block f) (execute_at c at.place at.regs at.count at.state o)) at.due
            ∙ ap (run_body left c (instructions_of block f)) (turn_here c at.place at.regs at.count at.state at.instr at.tested)
            ∙ body_over left c (instructions_of block f) (fails outcome (at.count + 1))

    -- A body that fails so came to the instruction at which it did.
    came : (transaction block functions c σ).outcome ≡ outcome → ComesTo test block functions c σ
    unfolding transaction_by run_function settle turned
    came = known (function_of functions c) refl
      where
        failed : (f : Function) → function_of functions c ≡ Some f → lt_z (σ (account_balance c.sender)) c.value ≡ false → (m : ℕ)
            → FailsAt c (instructions_of block f) (entered c σ) outcome m ⊎ SpentAt c (instructions_of block f) (entered c σ) outcome
            → ComesTo test block functions c σ
        failed f k t m (inl at) =
            record {
              function = f;
              known = k;
              enough = t;
              count = at.count;
              place = at.place;
              regs = at.regs;
              state = at.state;
              instr = at.instr;
              stands = at.stands;
              due = at.due;
              fuelled = at.fuelled;
              tested = turn_only c at.place at.regs at.count at.state at.instr m at.failed;
            }
        failed f k t m (inr at) = absurd (told.fuelled at.spent)

        result : (f : Function) → function_of functions c ≡ Some f → lt_z (σ (account_balance c.sender)) c.value ≡ false
            → (r : BodyResult) → run_body c.fuel c (instructions_of block f) (entered c σ) ≡ r → (settle σ r).outcome ≡ outcome
            → ComesTo test block functions c σ
        result f k t (ends τ m behind) run e = absurd (omega (arith, e, told.high))
        result f k t (fails o m) run e =
            failed f k t m
            (failed_at c (instructions_of block f) (entered c σ) outcome m c.fuel 0 0 zero_registers _ (omega arith) refl
            (run ∙ ap (λ (o' : ℕ). fails o' m) e))

        enough : (f : Function) → function_of functions c ≡ Some f → (t : Bool) → lt_z (σ (account_balance c.sender)) c.value ≡ t
            → (if t then unbegun σ balance_too_low else run_function block c σ f).outcome ≡ outcome → ComesTo test block functions c σ
        enough f k true t e = absurd (omega (arith, e, told.high))
        enough f k false t e = result f k t (run_body c.fuel c (instructions_of block f) (entered c σ)) refl e

        known : (o : Option Function) → function_of functions c ≡ o → (transaction_by block c σ o).outcome ≡ outcome → ComesTo test block functions c σ
        known None k e = absurd (omega (arith, e, told.high))
        known (Some f) k e = enough f k (lt_z (σ (account_balance c.sender)) c.value) refl e

  tells : Tells outcome test
  tells =
      record {
        rule = turn_here;
        rule_only = turn_only;
        step = decoded_here;
        step_only = decoded_only;
        restores = finish_restores;
        receipt = ends_there;
        receipt_only = came;
      }

-- ---- the two outcomes

apart : {A : Type 0} → Some out_of_range ≡ Some zero_divisor → A
apart e = absurd (omega (arith, same_Some out_of_range zero_divisor e))

zero_here : (r : Reckoned) → is_by_zero r ≡ true → failure (answer r) ≡ Some zero_divisor
unfolding is_by_zero failure answer
zero_here nothing e = absurd (true≢false (sym e))
zero_here (exactly z) e = absurd (true≢false (sym e))
zero_here by_zero e = refl

zero_only : (r : Reckoned) → failure (answer r) ≡ Some zero_divisor → is_by_zero r ≡ true
unfolding is_by_zero failure answer checked
zero_only nothing e = absurd (none-some zero_divisor e)
zero_only (exactly z) e =
    if_all (λ (k : Result ℤ NoResult). failure k ≡ Some zero_divisor → false ≡ true) (fits64 z) (λ t f. absurd (none-some zero_divisor f)) (λ t f. apart f) e
zero_only by_zero e = refl

range_here : (r : Reckoned) → is_outside r ≡ true → failure (answer r) ≡ Some out_of_range
unfolding is_outside failure answer checked
range_here nothing e = absurd (true≢false (sym e))
range_here (exactly z) e =
    by_test (λ t. not t ≡ true → failure (if t then Ok z else (Err Overflow)) ≡ Some out_of_range) (fits64 z)
    (λ t f. absurd (true≢false (sym f))) (λ t f. refl) e
range_here by_zero e = absurd (true≢false (sym e))

range_only : (r : Reckoned) → failure (answer r) ≡ Some out_of_range → is_outside r ≡ true
unfolding is_outside failure answer checked
range_only nothing e = absurd (none-some out_of_range e)
range_only (exactly z) e =
    by_test (λ t. failure (if t then Ok z else (Err Overflow)) ≡ Some out_of_range → not t ≡ true) (fits64 z)
    (λ t f. absurd (none-some out_of_range f)) (λ t f. refl) e
range_only by_zero e = apart (sym e)

pub zero_divisors_hold : ZeroDivisorsHold
zero_divisors_hold = (
  tells zero_divisor is_by_zero (record { here = zero_here; only = zero_only; high = omega arith; unpaid = λ e. omega (arith, e); fuelled = λ e. omega (arith, e) }),
  tells out_of_range is_outside (record { here = range_here; only = range_only; high = omega arith; unpaid = λ e. omega (arith, e); fuelled = λ e. omega (arith, e) }),
)
