-- A transaction from two states that are alike on what it reads: one receipt, and states left alike wherever the two were.
use Rattle.arith.specs.declared.NoResult.TheVariants.{Overflow, ZeroDivisor}
use Rattle.arith.specs.declared.NoResult.{NoResult}
use Rattle.block.specs.declared.address.Account.{Account}
use mathlib.Core.Path.{◌≡◌, refl, sym, ap, subst, ◌∙◌}
use mathlib.Core.Bool.{Bool, true, false}
use mathlib.Core.List.{List}
use Prim.Native.Nat.{ℕ, zero, suc, ◌+◌}
use native.Mathlib.Decide.{ℕ_discrete}
use lib.IntN.{ℤ, pos, ◌+ℤ◌, ◌-ℤ◌}
use lib.ListN.{get_or, set}
use lib.Signed.{lt_z, non_neg}
use Rattle.wire.specs.All.{All}
use Rattle.footprint.specs.SafeSets.{AlikeOn, LeftAlike}
use Rattle.std.specs.Prelude.{if◌then◌else◌, None, Option, Some, slice_get, Err, Ok, Result}
use Rattle.arith.specs.Exact.{add_of, sub_of, mul_of, div_of}
use Rattle.arith.proofs.IntegerLaws.{clash}
use Rattle.block.specs.Key.{account_balance, contract_balance}
use Rattle.block.specs.Record.{Function}
use Rattle.block.specs.declared.Call.{Call}
use Rattle.block.specs.declared.Instr.{Instr}
use Rattle.block.specs.declared.Instr.TheVariants.{Stop, Throw, Set, Arg, Sender, Value, Add, Sub, Mul, Div, Get, Put, Bal, Pay, Jeq, Jlt}
use Rattle.block.specs.Naming.{cell_key, target_of}
use Rattle.footprint.specs.SetsInWords.{instructions_of}
use Rattle.rule.proofs.LimitLaws.{update_same, update_other}
use Rattle.footprint.proofs.TransactionLaws.{HoldsOfFound, every_at}
use Rattle.rule.specs.Rule.{State, update, credit, debit, BodyResult, ends, fails, Course, before, over, assign_checked, transfer, execute, execute_at, unfuelled, run_body, Left, settle, unbegun, run_function, transaction_by}

module _ (Q : ℕ → Type 0) where
  -- Storing into the same cell values that are equal if the cell is in Q.
  pub update_alike : (σ τ : State) → AlikeOn Q σ τ → (k : ℕ) (v w : ℤ) → (Q k → v ≡ w) → AlikeOn Q (update σ k v) (update τ k w)
  update_alike σ τ a k v w e l q = go (ℕ_discrete l k)
    where
      go : Dec (l ≡ k) → update σ k v l ≡ update τ k w l
      go (yes s) =
          ap (update σ k v) s ∙ update_same σ k v ∙ e (subst Q s q) ∙ sym (update_same τ k w) ∙ ap (update τ k w) (sym s)
      go (no d) = update_other σ k v l d ∙ a l q ∙ sym (update_other τ k w l d)

  -- Moving the same amount.
  pub move_alike : (σ τ : State) → AlikeOn Q σ τ → (j k : ℕ) (m : ℤ) → AlikeOn Q (credit (debit σ j m) k m) (credit (debit τ j m) k m)
  move_alike σ τ a j k m =
      let less = update_alike σ τ a j (σ j -ℤ m) (τ j -ℤ m) (λ q. ap (λ (x : ℤ). x -ℤ m) (a j q)) in
      update_alike (debit σ j m) (debit τ j m) less k (debit σ j m k +ℤ m) (debit τ j m k +ℤ m)
      (λ q. ap (λ (x : ℤ). x +ℤ m) (less k q))

  -- Two courses at one place, with equal registers and counts and states alike; or at results of one kind.
  abbrev pub ResultsAlike : BodyResult → BodyResult → Type 0
  ResultsAlike (ends σ n e) (ends τ m f) = (n ≡ m) × (e ≡ f) × AlikeOn Q σ τ
  ResultsAlike (ends σ n e) (fails o m) = ⊥
  ResultsAlike (fails o n) (ends τ m f) = ⊥
  ResultsAlike (fails o n) (fails u m) = (o ≡ u) × (n ≡ m)

  abbrev pub Beside : Course → Course → Type 0
  Beside (before p ρ n σ) (before q π m τ) = (p ≡ q) × (ρ ≡ π) × (n ≡ m) × AlikeOn Q σ τ
  Beside (before p ρ n σ) (over s) = ⊥
  Beside (over r) (before q π m τ) = ⊥
  Beside (over r) (over s) = ResultsAlike r s

  module _ (c : Call) where
    -- What an instruction reads is in Q.
    abbrev pub ReadsIn : Instr → Type 0
    ReadsIn Stop = Unit {0}
    ReadsIn Throw = Unit {0}
    ReadsIn (Set x v) = Unit {0}
    ReadsIn (Arg x k) = Unit {0}
    ReadsIn (Sender x) = Unit {0}
    ReadsIn (Value x) = Unit {0}
    ReadsIn (Add x y z) = Unit {0}
    ReadsIn (Sub x y z) = Unit {0}
    ReadsIn (Mul x y z) = Unit {0}
    ReadsIn (Div x y z) = Unit {0}
    ReadsIn (Get x field a b) = Q (cell_key c field a b)
    ReadsIn (Put x field a b) = Unit {0}
    ReadsIn (Bal x) = Q (contract_balance c.contract)
    ReadsIn (Pay x target) = Q (contract_balance c.contract)
    ReadsIn (Jeq x y to) = Unit {0}
    ReadsIn (Jlt x y to) = Unit {0}

    module _ (p : ℕ) (ρ : List ℤ) (n : ℕ) (σ τ : State) (alike : AlikeOn Q σ τ) where
      checked_alike : (x : ℕ) (r : Result ℤ NoResult) → Beside (assign_checked p ρ n σ x r) (assign_checked p ρ n τ x r)
      unfolding assign_checked
      checked_alike x (Ok v) = (refl, refl, refl, alike)
      checked_alike x (Err Overflow) = (refl, refl)
      checked_alike x (Err ZeroDivisor) = (refl, refl)

      transfer_alike : (m : ℤ) (payee : Option Account) → σ (contract_balance c.contract) ≡ τ (contract_balance c.contract)
          → Beside (transfer c p ρ n σ m payee) (transfer c p ρ n τ m payee)
      unfolding transfer
      transfer_alike m None e = (refl, refl)
      transfer_alike m (Some account) e =
          go (non_neg m) (lt_z (σ own) m) (lt_z (τ own) m) (ap (λ (x : ℤ). lt_z x m) e)
        where
          own : ℕ
          own = contract_balance c.contract

          paid : State → State
          paid θ = credit (debit θ own m) (account_balance account) m

          tried : Bool → Bool → State → Course
          tried s l θ = if s then (if l then over (fails 5 n) else before (p + 1) ρ n (paid θ)) else over (fails 5 n)

          go : (s l k : Bool) → l ≡ k → Beside (tried s l σ) (tried s k τ)
          go false l k f = (refl, refl)
          go true true true f = (refl, refl)
          go true true false f = clash (sym f)
          go true false true f = clash f
          go true false false f = (refl, refl, refl, move_alike σ τ alike own (account_balance account) m)

      execute_alike : (i : Instr) → ReadsIn i → Beside (execute c p ρ n σ i) (execute c p ρ n τ i)
      unfolding execute
      execute_alike Stop q = (refl, refl, alike)
      execute_alike Throw q = (refl, refl)
      execute_alike (Set x v) q = (refl, refl, refl, alike)
      execute_alike (Arg x k) q = (refl, refl, refl, alike)
      execute_alike (Sender x) q = (refl, refl, refl, alike)
      execute_alike (Value x) q = (refl, refl, refl, alike)
      execute_alike (Add x y z) q = checked_alike x (add_of (get_or ρ y (pos 0)) (get_or ρ z (pos 0)))
      execute_alike (Sub x y z) q = checked_alike x (sub_of (get_or ρ y (pos 0)) (get_or ρ z (pos 0)))
      execute_alike (Mul x y z) q = checked_alike x (mul_of (get_or ρ y (pos 0)) (get_or ρ z (pos 0)))
      execute_alike (Div x y z) q = checked_alike x (div_of (get_or ρ y (pos 0)) (get_or ρ z (pos 0)))
      execute_alike (Get x field a b) q = (refl, ap (set ρ x) (alike (cell_key c field a b) q), refl, alike)
      execute_alike (Put x field a b) q =
          (refl, refl, refl, update_alike σ τ alike (cell_key c field a b) (get_or ρ x (pos 0)) (get_or ρ x (pos 0)) (λ r. refl))
      execute_alike (Bal x) q = (refl, ap (set ρ x) (alike (contract_balance c.contract) q), refl, alike)
      execute_alike (Pay x target) q = transfer_alike (get_or ρ x (pos 0)) (target_of c target) (alike (contract_balance c.contract) q)
      execute_alike (Jeq x y to) q = (refl, refl, refl, alike)
      execute_alike (Jlt x y to) q = (refl, refl, refl, alike)

    at_alike : (p : ℕ) (ρ : List ℤ) (n : ℕ) (σ τ : State) → AlikeOn Q σ τ → (o : Option Instr) → HoldsOfFound ReadsIn o
        → Beside (execute_at c p ρ n σ o) (execute_at c p ρ n τ o)
    unfolding execute_at
    at_alike p ρ n σ τ alike None q = (refl, refl, alike)
    at_alike p ρ n σ τ alike (Some i) q = execute_alike p ρ (n + 1) σ τ alike i q

    last_alike : (n : ℕ) (σ τ : State) → AlikeOn Q σ τ → (o : Option Instr) → ResultsAlike (unfuelled n σ o) (unfuelled n τ o)
    unfolding unfuelled
    last_alike n σ τ alike None = (refl, refl, alike)
    last_alike n σ τ alike (Some i) = (refl, refl)

    run_alike : (body : List Instr) → All ReadsIn body → (fuel : ℕ) (x y : Course) → Beside x y
        → ResultsAlike (run_body fuel c body x) (run_body fuel c body y)
    unfolding run_body
    run_alike body each zero (before p ρ n σ) (before q π m τ) h = rw (← h.0, ← h.2) (last_alike n σ τ h.3 (slice_get body p))
    run_alike body each zero (before p ρ n σ) (over s) h = absurd h
    run_alike body each zero (over r) (before q π m τ) h = absurd h
    run_alike body each zero (over r) (over s) h = h
    run_alike body each (suc fuel) (before p ρ n σ) (before q π m τ) h =
        run_alike body each fuel (execute_at c p ρ n σ (slice_get body p)) (execute_at c q π m τ (slice_get body q))
        (rw (← h.0, ← h.1, ← h.2) (at_alike p ρ n σ τ h.3 (slice_get body p) (every_at ReadsIn body each p)))
    run_alike body each (suc fuel) (before p ρ n σ) (over s) h = absurd h
    run_alike body each (suc fuel) (over r) (before q π m τ) h = absurd h
    run_alike body each (suc fuel) (over r) (over s) h = h

    settle_alike : (σ τ : State) → AlikeOn Q σ τ → (r s : BodyResult) → ResultsAlike r s → LeftAlike Q (settle σ r) (settle τ s)
    unfolding settle
    settle_alike σ τ alike (ends σ' n e) (ends τ' m f) h = record { outcome = refl; count = h.0; behind = h.1; state = h.2 }
    settle_alike σ τ alike (ends σ' n e) (fails o m) h = absurd h
    settle_alike σ τ alike (fails o n) (ends τ' m f) h = absurd h
    settle_alike σ τ alike (fails o n) (fails u m) h = record { outcome = h.0; count = h.1; behind = refl; state = alike }

    -- Where the test of the sender's balance comes out alike and the function reads within Q, the two leave the like.
    pub transaction_alike : (block : List ℕ) (σ τ : State) → AlikeOn Q σ τ → (f : Option Function)
        → ((g : Function) → f ≡ Some g → lt_z (σ (account_balance c.sender)) c.value ≡ lt_z (τ (account_balance c.sender)) c.value)
        → ((g : Function) → f ≡ Some g → All ReadsIn (instructions_of block g))
        → LeftAlike Q (transaction_by block c σ f) (transaction_by block c τ f)
    unfolding transaction_by run_function
    transaction_alike block σ τ alike None test each = record { outcome = refl; count = refl; behind = refl; state = alike }
    transaction_alike block σ τ alike (Some g) test each =
        go (lt_z (σ sender) c.value) (lt_z (τ sender) c.value) (test g refl)
      where
        sender : ℕ
        sender = account_balance c.sender

        began : Bool → State → Left
        began b θ = if b then unbegun θ 2 else run_function block c θ g

        go : (a b : Bool) → a ≡ b → LeftAlike Q (began a σ) (began b τ)
        go true true e = record { outcome = refl; count = refl; behind = refl; state = alike }
        go true false e = clash (sym e)
        go false true e = clash e
        go false false e =
            settle_alike σ τ alike _ _
            (run_alike (instructions_of block g) (each g refl) c.fuel _ _
            (refl, refl, refl, move_alike σ τ alike sender (contract_balance c.contract) c.value))
