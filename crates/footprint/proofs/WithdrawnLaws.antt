-- What account 0, which marks withdrawn warrants, is to a call: no instruction reads or writes its balance, and the entry does so where account 0 sends a
-- value; so a call leaves there what was there, less the value where account 0 sent it and it ended with 0.
use Rattle.block.specs.declared.address.Account.{Account}
use mathlib.Core.Path.{◌≡◌, refl, sym, ap, ◌∙◌}
use mathlib.Core.Bool.{Bool, true, false, ◌&&◌, ◌||◌, and-true, and-false, or-false}
use mathlib.Core.List.{List, [], ◌∷◌}
use Prim.Native.Nat.{ℕ}
use native.Mathlib.Omega.{arith}
use native.Mathlib.Decide.{ℕ_discrete}
use borrow.Author.Tests.{eq-eqb, ne_eqb, eqb-false}
use lib.Dec.{eqb}
use lib.IntN.{ℤ, pos, ◌+ℤ◌, ◌-ℤ◌}
use lib.Signed.{lt_z, non_neg}
use Rattle.std.specs.Prelude.{if◌then◌else◌, None, Option, Some}
use Rattle.arith.proofs.ChoiceLaws.{if_all}
use Rattle.arith.proofs.IntegerLaws.{diff, le_lt_z, non_neg_true}
use Rattle.wire.specs.All.{All}
use Rattle.block.specs.Key.{withdrawn, payee_of, account_balance, balance_of0, contract_balance, contract_cell}
use Rattle.block.proofs.KeyLaws.{payee_all}
use Rattle.block.specs.Outcomes.{ended}
use Rattle.block.specs.Record.{Function}
use Rattle.block.specs.declared.Call.{Call}
use Rattle.block.specs.declared.Instr.{Instr}
use Rattle.block.specs.declared.Instr.TheVariants.{Stop, Throw, Set, Arg, Sender, Value, Add, Sub, Mul, Div, Get, Put, Bal, Pay, Jeq, Jlt}
use Rattle.block.specs.Naming.{source_value, is_known, function_of}
use Rattle.footprint.specs.Sets.{sets_of, read_set, write_set}
use Rattle.footprint.specs.Conflict.{member}
use Rattle.footprint.specs.SetsInWords.{read_by, paid_to, written_by, some_of, instructions_of, is_read, is_written}
use Rattle.footprint.specs.SafeSets.{CallBounded}
use Rattle.footprint.proofs.SetsExact.{reads_exact, writes_exact}
use Rattle.footprint.proofs.SafeSetsProof.{minus_none, instr_frame}
use Rattle.footprint.proofs.TransactionLaws.{any_value, InstrKeeps, EndsWith, transaction_ends}
use Rattle.rule.proofs.LimitLaws.{update_same, update_other}
use Rattle.rule.specs.Rule.{State, credit, debit, transaction}

-- What no instruction passes, none of a body does.
none_of : (test : Instr → Bool) → ((i : Instr) → test i ≡ false) → (body : List Instr) → some_of test body ≡ false
unfolding some_of
none_of test never [] = refl
none_of test never (i ∷ is) = ap (λ (b : Bool). b || some_of test is) (never i) ∙ none_of test never is

every_of : (Q : Instr → Type 0) → ((i : Instr) → Q i) → (body : List Instr) → All Q body
every_of Q each [] = tt
every_of Q each (i ∷ is) = (each i, every_of Q each is)

module _ (c : Call) (fits : CallBounded c) where
  -- ---- its balance in the sets

  -- It is no key of a contract, and no key that PAY writes of an account.
  not_of_contract : (field a b : ℕ) → eqb balance_of0 (contract_cell c.contract field a b) ≡ false
  not_of_contract field a b = ne_eqb balance_of0 (contract_cell c.contract field a b) (λ e. omega (arith, e, fits.contract))

  not_paid_lem : (n : ℕ) → paid_to balance_of0 (payee_of n) ≡ false
  unfolding paid_to
  not_paid_lem n =
      payee_all (λ (p : Option Account). paid_to balance_of0 p ≡ false) n
      (λ other low. ne_eqb balance_of0 (account_balance (record { 0 = n })) (λ e. other (omega (arith, e)))) refl

  never_written : (i : Instr) → written_by c balance_of0 i ≡ false
  unfolding written_by
  never_written Stop = refl
  never_written Throw = refl
  never_written (Set x value) = refl
  never_written (Arg x n) = refl
  never_written (Sender x) = refl
  never_written (Value x) = refl
  never_written (Add x y z) = refl
  never_written (Sub x y z) = refl
  never_written (Mul x y z) = refl
  never_written (Div x y z) = refl
  never_written (Get x field a b) = refl
  never_written (Put x field a b) = not_of_contract field (source_value c a) (source_value c b)
  never_written (Bal x) = refl
  never_written (Pay x target) =
      ap (λ (b : Bool). b || paid_to balance_of0 (payee_of (source_value c target))) (not_of_contract 0 0 0) ∙ not_paid_lem (source_value c target)
  never_written (Jeq x y to) = refl
  never_written (Jlt x y to) = refl

  never_read : (i : Instr) → read_by c balance_of0 i ≡ false
  unfolding read_by
  never_read Stop = refl
  never_read Throw = refl
  never_read (Set x value) = refl
  never_read (Arg x n) = refl
  never_read (Sender x) = refl
  never_read (Value x) = refl
  never_read (Add x y z) = refl
  never_read (Sub x y z) = refl
  never_read (Mul x y z) = refl
  never_read (Div x y z) = refl
  never_read (Get x field a b) = not_of_contract field (source_value c a) (source_value c b)
  never_read (Put x field a b) = refl
  never_read (Bal x) = not_of_contract 0 0 0
  never_read (Pay x target) = not_of_contract 0 0 0
  never_read (Jeq x y to) = refl
  never_read (Jlt x y to) = refl

  -- It is the sender's where account 0 sends.
  sender_is : eqb balance_of0 (account_balance c.sender) ≡ eqb c.sender.0 withdrawn
  sender_is = go (ℕ_discrete c.sender.0 withdrawn)
    where
      go : Dec (c.sender.0 ≡ withdrawn) → eqb balance_of0 (account_balance c.sender) ≡ eqb c.sender.0 withdrawn
      go (yes e) = eq-eqb balance_of0 (account_balance c.sender) (omega (arith, e)) ∙ sym (eq-eqb c.sender.0 withdrawn e)
      go (no d) = ne_eqb balance_of0 (account_balance c.sender) (λ e. d (omega (arith, e))) ∙ sym (ne_eqb c.sender.0 withdrawn d)

  -- A value above 0.
  abbrev sends : Bool
  sends = lt_z (pos 0) c.value

  pub withdrawn_written : (block : List ℕ) (functions : List Function)
      → member balance_of0 (write_set (sets_of block functions c)) ≡ (is_known (function_of functions c) && (sends && eqb c.sender.0 withdrawn))
  unfolding is_written
  withdrawn_written block functions = writes_exact block functions c balance_of0 ∙ go (function_of functions c)
    where
      go : (f : Option Function) → is_written block c balance_of0 f ≡ (is_known f && (sends && eqb c.sender.0 withdrawn))
      go None = refl
      go (Some f) =
          ap (λ (b : Bool). (sends && (eqb balance_of0 (account_balance c.sender) || eqb balance_of0 (contract_balance c.contract))) || b)
          (none_of (written_by c balance_of0) never_written (instructions_of block f))
          ∙ or-false (sends && (eqb balance_of0 (account_balance c.sender) || eqb balance_of0 (contract_balance c.contract)))
          ∙ ap (λ (b : Bool). sends && (eqb balance_of0 (account_balance c.sender) || b)) (not_of_contract 0 0 0)
          ∙ ap (λ (b : Bool). sends && b) (or-false (eqb balance_of0 (account_balance c.sender)) ∙ sender_is)

  pub withdrawn_read : (block : List ℕ) (functions : List Function)
      → member balance_of0 (read_set (sets_of block functions c)) ≡ (is_known (function_of functions c) && (sends && eqb c.sender.0 withdrawn))
  unfolding is_read
  withdrawn_read block functions = reads_exact block functions c balance_of0 ∙ go (function_of functions c)
    where
      go : (f : Option Function) → is_read block c balance_of0 f ≡ (is_known f && (sends && eqb c.sender.0 withdrawn))
      go None = refl
      go (Some f) =
          ap (λ (b : Bool). (sends && eqb balance_of0 (account_balance c.sender)) || b) (none_of (read_by c balance_of0) never_read (instructions_of block f))
          ∙ or-false (sends && eqb balance_of0 (account_balance c.sender))
          ∙ ap (λ (b : Bool). sends && b) sender_is

  -- ---- what a call leaves there

  -- What the entry takes from account 0.
  abbrev taken : ℤ
  taken = if eqb c.sender.0 withdrawn then c.value else pos 0

  entry_takes : (σ : State) → credit (debit σ (account_balance c.sender) c.value) (contract_balance c.contract) c.value balance_of0 ≡ σ balance_of0 -ℤ taken
  entry_takes σ =
      update_other less own (less own +ℤ c.value) balance_of0 (eqb-false balance_of0 own (not_of_contract 0 0 0)) ∙ go (ℕ_discrete c.sender.0 withdrawn)
    where
      own : ℕ
      own = contract_balance c.contract

      less : State
      less = debit σ (account_balance c.sender) c.value

      go : Dec (c.sender.0 ≡ withdrawn) → less balance_of0 ≡ σ balance_of0 -ℤ taken
      go (yes e) = rw e (update_same σ balance_of0 (σ balance_of0 -ℤ c.value))
      go (no d) =
          update_other σ (account_balance c.sender) (σ (account_balance c.sender) -ℤ c.value) balance_of0 (λ e. d (omega (arith, e)))
          ∙ rw (ne_eqb c.sender.0 withdrawn d) (sym (minus_none (σ balance_of0)))

  module _ (block : List ℕ) (functions : List Function) (σ : State) where
    abbrev outcome : ℕ
    outcome = (transaction block functions c σ).outcome

    abbrev left : ℤ
    left = (transaction block functions c σ).state balance_of0

    -- It leaves what the entry does where it ended with 0, and else what was there.
    ends_with : EndsWith (λ (τ : State). τ balance_of0 ≡ σ balance_of0 -ℤ taken) σ (transaction block functions c σ)
    ends_with =
        transaction_ends c any_value (λ z h. tt) (λ (τ : State). τ balance_of0 ≡ σ balance_of0 -ℤ taken) block σ (function_of functions c) (λ g e l. entry_takes σ)
        (λ g e. every_of (InstrKeeps c any_value (λ (τ : State). τ balance_of0 ≡ σ balance_of0 -ℤ taken)) (λ i. instr_frame c balance_of0 (σ balance_of0 -ℤ taken) i (never_written i))
        (instructions_of block g))

    pub withdrawn_left : left ≡ σ balance_of0 -ℤ (if eqb c.sender.0 withdrawn && eqb outcome ended then c.value else pos 0)
    withdrawn_left = go (ℕ_discrete outcome ended)
      where
        go : Dec (outcome ≡ ended) → left ≡ σ balance_of0 -ℤ (if eqb c.sender.0 withdrawn && eqb outcome ended then c.value else pos 0)
        go (yes e) = rw (eq-eqb outcome ended e, and-true (eqb c.sender.0 withdrawn)) (ends_with.0 e)
        go (no d) =
            rw (ne_eqb outcome ended d, and-false (eqb c.sender.0 withdrawn))
            (ap (λ (τ : State). τ balance_of0) (ends_with.1 d) ∙ sym (minus_none (σ balance_of0)))

    -- That is no more than there was.
    pub withdrawn_falls : lt_z (σ balance_of0) left ≡ false
    withdrawn_falls =
        let out : non_neg (if eqb c.sender.0 withdrawn && eqb outcome ended then c.value else pos 0) ≡ true =
        if_all (λ (z : ℤ). non_neg z ≡ true) (eqb c.sender.0 withdrawn && eqb outcome ended) (λ e. fits.value) (λ e. refl) in
        ap (lt_z (σ balance_of0)) withdrawn_left ∙ less_none (if eqb c.sender.0 withdrawn && eqb outcome ended then c.value else pos 0) out
      where
        less_none : (z : ℤ) → non_neg z ≡ true → lt_z (σ balance_of0) (σ balance_of0 -ℤ z) ≡ false
        less_none z s = le_lt_z (σ balance_of0) (σ balance_of0 -ℤ z) (omega (arith, diff (σ balance_of0) z, non_neg_true z s))
