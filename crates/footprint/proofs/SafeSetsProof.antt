-- The sets of a call are safe (document 003, definition 5).
use Rattle.std.specs.Prelude.{None, Option, Some}
use Rattle.block.specs.declared.address.Account.{Account}
use mathlib.Core.Path.{◌≡◌, refl, sym, ap, ◌∙◌}
use mathlib.Core.Bool.{Bool, true, false, ◌&&◌, ◌||◌, or-true}
use mathlib.Core.List.{List, [], ◌∷◌}
use Prim.Native.Nat.{ℕ}
use native.Mathlib.Omega.{arith}
use native.Mathlib.Decide.{ℕ_discrete}
use borrow.Author.Tests.{eq-eqb, eqb-false}
use lib.Dec.{eqb}
use lib.IntN.{ℤ, pos, ◌+ℤ◌, ◌-ℤ◌}
use lib.Signed.{lt_z, non_neg}
use Rattle.arith.proofs.ChoiceLaws.{neither}
use Rattle.arith.proofs.IntegerLaws.{equal, sum, diff, lt_z_false, le_lt_z, non_neg_true}
use Rattle.wire.specs.All.{All}
use Rattle.wire.proofs.ListLaws.{all_map}
use Rattle.block.specs.Key.{account_balance, contract_balance}
use Rattle.block.specs.Record.{Function}
use Rattle.block.specs.declared.Call.{Call}
use Rattle.block.specs.declared.Instr.{Instr}
use Rattle.block.specs.declared.Instr.TheVariants.{Stop, Throw, Set, Arg, Sender, Value, Add, Sub, Mul, Div, Get, Put, Bal, Pay, Jeq, Jlt}
use Rattle.block.specs.Naming.{cell_key, target_of, function_of}
use Rattle.footprint.proofs.SetsExact.{reads_exact, writes_exact}
use Rattle.footprint.specs.SetsInWords.{read_by, paid_to, written_by, some_of, instructions_of, is_read, is_written}
use Rattle.rule.proofs.LimitLaws.{update_same, update_other, limit_balance}
use Rattle.footprint.proofs.TransactionLaws.{none_passes, any_value, InstrKeeps, PayKeeps, transaction_keeps}
use Rattle.footprint.specs.SafeSets.{CallBounded, SafeSets}
use Rattle.footprint.proofs.AlikeLaws.{ReadsIn, transaction_alike}
use Rattle.rule.specs.Rule.{State, update, credit, debit, state_within_limit}

-- ---- the amount 0

pub no_amount : (m : ℤ) → non_neg m ≡ true → lt_z (pos 0) m ≡ false → m ≡ pos 0
no_amount m s l = equal m (pos 0) (omega (arith, non_neg_true m s, lt_z_false (pos 0) m l))

pub minus_none : (x : ℤ) → x -ℤ pos 0 ≡ x
minus_none x = equal (x -ℤ pos 0) x (omega (arith, diff x (pos 0)))

plus_none : (x : ℤ) → x +ℤ pos 0 ≡ x
plus_none x = equal (x +ℤ pos 0) x (omega (arith, sum x (pos 0)))

update_idle : (σ : State) (k : ℕ) (v : ℤ) → v ≡ σ k → (l : ℕ) → update σ k v l ≡ σ l
update_idle σ k v e l = go (ℕ_discrete l k)
  where
    go : Dec (l ≡ k) → update σ k v l ≡ σ l
    go (yes s) = ap (update σ k v) s ∙ update_same σ k v ∙ e ∙ ap σ (sym s)
    go (no d) = update_other σ k v l d

move_none : (σ : State) (j l k : ℕ) → credit (debit σ j (pos 0)) l (pos 0) k ≡ σ k
move_none σ j l k =
    let less : State = debit σ j (pos 0) in
    update_idle less l (less l +ℤ pos 0) (plus_none (less l)) k ∙ update_idle σ j (σ j -ℤ pos 0) (minus_none (σ j)) k

move_other : (σ : State) (j l : ℕ) (m : ℤ) (k : ℕ) → eqb k j ≡ false → eqb k l ≡ false → credit (debit σ j m) l m k ≡ σ k
move_other σ j l m k ej el =
    update_other (debit σ j m) l (debit σ j m l +ℤ m) k (eqb-false k l el) ∙ update_other σ j (σ j -ℤ m) k (eqb-false k j ej)

-- ---- the write set

-- The cell k has the value v.
abbrev Stays : ℕ → ℤ → State → Type 0
Stays k v σ = σ k ≡ v

module _ (c : Call) (k : ℕ) (v : ℤ) where
  pay_frame : (payee : Option Account) → eqb k (contract_balance c.contract) ≡ false → paid_to k payee ≡ false → PayKeeps c (Stays k v) payee
  unfolding paid_to
  pay_frame (Some account) e f = λ σ m s l h. move_other σ (contract_balance c.contract) (account_balance account) m k e f ∙ h
  pay_frame None e f = tt

  pub instr_frame : (i : Instr) → written_by c k i ≡ false → InstrKeeps c any_value (Stays k v) i
  unfolding written_by
  instr_frame Stop e = tt
  instr_frame Throw e = tt
  instr_frame (Set x w) e = tt
  instr_frame (Arg x n) e = tt
  instr_frame (Sender x) e = tt
  instr_frame (Value x) e = tt
  instr_frame (Add x y z) e = tt
  instr_frame (Sub x y z) e = tt
  instr_frame (Mul x y z) e = tt
  instr_frame (Div x y z) e = tt
  instr_frame (Get x field a b) e = λ σ h. tt
  instr_frame (Put x field a b) e = λ σ w any h. update_other σ (cell_key c field a b) w k (eqb-false k (cell_key c field a b) e) ∙ h
  instr_frame (Bal x) e = λ σ h. tt
  instr_frame (Pay x target) e =
      let both = neither (eqb k (contract_balance c.contract)) (paid_to k (target_of c target)) e in
      pay_frame (target_of c target) both.0 both.1
  instr_frame (Jeq x y to) e = tt
  instr_frame (Jlt x y to) e = tt

entry_frame : (σ : State) (j l : ℕ) (m : ℤ) → non_neg m ≡ true → (k : ℕ)
    → (lt_z (pos 0) m && (eqb k j || eqb k l)) ≡ false → credit (debit σ j m) l m k ≡ σ k
entry_frame σ j l m s k e = go (lt_z (pos 0) m) refl e
  where
    go : (b : Bool) → lt_z (pos 0) m ≡ b → (b && (eqb k j || eqb k l)) ≡ false → credit (debit σ j m) l m k ≡ σ k
    go true t f = let both = neither (eqb k j) (eqb k l) f in move_other σ j l m k both.0 both.1
    go false t f = rw (no_amount m s t) (move_none σ j l k)

module _ (block : List ℕ) (c : Call) (fits : CallBounded c) where
  function_frame : (σ : State) (k : ℕ) (f : Option Function) → is_written block c k f ≡ false → (g : Function) → f ≡ Some g
      → (credit (debit σ (account_balance c.sender) c.value) (contract_balance c.contract) c.value k ≡ σ k)
      × All (InstrKeeps c any_value (Stays k (σ k))) (instructions_of block g)
  unfolding is_written
  function_frame σ k f e g s =
      let both =
      neither (lt_z (pos 0) c.value && (eqb k (account_balance c.sender) || eqb k (contract_balance c.contract)))
      (some_of (written_by c k) (instructions_of block g)) (rw s at e)
      in (
        entry_frame σ (account_balance c.sender) (contract_balance c.contract) c.value fits.value k both.0,
        all_map (λ i. written_by c k i ≡ false) (InstrKeeps c any_value (Stays k (σ k))) (instr_frame c k (σ k)) (instructions_of block g)
            (none_passes (written_by c k) (instructions_of block g) both.1),
      )

-- ---- the read set

-- What holds of each key that some instruction reads holds of those that each of them reads.
every_read : (Q : ℕ → Type 0) (c : Call) (body : List Instr) → ((k : ℕ) → some_of (read_by c k) body ≡ true → Q k)
    → All (λ i. (k : ℕ) → read_by c k i ≡ true → Q k) body
unfolding some_of
every_read Q c [] h = tt
every_read Q c (i ∷ is) h = (
  λ k e. h k (ap (λ (b : Bool). b || some_of (read_by c k) is) e),
  every_read Q c is (λ k e. h k (ap (λ (b : Bool). read_by c k i || b) e ∙ or-true (read_by c k i))),
)

instr_reads : (Q : ℕ → Type 0) (c : Call) (i : Instr) → ((k : ℕ) → read_by c k i ≡ true → Q k) → ReadsIn Q c i
unfolding read_by
instr_reads Q c Stop h = tt
instr_reads Q c Throw h = tt
instr_reads Q c (Set x w) h = tt
instr_reads Q c (Arg x n) h = tt
instr_reads Q c (Sender x) h = tt
instr_reads Q c (Value x) h = tt
instr_reads Q c (Add x y z) h = tt
instr_reads Q c (Sub x y z) h = tt
instr_reads Q c (Mul x y z) h = tt
instr_reads Q c (Div x y z) h = tt
instr_reads Q c (Get x field a b) h = h (cell_key c field a b) (eq-eqb (cell_key c field a b) (cell_key c field a b) refl)
instr_reads Q c (Put x field a b) h = tt
instr_reads Q c (Bal x) h = h (contract_balance c.contract) (eq-eqb (contract_balance c.contract) (contract_balance c.contract) refl)
instr_reads Q c (Pay x target) h = h (contract_balance c.contract) (eq-eqb (contract_balance c.contract) (contract_balance c.contract) refl)
instr_reads Q c (Jeq x y to) h = tt
instr_reads Q c (Jlt x y to) h = tt

-- The test of the sender's balance: above 0 the balance is in the read set, at 0 the limit answers it.
test_alike : (x y m : ℤ) → non_neg m ≡ true → non_neg x ≡ true → non_neg y ≡ true → (lt_z (pos 0) m ≡ true → x ≡ y) → lt_z x m ≡ lt_z y m
test_alike x y m s sx sy e = go (lt_z (pos 0) m) refl
  where
    go : (b : Bool) → lt_z (pos 0) m ≡ b → lt_z x m ≡ lt_z y m
    go true t = ap (λ (z : ℤ). lt_z z m) (e t)
    go false t =
        let n : m ≡ pos 0 = no_amount m s t in
        let lx : lt_z x (pos 0) ≡ false = le_lt_z x (pos 0) (omega (arith, non_neg_true x sx)) in
        let ly : lt_z y (pos 0) ≡ false = le_lt_z y (pos 0) (omega (arith, non_neg_true y sy)) in
        ap (lt_z x) n ∙ lx ∙ sym (ap (lt_z y) n ∙ ly)

module _ (block : List ℕ) (c : Call) (fits : CallBounded c) (σ τ : State) (wσ : state_within_limit σ ≡ true) (wτ : state_within_limit τ ≡ true) where
  function_same : (f : Option Function) → ((k : ℕ) → is_read block c k f ≡ true → σ k ≡ τ k) → (g : Function) → f ≡ Some g
      → (lt_z (σ (account_balance c.sender)) c.value ≡ lt_z (τ (account_balance c.sender)) c.value)
      × All (ReadsIn (λ k. σ k ≡ τ k) c) (instructions_of block g)
  unfolding is_read
  function_same f h g s =
      let sender : ℕ = account_balance c.sender in
      let body : List Instr = instructions_of block g in
      let read : (k : ℕ) → ((lt_z (pos 0) c.value && eqb k (account_balance c.sender)) || some_of (read_by c k) (instructions_of block g)) ≡ true → σ k ≡ τ k =
      λ k e. h k (rw s e)
      in (
        test_alike (σ sender) (τ sender) c.value fits.value (limit_balance σ wσ c.sender.0 fits.ranges.sender).0
            (limit_balance τ wτ c.sender.0 fits.ranges.sender).0
            (λ t. read sender
            (ap (λ (b : Bool). (b && eqb sender sender) || some_of (read_by c sender) body) t
            ∙ ap (λ (b : Bool). b || some_of (read_by c sender) body) (eq-eqb sender sender refl))),
        all_map (λ i. (k : ℕ) → read_by c k i ≡ true → σ k ≡ τ k) (ReadsIn (λ k. σ k ≡ τ k) c) (instr_reads (λ k. σ k ≡ τ k) c) body
            (every_read (λ k. σ k ≡ τ k) c body
            (λ k e. read k
            (ap (λ (b : Bool). (lt_z (pos 0) c.value && eqb k sender) || b) e ∙ or-true (lt_z (pos 0) c.value && eqb k sender)))),
      )

-- ---- both

-- For every table of functions, call in its ranges and state.
pub safe_sets : SafeSets
safe_sets block functions c fits =
    let f : Option Function = function_of functions c in
    record {
      frame = λ σ k e.
          let known = function_frame block c fits σ k f (sym (writes_exact block functions c k) ∙ e) in
          transaction_keeps c any_value (λ z h. tt) (Stays k (σ k)) block σ refl f (λ g s l. (known g s).0) (λ g s. (known g s).1);
      same = λ σ τ wσ wτ alike.
          let known = function_same block c fits σ τ wσ wτ f (λ k e. alike k (reads_exact block functions c k ∙ e)) in
          transaction_alike (λ k. σ k ≡ τ k) c block σ τ (λ k e. e) f (λ g s. (known g s).0) (λ g s. (known g s).1);
    }
