-- M-101 holds: a PAY to account 0 pays nobody; the laws of a call and its sets at the key of account 0's balance, for the calls of an accepted block; and
-- no step deposits there, so no list of moves does.
use Rattle.arith.specs.declared.NoResult.TheVariants.{Overflow, ZeroDivisor}
use Rattle.arith.specs.declared.NoResult.{NoResult}
use Rattle.block.specs.declared.address.Account.{Account}
use mathlib.Core.Path.{◌≡◌, refl, ap, subst, subst⁻¹, ◌∙◌}
use mathlib.Core.Bool.{Bool, true, false}
use mathlib.Core.List.{List, [], ◌∷◌}
use Prim.Native.Nat.{ℕ, ◌+◌, ◌*◌, ◌<◌}
use native.Mathlib.Omega.{arith}
use borrow.Author.Tests.{eqb-true}
use lib.IntN.{ℤ, pos, ◌-ℤ◌}
use lib.ListN.{drop}
use lib.Signed.{lt_z, non_neg}
use Rattle.std.specs.Prelude.{if◌then◌else◌, None, Option, Some, slice_get, Err, Ok, Result}
use Rattle.arith.specs.Exact.{add_of, sub_of, mul_of, div_of}
use Rattle.arith.proofs.ChoiceLaws.{by_test, if_all}
use Rattle.arith.proofs.IntegerLaws.{diff, lt_z_false, le_lt_z, non_neg_true}
use Rattle.schedule.specs.declared.Move.{Move}
use Rattle.schedule.specs.Calls.{Calls, Laws}
use Rattle.schedule.proofs.KeptCell.{expected_keeps}
use Rattle.block.specs.Key.{withdrawn, payee_of, account_balance, balance_of0, contract_balance}
use Rattle.block.specs.Outcomes.{balance_too_low}
use Rattle.block.specs.Record.{Function, Block, head_bytes, call_record_bytes}
use Rattle.block.proofs.KeyLaws.{payee_all}
use Rattle.block.specs.Encoding.{AreBytes}
use Rattle.block.specs.Naming.{function_of, source_value}
use Rattle.block.specs.declared.Call.{Call}
use Rattle.block.specs.declared.Source.{Source}
use Rattle.block.specs.declared.Instr.{Instr}
use Rattle.block.specs.declared.Instr.TheVariants.{Stop, Throw, Set, Arg, Sender, Value, Add, Sub, Mul, Div, Get, Put, Bal, Pay, Jeq, Jlt}
use Rattle.footprint.specs.Access.{Access, changing, writing, entry_accesses, pay_accesses, accesses}
use Rattle.footprint.specs.Plan.{entry_writes}
use Rattle.footprint.specs.SafeSets.{CallBounded}
use Rattle.footprint.proofs.SetAccessLaws.{drop_bytes}
use Rattle.footprint.proofs.RuleLimit.{read_call_bounded}
use Rattle.footprint.specs.Sets.{read_set, write_set}
use Rattle.footprint.specs.Conflict.{member}
use Rattle.footprint.proofs.WithdrawnLaws.{withdrawn_written, withdrawn_read, withdrawn_left, withdrawn_falls}
use Rattle.rule.specs.Rule.{State, transfer, execute, execute_at, transaction, run_function, transaction_by}
use Rattle.footprint.specs.KeyWords.{key_at}
use Rattle.block.specs.BlockOfFile.{block_of, call_count}
use Rattle.machine.specs.Run.{Run, Sizes}
use Rattle.machine.specs.Action.{place_of, register, checked_action, pay_action, instr_action, entry_action}
use Rattle.machine.specs.Step.{View, cell_at, saved_of, restored}
use Rattle.machine.specs.declared.Next.TheVariants.{Go, Transfer}
use Rattle.guarantees.specs.Agreement.{run_after_moves}
use Rattle.guarantees.specs.Demand2.{rule_for, opening_state}
use Rattle.guarantees.specs.RuleRun.{body_call, call_of_block}
use Rattle.guarantees.specs.Withdrawn.{sent_by0, PaysNobody, NoMoreTo0, WithdrawnHolds}
use Rattle.guarantees.proofs.CallsOfRun.ViewCalls.{Place, place_with_saved, any_entry, run_view}
use Rattle.guarantees.proofs.CallsOfRun.ViewSpares.{Spares, step_spares}
use Rattle.guarantees.proofs.AcceptedOpening.AfterOpening.{AfterOpening, after_opening}
use Rattle.guarantees.proofs.FollowingMachine.OpenedRuns.{opened_run, opened_calls, base}
use Rattle.guarantees.proofs.SerialAndRule.SerialRunOfFile.{opened_laws, opened_good}
use Rattle.guarantees.proofs.SerialAndRule.BySizes.{steps_by_sizes}
use Rattle.guarantees.proofs.RunAndTally.MovesAndTally.{StepsBySizes, the_tally, agreed, behind_matches}
use Rattle.guarantees.proofs.SerialAndRule.SerialRule.{found_in_lem}
use Rattle.guarantees.proofs.SerialAndRule.RegisterLaws.{lefts_keep}
use Rattle.guarantees.proofs.Demand2Proof.{found_below, opened, fits}

-- ---- one PAY

nobody : payee_of withdrawn ≡ None
unfolding payee_of
nobody = refl

module _ (c : Call) (x : ℕ) (target : Source) (named : source_value c target ≡ withdrawn) where
  paid : payee_of (source_value c target) ≡ None
  paid = ap payee_of named ∙ nobody

  pays_nobody : PaysNobody c x target
  unfolding execute_at execute transfer instr_action pay_action accesses pay_accesses
  pays_nobody = record { rule = λ p ρ n σ. rw paid refl; step = λ place regs. rw paid refl; uses = rw paid refl }

-- ---- the actions of a call

module _ (c : Call) (fits : CallBounded c) where
  -- The entry takes a value from its sender, and gives it to a contract.
  entry_spares : (regs : List ℤ) → Spares balance_of0 (entry_accesses c) (entry_action c regs).next
  unfolding entry_accesses entry_action
  entry_spares regs =
      by_test
      (λ t. Spares balance_of0
      (if t then changing (account_balance c.sender) ∷ writing (contract_balance c.contract) ∷ [] else [])
      (if t then Transfer c.value balance_too_low else Go (place_of 0)))
      (lt_z (pos 0) c.value) (λ t. (fits.value, λ e. omega (arith, e, fits.contract))) (λ t. tt)

  checked_spares : (as' : List Access) (place : ℕ) (regs : List ℤ) (x : ℕ) (r : Result ℤ NoResult) → Spares balance_of0 as' (checked_action place regs x r).next
  unfolding checked_action
  checked_spares as' place regs x (Ok z) = tt
  checked_spares as' place regs x (Err Overflow) = tt
  checked_spares as' place regs x (Err ZeroDivisor) = tt

  pay_spares : (regs : List ℤ) (amount : ℤ) (n : ℕ) → Spares balance_of0 (pay_accesses c (payee_of n)) (pay_action regs amount (payee_of n)).next
  unfolding pay_accesses pay_action
  pay_spares regs amount n =
      payee_all (λ (p : Option Account). Spares balance_of0 (pay_accesses c p) (pay_action regs amount p).next) n
      (λ other low.
      if_all (Spares balance_of0 (pay_accesses c (Some (record { 0 = n })))) (non_neg amount) (λ sign. (sign, λ e. other (omega (arith, e)))) (λ sign. tt))
      tt

  instr_spares : (place : ℕ) (regs : List ℤ) (i : Instr) → Spares balance_of0 (accesses c i) (instr_action c place regs i).next
  unfolding accesses instr_action
  instr_spares place regs Stop = tt
  instr_spares place regs Throw = tt
  instr_spares place regs (Set x value) = tt
  instr_spares place regs (Arg x k) = tt
  instr_spares place regs (Sender x) = tt
  instr_spares place regs (Value x) = tt
  instr_spares place regs (Add x y z) = checked_spares [] place regs x (add_of (register regs y) (register regs z))
  instr_spares place regs (Sub x y z) = checked_spares [] place regs x (sub_of (register regs y) (register regs z))
  instr_spares place regs (Mul x y z) = checked_spares [] place regs x (mul_of (register regs y) (register regs z))
  instr_spares place regs (Div x y z) = checked_spares [] place regs x (div_of (register regs y) (register regs z))
  instr_spares place regs (Get x field a b) = tt
  instr_spares place regs (Put x field a b) = λ e. omega (arith, e, fits.contract)
  instr_spares place regs (Bal x) = tt
  instr_spares place regs (Pay x target) = pay_spares regs (register regs x) (source_value c target)
  instr_spares place regs (Jeq x y to) = tt
  instr_spares place regs (Jlt x y to) = tt

-- ---- the calls of a block

-- Not above what is not above.
not_above : (a b d : ℤ) → lt_z a b ≡ false → lt_z b d ≡ false → lt_z a d ≡ false
not_above a b d e f = le_lt_z a d (omega (arith, lt_z_false a b e, lt_z_false b d f))

module _ (s : Sizes) (file : List ℕ) (workers : ℕ) (bytes : AreBytes file) (after : AfterOpening s file workers) where
  abbrev b : Block
  b = block_of file

  module _ (i : ℕ) (less : i < call_count file) where
    abbrev c : Call
    c = call_of_block file i

    may_send : sent_by0 file i ≡ true → (f : Function) → function_of b.functions c ≡ Some f → (σ : State) → lt_z (σ balance_of0) c.value ≡ false
        → rule_for file i σ ≡ run_function file c σ f
    unfolding transaction_by
    may_send zero' f found σ enough =
        let its : c.sender.0 ≡ withdrawn = eqb-true c.sender.0 withdrawn zero' in
        let test : lt_z (σ (account_balance c.sender)) c.value ≡ false = ap (λ (k : ℕ). lt_z (σ k) c.value) (omega (arith, its)) ∙ enough in
        rw (found, test) refl

  -- ---- every list of moves

  abbrev r₀ : Run
  r₀ = opened_run s file workers

  abbrev Y : Calls
  Y = opened_calls s file workers

  laws : Laws Y
  laws = opened_laws s file workers bytes after

  bounded : (i : ℕ) → i < call_count file → CallBounded (run_view file r₀ i).call
  unfolding body_call
  bounded i less =
      let at : ℕ = r₀.head.first_call + call_record_bytes * i + head_bytes in
      let q = (base s file workers after).body i less in
      subst⁻¹ (λ (body : Option Call). CallBounded (body_call body)) q.1 (read_call_bounded (drop at file) (drop_bytes at file bytes) q.0 q.1)

  module _ (x : ℕ) (there : key_at r₀.keys x ≡ balance_of0) where
    -- No more than at the opening.
    abbrev Low : ℤ → Type 0
    Low z = lt_z (cell_at r₀.cells x) z ≡ false

    lower : (z m : ℤ) → non_neg m ≡ true → Low z → Low (z -ℤ m)
    lower z m sign low =
        le_lt_z (cell_at r₀.cells x) (z -ℤ m) (omega (arith, diff z m, non_neg_true m sign, lt_z_false (cell_at r₀.cells x) z low))

    -- A step, and what it would restore, keep that.
    step_low : (i : ℕ) → i < call_count file → (s₁ t : List ℤ) → Y.Good s₁ → Y.Good t → Low (cell_at s₁ x) → Low (cell_at t x) → (l : Place)
        → Low (cell_at (Y.step i (Y.save i s₁) l t).state x)
    step_low i less s₁ t g₁ g begun now l =
        step_spares v x Low lower (place_with_saved l (saved_of v.entries s₁)) t g now (back (any_entry entry_writes v.entries x) refl)
        (λ regs. subst⁻¹ (λ (k : ℕ). Spares k (entry_accesses v.call) (entry_action v.call regs).next) there (entry_spares v.call (bounded i less) regs))
        (λ place regs j.
        subst⁻¹ (λ (k : ℕ). Spares k (accesses v.call j) (instr_action v.call place regs j).next) there
        (instr_spares v.call (bounded i less) place regs j))
      where
        v : View
        v = run_view file r₀ i

        back : (w : Bool) → any_entry entry_writes v.entries x ≡ w → Low (cell_at (restored v.entries (saved_of v.entries s₁) t) x)
        back true e = subst⁻¹ Low ((laws.call i less).restore_back s₁ t g₁ g x e) begun
        back false e = subst⁻¹ Low ((laws.call i less).restore_frame s₁ t g₁ g x e) now

    ever_low : StepsBySizes s file workers → (ms : List Move) → Low (cell_at (run_after_moves s file workers ms).cells x)
    ever_low sized ms =
        subst⁻¹ Low
        (ap (λ (cells : List ℤ). cell_at cells x) (behind_matches s file workers bytes after sized ms).cells
        ∙ (agreed s file workers bytes after sized ms).cells x)
        (expected_keeps Y laws x Low step_low r₀.cells (opened_good s file workers bytes after)
        (le_lt_z (cell_at r₀.cells x) (cell_at r₀.cells x) (omega arith)) (the_tally s file workers bytes after sized ms).phase (call_count file) (omega arith))

  holds : StepsBySizes s file workers → NoMoreTo0 s file workers
  holds sized =
      record {
        left = λ i less σ. withdrawn_left (c i less) (fits s file workers bytes after i less) file b.functions σ;
        never_more = λ i less σ. withdrawn_falls (c i less) (fits s file workers bytes after i less) file b.functions σ;
        closed =
            lefts_keep file b.functions (λ (σ : State). lt_z (opening_state file balance_of0) (σ balance_of0) ≡ false) b.calls each (opening_state file)
            (le_lt_z (opening_state file balance_of0) (opening_state file balance_of0) (omega arith));
        ever = λ ms x there. ever_low x there sized ms;
        read = λ i less. ap (λ (es : List Access). member balance_of0 (read_set es)) (opened s file workers bytes after i less).own
            ∙ withdrawn_read (c i less) (fits s file workers bytes after i less) file b.functions;
        written = λ i less. ap (λ (es : List Access). member balance_of0 (write_set es)) (opened s file workers bytes after i less).own
            ∙ withdrawn_written (c i less) (fits s file workers bytes after i less) file b.functions;
        sends = may_send;
      }
    where
      each : (i : ℕ) (x : Call) → slice_get b.calls i ≡ Some x → (σ : State) → lt_z (opening_state file balance_of0) (σ balance_of0) ≡ false
          → lt_z (opening_state file balance_of0) ((transaction file b.functions x σ).state balance_of0) ≡ false
      each i x e σ so_far =
          let less : i < call_count file = found_below b.calls i x e in
          not_above (opening_state file balance_of0) (σ balance_of0) _ so_far
          (subst (λ (y : Call). lt_z (σ balance_of0) ((transaction file b.functions y σ).state balance_of0) ≡ false)
          (found_in_lem b.calls i (body_call None) x e)
          (withdrawn_falls (c i less) (fits s file workers bytes after i less) file b.functions σ))

-- ---- the request

pub withdrawn_holds : WithdrawnHolds
withdrawn_holds = (
  pays_nobody,
  λ s file workers bytes answer.
      holds s file workers bytes (after_opening s file workers bytes answer) (steps_by_sizes s file workers bytes answer),
)
