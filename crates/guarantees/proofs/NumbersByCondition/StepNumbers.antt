-- The numbers of STEP: it is accepted exactly if every value that it uses is in its range, and it is 20 exactly if one is not.
use Rattle.arith.specs.declared.NoResult.TheVariants.{Overflow, ZeroDivisor}
use Rattle.arith.specs.declared.NoResult.{NoResult}
use Rattle.block.specs.declared.address.Account.{Account}
use mathlib.Core.Path.{◌≡◌, refl, sym, ap, subst, subst⁻¹, ◌∙◌}
use mathlib.Core.Bool.{Bool, true, false, ◌&&◌, ◌||◌, not, true≢false, false≢true}
use mathlib.Core.List.{List, [], ◌∷◌, ◌++◌}
use mathlib.Core.Logic.{◌⊎◌, inl, inr}
use Prim.Native.Nat.{ℕ, zero, suc, ◌+◌, ◌-◌, ◌*◌, ◌≤◌, ◌<◌}
use native.Mathlib.Omega.{arith}
use borrow.Author.Tests.{ltb-true, ltb-false, lt-ltb, le-ltb, leb-true, leb-false, le-leb, eqb-true, eqb-false, eq-eqb, ne_eqb, not-true, not-false}
use lib.IntN.{ℤ, pos, negsuc, neg_ℤ, ◌+ℤ◌}
use lib.Signed.{lt_z, le_z, non_neg}
use lib.Dec.{eqb, leb, ltb}
use lib.ListN.{length, get_or, drop}
use Rattle.arith.specs.Balance.{largest}
use Rattle.std.specs.Prelude.{if◌then◌else◌, None, Option, Some, Ok, Err, Result}
use Rattle.arith.specs.Exact.{signed, fits64, floor_by, checked, add_of, sub_of, mul_of, div_of}
use Rattle.arith.proofs.ChoiceLaws.{if_all, by_test, both, neither}
use Rattle.wire.specs.All.{All}
use Rattle.wire.specs.Bytes.{number, read_le}
use Rattle.block.specs.Limits.{max_code, max_call_keys, max_keys}
use Rattle.block.specs.Key.{first_contract, key_of, field_in, account_balance, contract_balance, is_balance}
use Rattle.block.specs.Instruction.{instr_bytes, decode}
use Rattle.block.specs.Naming.{target_of, cell_key}
use Rattle.block.specs.Outcomes.{thrown, balance_too_low, not_paid}
use Rattle.block.specs.Record.{call_bytes, call_of}
use Rattle.block.specs.declared.Call.{Call}
use Rattle.block.specs.declared.Instr.{Instr}
use Rattle.block.specs.declared.Instr.TheVariants.{Stop, Throw, Set, Arg, Sender, Value, Add, Sub, Mul, Div, Get, Put, Bal, Pay, Jeq, Jlt}
use Rattle.footprint.specs.Access.{Access, reading, writing, changing, entry_accesses, pay_accesses, accesses}
use Rattle.footprint.specs.Plan.{key_words, high_word, low_word, code_start, entry_cell, entry_reads, entry_writes}
use Rattle.machine.specs.Action.{place_of, doing, register, pay_action, checked_action, instr_action, entry_action}
use Rattle.machine.specs.Run.{Run, has_key, regs_in, plan_word}
use Rattle.machine.specs.Step.{View, Performed, broken, onward, ending, Stepped, damaged, done, find_entry, lookup, restorable, restored, load_cell, store_cell, deposit_cell, transfer_cells, perform, perform_action, fuel_broken, step_entry, step_decoded, step_instr, step_body, step_place, finish, concluded, step_call}
use Rattle.machine.specs.Moves.{Moved, call_key_count, own_entries, view_of, held_by, stepped, step_record, step_held, step_for, step_of}
use Rattle.machine.specs.declared.Answer.{Answer}
use Rattle.machine.specs.declared.Answer.TheVariants as answer
use Rattle.machine.specs.declared.Next.TheVariants.{Go, End, Transfer}
use Rattle.machine.proofs.RefusedLaws.{step_stays}
use Rattle.guarantees.specs.ZeroDivisors.{Reckoned, exactly, quotient, reckoned, is_by_zero, is_outside}
use Rattle.guarantees.specs.StepNeeds.{record_bytes, lent_call, RecordNeeds, KeyAt, EntryAmong, EntryFor, value_in, BalanceNeeds, ReadNeeds, WriteNeeds, ReachNeeds, TransferNeeds, ReckonNeeds, PayNeeds, InstrNeeds, code_in, place_on, count_on, EntryNeeds, DueNeeds, BodyNeeds}
use Rattle.guarantees.specs.Demand1.{Exactly, held_in, EntriesIn, Lowerable, Before21, HeldRefuses, HoldsCall, StepIn, StepDamaged}
use Rattle.guarantees.proofs.NumbersByCondition.ExactTests.{itself, ltb_exact, leb_exact, eqb_exact, both_exact, under_exact, fails_unless}
use Rattle.guarantees.proofs.NumbersByCondition.BeginNumbers.{unsized, sized_exact, entries_exact, of_answer}
use Rattle.machine.specs.Answer.{answer_number, refused_number}
use Rattle.guarantees.proofs.NumbersByCondition.ByNumbers.{accepted, refusal, damaged_number}
use Rattle.guarantees.proofs.NumbersByCondition.HeldNumbers.{HeldTold, accepted_not_damaged, held_holds, held_told, steps}
use Rattle.guarantees.proofs.NumbersByCondition.FinishNumbers.{finish_answers}

-- ---- both ways

via : {A B C : Type 0} → Exactly A B → Exactly B C → Exactly A C
via x y = (λ a. y.0 (x.0 a), λ c. x.1 (y.1 c))

second_fails : (s t : Bool) → (s && t) ≡ false → s ≡ true → t ≡ false
second_fails true t e q = e
second_fails false t e q = absurd (false≢true q)

-- ---- a cell among the entries

nowhere : (n : ℕ) → None ≡ Some n → ⊥
nowhere n e = let z : ◌≡◌ {A = ℕ} 0 1 = cc in omega arith

same_cell : (m n : ℕ) → Some m ≡ Some n → m ≡ n
same_cell m n e = cc

key_exact : (keys : List ℕ) (n k : ℕ) → Exactly (has_key keys n k ≡ true) (KeyAt keys n k)
key_exact keys n k =
    both_exact (eqb (get_or keys (key_words * n) 0) (high_word k)) (eqb (get_or keys (key_words * n + 1) 0) (low_word k))
    (eqb_exact (get_or keys (key_words * n) 0) (high_word k)) (eqb_exact (get_or keys (key_words * n + 1) 0) (low_word k))

module _ (keys : List ℕ) (a : Access) where
  abbrev flags : ℕ → Bool
  flags e = (not a.reads || entry_reads e) && (not a.writes || entry_writes e)

  flags_exact : (e : ℕ) → Exactly (flags e ≡ true) ((a.reads ≡ true → entry_reads e ≡ true) × (a.writes ≡ true → entry_writes e ≡ true))
  flags_exact e =
      both_exact (not a.reads || entry_reads e) (not a.writes || entry_writes e) (under_exact a.reads (entry_reads e) itself itself)
      (under_exact a.writes (entry_writes e) itself itself)

  abbrev Other : ℕ → Type 0
  Other e = (entry_cell e < max_keys) × (KeyAt keys (entry_cell e) a.key → ⊥)

  behind_other : (e : ℕ) (es : List ℕ) (cell : ℕ) → Other e → EntryAmong keys es a cell → EntryAmong keys (e ∷ es) a cell
  behind_other e es cell o f =
      record {
        before = e ∷ f.before;
        entry = f.entry;
        behind = f.behind;
        listed = ap (λ (l : List ℕ). e ∷ l) f.listed;
        others = (o, f.others);
        named = f.named;
        known = f.known;
        has_key_lem = f.has_key_lem;
        reads = f.reads;
        writes = f.writes;
      }

  found_among : (es : List ℕ) (cell : ℕ) → find_entry keys es a ≡ Some cell → EntryAmong keys es a cell
  unfolding find_entry
  found_among [] cell = λ q. absurd (nowhere cell q)
  found_among (e ∷ es) cell =
      if_all (λ (l : Option ℕ). l ≡ Some cell → EntryAmong keys (e ∷ es) a cell) (not (ltb (entry_cell e) max_keys)) (λ h q. absurd (nowhere cell q)) λ low.
      let small : entry_cell e < max_keys = ltb-true (entry_cell e) max_keys (not-false (ltb (entry_cell e) max_keys) low) in
      if_all (λ (l : Option ℕ). l ≡ Some cell → EntryAmong keys (e ∷ es) a cell) (has_key keys (entry_cell e) a.key)
      (λ own.
      if_all (λ (l : Option ℕ). l ≡ Some cell → EntryAmong keys (e ∷ es) a cell) (flags e)
      (λ f q.
      let same : entry_cell e ≡ cell = same_cell (entry_cell e) cell q in
      record {
        before = [];
        entry = e;
        behind = es;
        listed = refl;
        others = tt;
        named = same;
        known = subst (λ (n : ℕ). n < max_keys) same small;
        has_key_lem = subst (λ (n : ℕ). KeyAt keys n a.key) same ((key_exact keys (entry_cell e) a.key).0 own);
        reads = ((flags_exact e).0 f).0;
        writes = ((flags_exact e).0 f).1;
      })
      (λ f q. absurd (nowhere cell q)))
      (λ other q.
      behind_other e es cell (small, λ k. true≢false (sym ((key_exact keys (entry_cell e) a.key).1 k) ∙ other)) (found_among es cell q))

  among_found : (before : List ℕ) (entry : ℕ) (behind : List ℕ) → All Other before → entry_cell entry < max_keys → KeyAt keys (entry_cell entry) a.key
      → flags entry ≡ true → find_entry keys (before ++ (entry ∷ behind)) a ≡ Some (entry_cell entry)
  unfolding find_entry
  among_found [] entry behind o low own f = rw (lt-ltb (entry_cell entry) max_keys low, (key_exact keys (entry_cell entry) a.key).1 own, f)
  among_found (b ∷ before) entry behind o low own f =
      rw (
        lt-ltb (entry_cell b) max_keys o.0.0,
        fails_unless (has_key keys (entry_cell b) a.key) (key_exact keys (entry_cell b) a.key).0 o.0.1,
      ) (among_found before entry behind o.1 low own f)

  among_exact : (es : List ℕ) (cell : ℕ) → Exactly (find_entry keys es a ≡ Some cell) (EntryAmong keys es a cell)
  among_exact es cell = (
    found_among es cell,
    λ f.
        ap (λ (l : List ℕ). find_entry keys l a) f.listed
        ∙ among_found f.before f.entry f.behind f.others (subst⁻¹ (λ (n : ℕ). n < max_keys) f.named f.known)
        (subst⁻¹ (λ (n : ℕ). KeyAt keys n a.key) f.named f.has_key_lem) ((flags_exact f.entry).1 (f.reads, f.writes))
        ∙ ap Some f.named,
  )

-- A contract's balance is one.
own_balance : (address : ℕ) → is_balance (key_of address 0 0 0) ≡ true
own_balance address = eq-eqb (field_in (key_of address 0 0 0)) 0 (omega arith)

balance_read : (r : Run) (call key : ℕ) → is_balance key ≡ true → Exactly (ReadNeeds r call key) (BalanceNeeds r call key)
balance_read r call key e = (
  λ h. record { cell = h.cell; found = h.found; balance = h.balance e },
  λ h. record { cell = h.cell; found = h.found; balance = λ q. h.balance },
)

-- ---- what an instruction reckons

unfoldable failing : Result ℤ NoResult → Bool
failing (Ok v) = false
failing (Err Overflow) = true
failing (Err ZeroDivisor) = true

exact_fails : (z : ℤ) → failing (checked z) ≡ (is_outside (exactly z) || is_by_zero (exactly z))
unfolding checked failing is_outside is_by_zero
exact_fails z = by_test (λ t. failing (if t then Ok z else (Err Overflow)) ≡ (not t || false)) (fits64 z) (λ e. refl) (λ e. refl)

quotient_fails : (a b : ℤ) → failing (div_of a b) ≡ (is_outside (quotient a b) || is_by_zero (quotient a b))
unfolding div_of quotient failing is_outside is_by_zero
quotient_fails a (pos zero) = refl
quotient_fails a (pos (suc d)) = exact_fails (floor_by a (suc d))
quotient_fails a (negsuc d) = exact_fails (floor_by (neg_ℤ a) (suc d))

-- ---- one instruction, one record

not_valid : (i : Instr) → None ≡ Some i → ⊥
not_valid i e = let z : ◌≡◌ {A = ℕ} 0 1 = cc in omega arith

same_instr : (i j : Instr) → Some i ≡ Some j → i ≡ j
same_instr i j e = cc

abbrev record_test : List ℕ → Bool
record_test s = leb call_bytes (length s) && ltb (number 2 s) first_contract && leb first_contract (read_le 2 s 2) && non_neg (signed 64 (read_le 8 s 6))

test_exact : (s : List ℕ) → Exactly (record_test s ≡ true) (RecordNeeds s)
test_exact s =
    via
    (both_exact (leb call_bytes (length s) && ltb (number 2 s) first_contract && leb first_contract (read_le 2 s 2)) (non_neg (signed 64 (read_le 8 s 6)))
    (both_exact (leb call_bytes (length s) && ltb (number 2 s) first_contract) (leb first_contract (read_le 2 s 2))
    (both_exact (leb call_bytes (length s)) (ltb (number 2 s) first_contract) (leb_exact call_bytes (length s)) (ltb_exact (number 2 s) first_contract))
    (leb_exact first_contract (read_le 2 s 2))) itself) (
      λ h. record { whole = h.0.0.0; sender = h.0.0.1; contract = h.0.1; value = h.1 },
      λ h. (((h.whole, h.sender), h.contract), h.value),
    )

-- ---- what a place comes to

-- What the end of a call needs, by whether its outcome restores nothing; and what each thing that a place comes to needs.
abbrev EndNeeds : (Ends Restores : Type 0) → (below : Bool) → Type 0
EndNeeds Ends Restores true = Ends
EndNeeds Ends Restores false = Restores

abbrev PlaceNeeds : (Ends Restores : Type 0) → Performed → Type 0
PlaceNeeds Ends Restores broken = ⊥
PlaceNeeds Ends Restores (onward place count regs cells) = Unit {0}
PlaceNeeds Ends Restores (ending outcome count) = EndNeeds Ends Restores (ltb outcome thrown)

module _ (block : List ℕ) (r : Run) (worker call : ℕ) (c : Call) (Ends Restores : Type 0) where
  abbrev view : View
  view = view_of block r call c

  abbrev Comes : Performed → Type 0
  Comes = PlaceNeeds Ends Restores

  nothing_needed : Exactly (Unit {0}) (Unit {0})
  nothing_needed = itself

  find_exact : (a : Access) (cell : ℕ) → Exactly (lookup view a ≡ Some cell) (EntryFor r call a cell)
  unfolding lookup
  find_exact a cell = (
    if_all (λ (l : Option ℕ). l ≡ Some cell → EntryFor r call a cell) (leb (call_key_count r.plan call) max_call_keys)
        (λ few q. (leb-true (call_key_count r.plan call) max_call_keys few, (among_exact r.keys a (own_entries r.plan call) cell).0 q))
        (λ many q. absurd (nowhere cell q)),
    λ f. rw (le-leb (call_key_count r.plan call) max_call_keys f.0) ((among_exact r.keys a (own_entries r.plan call) cell).1 f.1),
  )

  -- Where no cell is found there is none; and where one is found there is no other.
  none_for : (a : Access) (cell : ℕ) → lookup view a ≡ None → EntryFor r call a cell → ⊥
  none_for a cell q f = nowhere cell (sym q ∙ (find_exact a cell).1 f)

  one_for : (a : Access) (n cell : ℕ) → lookup view a ≡ Some n → EntryFor r call a cell → n ≡ cell
  one_for a n cell q f = same_cell n cell (sym q ∙ (find_exact a cell).1 f)

  module _ (place count : ℕ) (regs : List ℤ) where
    load_exact : (x key : ℕ) (found : Option ℕ) → lookup view (reading key) ≡ found
        → Exactly (Comes (load_cell place count regs x (reading key) r.cells found)) (ReadNeeds r call key)
    unfolding load_cell
    load_exact x key None q = (λ h. absurd h, λ h. none_for (reading key) h.cell q h.found)
    load_exact x key (Some n) q =
        if_all (λ (p : Performed). Exactly (Comes p) (ReadNeeds r call key)) (is_balance key && not (non_neg (value_in r n)))
        (λ low.
        let b = both (is_balance key) (not (non_neg (value_in r n))) low in (
          λ h. absurd h,
          λ h.
              let same : n ≡ h.cell = one_for (reading key) n h.cell q h.found in
              let above : non_neg (value_in r n) ≡ true = subst⁻¹ (λ (m : ℕ). non_neg (value_in r m) ≡ true) same (h.balance b.0) in
              true≢false (sym above ∙ not-true (non_neg (value_in r n)) b.1),
        ))
        (λ fine. (
          λ h.
              record {
                cell = n;
                found = (find_exact (reading key) n).0 q;
                balance = λ own. not-false (non_neg (value_in r n)) (second_fails (is_balance key) (not (non_neg (value_in r n))) fine own);
              },
          λ h. tt,
        ))

    store_exact : (z : ℤ) (key : ℕ) (found : Option ℕ) → lookup view (writing key) ≡ found
        → Exactly (Comes (store_cell place count regs z r.cells found)) (WriteNeeds r call key)
    unfolding store_cell
    store_exact z key None q = (λ h. absurd h, λ h. none_for (writing key) h.cell q h.found)
    store_exact z key (Some n) q = (λ h. record { cell = n; found = (find_exact (writing key) n).0 q }, λ h. tt)

    reach_exact : (to : ℕ) (amount : ℤ) (n : ℕ) (found : Option ℕ) → lookup view (writing to) ≡ found
        → Exactly (Comes (deposit_cell place count regs amount n r.cells found)) (ReachNeeds r call to amount)
    unfolding deposit_cell
    reach_exact to amount n None q = (λ h. absurd h, λ h. none_for (writing to) h.cell q h.found)
    reach_exact to amount n (Some m) q =
        if_all (λ (p : Performed). Exactly (Comes p) (ReachNeeds r call to amount)) (non_neg (value_in r m) && le_z (value_in r m +ℤ amount) largest)
        (λ fine.
        let b = both (non_neg (value_in r m)) (le_z (value_in r m +ℤ amount) largest) fine in
        (λ h. record { cell = m; found = (find_exact (writing to) m).0 q; balance = b.0; sum = b.1 }, λ h. tt))
        (λ out. (
          λ h. absurd h,
          λ h.
              let same : m ≡ h.cell = one_for (writing to) m h.cell q h.found in
              let above : non_neg (value_in r m) ≡ true = subst⁻¹ (λ (k : ℕ). non_neg (value_in r k) ≡ true) same h.balance in
              let below : le_z (value_in r m +ℤ amount) largest ≡ true
              = subst⁻¹ (λ (k : ℕ). le_z (value_in r k +ℤ amount) largest ≡ true) same h.sum in
              true≢false (sym ((both_exact (non_neg (value_in r m)) (le_z (value_in r m +ℤ amount) largest) itself itself).1 (above, below)) ∙ out),
        ))

    abbrev Transfers : (from to : ℕ) → ℤ → (short : ℕ) → Type 0
    Transfers from to amount short = TransferNeeds r call from to amount (EndNeeds Ends Restores (ltb short thrown))

    transfer_exact : (from to : ℕ) (amount : ℤ) (short : ℕ) (found : Option ℕ) → lookup view (changing from) ≡ found
        → Exactly (Comes (transfer_cells view place count regs amount short (writing to) r.cells found))
        (Transfers from to amount short)
    unfolding transfer_cells
    transfer_exact from to amount short None q = (λ h. absurd h, λ h. none_for (changing from) h.cell q h.found)
    transfer_exact from to amount short (Some n) q =
        if_all (λ (p : Performed). Exactly (Comes p) (Transfers from to amount short)) (not (non_neg (value_in r n)))
        (λ low. (
          λ h. absurd h,
          λ h.
              let above : non_neg (value_in r n) ≡ true = own (λ (m : ℕ). non_neg (value_in r m) ≡ true) h h.balance in
              true≢false (sym above ∙ not-true (non_neg (value_in r n)) low),
        ))
        λ fine.
        if_all (λ (p : Performed). Exactly (Comes p) (Transfers from to amount short)) (lt_z (value_in r n) amount)
        (λ lower. (
          λ h.
              record {
                cell = n;
                found = (find_exact (changing from) n).0 q;
                balance = not-false (non_neg (value_in r n)) fine;
                lower = λ e. h;
                enough = λ e. absurd (true≢false (sym lower ∙ e));
              },
          λ h. own (λ (m : ℕ). lt_z (value_in r m) amount ≡ true → EndNeeds Ends Restores (ltb short thrown)) h h.lower lower,
        ))
        (λ enough.
        via (reach_exact to amount n (lookup view (writing to)) refl) (
          λ h.
              record {
                cell = n;
                found = (find_exact (changing from) n).0 q;
                balance = not-false (non_neg (value_in r n)) fine;
                lower = λ e. absurd (true≢false (sym e ∙ enough));
                enough = λ e. h;
              },
          λ h. own (λ (m : ℕ). lt_z (value_in r m) amount ≡ false → ReachNeeds r call to amount) h h.enough enough,
        ))
      where
        own : (Q : ℕ → Type 0) (h : Transfers from to amount short) → Q h.cell → Q n
        own Q h = subst⁻¹ Q (one_for (changing from) n h.cell q h.found)

    -- The entry, with a value above 0 or not.
    entry_exact : (above : Bool) → lt_z (pos 0) c.value ≡ above
        → Exactly
        (Comes (perform_action view place count
        (if above then changing (account_balance c.sender) ∷ writing (contract_balance c.contract) ∷ [] else [])
        (doing regs (if above then Transfer c.value balance_too_low else Go (place_of 0))) r.cells))
        (above ≡ true → Transfers (account_balance c.sender) (contract_balance c.contract) c.value balance_too_low)
    unfolding perform
    entry_exact true q =
        via (transfer_exact (account_balance c.sender) (contract_balance c.contract) c.value balance_too_low _ refl) (λ h e. h, λ h. h refl)
    entry_exact false q = (λ h e. absurd (false≢true e), λ h. tt)

    checked_exact : (as' : List Access) (x : ℕ) (z : Result ℤ NoResult)
        → Exactly (Comes (perform_action view place count as' (checked_action place regs x z) r.cells)) (failing z ≡ true → Restores)
    unfolding checked_action perform failing
    checked_exact as' x (Ok v) = (λ h e. absurd (false≢true e), λ h. tt)
    checked_exact as' x (Err Overflow) = (λ h e. h, λ h. h refl)
    checked_exact as' x (Err ZeroDivisor) = (λ h e. h, λ h. h refl)

    reckon_exact : (as' : List Access) (x : ℕ) (z : Result ℤ NoResult) (y : Reckoned) → failing z ≡ (is_outside y || is_by_zero y)
        → Exactly (Comes (perform_action view place count as' (checked_action place regs x z) r.cells)) (ReckonNeeds Restores y)
    reckon_exact as' x z y e =
        subst
        (λ (t : Bool). Exactly (Comes (perform_action view place count as' (checked_action place regs x z) r.cells)) (t ≡ true → Restores)) e
        (checked_exact as' x z)

    pay_exact : (amount : ℤ) (payee : Option Account) → Exactly (Comes (perform_action view place count (pay_accesses c payee) (pay_action regs amount payee) r.cells))
        (PayNeeds r call c amount Restores payee)
    unfolding pay_accesses pay_action perform
    pay_exact amount None = itself
    pay_exact amount (Some account) =
        by_test
        (λ t. Exactly
        (Comes (perform_action view place count (changing (contract_balance c.contract) ∷ writing (account_balance account) ∷ [])
        (doing regs (if t then Transfer amount not_paid else End not_paid)) r.cells))
        ((t ≡ false → Restores) × (t ≡ true → TransferNeeds r call (contract_balance c.contract) (account_balance account) amount Restores)))
        (non_neg amount)
        (λ e.
        via (transfer_exact (contract_balance c.contract) (account_balance account) amount not_paid _ refl)
        (λ h. (λ f. absurd (true≢false f), λ f. h), λ h. h.1 refl))
        (λ e. (λ h. (λ f. h, λ f. absurd (false≢true f)), λ h. h.0 refl))

    instr_exact : (i : Instr) → Exactly (Comes (perform_action view place count (accesses c i) (instr_action c place regs i) r.cells))
        (InstrNeeds r call c regs Ends Restores i)
    unfolding accesses instr_action perform reckoned
    instr_exact Stop = itself
    instr_exact Throw = itself
    instr_exact (Set x value) = itself
    instr_exact (Arg x k) = itself
    instr_exact (Sender x) = itself
    instr_exact (Value x) = itself
    instr_exact (Add x y z) = reckon_exact [] x (add_of (register regs y) (register regs z)) (reckoned regs (Add x y z)) (exact_fails _)
    instr_exact (Sub x y z) = reckon_exact [] x (sub_of (register regs y) (register regs z)) (reckoned regs (Sub x y z)) (exact_fails _)
    instr_exact (Mul x y z) = reckon_exact [] x (mul_of (register regs y) (register regs z)) (reckoned regs (Mul x y z)) (exact_fails _)
    instr_exact (Div x y z) =
        reckon_exact [] x (div_of (register regs y) (register regs z)) (reckoned regs (Div x y z)) (quotient_fails (register regs y) (register regs z))
    instr_exact (Get x field a b) = load_exact x (cell_key c field a b) _ refl
    instr_exact (Put x field a b) = store_exact (register regs x) (cell_key c field a b) _ refl
    instr_exact (Bal x) =
        via (load_exact x (contract_balance c.contract) _ refl) (balance_read r call (contract_balance c.contract) (own_balance c.contract.0))
    instr_exact (Pay x target) = pay_exact (register regs x) (target_of c target)
    instr_exact (Jeq x y to) = itself
    instr_exact (Jlt x y to) = itself

  -- ---- where the call stands

  abbrev place : ℕ
  place = place_on r worker

  abbrev count : ℕ
  count = count_on r worker

  abbrev regs : List ℤ
  regs = regs_in r.frames worker

  abbrev size : ℕ
  size = code_in r call - 1

  abbrev start : ℕ
  start = plan_word r.plan call code_start

  abbrev Due : Type 0
  Due = DueNeeds block r worker call c Ends Restores

  decoded_exact : start + instr_bytes * size ≤ length block → (d : Option Instr) → decode size (drop (start + instr_bytes * (place - 1)) block) ≡ d
      → Exactly (Comes (step_decoded view place count regs r.cells d)) Due
  unfolding step_decoded
  decoded_exact whole None q = (λ h. absurd h, λ h. not_valid h.instr (sym q ∙ h.valid))
  decoded_exact whole (Some i) q =
      via (instr_exact place (count + 1) regs i) (
        λ h. record { stretch = whole; instr = i; valid = q; needs = h },
        λ h. subst⁻¹ (InstrNeeds r call c regs Ends Restores) (same_instr i h.instr (sym q ∙ h.valid)) h.needs,
      )

  due_exact : Exactly (Comes (step_instr view place count regs r.cells)) Due
  unfolding step_instr
  due_exact =
      if_all (λ (p : Performed). Exactly (Comes p) Due) (leb (start + instr_bytes * size) (length block))
      (λ e. decoded_exact (leb-true (start + instr_bytes * size) (length block) e) _ refl)
      (λ e. (
        λ h. absurd h,
        λ h. true≢false (sym (le-leb (start + instr_bytes * size) (length block) h.stretch) ∙ e),
      ))

  abbrev Body : Type 0
  Body = BodyNeeds block r worker call c Ends Restores

  fuel_exact : Exactly (fuel_broken c.fuel count ≡ false) ((1 ≤ c.fuel) × (count ≤ c.fuel))
  fuel_exact = (
    λ e.
        let n = neither (eqb c.fuel 0) (ltb c.fuel count) e in
        let some : c.fuel ≡ 0 → ⊥ = eqb-false c.fuel 0 n.0 in
        (omega arith, ltb-false c.fuel count n.1),
    λ h. rw (ne_eqb c.fuel 0 (omega (arith, h.0)), le-ltb c.fuel count h.1),
  )

  body_exact : Exactly (Comes (step_body view place count regs r.cells)) Body
  unfolding step_body
  body_exact =
      if_all (λ (p : Performed). Exactly (Comes p) Body) (fuel_broken c.fuel count)
      (λ e. (λ h. absurd h, λ h. true≢false (sym e ∙ fuel_exact.1 (h.fuel, h.count)))) λ e.
      let fuelled : (1 ≤ c.fuel) × (count ≤ c.fuel) = fuel_exact.0 e in
      if_all (λ (p : Performed). Exactly (Comes p) Body) (eqb place (code_in r call))
      (λ f.
      let at : place ≡ code_in r call = eqb-true place (code_in r call) f in (
        λ h.
            record {
              fuel = fuelled.0;
              count = fuelled.1;
              end = λ q. h;
              spent = λ n. absurd (n at);
              due = λ n. absurd (n at);
            },
        λ h. h.end at,
      ))
      λ f.
      let inside : ¬ (place ≡ code_in r call) = eqb-false place (code_in r call) f in
      if_all (λ (p : Performed). Exactly (Comes p) Body) (eqb count c.fuel)
      (λ g.
      let all : count ≡ c.fuel = eqb-true count c.fuel g in (
        λ h.
            record {
              fuel = fuelled.0;
              count = fuelled.1;
              end = λ q. absurd (inside q);
              spent = λ n q. h;
              due = λ n m. absurd (m all);
            },
        λ h. h.spent inside all,
      ))
      λ g.
      let left : ¬ (count ≡ c.fuel) = eqb-false count c.fuel g in
      via due_exact (
        λ h.
            record {
              fuel = fuelled.0;
              count = fuelled.1;
              end = λ q. absurd (inside q);
              spent = λ n q. absurd (left q);
              due = λ n m. h;
            },
        λ h. h.due inside left,
      )

  abbrev Entry : Type 0
  Entry = EntryNeeds r call c Ends

  start_exact : Exactly (Comes (step_entry view place regs r.cells)) Entry
  unfolding step_entry entry_accesses entry_action
  start_exact =
      if_all (λ (p : Performed). Exactly (Comes p) Entry) (eqb (code_in r call) 0)
      (λ e.
      let none : code_in r call ≡ 0 = eqb-true (code_in r call) 0 e in
      (λ h. record { unknown = λ q. h; value = λ n. absurd (n none) }, λ h. h.unknown none))
      λ e.
      let known : ¬ (code_in r call ≡ 0) = eqb-false (code_in r call) 0 e in
      via (entry_exact place 0 regs (lt_z (pos 0) c.value) refl)
      (λ h. record { unknown = λ q. absurd (known q); value = λ n. h }, λ h. h.value known)

  place_exact : Exactly (Comes (step_place view place count regs r.cells)) ((place ≡ 0 → Entry) × (¬ (place ≡ 0) → Body))
  unfolding step_place
  place_exact =
      if_all (λ (p : Performed). Exactly (Comes p) ((place ≡ 0 → Entry) × (¬ (place ≡ 0) → Body))) (eqb place 0)
      (λ e.
      let at : place ≡ 0 = eqb-true place 0 e in
      via start_exact (λ h. (λ q. h, λ n. absurd (n at)), λ h. h.0 at))
      (λ e.
      let behind : ¬ (place ≡ 0) = eqb-false place 0 e in
      via body_exact (λ h. (λ q. absurd (behind q), λ n. h), λ h. h.1 behind))

-- ---- the step

module _ (block : List ℕ) (r : Run) (worker call : ℕ) where
  abbrev Ends : Type 0
  Ends = Lowerable r call

  abbrev Restores : Type 0
  Restores = EntriesIn r call × Lowerable r call

  abbrev Goes : Stepped → Type 0
  Goes x = (stepped r worker call x).answer ≡ Ok tt

  -- Nothing is accepted that is damaged.
  never : {A : Type 0} → refusal answer.Damaged ≡ accepted → A
  never e = absurd (accepted_not_damaged (sym e))

  finish_exact : (c : Call) (saved cells : List ℤ) (outcome count : ℕ)
      → Exactly (Goes (finish (view_of block r call c) saved outcome count cells)) (EndNeeds Ends Restores (ltb outcome thrown))
  unfolding finish stepped
  finish_exact c saved cells outcome count =
      by_test
      (λ t. Exactly
      (Goes
      (if t
      then done outcome count cells
      else if restorable (call_key_count r.plan call) (own_entries r.plan call)
      then done outcome count (restored (own_entries r.plan call) saved cells)
      else damaged))
      (EndNeeds Ends Restores t))
      (ltb outcome thrown) (λ e. finish_answers r call worker outcome count cells) λ e.
      if_all (λ (x : Stepped). Exactly (Goes x) Restores) (restorable (call_key_count r.plan call) (own_entries r.plan call))
      (λ f.
      let own = finish_answers r call worker outcome count (restored (own_entries r.plan call) saved cells) in
      (λ h. ((entries_exact r call).0 f, own.0 h), λ h. own.1 h.1))
      (λ f. (λ h. never h, λ h. absurd (true≢false (sym ((entries_exact r call).1 h.0) ∙ f))))

  concluded_exact : (c : Call) (saved cells : List ℤ) (x : Performed)
      → Exactly (Goes (concluded (view_of block r call c) saved cells x)) (PlaceNeeds Ends Restores x)
  unfolding concluded stepped
  concluded_exact c saved cells broken = (λ h. never h, λ h. absurd h)
  concluded_exact c saved cells (onward place count regs after) = (λ h. tt, λ h. refl)
  concluded_exact c saved cells (ending outcome count) = finish_exact c saved cells outcome count

  abbrev Needs : Type 0
  Needs = StepIn block r worker call

  abbrev bytes : List ℕ
  bytes = record_bytes block r call

  record_exact : code_in r call ≤ max_code + 1 → place_on r worker ≤ code_in r call
      → Exactly ((step_record block r worker call (call_of bytes)).answer ≡ Ok tt) Needs
  unfolding step_record step_call call_of
  record_exact code place =
      if_all (λ (b : Option Call). Exactly ((step_record block r worker call b).answer ≡ Ok tt) Needs) (record_test bytes)
      (λ e.
      via (concluded_exact (lent_call bytes) _ r.cells
      (step_place (view_of block r call (lent_call bytes)) (place_on r worker) (count_on r worker) (regs_in r.frames worker) r.cells))
      (via (place_exact block r worker call (lent_call bytes) Ends Restores) (
        λ h. record { code = code; place = place; recorded = (test_exact bytes).0 e; entry = h.0; behind = h.1 },
        λ h. (h.entry, h.behind),
      )))
      (λ e. (λ h. never h, λ h. absurd (true≢false (sym ((test_exact bytes).1 h.recorded) ∙ e))))

  held_exact : Exactly ((step_held block r worker call).answer ≡ Ok tt) Needs
  unfolding step_held
  held_exact =
      if_all (λ (m : Moved). Exactly (m.answer ≡ Ok tt) Needs) outside
      (λ e. (
        λ h. never h,
        λ h. absurd (true≢false (sym e ∙ passes h)),
      ))
      λ e.
      let n = neither (ltb (max_code + 1) (code_in r call)) (ltb (code_in r call) (place_on r worker)) e in
      record_exact (ltb-false (max_code + 1) (code_in r call) n.0) (ltb-false (code_in r call) (place_on r worker) n.1)
    where
      outside : Bool
      outside = ltb (max_code + 1) (code_in r call) || ltb (code_in r call) (place_on r worker)

      passes : Needs → outside ≡ false
      passes h = rw (le-ltb (max_code + 1) (code_in r call) h.code, le-ltb (code_in r call) (place_on r worker) h.place)

-- Refused for its worker, or 20.
abbrev NoneHeld : Run → (worker : ℕ) → Type 0
NoneHeld r worker = Before21 r × ((r.head.workers ≤ worker) ⊎ (held_in r worker ≡ 0))

answered_as : (r : Run) (worker : ℕ) (a : Answer) → HeldTold r worker (Err a) → (refusal a ≡ refusal answer.Damaged) ⊎ NoneHeld r worker
unfolding answer_number refused_number
answered_as r worker answer.Damaged t = inl refl
answered_as r worker answer.NoWorker t =
    let g : Before21 r × (r.head.workers ≤ worker) = t (λ e. let z : ◌≡◌ {A = ℕ} 0 1 = cc in omega arith) in
    inr (g.0, inl g.1)
answered_as r worker answer.NoCall t = absurd (t (λ e. let z : ◌≡◌ {A = ℕ} 0 1 = cc in omega arith))
answered_as r worker answer.WorkerBusy t = absurd (t (λ e. let z : ◌≡◌ {A = ℕ} 0 1 = cc in omega arith))
answered_as r worker answer.NotWaiting t = absurd (t (λ e. let z : ◌≡◌ {A = ℕ} 0 1 = cc in omega arith))
answered_as r worker answer.EarlierUnfinished t = absurd (t (λ e. let z : ◌≡◌ {A = ℕ} 0 1 = cc in omega arith))
answered_as r worker answer.WorkerIdle t =
    let g : Before21 r × (worker < r.head.workers) × (held_in r worker ≡ 0) = t (λ e. let z : ◌≡◌ {A = ℕ} 0 1 = cc in omega arith) in
    inr (g.0, inr g.2)
answered_as r worker answer.CallUnfinished t = absurd (t (λ e. let z : ◌≡◌ {A = ℕ} 0 1 = cc in omega arith))
answered_as r worker answer.SheetTooLong t = absurd (t (λ e. let z : ◌≡◌ {A = ℕ} 0 1 = cc in omega arith))

module _ (block : List ℕ) (r : Run) (worker : ℕ) where
  pub step_accepted : Exactly ((step_of block r worker).answer ≡ Ok tt) ((call : ℕ) × HoldsCall r worker call × StepIn block r worker call)
  unfolding step_for answer_number refused_number
  step_accepted = (
    go (held_by r worker) (held_told r worker),
    λ h. of_answer (ap (step_for block r worker) (held_holds r worker h.0 h.1)) ∙ (held_exact block r worker h.0).1 h.2,
  )
    where
      go : (h : Result ℕ Answer) → HeldTold r worker h → (step_for block r worker h).answer ≡ Ok tt
          → (call : ℕ) × HoldsCall r worker call × StepIn block r worker call
      go (Err a) t e = absurd (subst (λ (b : Result (Unit {0}) Answer). HeldRefuses r worker (answer_number b)) e (t (λ d. accepted_not_damaged (sym e ∙ d))))
      go (Ok call) t e = (call, t, (held_exact block r worker call).0 e)

  only_damaged : StepDamaged block r worker → (step_of block r worker).answer ≡ Err answer.Damaged
  unfolding step_for
  only_damaged d = go (held_by r worker) (held_told r worker)
    where
      none : NoneHeld r worker → ⊥
      none h = by d h.1
        where
          by : StepDamaged block r worker → (r.head.workers ≤ worker) ⊎ (held_in r worker ≡ 0) → ⊥
          by (inl n) w = n h.0
          by (inr x) (inl many) = omega (arith, many, x.1)
          by (inr x) (inr idle) = x.2 idle

      answers : (a : Answer) → (refusal a ≡ refusal answer.Damaged) ⊎ NoneHeld r worker → refusal a ≡ refusal answer.Damaged
      answers a (inl e) = e
      answers a (inr h) = absurd (none h)

      unused : (call : ℕ) → HoldsCall r worker call → StepDamaged block r worker → StepIn block r worker call → ⊥
      unused call h (inl n) s = n h.so_far.so_far
      unused call h (inr x) s = x.3 call h s

      go : (h : Result ℕ Answer) → HeldTold r worker h → (step_for block r worker h).answer ≡ Err answer.Damaged
      go (Err a) t = answers a (answered_as r worker a t)
      go (Ok call) t = of_answer ((step_stays block r worker call).stays (λ e. unused call t d ((held_exact block r worker call).0 e)))

  found_damaged : (step_of block r worker).answer ≡ Err answer.Damaged → StepDamaged block r worker
  found_damaged e = by_size (unsized r) refl
    where
      by_held : Before21 r → worker < r.head.workers → (t : Bool) → eqb (held_in r worker) 0 ≡ t → StepDamaged block r worker
      by_held b known true q =
          let idle : answer_number (step_of block r worker).answer ≡ 26 =
          (steps block r worker 26 (λ z. omega (arith, z)) (λ z. omega (arith, z))).1 (b, known, eqb-true (held_in r worker) 0 q) in
          absurd (omega (arith, idle, damaged_number e))
      by_held b known false q =
          inr (b, known, eqb-false (held_in r worker) 0 q, λ call h s. accepted_not_damaged (sym (step_accepted.1 (call, h, s)) ∙ e))

      by_worker : Before21 r → (t : Bool) → leb r.head.workers worker ≡ t → StepDamaged block r worker
      by_worker b true q =
          let unknown : answer_number (step_of block r worker).answer ≡ 21 =
          (steps block r worker 21 (λ z. omega (arith, z)) (λ z. omega (arith, z))).1 (b, leb-true r.head.workers worker q) in
          absurd (omega (arith, unknown, damaged_number e))
      by_worker b false q = by_held b (leb-false r.head.workers worker q) (eqb (held_in r worker) 0) refl

      by_size : (t : Bool) → unsized r ≡ t → StepDamaged block r worker
      by_size true q = inl (λ b. true≢false (sym q ∙ (sized_exact r).1 b))
      by_size false q = by_worker ((sized_exact r).0 q) (leb r.head.workers worker) refl

  pub step_damaged : Exactly ((step_of block r worker).answer ≡ Err answer.Damaged) (StepDamaged block r worker)
  step_damaged = (found_damaged, only_damaged)
