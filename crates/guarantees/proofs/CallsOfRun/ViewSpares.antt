-- A step adds nothing to a cell in whose key no place of the call stores or deposits: it leaves there what was there, less an amount, or the old value.
use Rattle.std.specs.Prelude.{None, Option, Some}
use mathlib.Core.Path.{◌≡◌, sym, ap, subst⁻¹, ◌∙◌}
use mathlib.Core.Bool.{true}
use mathlib.Core.List.{List}
use Prim.Native.Nat.{ℕ, ◌+◌, ◌*◌, ◌≤◌, ◌<◌}
use native.Mathlib.Omega.{arith}
use native.Mathlib.Decide.{ℕ_discrete}
use borrow.Author.Tests.{eqb-true}
use lib.IntN.{ℤ, pos, ◌+ℤ◌, ◌-ℤ◌}
use lib.Signed.{non_neg}
use lib.Dec.{eqb}
use lib.ListN.{length, get_or, set}
use lib.Seq.{get_or-set_same, get_or-set_other}
use Rattle.arith.proofs.ChoiceLaws.{both}
use Rattle.block.specs.Limits.{max_keys}
use Rattle.block.specs.declared.Instr.{Instr}
use Rattle.footprint.specs.Access.{Access, accesses, entry_accesses}
use Rattle.footprint.specs.Plan.{key_words, high_word, low_word}
use Rattle.footprint.specs.KeyWords.{key_at}
use Rattle.machine.specs.Run.{has_key}
use Rattle.machine.specs.Action.{entry_action, instr_action}
use Rattle.machine.specs.Step.{View, Local, cell_at, lookup, restored, access_at, step_call}
use Rattle.machine.specs.declared.Next.{Next}
use Rattle.machine.specs.declared.Next.TheVariants.{Go, End, Load, Store, Transfer}
use Rattle.guarantees.proofs.CallsOfRun.ViewCalls.{point_of}
use Rattle.guarantees.proofs.CallsOfRun.ViewEntries.{Finds, lookup_finds}
use Rattle.guarantees.proofs.CallsOfRun.ViewLeaves.{AfterStore, AfterTransfer, AfterNext, each_leaves}

-- An action that stores nothing in the key and deposits nothing there; an amount may leave it.
abbrev pub Spares : (key : ℕ) → List Access → Next → Type 0
Spares key as' (Go to) = Unit {0}
Spares key as' (End outcome) = Unit {0}
Spares key as' (Load x) = Unit {0}
Spares key as' (Store value) = (access_at as' 0).key ≡ key → ⊥
Spares key as' (Transfer amount short) = (non_neg amount ≡ true) × ((access_at as' 1).key ≡ key → ⊥)

-- The cells of two keys are two.
other_cell : (keys : List ℕ) (x n k : ℕ) → has_key keys n k ≡ true → (k ≡ key_at keys x → ⊥) → x ≡ n → ⊥
other_cell keys x n k h other e =
    let words = both (eqb (get_or keys (key_words * n) 0) (high_word k)) (eqb (get_or keys (key_words * n + 1) 0) (low_word k)) h in
    let high : get_or keys (key_words * n) 0 ≡ high_word k = eqb-true (get_or keys (key_words * n) 0) (high_word k) words.0 in
    let low : get_or keys (key_words * n + 1) 0 ≡ low_word k = eqb-true (get_or keys (key_words * n + 1) 0) (low_word k) words.1 in
    let same : key_at keys n ≡ k = omega (arith, high, low) in
    other (sym same ∙ ap (key_at keys) (sym e))

-- ---- one step

module _ (v : View) (x : ℕ) (K : ℤ → Type 0) (lower : (z m : ℤ) → non_neg m ≡ true → K z → K (z -ℤ m)) where
  module _ (l : Local) (s : List ℤ) (room : max_keys ≤ length s) (now : K (cell_at s x)) (back : K (cell_at (restored v.entries l.saved s) x)) where
    -- It holds of the value of the cell.
    abbrev At : List ℤ → Type 0
    At t = K (cell_at t x)

    set_spares : (t : List ℤ) (n : ℕ) (z : ℤ) → (x ≡ n → ⊥) → At t → At (set t n z)
    set_spares t n z apart h = subst⁻¹ K (get_or-set_other t n x z (pos 0) apart) h

    -- An amount leaves a cell.
    less_spares : (n : ℕ) (amount : ℤ) → n < max_keys → non_neg amount ≡ true → At (set s n (cell_at s n -ℤ amount))
    less_spares n amount low sign = go (ℕ_discrete x n)
      where
        go : Dec (x ≡ n) → At (set s n (cell_at s n -ℤ amount))
        go (yes e) = rw e (subst⁻¹ K (get_or-set_same s n (cell_at s n -ℤ amount) (pos 0) (omega arith)) (lower (cell_at s n) amount sign (rw (sym e) now)))
        go (no apart) = set_spares s n (cell_at s n -ℤ amount) apart now

    store_spares : (z : ℤ) (a : Access) → (a.key ≡ key_at v.keys x → ⊥) → (k : Option ℕ) → Finds v.keys v.entries a k → AfterStore At s z k
    store_spares z a other None f = tt
    store_spares z a other (Some n) f = set_spares s n z (other_cell v.keys x n a.key f.key other) now

    transfer_spares : (amount : ℤ) (a to : Access) → non_neg amount ≡ true → (to.key ≡ key_at v.keys x → ⊥) → (k k' : Option ℕ)
        → Finds v.keys v.entries a k → Finds v.keys v.entries to k' → AfterTransfer At s amount k k'
    transfer_spares amount a to sign other None k' f f' = tt
    transfer_spares amount a to sign other (Some n) None f f' = tt
    transfer_spares amount a to sign other (Some n) (Some m) f f' =
        set_spares (set s n (cell_at s n -ℤ amount)) m (cell_at s m +ℤ amount) (other_cell v.keys x m to.key f'.key other)
        (less_spares n amount f.low sign)

    next_spares : (as' : List Access) (next : Next) → Spares (key_at v.keys x) as' next → AfterNext At s v as' next
    next_spares as' (Go to) f = tt
    next_spares as' (End outcome) f = tt
    next_spares as' (Load y) f = tt
    next_spares as' (Store z) f = store_spares z (access_at as' 0) f (lookup v (access_at as' 0)) (lookup_finds v (access_at as' 0))
    next_spares as' (Transfer amount short) f =
        transfer_spares amount (access_at as' 0) (access_at as' 1) f.0 f.1 (lookup v (access_at as' 0)) (lookup v (access_at as' 1))
        (lookup_finds v (access_at as' 0)) (lookup_finds v (access_at as' 1))

    -- Where entry and instructions spare the cell's key.
    pub step_spares : ((regs : List ℤ) → Spares (key_at v.keys x) (entry_accesses v.call) (entry_action v.call regs).next)
        → ((place : ℕ) (regs : List ℤ) (i : Instr) → Spares (key_at v.keys x) (accesses v.call i) (instr_action v.call place regs i).next)
        → K (cell_at (point_of s (step_call v l s)).state x)
    step_spares enters executes =
        each_leaves v l s At now back
        (λ regs. next_spares (entry_accesses v.call) (entry_action v.call regs).next (enters regs))
        (λ place regs i. next_spares (accesses v.call i) (instr_action v.call place regs i).next (executes place regs i))
