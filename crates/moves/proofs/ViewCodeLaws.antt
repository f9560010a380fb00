-- A step's actions against what the code holds: the accesses as words of keys, and what an action looks at of the view.
use Rattle.arith.specs.declared.NoResult.TheVariants.{Overflow, ZeroDivisor}
use Rattle.arith.specs.declared.NoResult.{NoResult}
use Rattle.block.specs.declared.address.Account.{Account}
use mathlib.Core.Path.{◌≡◌, refl}
use mathlib.Core.Bool.{Bool, true, false}
use mathlib.Core.List.{List, [], ◌∷◌}
use Prim.Native.Nat.{ℕ, ◌+◌, ◌*◌, ◌/◌, ◌%◌, ◌^◌, ◌≤◌}
use native.Mathlib.Omega.{arith}
use lib.IntN.{ℤ, pos}
use lib.ListN.{length}
use lib.Signed.{lt_z, non_neg}
use Rattle.std.specs.Prelude.{if◌then◌else◌, Err, None, Ok, Option, Result, Some}
use Rattle.arith.proofs.IntegerLaws.{lt_z_true, non_neg_of}
use Rattle.block.specs.declared.Call.{Call}
use Rattle.block.specs.declared.Instr.{Instr}
use Rattle.block.specs.declared.Instr.TheVariants.{Stop, Throw, Set, Arg, Sender, Value, Add, Sub, Mul, Div, Get, Put, Bal, Pay, Jeq, Jlt}
use Rattle.footprint.specs.Access.{Access, accesses, entry_accesses, pay_accesses}
use Rattle.block.specs.Naming.{target_of}
use Rattle.key_uses.specs.Uses.{use_of, uses_of}
use Rattle.machine.specs.Action.{checked_action, pay_action, instr_action, entry_action}
use Rattle.machine.specs.Step.{access_at, lookup, perform, transfer_cells}
use Rattle.machine.specs.declared.Next.{Next}
use Rattle.machine.specs.declared.Next.TheVariants.{Go, End, Load, Store, Transfer}
use Rattle.moves.specs.Turn.{access_of, accesses_of, cell_view, view_in, Payable, KeyWorded}

-- ---- accesses and their words

pub access_back : (a : Access) → access_of (use_of a) ≡ a
unfolding use_of
access_back a = let key : a.key / 2 ^ 32 * 2 ^ 32 + a.key % 2 ^ 32 ≡ a.key = omega arith in λ i. record { key = key i; reads = a.reads; writes = a.writes }

use_worded : (a : Access) → KeyWorded (use_of a)
unfolding use_of
use_worded a = omega arith

pub first_worded : (as' : List Access) → KeyWorded (uses_of as').first
unfolding uses_of
first_worded [] = omega arith
first_worded (a ∷ []) = use_worded a
first_worded (a ∷ b ∷ more) = use_worded a

pub second_worded : (as' : List Access) → KeyWorded (uses_of as').second
unfolding uses_of
second_worded [] = omega arith
second_worded (a ∷ []) = omega arith
second_worded (a ∷ b ∷ more) = use_worded b

first_access : (as' : List Access) → 1 ≤ length as' → access_of (uses_of as').first ≡ access_at as' 0
unfolding uses_of
first_access [] h = absurd (omega arith)
first_access (a ∷ []) h = access_back a
first_access (a ∷ b ∷ more) h = access_back a

second_access : (as' : List Access) → 2 ≤ length as' → access_of (uses_of as').second ≡ access_at as' 1
unfolding uses_of
second_access [] h = absurd (omega arith)
second_access (a ∷ []) h = absurd (omega arith)
second_access (a ∷ b ∷ more) h = access_back b

-- ---- an action that has the accesses it uses

-- What is done on a cell has an access, a transfer two, and its amount is not below zero.
abbrev pub NextHasAccesses : Next → List Access → Type 0
NextHasAccesses (Go place) as' = Unit {0}
NextHasAccesses (End outcome) as' = Unit {0}
NextHasAccesses (Load x) as' = 1 ≤ length as'
NextHasAccesses (Store value) as' = 1 ≤ length as'
NextHasAccesses (Transfer amount short) as' = (non_neg amount ≡ true) × (2 ≤ length as')

pub fitting_payable : (next : Next) (as' : List Access) → NextHasAccesses next as' → Payable next
fitting_payable (Go place) as' f = tt
fitting_payable (End outcome) as' f = tt
fitting_payable (Load x) as' f = tt
fitting_payable (Store value) as' f = tt
fitting_payable (Transfer amount short) as' f = f.0

if_fits : (b : Bool) (x y : Next) (as' : List Access) → (b ≡ true → NextHasAccesses x as') → (b ≡ false → NextHasAccesses y as') → NextHasAccesses (if b then x else y) as'
if_fits true x y as' f g = f refl
if_fits false x y as' f g = g refl

checked_fits : (place : ℕ) (regs : List ℤ) (x : ℕ) (r : Result ℤ NoResult) (as' : List Access) → NextHasAccesses (checked_action place regs x r).next as'
unfolding checked_action
checked_fits place regs x (Ok v) as' = tt
checked_fits place regs x (Err Overflow) as' = tt
checked_fits place regs x (Err ZeroDivisor) as' = tt

pay_fits : (c : Call) (regs : List ℤ) (amount : ℤ) (to : Option Account) → NextHasAccesses (pay_action regs amount to).next (pay_accesses c to)
unfolding pay_action pay_accesses
pay_fits c regs amount None = tt
pay_fits c regs amount (Some account) = if_fits (non_neg amount) _ _ _ (λ e. (e, omega arith)) (λ e. tt)

pub instr_fits : (c : Call) (place : ℕ) (regs : List ℤ) (i : Instr) → NextHasAccesses (instr_action c place regs i).next (accesses c i)
unfolding instr_action accesses
instr_fits c place regs Stop = tt
instr_fits c place regs Throw = tt
instr_fits c place regs (Set x value) = tt
instr_fits c place regs (Arg x k) = tt
instr_fits c place regs (Sender x) = tt
instr_fits c place regs (Value x) = tt
instr_fits c place regs (Add x y z) = checked_fits place regs x _ []
instr_fits c place regs (Sub x y z) = checked_fits place regs x _ []
instr_fits c place regs (Mul x y z) = checked_fits place regs x _ []
instr_fits c place regs (Div x y z) = checked_fits place regs x _ []
instr_fits c place regs (Get x field a b) = omega arith
instr_fits c place regs (Put x field a b) = omega arith
instr_fits c place regs (Bal x) = omega arith
instr_fits c place regs (Pay x target) = pay_fits c regs _ (target_of c target)
instr_fits c place regs (Jeq x y to) = tt
instr_fits c place regs (Jlt x y to) = tt

above_nonneg : (z : ℤ) → lt_z (pos 0) z ≡ true → non_neg z ≡ true
above_nonneg z e = non_neg_of z (omega (arith, lt_z_true (pos 0) z e))

pub entry_fits : (c : Call) (regs : List ℤ) → NextHasAccesses (entry_action c regs).next (entry_accesses c)
unfolding entry_action entry_accesses
entry_fits c regs = go (lt_z (pos 0) c.value) refl
  where
    go : (b : Bool) → lt_z (pos 0) c.value ≡ b → NextHasAccesses (entry_action c regs).next (entry_accesses c)
    go true e = rw e (above_nonneg c.value e, omega arith)
    go false e = rw e tt

-- ---- what an action looks at

-- Of the view, its entries and keys.
module _ (place count : ℕ) (regs : List ℤ) (cells : List ℤ) (block plan keys : List ℕ) (c : ℕ) (call : Call) where
  transfer_view : (amount : ℤ) (short : ℕ) (to : Access) (found : Option ℕ)
      → transfer_cells (view_in block plan keys c call) place count regs amount short to cells found
      ≡ transfer_cells (cell_view plan keys c) place count regs amount short to cells found
  unfolding transfer_cells lookup
  transfer_view amount short to None = refl
  transfer_view amount short to (Some n) = refl

  pub perform_held : (as' : List Access) (next : Next) → NextHasAccesses next as'
      → perform (view_in block plan keys c call) place count as' regs next cells
      ≡ perform (cell_view plan keys c) place count (accesses_of (uses_of as')) regs next cells
  unfolding perform lookup
  perform_held as' (Go to) f = refl
  perform_held as' (End outcome) f = refl
  perform_held as' (Load x) f = rw (first_access as' f)
  perform_held as' (Store v) f = rw (first_access as' f)
  perform_held as' (Transfer amount short) f =
      let one : 1 ≤ length as' = omega (arith, f.1) in
      rw (first_access as' one, second_access as' f.1)
      (transfer_view amount short (access_at as' 1) (lookup (cell_view plan keys c) (access_at as' 0)))
