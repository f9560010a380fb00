-- What holds of the cells before a step, and of those that a restore, a store or a transfer of its place leaves, holds of those that the step leaves.
use Rattle.std.specs.Prelude.{None, Option, Some}
use mathlib.Core.Bool.{◌&&◌, not}
use mathlib.Core.List.{List}
use Prim.Native.Nat.{ℕ}
use lib.IntN.{ℤ, ◌+ℤ◌, ◌-ℤ◌}
use lib.Signed.{lt_z, le_z, non_neg}
use lib.Dec.{ltb}
use lib.ListN.{set}
use Rattle.arith.specs.Balance.{largest}
use Rattle.arith.proofs.ChoiceLaws.{if_all}
use Rattle.block.specs.Key.{is_balance}
use Rattle.block.specs.Outcomes.{thrown, out_of_fuel}
use Rattle.block.specs.declared.Instr.{Instr}
use Rattle.footprint.specs.Access.{Access, accesses, entry_accesses}
use Rattle.machine.specs.Action.{entry_action, instr_action}
use Rattle.machine.specs.Step.{View, Local, Performed, ending, Stepped, cell_at, lookup, restorable, restored, finish, concluded, load_cell, store_cell, deposit_cell, transfer_cells, access_at, perform, step_call}
use Rattle.machine.specs.declared.Next.{Next}
use Rattle.machine.specs.declared.Next.TheVariants.{Go, End, Load, Store, Transfer}
use Rattle.machine.proofs.StepLaws.{NextFits}
use Rattle.machine.proofs.PlaceLaws.{place_each, place_all}
use Rattle.guarantees.proofs.CallsOfRun.ViewCalls.{point_of}

-- It holds of the cells s with a value stored in the cell that was found, and with an amount moved from one to another.
abbrev pub AfterStore : (K : List ℤ → Type 0) (s : List ℤ) → ℤ → Option ℕ → Type 0
AfterStore K s z (Some n) = K (set s n z)
AfterStore K s z None = Unit {0}

abbrev pub AfterTransfer : (K : List ℤ → Type 0) (s : List ℤ) → ℤ → Option ℕ → Option ℕ → Type 0
AfterTransfer K s amount (Some n) (Some m) = K (set (set s n (cell_at s n -ℤ amount)) m (cell_at s m +ℤ amount))
AfterTransfer K s amount (Some n) None = Unit {0}
AfterTransfer K s amount None to = Unit {0}

-- It holds of what an action stores or transfers.
abbrev pub AfterNext : (K : List ℤ → Type 0) (s : List ℤ) → View → List Access → Next → Type 0
AfterNext K s v as' (Go to) = Unit {0}
AfterNext K s v as' (End outcome) = Unit {0}
AfterNext K s v as' (Load x) = Unit {0}
AfterNext K s v as' (Store value) = AfterStore K s value (lookup v (access_at as' 0))
AfterNext K s v as' (Transfer amount short) = AfterTransfer K s amount (lookup v (access_at as' 0)) (lookup v (access_at as' 1))

module _ (v : View) (l : Local) (s : List ℤ) (K : List ℤ → Type 0) (now : K s) (back : K (restored v.entries l.saved s)) where
  -- What a step leaves; and what its place comes to.
  abbrev D : Stepped → Type 0
  D r = K (point_of s r).state

  abbrev C : Performed → Type 0
  C p = D (concluded v l.saved s p)

  ending_leaves : (outcome n : ℕ) → C (ending outcome n)
  unfolding concluded finish point_of
  ending_leaves outcome n =
      if_all D (ltb outcome thrown) (λ h. now) λ h. if_all D (restorable v.count v.entries) (λ h. back) (λ h. now)

  load_leaves : (place count : ℕ) (regs : List ℤ) (x : ℕ) (a : Access) (k : Option ℕ) → C (load_cell place count regs x a s k)
  unfolding load_cell concluded point_of
  load_leaves place count regs x a None = now
  load_leaves place count regs x a (Some n) = if_all C (is_balance a.key && not (non_neg (cell_at s n))) (λ h. now) (λ h. now)

  store_leaves : (place count : ℕ) (regs : List ℤ) (z : ℤ) (k : Option ℕ) → AfterStore K s z k → C (store_cell place count regs z s k)
  unfolding store_cell concluded point_of
  store_leaves place count regs z None f = now
  store_leaves place count regs z (Some n) f = f

  deposit_leaves : (place count : ℕ) (regs : List ℤ) (amount : ℤ) (n : ℕ) (k : Option ℕ) → AfterTransfer K s amount (Some n) k
      → C (deposit_cell place count regs amount n s k)
  unfolding deposit_cell concluded point_of
  deposit_leaves place count regs amount n None f = now
  deposit_leaves place count regs amount n (Some m) f =
      if_all C (non_neg (cell_at s m) && le_z (cell_at s m +ℤ amount) largest) (λ h. f) (λ h. now)

  transfer_leaves : (place count : ℕ) (regs : List ℤ) (amount : ℤ) (short : ℕ) (to : Access) (k : Option ℕ) → AfterTransfer K s amount k (lookup v to)
      → C (transfer_cells v place count regs amount short to s k)
  unfolding transfer_cells concluded point_of
  transfer_leaves place count regs amount short to None f = now
  transfer_leaves place count regs amount short to (Some n) f =
      if_all C (not (non_neg (cell_at s n))) (λ h. now) λ h.
      if_all C (lt_z (cell_at s n) amount) (λ h. ending_leaves short count) (λ h. deposit_leaves place count regs amount n (lookup v to) f)

  perform_leaves : (place count : ℕ) (as' : List Access) (regs : List ℤ) (next : Next) → AfterNext K s v as' next
      → C (perform v place count as' regs next s)
  unfolding perform concluded point_of
  perform_leaves place count as' regs (Go to) f = now
  perform_leaves place count as' regs (End outcome) f = ending_leaves outcome count
  perform_leaves place count as' regs (Load x) f = load_leaves place count regs x (access_at as' 0) (lookup v (access_at as' 0))
  perform_leaves place count as' regs (Store z) f = store_leaves place count regs z (lookup v (access_at as' 0)) f
  perform_leaves place count as' regs (Transfer amount short) f =
      transfer_leaves place count regs amount short (access_at as' 1) (lookup v (access_at as' 0)) f

  -- Where it holds of every action that fits its place.
  pub fitting_leaves : ((as' : List Access) (next : Next) (place before count : ℕ) → NextFits v place before count as' next → AfterNext K s v as' next)
      → K (point_of s (step_call v l s)).state
  unfolding step_call concluded point_of
  fitting_leaves fits =
      place_all v l.place l.count l.regs (λ f. C (f s)) now (λ outcome n few less. ending_leaves outcome n)
      (λ some inside spent. ending_leaves out_of_fuel l.count)
      (λ n as' a f. perform_leaves l.place n as' a.regs a.next (fits as' a.next l.place l.count n f.next))

  -- Where it holds of the entry's action and of that of each instruction.
  pub each_leaves : ((regs : List ℤ) → AfterNext K s v (entry_accesses v.call) (entry_action v.call regs).next)
      → ((place : ℕ) (regs : List ℤ) (i : Instr) → AfterNext K s v (accesses v.call i) (instr_action v.call place regs i).next)
      → K (point_of s (step_call v l s)).state
  unfolding step_call concluded point_of
  each_leaves enters executes =
      place_each v l.place l.count l.regs (λ f. C (f s)) now (λ outcome n few less. ending_leaves outcome n)
      (λ some inside spent. ending_leaves out_of_fuel l.count)
      (λ e inside. perform_leaves l.place 0 _ _ _ (enters l.regs))
      (λ some inside fuelled i j. perform_leaves l.place _ _ _ _ (executes l.place l.regs i))
