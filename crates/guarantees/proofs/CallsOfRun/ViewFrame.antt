-- A step of a call changes its write set alone, and depends on the cells that the call reads or writes.
use mathlib.Core.Path.{◌≡◌, refl, ◌∙◌}
use mathlib.Core.Bool.{Bool, true, false, ◌&&◌, ◌||◌, not, or-true}
use mathlib.Core.List.{List}
use Prim.Native.Nat.{ℕ, ◌≤◌, ◌<◌}
use native.Mathlib.Omega.{arith}
use lib.IntN.{ℤ, ◌+ℤ◌, ◌-ℤ◌}
use lib.Signed.{lt_z, le_z, non_neg}
use lib.Dec.{ltb}
use lib.ListN.{length, set, length-set}
use Rattle.std.specs.Prelude.{if◌then◌else◌, None, Option, Some}
use Rattle.arith.specs.Balance.{largest}
use Rattle.block.specs.Limits.{max_keys}
use Rattle.block.specs.Key.{is_balance}
use Rattle.footprint.specs.Access.{Access}
use Rattle.footprint.specs.Plan.{entry_reads, entry_writes}
use Rattle.block.specs.Outcomes.{thrown, out_of_fuel}
use Rattle.machine.proofs.RestoreLaws.{restored_length}
use Rattle.machine.specs.Step.{View, Local, Performed, broken, onward, ending, Stepped, damaged, done, cell_at, lookup, restorable, restored, finish, concluded, load_cell, store_cell, deposit_cell, transfer_cells, access_at, perform, step_call}
use Rattle.machine.proofs.StepLaws.{NextFits}
use Rattle.machine.proofs.PlaceLaws.{place_all}
use Rattle.machine.specs.declared.Next.{Next}
use Rattle.machine.specs.declared.Next.TheVariants.{Go, End, Load, Store, Transfer}
use Rattle.guarantees.proofs.CallsOfRun.ViewCalls.{point_of, any_entry, Proper}
use Rattle.guarantees.proofs.CallsOfRun.ViewLeaves.{AfterStore, AfterTransfer, AfterNext, fitting_leaves}
use Rattle.guarantees.proofs.CallsOfRun.ViewEntries.{Finds, lookup_finds, set_alike, set_outside, restored_frame, restored_alike}

-- ---- the write set alone

-- Cells with new values in the write set alone.
pub record WriteSetOnly (es : List ℕ) (s t : List ℤ) : Type 0 where
  pub room : length t ≡ length s
  pub frame : (x : ℕ) → any_entry entry_writes es x ≡ false → cell_at t x ≡ cell_at s x

module _ (v : View) (l : Local) (s : List ℤ) where
  abbrev K : List ℤ → Type 0
  K t = WriteSetOnly v.entries s t

  unmoved : K s
  unmoved = record { room = refl; frame = λ x h. refl }

  -- One cell of the write set is set.
  set_kept : (t : List ℤ) (n : ℕ) (z : ℤ) → any_entry entry_writes v.entries n ≡ true → K t → K (set t n z)
  set_kept t n z w k =
      record {
        room = length-set t n z ∙ k.room;
        frame = λ x h. set_outside v.entries t n z x w h ∙ k.frame x h;
      }

  store_kept : (z : ℤ) (a : Access) → a.writes ≡ true → (k : Option ℕ) → Finds v.keys v.entries a k → AfterStore K s z k
  store_kept z a w None f = tt
  store_kept z a w (Some n) f = set_kept s n z (f.written w) unmoved

  transfer_kept : (amount : ℤ) (a to : Access) → a.writes ≡ true → to.writes ≡ true → (k k' : Option ℕ) → Finds v.keys v.entries a k
      → Finds v.keys v.entries to k' → AfterTransfer K s amount k k'
  transfer_kept amount a to w w' None k' f f' = tt
  transfer_kept amount a to w w' (Some n) None f f' = tt
  transfer_kept amount a to w w' (Some n) (Some m) f f' =
      set_kept (set s n (cell_at s n -ℤ amount)) m (cell_at s m +ℤ amount) (f'.written w')
      (set_kept s n (cell_at s n -ℤ amount) (f.written w) unmoved)

  next_kept : (as' : List Access) (next : Next) (place before count : ℕ) → NextFits v place before count as' next → AfterNext K s v as' next
  next_kept as' (Go to) place before count f = tt
  next_kept as' (End outcome) place before count f = tt
  next_kept as' (Load x) place before count f = tt
  next_kept as' (Store z) place before count f = store_kept z (access_at as' 0) f (lookup v (access_at as' 0)) (lookup_finds v (access_at as' 0))
  next_kept as' (Transfer amount short) place before count f =
      transfer_kept amount (access_at as' 0) (access_at as' 1) f.1 f.2 (lookup v (access_at as' 0)) (lookup v (access_at as' 1))
      (lookup_finds v (access_at as' 0)) (lookup_finds v (access_at as' 1))

  pub step_keeps : WriteSetOnly v.entries s (point_of s (step_call v l s)).state
  step_keeps =
      fitting_leaves v l s K unmoved
      (record { room = restored_length v.entries l.saved s; frame = restored_frame v.entries l.saved s }) next_kept

-- ---- the cells that the call reads or writes

-- Two lists of cells hold the same there.
abbrev pub SameThere : List ℕ → List ℤ → List ℤ → Type 0
SameThere es s s' = (x : ℕ) → (any_entry entry_reads es x || any_entry entry_writes es x) ≡ true → cell_at s x ≡ cell_at s' x

-- Two steps, from cells s and s', leave the call at the same place, with the same in its cells.
pub record StepEndsAlike (es : List ℕ) (s s' : List ℤ) (r r' : Stepped) : Type 0 where
  pub course : (point_of s r).course ≡ (point_of s' r').course
  pub cells : SameThere es (point_of s r).state (point_of s' r').state

module _ (v : View) (proper : Proper v.entries) (l : Local) (s s' : List ℤ) (room : max_keys ≤ length s) (room' : max_keys ≤ length s')
    (same : SameThere v.entries s s') where
  abbrev L : Stepped → Stepped → Type 0
  L r r' = StepEndsAlike v.entries s s' r r'

  -- The same of what its place comes to.
  abbrev C' : Performed → Performed → Type 0
  C' x x' = L (concluded v l.saved s x) (concluded v l.saved s' x')

  -- A cell that is read, and one that is written.
  at_read : (n : ℕ) → any_entry entry_reads v.entries n ≡ true → cell_at s n ≡ cell_at s' n
  at_read n r = same n (rw r)

  at_written : (n : ℕ) → any_entry entry_writes v.entries n ≡ true → cell_at s n ≡ cell_at s' n
  at_written n w = same n (rw w (or-true (any_entry entry_reads v.entries n)))

  -- Both are damaged; both go on, or end, with the same in their cells.
  like_damaged : L damaged damaged
  unfolding point_of
  like_damaged = record { course = refl; cells = same }

  like_broken : C' broken broken
  unfolding concluded
  like_broken = like_damaged

  like_onward : (to n : ℕ) (regs t t' : List ℤ) → SameThere v.entries t t' → C' (onward to n regs t) (onward to n regs t')
  unfolding concluded point_of
  like_onward to n regs t t' h = record { course = refl; cells = h }

  like_done : (outcome count : ℕ) (t t' : List ℤ) → SameThere v.entries t t' → L (done outcome count t) (done outcome count t')
  unfolding point_of
  like_done outcome count t t' h = record { course = refl; cells = h }

  like_if : (t : Bool) {x x' y y' : Stepped} → L x x' → L y y' → L (if t then x else y) (if t then x' else y')
  like_if true p q = p
  like_if false p q = q

  like_test : (t : Bool) (x x' y y' : Performed) → C' x x' → C' y y' → C' (if t then x else y) (if t then x' else y')
  like_test true x x' y y' p q = p
  like_test false x x' y y' p q = q

  set_same : (t t' : List ℤ) (n : ℕ) (z : ℤ) → n < max_keys → length t ≡ length s → length t' ≡ length s' → SameThere v.entries t t'
      → SameThere v.entries (set t n z) (set t' n z)
  set_same t t' n z low e e' h x m = set_alike t t' n z x (omega arith) (omega arith) (h x m)

  ending_like : (outcome count : ℕ) → C' (ending outcome count) (ending outcome count)
  unfolding concluded finish
  ending_like outcome count =
      like_if (ltb outcome thrown) (like_done outcome count s s' same)
      (like_if (restorable v.count v.entries)
      (like_done outcome count (restored v.entries l.saved s) (restored v.entries l.saved s')
      (λ x m. restored_alike v.entries proper l.saved s s' x room room' (same x m)))
      like_damaged)

  load_like : (place count : ℕ) (regs : List ℤ) (x : ℕ) (a : Access) (k : Option ℕ) → Finds v.keys v.entries a k → a.reads ≡ true
      → C' (load_cell place count regs x a s k) (load_cell place count regs x a s' k)
  unfolding load_cell
  load_like place count regs x a None f r = like_broken
  load_like place count regs x a (Some n) f r =
      rw (at_read n (f.read r)) (like_test (is_balance a.key && not (non_neg (cell_at s' n))) _ _ _ _ like_broken (like_onward _ count _ s s' same))

  store_like : (place count : ℕ) (regs : List ℤ) (z : ℤ) (a : Access) (k : Option ℕ) → Finds v.keys v.entries a k
      → C' (store_cell place count regs z s k) (store_cell place count regs z s' k)
  unfolding store_cell
  store_like place count regs z a None f = like_broken
  store_like place count regs z a (Some n) f = like_onward _ count _ (set s n z) (set s' n z) (set_same s s' n z f.low refl refl same)

  deposit_like : (place count : ℕ) (regs : List ℤ) (amount : ℤ) (n : ℕ) → n < max_keys → any_entry entry_reads v.entries n ≡ true
      → (a : Access) (k : Option ℕ) → Finds v.keys v.entries a k → a.writes ≡ true
      → C' (deposit_cell place count regs amount n s k) (deposit_cell place count regs amount n s' k)
  unfolding deposit_cell
  deposit_like place count regs amount n low r a None f w = like_broken
  deposit_like place count regs amount n low r a (Some m) f w =
      rw (at_read n r, at_written m (f.written w))
      (like_test (non_neg (cell_at s' m) && le_z (cell_at s' m +ℤ amount) largest) _ _ _ _
      (like_onward _ count _
      (set (set s n (cell_at s' n -ℤ amount)) m (cell_at s' m +ℤ amount)) (set (set s' n (cell_at s' n -ℤ amount)) m (cell_at s' m +ℤ amount))
      (set_same (set s n (cell_at s' n -ℤ amount)) (set s' n (cell_at s' n -ℤ amount)) m (cell_at s' m +ℤ amount) f.low
      (length-set s n (cell_at s' n -ℤ amount)) (length-set s' n (cell_at s' n -ℤ amount))
      (set_same s s' n (cell_at s' n -ℤ amount) low refl refl same)))
      like_broken)

  transfer_like : (place count : ℕ) (regs : List ℤ) (amount : ℤ) (short : ℕ) (to : Access) → to.writes ≡ true
      → (a : Access) (k : Option ℕ) → Finds v.keys v.entries a k → a.reads ≡ true
      → C' (transfer_cells v place count regs amount short to s k) (transfer_cells v place count regs amount short to s' k)
  unfolding transfer_cells
  transfer_like place count regs amount short to w a None f r = like_broken
  transfer_like place count regs amount short to w a (Some n) f r =
      rw (at_read n (f.read r))
      (like_test (not (non_neg (cell_at s' n))) _ _ _ _ like_broken
      (like_test (lt_z (cell_at s' n) amount) _ _ _ _ (ending_like short count)
      (deposit_like place count regs amount n f.low (f.read r) to (lookup v to) (lookup_finds v to) w)))

  perform_like : (place before count : ℕ) (as' : List Access) (regs : List ℤ) (next : Next) → NextFits v place before count as' next
      → C' (perform v place count as' regs next s) (perform v place count as' regs next s')
  unfolding perform
  perform_like place before count as' regs (Go to) f = like_onward _ count _ s s' same
  perform_like place before count as' regs (End outcome) f = ending_like outcome count
  perform_like place before count as' regs (Load x) f =
      load_like place count regs x (access_at as' 0) (lookup v (access_at as' 0)) (lookup_finds v (access_at as' 0)) f
  perform_like place before count as' regs (Store z) f =
      store_like place count regs z (access_at as' 0) (lookup v (access_at as' 0)) (lookup_finds v (access_at as' 0))
  perform_like place before count as' regs (Transfer amount short) f =
      transfer_like place count regs amount short (access_at as' 1) f.2 (access_at as' 0) (lookup v (access_at as' 0))
      (lookup_finds v (access_at as' 0)) f.0

  pub step_like : StepEndsAlike v.entries s s' (step_call v l s) (step_call v l s')
  unfolding step_call
  step_like =
      place_all v l.place l.count l.regs (λ f. C' (f s) (f s')) like_broken (λ outcome n few less. ending_like outcome n)
      (λ some inside spent. ending_like out_of_fuel l.count)
      (λ n as' a f. perform_like l.place l.count n as' a.regs a.next f.next)
