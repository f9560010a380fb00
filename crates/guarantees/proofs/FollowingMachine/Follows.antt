-- A lent run's move follows the machine's: what that means, test by test, and the facts that the moves' tests read.
use mathlib.Core.Path.{◌≡◌, refl, sym, ap, ap₂, ◌∙◌}
use mathlib.Core.Bool.{Bool, true, false, cond, not, ◌||◌, or-true}
use mathlib.Core.List.{List, [], ◌∷◌}
use Prim.Native.Nat.{ℕ, suc, ◌+◌, ◌%◌, ◌≤◌, ◌<◌}
use native.Mathlib.Omega.{arith}
use borrow.Author.Tests.{le-leb, le-ltb, lt-ltb, eq-eqb, ne_eqb}
use lib.Dec.{eqb, ltb}
use lib.ListN.{length}
use Rattle.std.specs.Prelude.{if◌then◌else◌, Err}
use Rattle.block.specs.Limits.{max_keys, max_workers}
use Rattle.schedule.specs.Tally as tally
use Rattle.schedule.specs.Tally.{unless}
use Rattle.schedule.specs.Machine.{ready, active, ended, is_ready, is_ended, Machine}
use Rattle.machine.specs.Run.{Run, sizes_of, large_enough, held_at, state_of, is_state, waiting, finished}
use Rattle.machine.specs.Waits.{named_in}
use Rattle.footprint.specs.Plan.{entry_cell, entry_writes}
use Rattle.machine.specs.Step.{View, entries_allowed, restorable}
use Rattle.machine.specs.Moves.{Moved, stay, call_key_count, own_entries}
use Rattle.machine.specs.Answer.{answer_number}
use Rattle.machine.specs.declared.Answer.{Answer}
use Rattle.guarantees.proofs.CallsOfRun.ViewCalls.{broken, receipt, Proper, Tidy, run_view}
use Rattle.guarantees.specs.Demand1.{Large}
use Rattle.guarantees.proofs.AcceptedOpening.OpeningPassed.{large_sizes}
use Rattle.guarantees.proofs.FollowingMachine.RunMatches.{CallState, StatusSays, Base, calls_in, HoldsRunning, Matches}

-- ---- numbers and flags

few_workers_lem : (k : ℕ) → 0 < k → k ≤ max_workers → (not true || eqb k 0 || ltb max_workers k) ≡ false
few_workers_lem k low high = rw (ne_eqb k 0 (omega arith), le-ltb max_workers k high)

-- The state word of a call: in its range, and which state it is.
pub record StateRead (word : ℕ) (a : CallState) : Type 0 where
  pub known : is_state word ≡ true
  pub waits : eqb word waiting ≡ is_ready a
  pub ends : eqb word finished ≡ is_ended a

pub state_read : (status : List ℕ) (c : ℕ) (a : CallState) → StatusSays status c a → StateRead (state_of status c) a
state_read status c ready h = record { known = rw h.0; waits = rw h.0; ends = rw h.0 }
state_read status c (active l o) h = record { known = rw h.0; waits = rw h.0; ends = rw h.0 }
state_read status c (ended broken) h = absurd h
state_read status c (ended (receipt outcome count)) h = record { known = rw h.0; waits = rw h.0; ends = rw h.0 }

proper_allowed : (es : List ℕ) → Proper es → entries_allowed es ≡ true
unfolding entries_allowed
proper_allowed [] h = refl
proper_allowed (e ∷ es) h =
    rw (ne_eqb (e % 4) 0 h.0.0, lt-ltb (entry_cell e) max_keys h.0.1, or-true (not (entry_writes e))) (proper_allowed es h.1)

-- A call's old values can be kept and restored.
tidy_restorable : (v : View) → Tidy v → restorable v.count v.entries ≡ true
tidy_restorable v t =
    let few : v.count ≤ 24 = let f : length v.entries ≤ 24 = t.few in omega (arith, t.count) in
    rw (le-leb v.count 24 few) (proper_allowed v.entries t.entries)

module _ (file : List ℕ) (workers n : ℕ) (before : ℕ → ℕ → Bool) (r₀ : Run) where
  -- The answers are equal, and what is left matches: "a refused move changes nothing".
  pub record Follows (M after : Machine (calls_in file n before r₀)) (answer : ℕ) (moved : Moved) : Type 0 where
    pub same : answer_number moved.answer ≡ answer
    pub run : Matches file workers n before r₀ (unless answer after M) moved.run

  module _ {M after : Machine (calls_in file n before r₀)} where
    pub refused : {r : Run} → Matches file workers n before r₀ M r → (a : Answer) (k : ℕ) → answer_number (Err a) ≡ suc k → Follows M after (suc k) (stay r a)
    refused m a k e = record { same = e; run = m }

    -- A test of the run that never applies.
    pub passes : {k : ℕ} (t : Bool) (x y : Moved) → t ≡ false → Follows M after k y → Follows M after k (if t then x else y)
    passes t x y e f = rw e f

    -- A test that both make.
    pub tests : (k j : ℕ) (x y : Moved) (t u : Bool) → t ≡ u → (u ≡ true → Follows M after k x) → (u ≡ false → Follows M after j y)
        → Follows M after (cond u k j) (if t then x else y)
    tests k j x y t true e f g = rw e (f refl)
    tests k j x y t false e f g = rw e (g refl)

  module _ (base : Base file workers n before r₀) (M : Machine (calls_in file n before r₀)) (r : Run) (m : Matches file workers n before r₀ M r) where
    pub large : Large (sizes_of r)
    large = large_sizes (sizes_of r) (ap large_enough m.sizes ∙ base.large)

    -- 20 for the run's sizes and its number of workers.
    pub sized : (not (large_enough (sizes_of r)) || eqb r.head.workers 0 || ltb max_workers r.head.workers) ≡ false
    sized =
        ap₂ (λ (b : Bool) (k : ℕ). not b || eqb k 0 || ltb max_workers k) (ap large_enough m.sizes ∙ base.large) m.worker_count
        ∙ few_workers_lem workers base.some_workers base.few_workers

    -- A worker's seat has a call of the run, or none.
    pub record SeatRead (w : ℕ) : Type 0 where
      pub free : eqb (held_at r.head w) 0 ≡ tally.is_idle (M.seat w)
      pub known : held_at r.head w ≤ n

    pub follows_seat : (w : ℕ) → w < workers → SeatRead w
    follows_seat w l = go (M.seat w) refl
      where
        go : (s : tally.Seat) → M.seat w ≡ s → SeatRead w
        go tally.idle e =
            let q : held_at r.head w ≡ 0 = m.idle w l e in
            record { free = eq-eqb (held_at r.head w) 0 q ∙ ap tally.is_idle (sym e); known = omega arith }
        go (tally.holds c) e =
            let k : HoldsRunning file workers n before r₀ M r w c = m.holds w c e in
            let q : held_at r.head w ≡ c + 1 = k.own.holds in
            let below : c < n = k.call in
            record { free = ne_eqb (held_at r.head w) 0 (omega arith) ∙ ap tally.is_idle (sym e); known = omega arith }

    pub call_read : (c : ℕ) → c < n → StateRead (state_of r.status c) (M.call c)
    call_read c l = state_read r.status c (M.call c) (m.calls c l)

    -- A call's row names the calls before it.
    pub row_read : (i c : ℕ) → i < c → c < n → named_in r.plan i c ≡ before i c
    row_read i c less l = ap (λ (plan : List ℕ). named_in plan i c) m.plan ∙ base.row i c less l

    pub can_restore : (c : ℕ) → c < n → restorable (call_key_count r.plan c) (own_entries r.plan c) ≡ true
    can_restore c l =
        ap (λ (plan : List ℕ). restorable (call_key_count plan c) (own_entries plan c)) m.plan ∙ tidy_restorable (run_view file r₀ c) (base.tidy c l)
