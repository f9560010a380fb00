-- BEGIN by the row: on a run that stands for the machine's state, the states of the earlier conflicting calls say what the number says that the call
-- carries.
use mathlib.Core.Path.{◌≡◌, refl, sym, ap₂, ◌∙◌}
use mathlib.Core.Bool.{Bool, true, false, not, ◌&&◌, ◌||◌}
use mathlib.Core.List.{List}
use Prim.Native.Nat.{ℕ, zero, suc, ◌<◌}
use native.Mathlib.Omega.{arith}
use borrow.Author.Tests.{leb-false}
use lib.Dec.{eqb, leb}
use Rattle.wire.specs.Rows.{in_row}
use Rattle.schedule.specs.Tally.{blocked}
use Rattle.schedule.specs.Machine.{is_ended, Machine}
use Rattle.machine.specs.Run.{Run, row_in, state_of, is_state, finished}
use Rattle.machine.specs.Moves.{Waits, waits_by_count, begin_by, begin_of}
use Rattle.machine.specs.ByRow.{earlier_broken, earlier_finished, waits_by_row, begin_by_row}
use Rattle.guarantees.proofs.FollowingMachine.RunMatches.{Base, calls_in, Matches}
use Rattle.guarantees.proofs.FollowingMachine.Follows.{call_read, row_read}
use Rattle.guarantees.proofs.FollowingMachine.BeginMatches.{counts_few, counts_blocked}

-- ---- the states of the earlier conflicting calls

none_broken : (row status : List ℕ) (k : ℕ) → ((i : ℕ) → i < k → is_state (state_of status i) ≡ true) → earlier_broken row status k ≡ false
unfolding earlier_broken
none_broken row status zero h = refl
none_broken row status (suc k) h = rw (h k (omega arith)) (go (in_row row k) (none_broken row status k (λ i l. h i (omega arith))))
  where
    go : (b : Bool) → earlier_broken row status k ≡ false → ((b && not true) || earlier_broken row status k) ≡ false
    go true e = e
    go false e = e

-- One earlier call more: all are finished unless it is one to wait for and is not.
one_more : (a d f : Bool) → not ((not a || d) && f) ≡ ((a && not d) || not f)
one_more true true f = refl
one_more true false f = refl
one_more false d f = refl

finished_blocked : (row status : List ℕ) (before : ℕ → ℕ → Bool) (done : ℕ → Bool) (c k : ℕ)
    → ((i : ℕ) → i < k → in_row row i ≡ before i c) → ((i : ℕ) → i < k → eqb (state_of status i) finished ≡ done i)
    → not (earlier_finished row status k) ≡ blocked before done c k
unfolding earlier_finished blocked
finished_blocked row status before done c zero f g = refl
finished_blocked row status before done c (suc k) f g =
    one_more (in_row row k) (eqb (state_of status k) finished) (earlier_finished row status k)
    ∙ ap₂ (λ (b t : Bool). b || t) (ap₂ (λ (a d : Bool). a && not d) (f k (omega arith)) (g k (omega arith)))
    (finished_blocked row status before done c k (λ i l. f i (omega arith)) (λ i l. g i (omega arith)))

-- ---- the move

-- What is found for 25 is looked at for a call of the run alone.
begin_same : (v v' : Run → ℕ → Waits) (r : Run) (w c : ℕ) → (c < r.head.calls → v r c ≡ v' r c) → begin_by v r w c ≡ begin_by v' r w c
unfolding begin_by
begin_same v v' r w c h = go (leb r.head.calls c) refl
  where
    go : (b : Bool) → leb r.head.calls c ≡ b → begin_by v r w c ≡ begin_by v' r w c
    go true e = rw e
    go false e = rw (h (leb-false r.head.calls c e))

module _ (file : List ℕ) (workers n : ℕ) (before : ℕ → ℕ → Bool) (r₀ : Run) (base : Base file workers n before r₀)
    (M : Machine (calls_in file n before r₀)) (r : Run) (m : Matches file workers n before r₀ M r) (w c : ℕ) where
  waits_same : c < n → waits_by_count r c ≡ waits_by_row r c
  waits_same call =
      let states = call_read file workers n before r₀ base M r m in
      let broken = counts_few file workers n before r₀ base M r m w c call
      ∙ sym (none_broken (row_in r.plan c) r.status c (λ i l. (states i (omega arith)).known)) in
      let unfinished = counts_blocked file workers n before r₀ base M r m w c call
      ∙ sym (finished_blocked (row_in r.plan c) r.status before (λ i. is_ended (M.call i)) c c
      (λ i l. row_read file workers n before r₀ base M r m i c l call) (λ i l. (states i (omega arith)).ends)) in
      λ i. record { broken = broken i; unfinished = unfinished i }

  pub begin_by_row_lem : begin_of r w c ≡ begin_by_row r w c
  begin_by_row_lem = begin_same waits_by_count waits_by_row r w c (λ l. waits_same (rw m.call_count at l))
