-- What STEP and CANCEL test first, 20 for the run, 21 and 26: a move behind these tests follows the machine if it does so for a held call.
use Rattle.std.specs.Prelude.{Err, Ok, Result}
use mathlib.Core.Path.{◌≡◌, refl, ap, subst⁻¹, ◌∙◌}
use mathlib.Core.Bool.{Bool, true, false, cond, ◌||◌}
use mathlib.Core.List.{List}
use Prim.Native.Nat.{ℕ, ◌+◌, ◌-◌, ◌≤◌}
use native.Mathlib.Omega.{arith}
use borrow.Author.Tests.{leb-false, le-ltb}
use lib.Dec.{leb, ltb}
use Rattle.block.specs.Limits.{max_calls}
use Rattle.schedule.specs.Tally as tally
use Rattle.schedule.specs.Machine.{Machine}
use Rattle.arith.proofs.ChoiceLaws.{if_true, if_false}
use Rattle.machine.specs.Run.{Run, held_at}
use Rattle.machine.specs.Moves as machine
use Rattle.machine.specs.Moves.{Moved, stay, held_by}
use Rattle.machine.specs.Answer.{answer_number, refused_number}
use Rattle.machine.specs.declared.Answer.{Answer}
use Rattle.machine.specs.declared.Answer.TheVariants.{NoWorker, WorkerIdle}
use Rattle.guarantees.proofs.FollowingMachine.RunMatches.{Base, calls_in, Matches}
use Rattle.guarantees.proofs.FollowingMachine.Follows.{Follows, refused, sized, SeatRead, follows_seat}

-- The call's number is one of the run.
numbers : (calls call : ℕ) → calls ≤ max_calls → call ≤ calls → (ltb max_calls calls || ltb calls call) ≡ false
numbers calls call few known = rw (le-ltb max_calls calls few, le-ltb calls call known)

module _ (file : List ℕ) (workers n : ℕ) (before : ℕ → ℕ → Bool) (r₀ : Run) (base : Base file workers n before r₀)
    (M : Machine (calls_in file n before r₀)) (r : Run) (m : Matches file workers n before r₀ M r) (w : ℕ) where
  no_worker : leb workers w ≡ true → held_by r w ≡ Err NoWorker
  unfolding held_by
  no_worker e =
      if_false _ _ (sized file workers n before r₀ base M r m)
      ∙ if_true _ _ (ap (λ (k : ℕ). leb k w) m.worker_count ∙ e)

  no_call : leb workers w ≡ false → M.seat w ≡ tally.idle → held_by r w ≡ Err WorkerIdle
  unfolding held_by
  no_call e q =
      let seat : SeatRead file workers n before r₀ base M r m w = follows_seat file workers n before r₀ base M r m w (leb-false workers w e) in
      if_false _ _ (sized file workers n before r₀ base M r m)
      ∙ if_false _ _ (ap (λ (k : ℕ). leb k w) m.worker_count ∙ e)
      ∙ if_true _ _ (seat.free ∙ ap tally.is_idle q)

  one_call : leb workers w ≡ false → (c : ℕ) → M.seat w ≡ tally.holds c → held_by r w ≡ Ok c
  unfolding held_by
  one_call e c q =
      let seat : SeatRead file workers n before r₀ base M r m w = follows_seat file workers n before r₀ base M r m w (leb-false workers w e) in
      let own : held_at r.head w ≡ c + 1 = (m.holds w c q).own.holds in
      let number : held_at r.head w - 1 ≡ c = omega arith in
      if_false _ _ (sized file workers n before r₀ base M r m)
      ∙ if_false _ _ (ap (λ (k : ℕ). leb k w) m.worker_count ∙ e)
      ∙ if_false _ _ (seat.free ∙ ap tally.is_idle q)
      ∙ if_false _ _
      (ap (λ (k : ℕ). ltb max_calls k || ltb k (held_at r.head w)) m.call_count
      ∙ numbers n (held_at r.head w) base.few_calls seat.known)
      ∙ ap Ok number

  -- A move that stays where nothing is held.
  pub held_follows : (after : Machine (calls_in file n before r₀)) (move : Result ℕ Answer → Moved) → ((a : Answer) → move (Err a) ≡ stay r a)
      → ((c : ℕ) → M.seat w ≡ tally.holds c → Follows file workers n before r₀ M after 0 (move (Ok c)))
      → Follows file workers n before r₀ M after (cond (leb workers w) 21 (cond (tally.is_idle (M.seat w)) 26 0)) (move (held_by r w))
  unfolding answer_number refused_number
  held_follows after move stays follows = go (leb workers w) refl (M.seat w) refl
    where
      go : (t : Bool) → leb workers w ≡ t → (s : tally.Seat) → M.seat w ≡ s
          → Follows file workers n before r₀ M after (cond t 21 (cond (tally.is_idle s) 26 0)) (move (held_by r w))
      go true e s q =
          subst⁻¹ (Follows file workers n before r₀ M after 21) (ap move (no_worker e) ∙ stays NoWorker)
          (refused file workers n before r₀ m NoWorker 20 refl)
      go false e tally.idle q =
          subst⁻¹ (Follows file workers n before r₀ M after 26) (ap move (no_call e q) ∙ stays WorkerIdle)
          (refused file workers n before r₀ m WorkerIdle 25 refl)
      go false e (tally.holds c) q = subst⁻¹ (Follows file workers n before r₀ M after 0) (ap move (one_call e c q)) (follows c q)
