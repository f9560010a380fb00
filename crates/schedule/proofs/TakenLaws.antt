-- The accepted steps of each call since its last begin are those that the tally's phases have.
use Prim.Native.Nat.{ℕ, zero, suc}
use mathlib.Core.Path.{◌≡◌, refl, ap, ◌∙◌}
use mathlib.Core.Bool.{Bool}
use Rattle.schedule.specs.declared.Move.{Move}
use Rattle.schedule.specs.declared.Move.TheVariants.{Begin, Step, Cancel}
use Rattle.schedule.specs.Tally.{Phase, waiting, running, Seat, idle, holds, Tally, put, answer, next, place, step, cancel, accept, unless, move, steps_of_phase}
use Rattle.schedule.proofs.Valid.{put_here, put_there, put_all, next_all, Valid}
use Rattle.schedule.specs.Taken.{recount_step, recount_cancel, recount}

module _ (workers n : ℕ) (before : ℕ → ℕ → Bool) (steps : ℕ → ℕ) where
  -- The counts are those of the phases.
  abbrev pub Counts : Tally → (ℕ → ℕ) → Type 0
  Counts t f = (c : ℕ) → f c ≡ steps_of_phase steps c (t.phase c)

  place_counts :
      (t : Tally) (f : ℕ → ℕ) → Counts t f → (w c k : ℕ) (p : Phase) → k ≡ steps_of_phase steps c p →
      Counts (place t w c p) (put f c k)
  unfolding place
  place_counts t f h w c k p e =
      put_all t.phase c p (λ d q. put f c k d ≡ steps_of_phase steps d q) (put_here f c k ∙ e) (λ d x. put_there f c k d x ∙ h d)

  pub next_counts : (c k : ℕ) → suc k ≡ steps_of_phase steps c (next (steps c) (running k))
  next_counts c k = next_all (λ p. suc k ≡ steps_of_phase steps c p) (steps c) k (λ z. z) (λ z. refl)

  accept_counts :
      (t : Tally) (f : ℕ → ℕ) → Valid workers n before steps t → Counts t f → (m : Move) → Counts (accept steps t m) (recount t f m)
  unfolding accept recount step cancel recount_step recount_cancel
  accept_counts t f v h (Begin w c) = place_counts t f h w c 0 (running 0) refl
  accept_counts t f v h (Step w) = go (t.seat w) refl
    where
      go : (s : Seat) → t.seat w ≡ s → Counts (step steps t w s) (recount_step f s)
      go idle e = h
      go (holds c) e =
          let r = v.runs w c e in
          rw r.1
          (place_counts t f h w c (suc (f c)) (next (steps c) (running r.0))
          (ap suc (h c ∙ ap (steps_of_phase steps c) r.1) ∙ next_counts c r.0))
  accept_counts t f v h (Cancel w) = go (t.seat w)
    where
      go : (s : Seat) → Counts (cancel t w s) (recount_cancel f s)
      go idle = h
      go (holds c) = place_counts t f h w c 0 waiting refl

  pub move_counts :
      (t : Tally) (f : ℕ → ℕ) → Valid workers n before steps t → Counts t f → (m : Move) →
      Counts (move workers n before steps t m) (unless (answer workers n before t m) (recount t f m) f)
  unfolding move
  move_counts t f v h m = go (answer workers n before t m)
    where
      go : (r : ℕ) → Counts (unless r (accept steps t m) t) (unless r (recount t f m) f)
      go zero = accept_counts t f v h m
      go (suc r) = h
