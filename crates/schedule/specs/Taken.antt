-- The accepted steps of each call since its last begin, counted move by move.
use Rattle.std.specs.Prelude.{ℕ, suc, Bool, List, [], ◌∷◌}
use Rattle.schedule.specs.declared.Move.{Move}
use Rattle.schedule.specs.declared.Move.TheVariants.{Begin, Step, Cancel}
use Rattle.schedule.specs.Tally.{Seat, idle, holds, Tally, put, start, answer, unless, move}

-- The counts after an accepted move: a begin and a cancel set the call's to 0, a step adds one.
unfoldable pub recount_step : (ℕ → ℕ) → Seat → ℕ → ℕ
recount_step f idle = f
recount_step f (holds call) = put f call (suc (f call))

unfoldable pub recount_cancel : (ℕ → ℕ) → Seat → ℕ → ℕ
recount_cancel f idle = f
recount_cancel f (holds call) = put f call 0

unfoldable pub recount : Tally → (ℕ → ℕ) → Move → ℕ → ℕ
recount t f (Begin worker call) = put f call 0
recount t f (Step worker) = recount_step f (t.seat worker)
recount t f (Cancel worker) = recount_cancel f (t.seat worker)

module _ (workers n : ℕ) (before : ℕ → ℕ → Bool) (steps : ℕ → ℕ) where
  unfoldable pub taken_from : Tally → (ℕ → ℕ) → List Move → ℕ → ℕ
  taken_from t f [] = f
  taken_from t f (m ∷ ms) =
      taken_from (move workers n before steps t m) (unless (answer workers n before t m) (recount t f m) f) ms

  -- "accepted steps, counted from its last begin", 0 for a call that waits
  unfoldable pub taken : List Move → ℕ → ℕ
  taken ms = taken_from start (λ call. 0) ms
