-- The tally of a block asks the number of steps of the block's own calls alone.
use mathlib.Core.Path.{◌≡◌, refl, ap, ◌∙◌}
use mathlib.Core.List.{List, [], ◌∷◌}
use Prim.Native.Nat.{ℕ, ◌<◌}
use Rattle.schedule.specs.declared.Move.{Move}
use Rattle.schedule.specs.declared.Move.TheVariants.{Begin, Step, Cancel}
use Rattle.schedule.specs.Tally.{Seat, idle, holds, Tally, start, answer, next, place, step, accept, unless, move, after_from, answers_from, after, answers, has_begun}
use Rattle.schedule.specs.Calls.{Calls, steps_in_serial, Laws}
use Rattle.schedule.specs.Machine.{Machine, machine_opening, make}
use Rattle.schedule.proofs.Valid.{Valid}
use Rattle.schedule.proofs.Simulation.{Agrees, opening_agrees, move_agrees}
use Rattle.schedule.specs.Taken.{recount, taken_from, taken}

module _ (Y : Calls) (laws : Laws Y) (workers : ℕ) (s₀ : Y.State) (good : Y.Good s₀)
    (steps : ℕ → ℕ) (same : (c : ℕ) → c < Y.calls → steps c ≡ steps_in_serial Y s₀ c) where
  abbrev S : ℕ → ℕ
  S = steps_in_serial Y s₀

  -- A worker's call is one of the block.
  accept_same : (t : Tally) → Valid workers Y.calls Y.before S t → (m : Move) → accept steps t m ≡ accept S t m
  unfolding accept step
  accept_same t v (Begin w c) = refl
  accept_same t v (Step w) = go (t.seat w) refl
    where
      go : (q : Seat) → t.seat w ≡ q → step steps t w q ≡ step S t w q
      go idle e = refl
      go (holds c) e =
          ap (λ (k : ℕ). place t w c (next k (t.phase c))) (same c (v.known c (ap has_begun (v.runs w c e).1)))
  accept_same t v (Cancel w) = refl

  move_same : (t : Tally) → Valid workers Y.calls Y.before S t → (m : Move)
      → move workers Y.calls Y.before steps t m ≡ move workers Y.calls Y.before S t m
  unfolding move
  move_same t v m = ap (λ (u : Tally). unless (answer workers Y.calls Y.before t m) u t) (accept_same t v m)

  -- From a tally that a state of the machine agrees with.
  after_from_lem : (t : Tally) (M : Machine Y) → Agrees Y laws workers s₀ good t M → (ms : List Move)
      → after_from workers Y.calls Y.before steps t ms ≡ after_from workers Y.calls Y.before S t ms
  unfolding after_from
  after_from_lem t M a [] = refl
  after_from_lem t M a (m ∷ ms) =
      ap (λ (u : Tally). after_from workers Y.calls Y.before steps u ms) (move_same t a.valid m)
      ∙ after_from_lem (move workers Y.calls Y.before S t m) (make Y workers M m) (move_agrees Y laws workers s₀ good t M a m) ms

  answers_from_lem : (t : Tally) (M : Machine Y) → Agrees Y laws workers s₀ good t M → (ms : List Move)
      → answers_from workers Y.calls Y.before steps t ms ≡ answers_from workers Y.calls Y.before S t ms
  unfolding answers_from
  answers_from_lem t M a [] = refl
  answers_from_lem t M a (m ∷ ms) =
      ap (λ (as' : List ℕ). answer workers Y.calls Y.before t m ∷ as')
      (ap (λ (u : Tally). answers_from workers Y.calls Y.before steps u ms) (move_same t a.valid m)
      ∙ answers_from_lem (move workers Y.calls Y.before S t m) (make Y workers M m) (move_agrees Y laws workers s₀ good t M a m) ms)

  taken_from_lem : (t : Tally) (M : Machine Y) → Agrees Y laws workers s₀ good t M → (f : ℕ → ℕ) (ms : List Move)
      → taken_from workers Y.calls Y.before steps t f ms ≡ taken_from workers Y.calls Y.before S t f ms
  unfolding taken_from
  taken_from_lem t M a f [] = refl
  taken_from_lem t M a f (m ∷ ms) =
      ap (λ (u : Tally). taken_from workers Y.calls Y.before steps u (unless (answer workers Y.calls Y.before t m) (recount t f m) f) ms)
      (move_same t a.valid m)
      ∙ taken_from_lem (move workers Y.calls Y.before S t m) (make Y workers M m) (move_agrees Y laws workers s₀ good t M a m)
      (unless (answer workers Y.calls Y.before t m) (recount t f m) f) ms

  -- The tally after a list of moves, its answers, and the steps since each call's last begin.
  module _ (ms : List Move) where
    pub after_same : after workers Y.calls Y.before steps ms ≡ after workers Y.calls Y.before S ms
    unfolding after
    after_same = after_from_lem start (machine_opening Y s₀) (opening_agrees Y laws workers s₀ good) ms

    pub answers_same : answers workers Y.calls Y.before steps ms ≡ answers workers Y.calls Y.before S ms
    unfolding answers
    answers_same = answers_from_lem start (machine_opening Y s₀) (opening_agrees Y laws workers s₀ good) ms

    pub taken_same : taken workers Y.calls Y.before steps ms ≡ taken workers Y.calls Y.before S ms
    unfolding taken
    taken_same = taken_from_lem start (machine_opening Y s₀) (opening_agrees Y laws workers s₀ good) (λ c. 0) ms
