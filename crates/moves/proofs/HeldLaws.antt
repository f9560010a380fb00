-- What the first test of every move tells of the lent buffers: they have their fixed sizes.
use mathlib.Core.Path.{◌≡◌, refl, sym}
use mathlib.Core.Bool.{Bool, true, false, ◌&&◌}
use Prim.Native.Nat.{ℕ, ◌≤◌}
use native.Mathlib.Omega.{arith}
use borrow.Author.Tests.{leb-true}
use lib.Dec.{leb}
use Rattle.footprint.specs.Plan.{room_enough}
use Rattle.machine.specs.Run.{Sizes, fixed_sizes, room_in, large_enough}

-- ---- tests

pub and_left : (a b : Bool) → true ≡ (a && b) → true ≡ a
and_left true b e = refl
and_left false b e = e

pub and_right : (a b : Bool) → true ≡ (a && b) → true ≡ b
and_right true b e = e
and_right false b e = let z : ◌≡◌ {A = ℕ} 0 1 = cc in absurd (omega arith)

-- ---- the sizes

module _ (s : Sizes) (large : true ≡ large_enough s) where
  sizes : (true ≡ room_enough (room_in s)) × (true ≡ leb fixed_sizes.seats s.seats) × (true ≡ leb fixed_sizes.frames s.frames)
  unfolding large_enough
  sizes = (
    and_left (room_enough (room_in s)) (leb fixed_sizes.status s.status) (and_left (room_enough (room_in s) && leb fixed_sizes.status s.status) (leb fixed_sizes.seats s.seats) (and_left (room_enough (room_in s) && leb fixed_sizes.status s.status && leb fixed_sizes.seats s.seats) (leb fixed_sizes.frames s.frames) large)),
    and_right (room_enough (room_in s) && leb fixed_sizes.status s.status) (leb fixed_sizes.seats s.seats) (and_left (room_enough (room_in s) && leb fixed_sizes.status s.status && leb fixed_sizes.seats s.seats) (leb fixed_sizes.frames s.frames) large),
    and_right (room_enough (room_in s) && leb fixed_sizes.status s.status && leb fixed_sizes.seats s.seats) (leb fixed_sizes.frames s.frames) large,
  )

  pub large_plan : fixed_sizes.plan ≤ s.plan
  unfolding room_enough
  large_plan = leb-true _ _ (sym (and_left _ _ (and_left _ _ sizes.0)))

  pub large_keys : fixed_sizes.keys ≤ s.keys
  unfolding room_enough
  large_keys = leb-true _ _ (sym (and_right (leb fixed_sizes.plan s.plan) _ (and_left _ _ sizes.0)))

  pub large_seats : fixed_sizes.seats ≤ s.seats
  large_seats = leb-true _ _ (sym sizes.1)

  pub large_frames : fixed_sizes.frames ≤ s.frames
  large_frames = leb-true _ _ (sym sizes.2)

pub ruleset sizes_known = (large_plan, large_keys, large_seats, large_frames)
