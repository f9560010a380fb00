-- Each step of a call leaves fewer steps, so the call ends within its bound; and its receipt is in its range.
use mathlib.Core.Path.{◌≡◌, refl}
use mathlib.Core.Bool.{Bool, true}
use mathlib.Core.List.{List}
use Prim.Native.Nat.{ℕ, zero, suc, ◌+◌, ◌≤◌}
use native.Mathlib.Omega.{arith}
use lib.IntN.{ℤ}
use Rattle.schedule.specs.Calls.{Calls, CallCourse, more, done, is_done, advance, trace, steps_of, whole}
use Rattle.block.specs.Limits.{max_code}
use Rattle.machine.specs.Step as machine
use Rattle.machine.specs.Step.{View, Local, Stepped, saved_of, step_call}
use Rattle.machine.specs.Serial.{step_limit}
use Rattle.machine.proofs.StepLaws.{FuelInRange, Ranged, steps_left, ranged_left, begun_ranged, begun_left, ReceiptBounded, StepLowers}
use Rattle.machine.proofs.PlaceLaws.{step_lowers}
use Rattle.guarantees.proofs.CallsOfRun.ViewCalls.{Place, place_with_saved, Receipt, broken, receipt, point_of, view_calls}

-- After k steps the call has ended, with a receipt in its range, or it is in range and can take at most the steps that are left of its bound.
abbrev pub WithinBound : View → (k : ℕ) → CallCourse Place Receipt → Type 0
WithinBound v k (more l) = Ranged v l.place l.count × (steps_left v l.place l.count + k ≤ step_limit v.call.fuel)
WithinBound v k (done broken) = Unit {0}
WithinBound v k (done (receipt outcome count)) = ReceiptBounded outcome count

-- ---- one step

step_within : (v : View) (l : Local) (s : List ℤ) (k : ℕ) → Ranged v l.place l.count → steps_left v l.place l.count + k ≤ step_limit v.call.fuel
    → WithinBound v (suc k) (point_of s (step_call v l s)).course
unfolding point_of
step_within v l s k range few = go (step_call v l s) (step_lowers v l s range)
  where
    go : (r : Stepped) → StepLowers v l r → WithinBound v (suc k) (point_of s r).course
    go machine.damaged h = tt
    go (machine.more l' cells) h = (h.lowers.range, omega (arith, h.lowers.lower))
    go (machine.done outcome count cells) h = h

-- ---- all steps

module _ (view : ℕ → View) (n : ℕ) (before : ℕ → ℕ → Bool) (c : ℕ) (s : List ℤ) (few : (view c).code ≤ max_code + 1)
    (fuel : FuelInRange (view c).call.fuel) where
  abbrev Y : Calls
  Y = view_calls view n before

  trace_within : (k : ℕ) → WithinBound (view c) k (trace Y c s k).course
  unfolding trace
  trace_within zero = (begun_ranged (view c) few fuel, omega (arith, begun_left (view c)))
  trace_within (suc k) = go (trace Y c s k).course (trace Y c s k).state (trace_within k)
    where
      go : (q : CallCourse Place Receipt) (t : List ℤ) → WithinBound (view c) k q
          → WithinBound (view c) (suc k) (advance Y c (saved_of (view c).entries s) q t).course
      go (more l) t h = step_within (view c) (place_with_saved l (saved_of (view c).entries s)) t k h.0 h.1
      go (done broken) t h = tt
      go (done (receipt outcome count)) t h = h

  pub view_ends : is_done (trace (view_calls view n before) c s (step_limit (view c).call.fuel)).course ≡ true
  view_ends = go (trace Y c s (step_limit (view c).call.fuel)).course (trace_within (step_limit (view c).call.fuel))
    where
      go : (q : CallCourse Place Receipt) → WithinBound (view c) (step_limit (view c).call.fuel) q → is_done q ≡ true
      go (more l) h = absurd (omega (arith, ranged_left h.0, h.1))
      go (done r) h = refl

  -- The receipt of a call that runs to its end.
  pub whole_within : WithinBound (view c) (steps_of (view_calls view n before) c s) (whole (view_calls view n before) c s).course
  unfolding whole
  whole_within = trace_within (steps_of Y c s)
