-- What each step of each call keeps of a cell, from a begin that had it, holds of the cell by any phases of the calls, and so after every list of moves.
use Prim.Native.Nat.{ℕ, zero, suc, ◌≤◌, ◌<◌}
use native.Mathlib.Omega.{arith}
use mathlib.Core.Bool.{Bool, true, false, cond, ◌&&◌}
use Rattle.schedule.specs.Tally.{Phase, has_begun, steps_of_phase}
use Rattle.schedule.specs.Calls.{Calls, CallCourse, more, done, advance, trace, whole, alone, serial, steps_of, steps_in_serial, Laws}
use Rattle.schedule.proofs.RunLaws.{trace_good}
use Rattle.schedule.proofs.Expected.{reached, expected, serial_good}

module _ (Y : Calls) (laws : Laws Y) (x : ℕ) (P : Y.Value → Type 0)
    (keeps : (c : ℕ) → c < Y.calls → (s₁ s : Y.State) → Y.Good s₁ → Y.Good s → P (Y.get s₁ x) → P (Y.get s x) → (l : Y.Local)
    → P (Y.get (Y.step c (Y.save c s₁) l s).state x)) where
  -- It holds at each point of a call's run.
  trace_keeps : (c : ℕ) → c < Y.calls → (s : Y.State) → Y.Good s → P (Y.get s x) → (k : ℕ) → P (Y.get (trace Y c s k).state x)
  unfolding trace
  trace_keeps c l s g holds zero = holds
  trace_keeps c l s g holds (suc k) =
      go (trace Y c s k).course (trace Y c s k).state (trace_good Y c (laws.call c l) s g k) (trace_keeps c l s g holds k)
    where
      go : (q : CallCourse Y.Local Y.Receipt) (t : Y.State) → Y.Good t → P (Y.get t x)
          → P (Y.get (advance Y c (Y.save c s) q t).state x)
      go (more a) t h so_far = keeps c l s t g h holds so_far a
      go (done r) t h so_far = so_far

  module _ (s₀ : Y.State) (good₀ : Y.Good s₀) (start : P (Y.get s₀ x)) where
    -- Before each call of the serial run.
    serial_keeps : (m : ℕ) → m ≤ Y.calls → P (Y.get (serial Y s₀ m) x)
    unfolding alone whole
    serial_keeps zero h = start
    serial_keeps (suc m) h =
        trace_keeps m (omega arith) (serial Y s₀ m) (serial_good Y laws s₀ good₀ m (omega arith)) (serial_keeps m (omega arith))
        (steps_of Y m (serial Y s₀ m))

    pub expected_keeps : (phase : ℕ → Phase) (m : ℕ) → m ≤ Y.calls → P (expected Y s₀ phase m x)
    unfolding expected
    expected_keeps phase zero h = start
    expected_keeps phase (suc m) h = go (has_begun (phase m) && Y.wr m x) (expected_keeps phase m (omega arith))
      where
        go : (b : Bool) → P (expected Y s₀ phase m x) → P (cond b (Y.get (reached Y s₀ m (phase m)).state x) (expected Y s₀ phase m x))
        go true before =
            trace_keeps m (omega arith) (serial Y s₀ m) (serial_good Y laws s₀ good₀ m (omega arith)) (serial_keeps m (omega arith))
            (steps_of_phase (steps_in_serial Y s₀) m (phase m))
        go false before = before
