-- The mathematics of the proofs of `seat`, over plain variables: registers taken from a frame one by one.
use mathlib.Core.Path.{◌≡◌, sym, ◌∙◌}
use mathlib.Core.List.{List}
use Prim.Native.Nat.{ℕ, ◌+◌, ◌≤◌, ◌<◌}
use native.Mathlib.Omega.{arith}
use lib.IntN.{ℤ, pos}
use lib.ListN.{length, get_or, take, drop, length-take, length-drop}
use lib.Seq.{get_or-take, get_or-drop, ext_get_or}
use Rattle.machine.specs.Run.{registers}

-- The first k registers are those of the frame that starts at a place.
pub record TakenTo (frames : List ℤ) (at : ℕ) (regs : List ℤ) (k : ℕ) : Type 0 where
  pub full : length regs ≡ registers
  pub same : (i : ℕ) → i < k → get_or regs i (pos 0) ≡ get_or frames (at + i) (pos 0)

module _ (frames : List ℤ) (at : ℕ) where
  pub taken_all : {regs : List ℤ} (k : ℕ) → TakenTo frames at regs k → registers ≤ k → at + registers ≤ length frames → regs ≡ take registers (drop at frames)
  taken_all {regs} k h l fits =
      let long : length regs ≡ length (take registers (drop at frames)) = simp (length-take, length-drop) (omega (arith, h.full)) in
      ext_get_or (pos 0) regs (take registers (drop at frames)) long
      (λ i below. h.same i (omega (arith, h.full)) ∙ sym (get_or-take registers (drop at frames) i (pos 0) (omega (arith, h.full)) ∙ get_or-drop at frames i (pos 0)))
