-- The laws that the theorem on schedules asks of a call hold of each call of a run whose view is tidy.
use mathlib.Core.Path.{◌≡◌}
use mathlib.Core.Bool.{Bool, or-true}
use mathlib.Core.List.{List}
use Prim.Native.Nat.{ℕ, ◌≤◌}
use native.Mathlib.Omega.{arith}
use lib.IntN.{ℤ}
use Rattle.schedule.specs.Calls.{Lawful}
use Rattle.block.specs.Limits.{max_keys}
use Rattle.footprint.specs.Plan.{entry_reads}
use Rattle.machine.proofs.RestoreLaws.{restored_length}
use Rattle.machine.specs.Step.{View, Local, saved_of}
use Rattle.guarantees.proofs.CallsOfRun.ViewCalls.{Place, place_with_saved, any_entry, view_calls, Tidy}
use Rattle.guarantees.proofs.CallsOfRun.ViewEntries.{saved_alike, restored_frame, written_back}
use Rattle.guarantees.proofs.CallsOfRun.ViewFrame.{step_keeps, step_like}
use Rattle.guarantees.proofs.CallsOfRun.ViewEnds.{view_ends}

-- Cells that stay as many are still enough.
room_kept : {before after : ℕ} → after ≡ before → max_keys ≤ before → max_keys ≤ after
room_kept e g = omega arith

pub view_lawful : (view : ℕ → View) (n : ℕ) (before : ℕ → ℕ → Bool) (c : ℕ) → Tidy (view c) → Lawful (view_calls view n before) c
view_lawful view n before c tidy =
    record {
      save_local = λ s s' g g' a. saved_alike es s s' (λ x w. a x (rw w (or-true (any_entry entry_reads es x))));
      step_good = λ s₁ s g₁ g l. room_kept (step_keeps v (at s₁ l) s).room g;
      step_frame = λ s₁ s g₁ g l. (step_keeps v (at s₁ l) s).frame;
      step_course = λ s₁ s s' g₁ g g' a l. (step_like v tidy.entries (at s₁ l) s s' g g' a).course;
      step_cells = λ s₁ s s' g₁ g g' a l. (step_like v tidy.entries (at s₁ l) s s' g g' a).cells;
      restore_good = λ s₁ s g₁ g. room_kept (restored_length es (saved_of es s₁) s) g;
      restore_back = λ s₁ s g₁ g x. written_back es tidy.entries s₁ s x g;
      restore_frame = λ s₁ s g₁ g. restored_frame es (saved_of es s₁) s;
      ends = λ s g. view_ends view n before c s tidy.code tidy.fuel;
    }
  where
    v : View
    v = view c

    es : List ℕ
    es = v.entries

    -- The call with the old values of its begin in s₁.
    at : List ℤ → Place → Local
    at s₁ l = place_with_saved l (saved_of es s₁)
