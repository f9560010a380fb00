-- The serial run of an accepted opening, and the run of chosen calls of it alone, as states of the worker machine over its calls.
use mathlib.Core.Path.{◌≡◌}
use mathlib.Core.Bool.{Bool, true}
use mathlib.Core.List.{List}
use Prim.Native.Nat.{ℕ, ◌≤◌, ◌<◌}
use Rattle.schedule.specs.declared.Move.{Move}
use Rattle.schedule.specs.declared.Move.TheVariants.{Begin, Step, Cancel}
use Rattle.schedule.specs.Calls as calls
use Rattle.schedule.specs.Calls.{Laws}
use Rattle.schedule.specs.Machine.{Machine}
use Rattle.schedule.proofs.Expected.{ClosedUnderEarlier}
use Rattle.block.specs.Encoding.{AreBytes}
use Rattle.machine.specs.Run.{Run, Sizes}
use Rattle.machine.specs.Step.{step_call}
use Rattle.machine.specs.Serial.{serial_run, serial_run_of, serial_steps}
use Rattle.guarantees.proofs.CallsOfRun.ViewCalls.{place_with_saved, run_view}
use Rattle.guarantees.proofs.CallsOfRun.ViewLawful.{view_lawful}
use Rattle.guarantees.proofs.AcceptedOpening.AfterOpening.{AfterOpening}
use Rattle.guarantees.proofs.FollowingMachine.OpenedRuns.{opened_run, opened_calls, OpenedMatches, OpenedWhole, tidy, opened_apart, base, opening_matches}
use Rattle.guarantees.proofs.FollowingMachine.MoveMatches.{move_matches}
use Rattle.guarantees.specs.Agreement.{serial_point_after}
use Rattle.guarantees.proofs.SerialAndRule.ChosenRun.{ran, underway}
use Rattle.guarantees.proofs.SerialAndRule.SerialRule.{serial_follows}
use Rattle.guarantees.proofs.SerialAndRule.SerialRun.{MoveSound, SeriallyWhole, MovesMatch, undamaged, serial_stepped, serial_steps_lem, serial_run_all, chosen_run_all}
use Rattle.block.specs.BlockOfFile.{call_count}
use Rattle.guarantees.specs.BlockTally.{is_before}

-- A move whose step is not broken in the machine does not find the run damaged.
pub sound_whole : (s : Sizes) (file : List ℕ) (workers : ℕ) (M : Machine (opened_calls s file workers)) (m : Move)
    → MoveSound file (call_count file) (is_before file) (opened_run s file workers) M m → OpenedWhole s file workers M m
sound_whole s file workers M (Begin w c) sound = tt
sound_whole s file workers M (Step w) sound =
    λ c l saved seat call.
    undamaged M.cells (step_call (run_view file (opened_run s file workers) c) (place_with_saved l saved) M.cells) (sound c l saved seat call)
sound_whole s file workers M (Cancel w) sound = tt

module _ (s : Sizes) (file : List ℕ) (workers : ℕ) (bytes : AreBytes file) (after : AfterOpening s file workers) where
  abbrev n : ℕ
  n = call_count file

  abbrev r₀ : Run
  r₀ = opened_run s file workers

  -- The calls of the opened run are lawful, its cells are enough, and no step of its serial run finds it damaged.
  pub opened_laws : Laws (opened_calls s file workers)
  opened_laws =
      record {
        apart = opened_apart s file workers after;
        call = λ c l. view_lawful (run_view file r₀) n (is_before file) c (tidy s file workers after c l);
      }

  pub opened_good : (opened_calls s file workers).Good (opened_run s file workers).cells
  opened_good = after.opened.hold.room

  pub opened_moves : MovesMatch file workers (call_count file) (is_before file) (opened_run s file workers)
  opened_moves M r m match sound = move_matches s file workers after M r m match (sound_whole s file workers M m sound)

  pub opened_whole : SeriallyWhole file (call_count file) (is_before file) (opened_run s file workers)
  opened_whole = (serial_follows s file bytes workers after (is_before file)).unbroken

  -- The serial run: every call has run.
  pub serially_matches : OpenedMatches s file workers (ran (opened_calls s file workers) (opened_run s file workers).cells (λ i. true) (call_count file))
      (serial_run file (opened_run s file workers))
  serially_matches =
      serial_run_all file workers n (is_before file) r₀ (base s file workers after) opened_laws opened_good (opening_matches s file workers after)
      opened_moves opened_whole

  -- "only they are begun": the picked calls, which hold with each of them its earlier conflicting calls.
  pub alone_matches : (pick : ℕ → Bool) → ClosedUnderEarlier (opened_calls s file workers) pick
      → OpenedMatches s file workers (ran (opened_calls s file workers) (opened_run s file workers).cells pick (call_count file))
      (serial_run_of pick file (opened_run s file workers))
  alone_matches =
      chosen_run_all file workers n (is_before file) r₀ (base s file workers after) opened_laws opened_good (opening_matches s file workers after)
      opened_moves opened_whole

  -- Call c of the serial run after k of its steps.
  pub stepped_matches : (c : ℕ) → c < call_count file → (k : ℕ)
      → k ≤ calls.steps_in_serial (opened_calls s file workers) (opened_run s file workers).cells c
      → OpenedMatches s file workers (underway (opened_calls s file workers) (opened_run s file workers).cells (λ i. true) c k)
      (serial_point_after s file workers c k)
  stepped_matches =
      serial_stepped file workers n (is_before file) r₀ (base s file workers after) opened_laws opened_good (opening_matches s file workers after)
      opened_moves opened_whole

  -- "the number of steps that the serial run takes for that call"
  pub steps_are : (c : ℕ) → c < call_count file
      → serial_steps file (opened_run s file workers) c ≡ calls.steps_in_serial (opened_calls s file workers) (opened_run s file workers).cells c
  steps_are =
      serial_steps_lem file workers n (is_before file) r₀ (base s file workers after) opened_laws opened_good (opening_matches s file workers after)
      opened_moves opened_whole
