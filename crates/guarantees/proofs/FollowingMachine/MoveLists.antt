-- A list of moves from a run that stands for a state of the machine: equal answers, none of them 20, and a run that stands for the state behind
-- them.
use mathlib.Core.Path.{◌≡◌, refl, sym, ap, ap₂, ◌∙◌}
use mathlib.Core.List.{List, [], ◌∷◌}
use Prim.Native.Nat.{ℕ, zero, suc}
use native.Mathlib.Omega.{arith}
use lib.IntN.{ℤ}
use lib.ListN.{get_or}
use Rattle.schedule.specs.declared.Move.{Move}
use Rattle.schedule.specs.declared.Move.TheVariants.{Begin, Step, Cancel}
use Rattle.schedule.specs.Tally.{Tally, move, has_begun}
use Rattle.schedule.specs.Calls.{Calls, steps_in_serial}
use Rattle.schedule.specs.Machine.{active, is_ready, is_ended, Machine, respond, make, play, responses}
use Rattle.schedule.proofs.Simulation.{saved, RunningAsSerial, Agrees, is_running, move_agrees}
use Rattle.block.specs.Encoding.{AreBytes}
use Rattle.machine.specs.Run.{Run, Sizes}
use Rattle.machine.specs.Moves.{move_of, run_after, answers_of}
use Rattle.guarantees.proofs.CallsOfRun.ViewCalls.{Place}
use Rattle.guarantees.proofs.AcceptedOpening.AfterOpening.{AfterOpening}
use Rattle.guarantees.proofs.FollowingMachine.OpenedRuns.{opened_run, opened_calls, OpenedMatches, OpenedWhole}
use Rattle.guarantees.proofs.FollowingMachine.MoveMatches.{not_twenty, move_matches}
use Rattle.guarantees.proofs.SerialAndRule.SerialRun.{MoveSound}
use Rattle.guarantees.proofs.SerialAndRule.SerialRunOfFile.{sound_whole, opened_laws, opened_good, opened_whole}
use Rattle.block.specs.BlockOfFile.{call_count}
use Rattle.guarantees.specs.BlockTally.{is_before}

-- No answer is 20.
pub none_twenty : (Y : Calls) (workers : ℕ) (M : Machine Y) (ms : List Move) (i : ℕ) → get_or (responses Y workers M ms) i 0 ≡ 20 → ⊥
unfolding responses respond
none_twenty Y workers M [] i e = omega arith
none_twenty Y workers M (m ∷ ms) zero e =
    not_twenty workers Y.calls Y.before (λ i. is_ready (M.call i)) (λ i. is_ended (M.call i)) M.seat m e
none_twenty Y workers M (m ∷ ms) (suc i) e = none_twenty Y workers (make Y workers M m) ms i e

module _ (s : Sizes) (file : List ℕ) (workers : ℕ) (bytes : AreBytes file) (after : AfterOpening s file workers) where
  abbrev Y : Calls
  Y = opened_calls s file workers

  abbrev s₀ : List ℤ
  s₀ = (opened_run s file workers).cells

  -- The machine agrees with the tally.
  abbrev pub Agreed : Tally → Machine (opened_calls s file workers) → Type 0
  Agreed t M =
      Agrees (opened_calls s file workers) (opened_laws s file workers bytes after) workers (opened_run s file workers).cells
      (opened_good s file workers bytes after) t M

  -- A running call's next step goes as in the serial run, which no step finds damaged.
  sound_move : (t : Tally) (M : Machine Y) → Agreed t M → (m : Move)
      → MoveSound file (call_count file) (is_before file) (opened_run s file workers) M m
  sound_move t M a (Begin w c) = tt
  sound_move t M a (Step w) = λ c l kept seat call e.
      let run = a.valid.runs w c (sym (a.seats w) ∙ seat) in
      let R : RunningAsSerial Y s₀ M c run.0 =
      is_running Y (opened_laws s file workers bytes after) workers s₀ (opened_good s file workers bytes after) t M a c run.0 run.1 in
      let same : active R.local (saved Y s₀ c) ≡ active l kept = sym R.call ∙ call in
      let place : R.local ≡ l = cc in
      let old : saved Y s₀ c ≡ kept = cc in
      opened_whole s file workers bytes after c (a.valid.known c (ap has_begun run.1)) (suc run.0)
      (sym R.ahead.course ∙ ap₂ (λ (p : Place) (o : List ℤ). (Y.step c o p M.cells).course) place old ∙ e)
  sound_move t M a (Cancel w) = tt

  pub whole_move : (t : Tally) (M : Machine (opened_calls s file workers)) → Agreed t M → (m : Move) → OpenedWhole s file workers M m
  whole_move t M a m = sound_whole s file workers M m (sound_move t M a m)

  -- The run and the answers behind a list of moves.
  pub record PlaysMoves (M : Machine (opened_calls s file workers)) (r : Run) (ms : List Move) : Type 0 where
    pub run : OpenedMatches s file workers (play (opened_calls s file workers) workers M ms) (run_after file r ms)
    pub answered : answers_of file r ms ≡ responses (opened_calls s file workers) workers M ms

  pub plays : (t : Tally) (M : Machine (opened_calls s file workers)) (r : Run) → Agreed t M → OpenedMatches s file workers M r → (ms : List Move)
      → PlaysMoves M r ms
  unfolding play responses run_after answers_of
  plays t M r a h [] = record { run = h; answered = refl }
  plays t M r a h (m ∷ ms) =
      let one = move_matches s file workers after M r m h (whole_move t M a m) in
      let rest =
      plays (move workers Y.calls Y.before (steps_in_serial Y s₀) t m) (make Y workers M m) (move_of file r m).run
      (move_agrees Y (opened_laws s file workers bytes after) workers s₀ (opened_good s file workers bytes after) t M a m) one.1 ms in
      record { run = rest.run; answered = ap₂ (λ (n : ℕ) (ns : List ℕ). n ∷ ns) one.0 rest.answered }
