-- The lent run follows the worker machine, move by move: equal answers, and a run that stands for the machine again.
use mathlib.Core.Path.{◌≡◌}
use mathlib.Core.Bool.{Bool, true, false, cond, not}
use mathlib.Core.List.{List}
use Prim.Native.Nat.{ℕ}
use native.Mathlib.Omega.{arith}
use lib.Dec.{leb}
use Rattle.schedule.specs.declared.Move.{Move}
use Rattle.schedule.specs.declared.Move.TheVariants.{Begin, Step, Cancel}
use Rattle.schedule.specs.Tally.{Seat, is_idle, blocked, refusal}
use Rattle.schedule.specs.Machine.{Machine, respond, perform_move, make}
use Rattle.machine.specs.Run.{Run, Sizes}
use Rattle.machine.specs.Moves.{move_of}
use Rattle.machine.specs.Answer.{answer_number}
use Rattle.guarantees.proofs.FollowingMachine.RunMatches.{Base, calls_in, UndamagedMove, Matches}
use Rattle.guarantees.proofs.AcceptedOpening.AfterOpening.{AfterOpening}
use Rattle.guarantees.proofs.FollowingMachine.OpenedRuns.{opened_run, opened_calls, OpenedMatches, OpenedWhole, base}
use Rattle.guarantees.proofs.FollowingMachine.Follows.{Follows}
use Rattle.guarantees.proofs.FollowingMachine.BeginMatches.{begin_follows}
use Rattle.guarantees.proofs.FollowingMachine.StepMatches.{step_follows}
use Rattle.guarantees.proofs.FollowingMachine.CancelMatches.{cancel_follows}
use Rattle.block.specs.BlockOfFile.{call_count}
use Rattle.guarantees.specs.BlockTally.{is_before}

-- One move of a run that stands for a state of the machine.
move_follows : (file : List ℕ) (workers n : ℕ) (before : ℕ → ℕ → Bool) (r₀ : Run) → Base file workers n before r₀
    → (M : Machine (calls_in file n before r₀)) (r : Run) (m : Move) → Matches file workers n before r₀ M r → UndamagedMove file n before r₀ M m
    → Follows file workers n before r₀ M (perform_move (calls_in file n before r₀) M m) (respond (calls_in file n before r₀) workers M m) (move_of file r m)
unfolding perform_move respond move_of
move_follows file workers n before r₀ base M r (Begin w c) h whole = begin_follows file workers n before r₀ base M r h w c
move_follows file workers n before r₀ base M r (Step w) h whole = step_follows file workers n before r₀ base M r h w whole
move_follows file workers n before r₀ base M r (Cancel w) h whole = cancel_follows file workers n before r₀ base M r h w

-- ---- after an opening

-- The numbers of the tests, and none of them is 20.
other_number : (b : Bool) (k j : ℕ) → (k ≡ 20 → ⊥) → (j ≡ 20 → ⊥) → cond b k j ≡ 20 → ⊥
other_number true k j f g = f
other_number false k j f g = g

pub not_twenty : (workers n : ℕ) (before : ℕ → ℕ → Bool) (waits done : ℕ → Bool) (seat : ℕ → Seat) (m : Move)
    → refusal workers n before waits done seat m ≡ 20 → ⊥
unfolding refusal
not_twenty workers n before waits done seat (Begin w c) =
    other_number (leb workers w) 21 _ (λ e. omega arith)
    (other_number (leb n c) 22 _ (λ e. omega arith)
    (other_number (not (is_idle (seat w))) 23 _ (λ e. omega arith)
    (other_number (not (waits c)) 24 _ (λ e. omega arith) (other_number (blocked before done c c) 25 0 (λ e. omega arith) (λ e. omega arith)))))
not_twenty workers n before waits done seat (Step w) =
    other_number (leb workers w) 21 _ (λ e. omega arith) (other_number (is_idle (seat w)) 26 0 (λ e. omega arith) (λ e. omega arith))
not_twenty workers n before waits done seat (Cancel w) =
    other_number (leb workers w) 21 _ (λ e. omega arith) (other_number (is_idle (seat w)) 26 0 (λ e. omega arith) (λ e. omega arith))

module _ (s : Sizes) (file : List ℕ) (workers : ℕ) (after : AfterOpening s file workers)
    (M : Machine (opened_calls s file workers)) (r : Run) (m : Move) (h : OpenedMatches s file workers M r) (whole : OpenedWhole s file workers M m) where
  pub move_matches : (answer_number (move_of file r m).answer ≡ respond (opened_calls s file workers) workers M m)
      × OpenedMatches s file workers (make (opened_calls s file workers) workers M m) (move_of file r m).run
  unfolding make
  move_matches =
      let f = move_follows file workers (call_count file) (is_before file) (opened_run s file workers) (base s file workers after) M r m h whole in
      (f.same, f.run)
