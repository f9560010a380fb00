-- An accepted opening behind a list of moves: its tally is the one that the theorem on schedules has, and its run stands for the machine there.
use mathlib.Core.Path.{◌≡◌, sym, ap, ◌∙◌}
use mathlib.Core.List.{List}
use Prim.Native.Nat.{ℕ, ◌<◌}
use lib.IntN.{ℤ}
use lib.ListN.{get_or}
use Rattle.schedule.specs.declared.Move.{Move}
use Rattle.schedule.specs.Tally as tallies
use Rattle.schedule.specs.Tally.{Tally, start, is_finished, has_begun}
use Rattle.schedule.specs.Calls as calls
use Rattle.schedule.specs.Calls.{Calls, Laws}
use Rattle.schedule.specs.Machine.{Machine, machine_opening}
use Rattle.schedule.proofs.Expected.{ClosedUnderEarlier}
use Rattle.schedule.proofs.Valid.{is_finished_lem}
use Rattle.schedule.proofs.Simulation.{opening_agrees, play_agrees}
use Rattle.schedule.proofs.Confluence.{confluence}
use Rattle.schedule.specs.Confluent.{tally, machine, since, Confluent}
use Rattle.block.specs.Encoding.{AreBytes}
use Rattle.block.specs.BlockOfFile.{call_count}
use Rattle.machine.specs.Run.{Sizes}
use Rattle.machine.specs.Serial.{serial_steps}
use Rattle.machine.specs.Moves.{answers_of}
use Rattle.guarantees.specs.BlockTally.{steps_in, tally_after, tally_answers}
use Rattle.guarantees.specs.Agreement.{run_after_moves, steps_since}
use Rattle.guarantees.proofs.AcceptedOpening.AfterOpening.{AfterOpening}
use Rattle.guarantees.proofs.FollowingMachine.OpenedRuns.{opened_run, opened_calls, OpenedMatches, opening_matches}
use Rattle.guarantees.proofs.RunAndTally.TallySteps.{after_same, answers_same, taken_same}
use Rattle.guarantees.proofs.SerialAndRule.SerialRunOfFile.{opened_laws, opened_good, steps_are}
use Rattle.guarantees.proofs.FollowingMachine.MoveLists.{none_twenty, Agreed, PlaysMoves, plays}

-- The serial steps of the file's calls, counted in buffers of any sizes, are those of its run in buffers of the sizes s.
abbrev pub StepsBySizes : Sizes → List ℕ → (workers : ℕ) → Type 0
StepsBySizes s file workers = (c : ℕ) → c < call_count file → serial_steps file (opened_run s file workers) c ≡ steps_in file workers c

module _ (s : Sizes) (file : List ℕ) (workers : ℕ) (bytes : AreBytes file) (after : AfterOpening s file workers)
    (sized : StepsBySizes s file workers) (ms : List Move) where
  abbrev Y : Calls
  Y = opened_calls s file workers

  abbrev s₀ : List ℤ
  s₀ = (opened_run s file workers).cells

  abbrev laws : Laws Y
  laws = opened_laws s file workers bytes after

  abbrev good : Y.Good s₀
  good = opened_good s file workers bytes after

  -- The tally and the machine of the theorem on schedules.
  abbrev pub the_tally : Tally
  the_tally = tally (opened_calls s file workers) workers (opened_run s file workers).cells ms

  abbrev pub the_machine : Machine (opened_calls s file workers)
  the_machine = machine (opened_calls s file workers) workers (opened_run s file workers).cells ms

  pub confluent : Confluent (opened_calls s file workers) workers (opened_run s file workers).cells ms
  confluent = confluence Y laws workers s₀ good ms

  pub agreed : Agreed s file workers bytes after the_tally the_machine
  unfolding tallies.after
  agreed = play_agrees Y laws workers s₀ good start (machine_opening Y s₀) (opening_agrees Y laws workers s₀ good) ms

  -- The finished calls hold with each of them its earlier conflicting calls.
  pub finished_closed : ClosedUnderEarlier (opened_calls s file workers) (λ c. is_finished (the_tally.phase c))
  finished_closed i j l l' f b = ap is_finished (agreed.valid.order i j l b (ap has_begun (is_finished_lem (the_tally.phase j) f)))

  played : PlaysMoves s file workers bytes after (machine_opening Y s₀) (opened_run s file workers) ms
  played =
      plays s file workers bytes after start (machine_opening Y s₀) (opened_run s file workers) (opening_agrees Y laws workers s₀ good)
      (opening_matches s file workers after) ms

  pub behind_matches : OpenedMatches s file workers the_machine (run_after_moves s file workers ms)
  behind_matches = played.run

  pub no_twenty : (i : ℕ) → get_or (answers_of file (opened_run s file workers) ms) i 0 ≡ 20 → ⊥
  no_twenty i e =
      none_twenty Y workers (machine_opening Y s₀) ms i (sym (ap (λ (as' : List ℕ). get_or as' i 0) played.answered) ∙ e)

  -- ---- the tally

  pub steps_in_lem : (c : ℕ) → c < call_count file → steps_in file workers c ≡ calls.steps_in_serial (opened_calls s file workers) (opened_run s file workers).cells c
  steps_in_lem c l = sym (sized c l) ∙ steps_are s file workers bytes after c l

  pub tally_is : tally_after file workers ms ≡ the_tally
  tally_is = after_same Y laws workers s₀ good (steps_in file workers) steps_in_lem ms

  pub answers_are : answers_of file (opened_run s file workers) ms ≡ tally_answers file workers ms
  answers_are =
      played.answered ∙ confluent.same_answers
      ∙ sym (answers_same Y laws workers s₀ good (steps_in file workers) steps_in_lem ms)

  pub since_is : (c : ℕ) → steps_since file workers ms c ≡ since (opened_calls s file workers) workers (opened_run s file workers).cells ms c
  since_is c = ap (λ (f : ℕ → ℕ). f c) (taken_same Y laws workers s₀ good (steps_in file workers) steps_in_lem ms)
