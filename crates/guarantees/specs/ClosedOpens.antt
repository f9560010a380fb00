-- "Its kind 2 records open the next block", of every run whose calls are all finished.
use Rattle.std.specs.Prelude.{◌≡◌, List, ℕ, ◌<◌, ◌≤◌, length, Ok}
use Rattle.schedule.specs.Tally.{finished}
use Rattle.schedule.specs.declared.Move.{Move}
use Rattle.block.specs.Limits.{max_bytes, max_call_keys, max_keys, max_workers}
use Rattle.wire.specs.All.{All}
use Rattle.block.specs.Encoding.{AreBytes, Routine, FunctionFits, CallFits, FunctionsKeep, CallsKeep, placed}
use Rattle.block.specs.declared.Call.{Call}
use Rattle.rule.specs.Rule.{State}
use Rattle.block.specs.BlockOfFile.{block_of, call_count, opening_keys}
use Rattle.footprint.specs.BlockSets.{all_sets}
use Rattle.machine.specs.Opening.{opening_of}
use Rattle.machine.specs.Run.{Run, Sizes}
use Rattle.sheet.specs.Sheet.{next_file}
use Rattle.guarantees.specs.BlockTally.{tally_after}
use Rattle.guarantees.specs.Agreement.{run_after_moves}
use Rattle.guarantees.specs.Demand1.{Exactly, Large, keys_together}
use Rattle.guarantees.specs.Demand2.{opening_state, closing_state}

-- Functions and calls that have bytes: each number fits its field.
pub record Sendable (functions : List Routine) (calls : List Call) : Type 0 where
  pub coded : All (λ f. FunctionFits f × AreBytes f.code) functions
  pub called : All CallFits calls

-- The next day's functions, calls, workers and buffers pass their own tests; nothing is asked of the cells.
pub record NextKeeps (s : Sizes) (workers : ℕ) (file : List ℕ) (functions : List Routine) (calls : List Call) : Type 0 where
  pub large : Large s
  pub some : (1 ≤ workers) × (workers ≤ max_workers)
  pub coded : FunctionsKeep functions
  pub called : CallsKeep calls
  pub size : length file ≤ max_bytes
  pub each : All (λ es. length es ≤ max_call_keys) (all_sets file (block_of file))
  pub together : length (keys_together (opening_keys (block_of file)) (all_sets file (block_of file))) ≤ max_keys

-- What the file opens: these functions, these calls, and a state, at every key.
pub record OpensWith (σ : State) (file : List ℕ) (functions : List Routine) (calls : List Call) : Type 0 where
  pub coded : (block_of file).functions ≡ placed 0 functions
  pub called : (block_of file).calls ≡ calls
  pub state : (k : ℕ) → opening_state file k ≡ σ k

-- The kind 2 records of a run open the next block with a state: with any functions and calls, the file is accepted exactly if these pass their
-- own tests, and then opens with that state.
pub record OpensNext (r : Run) (σ : State) : Type 0 where
  pub accepts : (functions : List Routine) (calls : List Call) → Sendable functions calls → (s : Sizes) (workers : ℕ)
      → Exactly ((opening_of s (next_file r functions calls) workers).answer ≡ (Ok tt))
      (NextKeeps s workers (next_file r functions calls) functions calls)
  pub opens : (functions : List Routine) (calls : List Call) → Sendable functions calls → (s : Sizes) (workers : ℕ)
      → (opening_of s (next_file r functions calls) workers).answer ≡ Ok tt
      → OpensWith σ (next_file r functions calls) functions calls

-- Behind every list of moves that finishes all calls, with the state that the published rule leaves.
abbrev pub ClosedOpens : Type 0
ClosedOpens =
    (s : Sizes) (file : List ℕ) (workers : ℕ) → AreBytes file → (opening_of s file workers).answer ≡ Ok tt
    → (ms : List Move) → ((c : ℕ) → c < call_count file → (tally_after file workers ms).phase c ≡ finished)
    → OpensNext (run_after_moves s file workers ms) (closing_state file)
