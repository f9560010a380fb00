-- The calls of a run as the theorem on schedules takes them: states are the lists of cells, read by cell number.
use mathlib.Core.Path.{◌≡◌}
use mathlib.Core.Bool.{Bool, false, ◌&&◌, ◌||◌}
use mathlib.Core.List.{List, [], ◌∷◌}
use Prim.Native.Nat.{ℕ, ◌+◌, ◌*◌, ◌%◌, ◌≤◌, ◌<◌}
use lib.IntN.{ℤ}
use lib.Dec.{eqb}
use lib.ListN.{length, drop}
use Rattle.schedule.specs.Calls.{Calls, more, done, Point}
use Rattle.block.specs.Limits.{max_call_keys, max_keys, max_code}
use Rattle.block.specs.Record.{head_bytes, call_record_bytes, call_of}
use Rattle.machine.specs.Run.{Run, zero_registers}
use Rattle.footprint.specs.Plan.{entry_cell, entry_reads, entry_writes}
use Rattle.machine.specs.Step as machine
use Rattle.machine.specs.Step.{View, Local, Stepped, cell_at, saved_of, restored, step_call}
use Rattle.machine.specs.Moves.{view_of}
use Rattle.machine.specs.Serial.{step_limit}
use Rattle.machine.proofs.StepLaws.{FuelInRange}
use Rattle.guarantees.specs.RuleRun.{body_call}

-- "running (place, registers, count of executed instructions, ..)": without the old values, which the schedule keeps apart.
pub record Place : Type 0 where
  pub place : ℕ
  pub count : ℕ
  pub regs : List ℤ

abbrev pub at_entry : Place
at_entry = record { place = 0; count = 0; regs = zero_registers }

abbrev pub place_with_saved : Place → List ℤ → Local
place_with_saved l saved = record { place = l.place; count = l.count; regs = l.regs; saved = saved }

-- "finished (outcome, count)"; and one receipt more, for a step that finds the run damaged.
pub data Receipt : Type 0 where
  broken : Receipt
  receipt : (outcome count : ℕ) → Receipt

-- What a step leaves; a damaged run stays as it is.
unfoldable pub point_of : List ℤ → Stepped → Point (List ℤ) Place Receipt
point_of cells machine.damaged = record { state = cells; course = done broken }
point_of cells (machine.more l after) =
    record { state = after; course = more (record { place = l.place; count = l.count; regs = l.regs }) }
point_of cells (machine.done outcome count after) = record { state = after; course = done (receipt outcome count) }

-- Whether one of the entries that pass a test has the cell.
unfoldable pub any_entry : (ℕ → Bool) → List ℕ → ℕ → Bool
any_entry test [] x = false
any_entry test (e ∷ es) x = (test e && eqb (entry_cell e) x) || any_entry test es x

-- The calls 0 to n - 1, each by its view.
abbrev pub view_calls : (view : ℕ → View) (n : ℕ) (before : ℕ → ℕ → Bool) → Calls
view_calls view n before =
    record {
      State = List ℤ;
      Value = ℤ;
      Local = Place;
      Saved = List ℤ;
      Receipt = Receipt;
      Good = λ cells. max_keys ≤ length cells;
      get = cell_at;
      calls = n;
      rd = λ c x. any_entry entry_reads (view c).entries x;
      wr = λ c x. any_entry entry_writes (view c).entries x;
      before = before;
      start = λ c. at_entry;
      save = λ c cells. saved_of (view c).entries cells;
      step = λ c saved l cells. point_of cells (step_call (view c) (place_with_saved l saved) cells);
      restore = λ c saved cells. restored (view c).entries saved cells;
      bound = λ c. step_limit (view c).call.fuel;
    }

-- What an opening sees to: entries with a flag and a cell of the table, and code and fuel within their limits.
abbrev pub Proper : List ℕ → Type 0
Proper [] = Unit {0}
Proper (e ∷ es) = ((e % 4 ≡ 0 → ⊥) × (entry_cell e < max_keys)) × Proper es

pub record Tidy (v : View) : Type 0 where
  pub count : v.count ≡ length v.entries
  pub few : length v.entries ≤ max_call_keys
  pub entries : Proper v.entries
  pub code : v.code ≤ max_code + 1
  pub fuel : FuelInRange v.call.fuel

-- The view of call j of a run.
abbrev pub run_view : List ℕ → Run → ℕ → View
run_view file r j =
    view_of file r j (body_call (call_of (drop (r.head.first_call + call_record_bytes * j + head_bytes) file)))
