-- The opening: what the head and every lent buffer hold afterwards, accepted or refused.
use Rattle.std.specs.Prelude.{◌||◌, not, List, ℕ, pos, eqb, ltb, Err, Ok, Result}
use Rattle.std.specs.Prelude.{if◌then◌else◌}
use Rattle.wire.specs.Bytes.{repeated}
use Rattle.block.specs.Limits.{max_workers}
use Rattle.block.specs.Reader.{read_block}
use Rattle.block.specs.declared.Refusal.{Refusal}
use Rattle.block.specs.declared.Refusal.TheVariants.{Workers, Buffers}
use Rattle.footprint.specs.Plan.{Prepared, prepare_read}
use Rattle.machine.specs.Run.{Run, Sizes, fixed_sizes, room_in, large_enough}
use Rattle.machine.specs.Waits.{waits_set}
use Rattle.machine.specs.declared.Head.{Head}

pub record Opened : Type 0 where
  pub answer : Result (Unit {0}) Refusal
  pub run : Run

abbrev pub head_of : (workers calls cells start : ℕ) → Head
head_of workers calls cells start =
    record { workers = workers; calls = calls; cells = cells; first_call = start; held = repeated max_workers 0 }

-- "every buffer lent to be written is zero"
unfoldable pub refused_run : Sizes → Refusal → Opened
refused_run s why =
    record {
      answer = Err why;
      run =
          record {
            head = head_of 0 0 0 0;
            plan = repeated s.plan 0;
            keys = repeated s.keys 0;
            cells = repeated s.cells (pos 0);
            status = repeated s.status 0;
            seats = repeated s.seats 0;
            frames = repeated s.frames (pos 0);
          };
    }

-- Every call waits, with the number of the calls that it waits for, and no worker holds one.
unfoldable pub open_prepared : Sizes → ℕ → Prepared → Result (Unit {0}) Refusal → Opened
open_prepared s workers p (Err why) = refused_run s why
open_prepared s workers p (Ok tt) =
    record {
      answer = Ok tt;
      run =
          record {
            head = head_of workers p.calls p.cells p.first_call;
            plan = p.plan;
            keys = p.keys;
            cells = p.values;
            status = waits_set p.plan p.calls (repeated s.status 0);
            seats = repeated s.seats 0;
            frames = repeated s.frames (pos 0);
          };
    }

-- "Order: 20 (below; here with offset 0 and buffers zero), 13, 1; by record ..; after the end 8; then by call 11, 12."
unfoldable pub opening_of : Sizes → List ℕ → (workers : ℕ) → Opened
opening_of s file workers =
    let p : Prepared = prepare_read (room_in s) file (read_block file) in
    if not (large_enough s)
    then refused_run s Buffers
    else if eqb workers 0 || ltb max_workers workers
    then refused_run s Workers
    else open_prepared s workers p p.verdict

-- The run of a block as opened for eight workers in buffers of the fixed sizes.
abbrev pub opened_for_eight : List ℕ → Run
opened_for_eight block = (opening_of fixed_sizes block max_workers).run
