-- What `prepare` answers, put together with the buffers that it leaves.
use Rattle.std.specs.Prelude.{◌≡◌, List, ℕ, ◌*◌, ◌≤◌, ℤ, pos, length, Err, Ok, Result}
use Rattle.wire.specs.Bytes.{repeated}
use Rattle.block.specs.Limits.{max_calls, max_keys}
use Rattle.block.specs.declared.Refusal.{Refusal}
use Rattle.footprint.specs.Plan as plan
use Rattle.footprint.specs.Plan.{Room, plan_words}
use Rattle.analysis.specs.declared.Prepared.{Prepared}

abbrev pub room_of : (plan keys cells : ℕ) → Room
room_of plan keys cells = record { plan = plan; keys = keys; cells = cells }

-- An answer with the buffers; of a refusal the counts are 0.
unfoldable pub preparing : Result Prepared Refusal → List ℕ → List ℕ → List ℤ → plan.Prepared
preparing (Ok p) plan keys values =
    record {
      verdict = Ok tt;
      calls = p.calls;
      cells = p.cells;
      first_call = p.first_call;
      plan = plan;
      keys = keys;
      values = values;
    }
preparing (Err why) plan keys values =
    record {
      verdict = Err why;
      calls = 0;
      cells = 0;
      first_call = 0;
      plan = plan;
      keys = keys;
      values = values;
    }

-- Three buffers that are zero and hold what the limits allow.
pub record Blank (plan keys : List ℕ) (values : List ℤ) : Type 0 where
  pub plan_room : max_calls * plan_words ≤ length plan
  pub keys_room : 2 * max_keys ≤ length keys
  pub cells_room : max_keys ≤ length values
  pub plan_zero : plan ≡ repeated (length plan) 0
  pub keys_zero : keys ≡ repeated (length keys) 0
  pub values_zero : values ≡ repeated (length values) (pos 0)
