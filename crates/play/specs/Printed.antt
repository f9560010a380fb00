-- One record of a sheet as a line: what is left to write gives what the whole would have given.
use Rattle.std.specs.Prelude.{◌≡◌, List, [], ℕ, ◌+◌, ◌-◌, ◌*◌, ◌≤◌, ◌<◌, length, drop, Option, Some, None}
use Rattle.wire.specs.Bytes.{stored}
use Rattle.block.specs.Limits.{max_calls, max_keys}
use Rattle.console.specs.Text.{records_text}
use Rattle.play.specs.declared.Reading.{Reading}

-- The lines that are left to write, of at most so many records.
abbrev pub lines_left : List ℕ → (turns : ℕ) → Reading → List ℕ
lines_left sheet turns p = records_text turns p.call (drop p.at sheet)

-- A cell's line is a letter, five parts behind a space each, and a line feed: two numbers of at most 5 digits, two of at most 10, and a value of
-- at most 20 characters. A receipt's line is shorter.
abbrev pub max_record_text : ℕ
max_record_text = 57

-- The longest text of a close: a line for each cell and each receipt.
abbrev pub max_close_text : ℕ
max_close_text = max_record_text * (max_keys + max_calls)

-- Every turn takes a record of at most 65,539 bytes, and one line.
pub record Turned (gone : ℕ) (p : Reading) : Type 0 where
  pub place : p.at ≤ 65539 * gone
  pub calls : p.call ≤ gone
  pub text : p.end ≤ max_record_text * gone

-- So far there were fewer turns than so many.
pub record TurnsWithin (turns : ℕ) (p : Reading) : Type 0 where
  pub gone : ℕ
  pub fewer : gone < turns
  pub turned : Turned gone p

-- A record was written.
pub record PrintedOne (sheet : List ℕ) (p : Reading) (out : List ℕ) (q : Reading) (after : List ℕ) : Type 0 where
  pub same : (turns : ℕ) → 0 < turns → stored out p.end (lines_left sheet turns p) ≡ stored after q.end (lines_left sheet (turns - 1) q)
  pub end : (turns : ℕ) → 0 < turns → p.end + length (lines_left sheet turns p) ≡ q.end + length (lines_left sheet (turns - 1) q)
  pub turned : (gone : ℕ) → Turned gone p → Turned (gone + 1) q

-- No line was left.
pub record PrintedNone (sheet : List ℕ) (p : Reading) (out after : List ℕ) : Type 0 where
  pub same : after ≡ out
  pub none : (turns : ℕ) → 0 < turns → lines_left sheet turns p ≡ []

abbrev pub Printed : List ℕ → Reading → (out : List ℕ) → Option Reading → (after : List ℕ) → Type 0
Printed sheet p out (Some q) after = PrintedOne sheet p out q after
Printed sheet p out None after = PrintedNone sheet p out after
