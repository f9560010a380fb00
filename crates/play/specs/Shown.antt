-- A session whose output stands as text in a lent buffer: what the code has of it, and what the definition leaves.
use Rattle.std.specs.Prelude.{List, [], ℕ, ◌+◌, length}
use Rattle.wire.specs.Bytes.{stored}
use Rattle.machine.specs.Run.{Run}
use Rattle.console.specs.Register.{Session}
use Rattle.console.specs.declared.Line.{Line}

-- A session that has written nothing yet.
abbrev pub fresh_session : ℕ → Line → Run → Session
fresh_session number line run = record { number = number; line = line; run = run; output = [] }

-- The number of the line, what is read of it, the run, the buffer, and the position behind the text.
pub record Shown : Type 0 where
  pub number : ℕ
  pub line : Line
  pub run : Run
  pub buffer : List ℕ
  pub end : ℕ

-- The output of a session stored into a buffer from a position on; what does not fit is dropped.
abbrev pub shown : List ℕ → ℕ → Session → Shown
shown buffer from s =
    record {
      number = s.number;
      line = s.line;
      run = s.run;
      buffer = stored buffer from s.output;
      end = from + length s.output;
    }

-- The same from parts.
abbrev pub shown_from : ℕ → Line → Run → List ℕ → ℕ → Shown
shown_from number line run buffer end = record { number = number; line = line; run = run; buffer = buffer; end = end }
