-- A block run with the input that came from C, and what was handed to C of it. A contract cannot say which bytes C reads and writes. It says
-- that there are bytes, as many as the reads gave, with which the session, the run and the text handed over are the definition's. What is
-- handed over is known from the transcript: the contracts hold for every one that is lent, however long. They hold for both outputs: REGISTER's
-- text, and the sheet's bytes alone.
use Rattle.std.specs.Prelude.{◌≡◌, Bool, true, false, List, ◌++◌, ℕ, ◌+◌, ◌≤◌, ◌<◌, length, Option, Some, None, is_some}
use Rattle.block.specs.Refusal.{is_accepted}
use Rattle.block.specs.Limits.{max_bytes, max_workers}
use Rattle.machine.specs.Run.{Run, fixed_sizes}
use Rattle.machine.specs.Opening.{opening_of}
use Rattle.console.specs.Register.{Session, play_bytes, play_end, max_input, register_of}
use Rattle.console.specs.SheetBytes.{written_sheet}
use Rattle.console.specs.declared.Line.{Line}
use Rattle.console.specs.declared.Line.TheVariants.{Empty}
use Rattle.play.specs.Shown.{fresh_session}
use Rattle.play.specs.declared.Session as play
use Rattle.host.specs.Exchange.{Handed, nothing_exchanged}
use Rattle.host.specs.declared.Exchange.{Exchange}
use Rattle.printing.specs.Printing.{printed_lines, printed_close}
use Rattle.printing.specs.declared.Output.{Output}
use Rattle.printing.specs.declared.Output.TheVariants.{Text, Sheet}
use Rattle.register_run.specs.declared.Piece.{Piece}
use Rattle.register_run.specs.declared.Input.{Input}
use Rattle.register_run.specs.declared.Ran.{Ran}
use Rattle.register_run.specs.declared.Registered.{Registered}

-- The input is read in pieces of at most so many bytes.
abbrev pub chunk_size : ℕ
chunk_size = 512

-- What is printed of a block with an input: all of REGISTER's text, or all of the sheet's bytes.
unfoldable pub printed_of : Output → List ℕ → List ℕ → List ℕ
printed_of Text block input = register_of block input
printed_of Sheet block input = written_sheet block input

-- How a read of standard input changes the exchange: it counts what came, and it can fail.
pub record InputRead (x : Exchange) (n : ℕ) (y : Exchange) : Type 0 where
  pub received : y.received ≡ x.received + n
  pub sent : y.sent ≡ x.sent
  pub still : y.ok ≡ true → x.ok ≡ true

-- The session and the run are those of the definition behind some bytes, and what is printed of its text is handed over.
pub record PlaysBytes (output : Output) (block : List ℕ) (s : Session) (x : Exchange) (before : List ℕ) (bytes : List ℕ) (t : play.Session)
    (run : Run) (y : Exchange) (after : List ℕ) : Type 0 where
  pub number : t.number ≡ (play_bytes block s bytes).number
  pub line : t.line ≡ (play_bytes block s bytes).line
  pub left : run ≡ (play_bytes block s bytes).run
  pub text : Handed before x (printed_lines output (play_bytes block s bytes).output) after y
  pub received : y.received ≡ x.received + length bytes

-- A piece of the input, of at most `limit` bytes: of some bytes, as many as came.
pub record PiecePlayed (output : Output) (block : List ℕ) (s : Session) (x : Exchange) (limit : ℕ) (before : List ℕ) (p : Piece) (run : Run)
    (after : List ℕ) : Type 0 where
  pub bytes : List ℕ
  pub size : length bytes ≡ p.taken
  pub within : p.taken ≤ limit
  pub plays : PlaysBytes output block s x before bytes p.session run p.exchange after

-- The input to its end: at most `limit` bytes, and fewer only where a read answered none or something failed.
pub record InputPlayed (output : Output) (block : List ℕ) (s : Session) (x : Exchange) (limit : ℕ) (before : List ℕ) (i : Input) (run : Run)
    (after : List ℕ) : Type 0 where
  pub bytes : List ℕ
  pub within : length bytes ≤ limit
  pub whole : i.exchange.ok ≡ true → i.ended ≡ false → length bytes ≡ limit
  pub plays : PlaysBytes output block s x before bytes i.session run i.exchange after

-- The exchange at the start of a run: nothing is received yet.
abbrev pub exchange_start : Exchange → Exchange
exchange_start x = record { ok = x.ok; received = 0; sent = x.sent }

-- Whether a block is accepted.
abbrev pub opens_file : List ℕ → Bool
opens_file block = is_accepted (opening_of fixed_sizes block max_workers).answer

-- What is printed of the input's end and of the close, and of an opened run with an input.
abbrev pub printed_end : Output → List ℕ → ℕ → Line → Run → List ℕ
printed_end output block number line run =
    let e : Session = play_end block (fresh_session number line run) in printed_lines output e.output ++ printed_close output e.run

abbrev pub printed_opened : Output → List ℕ → Run → List ℕ → List ℕ
printed_opened output block run bytes =
    let s : Session = play_bytes block (fresh_session 1 Empty run) bytes in
    printed_lines output s.output ++ printed_end output block s.number s.line s.run

-- An opened run with at most `limit` bytes of input: for some input, as many bytes as came, all that is printed of it is handed over. The input is
-- read to its end or its limit, unless something failed.
pub record RunsOn (output : Output) (block : List ℕ) (run : Run) (x : Exchange) (limit : ℕ) (before : List ℕ) (r : Ran)
    (after : List ℕ) : Type 0 where
  pub opened : is_some r.input_ended ≡ true
  pub input : List ℕ
  pub within : length input ≤ limit
  pub whole : r.exchange.ok ≡ true → r.input_ended ≡ Some false → length input ≡ limit
  pub received : r.exchange.received ≡ length input
  pub text : Handed before x (printed_opened output block run input) after r.exchange

-- A block run with at most `limit` bytes of input: for some input, as many bytes as came, all that is printed is handed over. The input of
-- an accepted block is read to its end or its limit, unless something failed; of a refused block none is read.
pub record Runs (output : Output) (block : List ℕ) (x : Exchange) (limit : ℕ) (before : List ℕ) (r : Ran) (after : List ℕ) : Type 0 where
  pub opened : is_some r.input_ended ≡ opens_file block
  pub input : List ℕ
  pub within : length input ≤ limit
  pub whole : r.exchange.ok ≡ true → r.input_ended ≡ Some false → length input ≡ limit
  pub received : r.exchange.received ≡ length input
  pub text : Handed before (exchange_start x) (printed_of output block input) after r.exchange

-- A file, run: for some bytes of the file and of the input, what is handed over, one text after another, is all that the definition prints. The file is
-- read to its end, or more of it than a block may have; the input of an accepted block to its end, or as much of it as counts, unless something failed.
pub record RegistersFile (output : Output) (before : List ℕ) (r : Registered) (after : List ℕ) : Type 0 where
  pub file : List ℕ
  pub input : List ℕ
  pub file_whole : r.file_ended ≡ false → max_bytes < length file
  pub opened : is_some r.input_ended ≡ opens_file file
  pub input_within : length input ≤ max_input
  pub input_whole : r.exchange.ok ≡ true → r.input_ended ≡ Some false → length input ≡ max_input
  pub received : r.exchange.received ≡ length input
  pub text : Handed before nothing_exchanged (printed_of output file input) after r.exchange

-- REGISTER as a whole, and the program that writes the sheet's bytes: the file that was read is run, and where it cannot be read nothing is handed over.
-- It rests on this of C. `read` puts the bytes of the file, and those of standard input, one after another into the buffer that it is handed, as
-- many as it answers; it answers 0 at their end alone, and below 0 where it fails. `write` writes the bytes that it is handed, as many as it
-- answers. `open` fails with ENOENT where the file is missing alone. Then `file` and `input` are the bytes that were read, and standard output has what
-- was handed over.
abbrev pub Registers : Output → List ℕ → Option Registered → List ℕ → Type 0
Registers output before (Some r) after = RegistersFile output before r after
Registers output before None after = after ≡ before
