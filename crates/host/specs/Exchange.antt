-- What the programs exchange with their host, as far as a contract can say it: what is handed to standard output, and how a file is read.
use Rattle.std.specs.Prelude.{◌≡◌, ⊤, Bool, true, false, List, [], ◌++◌, ℕ, ◌-◌, ◌^◌, ◌≤◌, ◌<◌, ltb, length, drop, Option, Some, None, Result, Ok, Err}
use Rattle.wire.specs.Bytes.{repeated}
use Rattle.host.specs.declared.Exchange.{Exchange}
use Rattle.host.specs.declared.FileRead.{FileRead}
use Rattle.host.specs.declared.NoPart.{NoPart}
use Rattle.host.specs.declared.NoPart.TheVariants.{Ended, TooLong}
use Rattle.host.specs.declared.PartRead.{PartRead}
use Rattle.text.specs.Written.{Written}

-- Nothing came yet, and nothing was handed over.
abbrev pub nothing_exchanged : Exchange
nothing_exchanged = record { ok = true; received = 0; sent = 0 }

-- A text is handed to standard output: whole, or, where a write failed, a first part of it. What is handed over stands in the transcript
-- behind what was handed over before, as far as the transcript reaches. After a failure nothing more is handed over.
pub record Handed (before : List ℕ) (x : Exchange) (text after : List ℕ) (y : Exchange) : Type 0 where
  pub handed : List ℕ
  pub rest : List ℕ
  pub parts : text ≡ handed ++ rest
  pub kept : Written before after x.sent y.sent handed
  pub whole : y.ok ≡ true → rest ≡ []
  pub still : y.ok ≡ true → x.ok ≡ true
  pub nothing : x.ok ≡ false → handed ≡ []

-- A program's own name is the first of what it was started with; more is an argument.
unfoldable pub has_arguments : ℕ → Bool
has_arguments n = ltb 1 n

-- A buffer whose first n bytes were read, with zeros behind them.
pub record Filled (before after : List ℕ) (n : ℕ) : Type 0 where
  pub within : n ≤ length before
  pub behind : drop n after ≡ repeated (length before - n) 0

-- At most n bytes read into a buffer; none into one of fewer.
pub record Taken (before after : List ℕ) (n got : ℕ) : Type 0 where
  pub filled : Filled before after got
  pub most : got ≤ n
  pub short : length before < n → got ≡ 0

-- A part of a stream in a buffer, behind its length, which is told in four bytes: at most so many bytes, and the buffer has as many.
pub record PartFound (before after : List ℕ) (r : PartRead) : Type 0 where
  pub in_four : r.told < 2 ^ 32
  pub filled : Filled before after r.length
  pub most : r.length ≤ r.told
  pub fits : r.told ≤ length before

-- A part is refused as too long where the buffer has fewer bytes than were told.
abbrev pub Refuses : List ℕ → NoPart → Type 0
Refuses before Ended = ⊤
Refuses before (TooLong told) = (told < 2 ^ 32) × (length before < told)

-- The next part of a stream in a buffer; where none is found the buffer has nothing of it.
abbrev pub PartIn : List ℕ → List ℕ → Result PartRead NoPart → Type 0
PartIn before after (Ok r) = PartFound before after r
PartIn before after (Err why) = Refuses before why × Filled before after 0

-- How much of a file is read into a buffer of a size: all of it to its end, or as much as the buffer takes.
pub record Reads (size : ℕ) (r : FileRead) : Type 0 where
  pub within : r.length ≤ size
  pub whole : r.ended ≡ false → r.length ≡ size

-- A file read into a buffer; of one that cannot be read the buffer has nothing.
abbrev pub FileIn : List ℕ → List ℕ → Option FileRead → Type 0
FileIn before after (Some r) = Reads (length before) r × Filled before after r.length
FileIn before after None = Filled before after 0
