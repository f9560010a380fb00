-- What `inspect` hands to standard output of the bytes that it reads.
use Rattle.std.specs.Prelude.{◌≡◌, false, List, ℕ, ◌<◌, length, Option, Some, None}
use Rattle.block.specs.Limits.{max_bytes}
use Rattle.machine.specs.Run.{fixed_sizes}
use Rattle.listing.specs.Listing.{listing_of}
use Rattle.host.specs.Exchange.{Handed, nothing_exchanged}
use Rattle.inspect_run.specs.declared.Inspected.{Inspected}

-- block.bin as listed: for some bytes of the file, all of its listing is handed over. The file is read to its end, or more of it than a block may
-- have.
pub record InspectsFile (before : List ℕ) (r : Inspected) (after : List ℕ) : Type 0 where
  pub file : List ℕ
  pub whole : r.file_ended ≡ false → max_bytes < length file
  pub text : Handed before nothing_exchanged (listing_of fixed_sizes file) after r.exchange

-- `inspect` as a whole: block.bin as listed, or nothing handed over where it cannot be read.
abbrev pub Inspects : List ℕ → Option Inspected → List ℕ → Type 0
Inspects before (Some r) after = InspectsFile before r after
Inspects before None after = after ≡ before
