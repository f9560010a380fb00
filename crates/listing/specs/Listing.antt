-- What a listing tells of a block: its refusal; or its numbers, and for each call those that it waits for.
use Rattle.block.specs.declared.Refusal.{Refusal}
use Rattle.std.specs.Prelude.{◌≡◌, List, [], ◌++◌, ℕ, zero, suc, ◌+◌, ◌*◌, min, ℤ, length, Err, Ok, Result}
use Rattle.block.specs.Limits.{max_calls, max_workers}
use Rattle.block.specs.Refusal.{number_of, offset_of}
use Rattle.text.specs.Lines.{block_refused_text, counts_text, row_text}
use Rattle.text.specs.Written.{Written}
use Rattle.block.specs.BlockOfFile.{block_of}
use Rattle.machine.specs.Run.{Sizes, row_in}
use Rattle.machine.specs.Opening.{Opened, opening_of}

-- `w CALL` with its earlier conflicting calls, of the `left` calls from j on.
unfoldable pub rows_text : (left j : ℕ) → List ℕ → List ℕ
rows_text zero j plan = []
rows_text (suc left) j plan = row_text j (row_in plan j) ++ rows_text left (j + 1) plan

-- `e NUMBER OFFSET` for a refused block; else `n FUNCTIONS CELLS CALLS KEYS` and the rows.
unfoldable pub listing_text : (functions cells calls keys : ℕ) → List ℕ → Result (Unit {0}) Refusal → List ℕ
listing_text functions cells calls keys plan (Err why) = block_refused_text (number_of why) (offset_of why)
listing_text functions cells calls keys plan (Ok tt) =
    counts_text functions cells calls keys ++ rows_text (min calls max_calls) 0 plan

-- The listing of a file, opened for 8 workers in buffers of these sizes.
abbrev pub listing_of : Sizes → List ℕ → List ℕ
listing_of s file =
    let o : Opened = opening_of s file max_workers in
    listing_text (length (block_of file).functions) (length (block_of file).cells) o.run.head.calls o.run.head.cells o.run.plan
    o.answer

-- The longest line of a row: its letter, a call and its earlier calls of three digits behind a space each, and a line feed.
abbrev pub max_row_text : ℕ
max_row_text = 4 * max_calls + 6

-- The longest listing: its first line has four numbers of at most 20 digits.
abbrev pub max_listing : ℕ
max_listing = max_calls * max_row_text + 86

-- What a listed file leaves in the buffers of the run, all zero if the block is refused, and in that of the text, of which n bytes are written.
pub record Listed (file : List ℕ) (s : Sizes) (plan keys : List ℕ) (cells : List ℤ) (status seats : List ℕ) (frames : List ℤ)
    (before after : List ℕ) (n : ℕ) : Type 0 where
  pub plan_is : plan ≡ (opening_of s file max_workers).run.plan
  pub keys_is : keys ≡ (opening_of s file max_workers).run.keys
  pub cells_is : cells ≡ (opening_of s file max_workers).run.cells
  pub status_is : status ≡ (opening_of s file max_workers).run.status
  pub seats_is : seats ≡ (opening_of s file max_workers).run.seats
  pub frames_is : frames ≡ (opening_of s file max_workers).run.frames
  pub text : Written before after 0 n (listing_of s file)
