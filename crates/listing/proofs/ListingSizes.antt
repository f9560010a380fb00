-- How long a listing can be.
use Rattle.std.specs.Prelude.{Err, Ok, Result}
use Rattle.block.specs.declared.Refusal.{Refusal}
use mathlib.Core.Path.{◌≡◌, ap, ◌∙◌}
use mathlib.Core.List.{List, [], ◌∷◌, map}
use Prim.Native.Nat.{ℕ, zero, suc, ◌+◌, ◌*◌, ◌≤◌, ◌<◌, min}
use native.Mathlib.Omega.{arith}
use native.Mathlib.Nat.{min-le_right}
use lib.ListN.{length, length-append}
use Rattle.block.specs.Limits.{max_calls, max_workers}
use Rattle.block.specs.Refusal.{number_of, offset_of}
use Rattle.wire.specs.Decimal.{decimal, line_feed, parts}
use Rattle.wire.specs.Rows.{in_row}
use Rattle.text.specs.Lines.{block_refused_text, counts_text, passing, row_text}
use Rattle.text.proofs.WrittenLaws.{spaced_line}
use Rattle.text.proofs.TextSizes.{digits_fit, passing_fit, line_fits}
use Rattle.text.specs.Written.{spaced}
use Rattle.block.specs.BlockOfFile.{block_of}
use Rattle.machine.specs.Run.{Sizes, row_in}
use Rattle.machine.specs.Opening.{Opened, opening_of}
use Rattle.listing.specs.Listing.{rows_text, listing_text, listing_of, max_row_text, max_listing}

row_fits : (j : ℕ) (row : List ℕ) → j < 1000 → length (row_text j row) ≤ max_row_text
unfolding spaced
row_fits j row h =
    let bits : List (List ℕ) = map decimal (passing (in_row row) 256 0) in
    let line : length (parts (decimal j ∷ bits)) ≡ length (spaced (decimal j ∷ bits)) + 1 =
    ap length (spaced_line (decimal j ∷ bits)) ∙ length-append (spaced (decimal j ∷ bits)) (line_feed ∷ []) in
    omega (arith, line, length-append (decimal j) (spaced bits), digits_fit 20 2 j (omega arith), passing_fit (in_row row) 256 0 (omega arith))

rows_fit : (left j : ℕ) (plan : List ℕ) → left + j ≤ max_calls → length (rows_text left j plan) ≤ left * max_row_text
unfolding rows_text
rows_fit zero j plan h = omega arith
rows_fit (suc left) j plan h =
    omega (arith, length-append (row_text j (row_in plan j)) (rows_text left (j + 1) plan), row_fits j (row_in plan j) (omega arith), rows_fit left (j + 1) plan (omega arith))

refused_fits : (n offset : ℕ) → length (block_refused_text n offset) ≤ max_listing
refused_fits n offset =
    let fits : length (block_refused_text n offset) ≤ 44 = line_fits 101 (n ∷ offset ∷ []) in omega arith

counts_fit : (functions cells calls keys : ℕ) → length (counts_text functions cells calls keys) ≤ 86
counts_fit functions cells calls keys = line_fits 110 (functions ∷ cells ∷ calls ∷ keys ∷ [])

text_fits : (functions cells calls keys : ℕ) (plan : List ℕ) (v : Result (Unit {0}) Refusal) → length (listing_text functions cells calls keys plan v) ≤ max_listing
unfolding listing_text
text_fits functions cells calls keys plan (Err why) = refused_fits (number_of why) (offset_of why)
text_fits functions cells calls keys plan (Ok tt) =
    let few : min calls max_calls ≤ max_calls = min-le_right calls max_calls in
    omega (arith, length-append (counts_text functions cells calls keys) (rows_text (min calls max_calls) 0 plan), counts_fit functions cells calls keys, rows_fit (min calls max_calls) 0 plan (omega arith))

pub listing_fits : (s : Sizes) (file : List ℕ) → length (listing_of s file) ≤ max_listing
listing_fits s file =
    let o : Opened = opening_of s file max_workers in
    text_fits (length (block_of file).functions) (length (block_of file).cells) o.run.head.calls o.run.head.cells o.run.plan o.answer
