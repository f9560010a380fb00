-- What the proofs of this crate cite: a row by its words, and a loop over the rows of a plan.
use Rattle.std.specs.Prelude.{if◌then◌else◌, Err, Ok, Result, Bool, true, false, ◌||◌, not, eqb, ltb}
use mathlib.Core.Path.{◌≡◌, refl, sym, ap, ap₂, ◌∙◌, subst}
use mathlib.Core.List.{List, [], ◌∷◌, ◌++◌, map}
use Prim.Native.Nat.{ℕ, suc, ◌+◌, ◌-◌, ◌*◌, ◌≤◌, ◌<◌, min}
use native.Mathlib.Nat.{add-zero}
use native.Mathlib.Omega.{arith}
use lib.IntN.{ℤ}
use lib.ListN.{length, length-append}
use Rattle.wire.specs.Bytes.{stored}
use Rattle.wire.specs.Decimal.{decimal, line_feed, parts}
use Rattle.wire.proofs.BytesLaws.{stored_append, stored_length}
use Rattle.wire.specs.Rows.{in_row}
use Rattle.block.specs.Limits.{max_calls, max_workers}
use Rattle.block.specs.Reader.{Read, accepted, refused, read_block}
use Rattle.block.specs.Refusal.{number_of, offset_of}
use Rattle.block.specs.declared.Refusal.{Refusal}
use Rattle.text.specs.Lines.{passing, block_refused_text, counts_text, row_text}
use Rattle.text.proofs.WrittenLaws.{spaced_line, written_more}
use Rattle.text.proofs.Laws.{digits_length, spaced_length}
use Rattle.text.proofs.Bits.{bits_length}
use Rattle.text.specs.Written.{Written, spaced}
use Rattle.reader.specs.Layout.{layout_of, layout_for}
use Rattle.reader.specs.declared.Layout.{Layout}
use Rattle.block.specs.BlockOfFile.{block_in, block_of}
use Rattle.machine.specs.Run.{Sizes, fixed_sizes, room_in, large_enough, row_in}
use Rattle.machine.specs.Opening as machine
use Rattle.machine.specs.Opening.{refused_run, open_prepared, opening_of}
use Rattle.machine.specs.declared.Head.{Head}
use Rattle.footprint.specs.Plan.{prepare_read, unprepared}
use Rattle.block.specs.declared.Refusal.TheVariants.{Workers, Buffers}
use Rattle.opening.specs.Opened.{opening_with, head_with, verdict_of}
use Rattle.opening.proofs.Laws.{accepted_large}
use Rattle.listing.specs.Listing.{rows_text, listing_text, listing_of, Listed}

-- ---- a row

row_length : (j : ℕ) (row : List ℕ) → length (row_text j row) ≤ 6000
unfolding spaced
row_length j row =
    let bits : List (List ℕ) = map decimal (passing (in_row row) 256 0) in
    let line : length (parts (decimal j ∷ bits)) ≡ length (spaced (decimal j ∷ bits)) + 1 =
    ap length (spaced_line (decimal j ∷ bits)) ∙ length-append (spaced (decimal j ∷ bits)) (line_feed ∷ []) in
    omega (arith, line, length-append (decimal j) (spaced bits), digits_length 20 j, bits_length row)

-- ---- the rows

module _ (plan : List ℕ) (calls : ℕ) where
  -- Before the row of `call`: what is written and what is left make up the whole.
  pub record Rowing (s t : List ℕ) (from at call : ℕ) : Type 0 where
    pub whole : stored s from (rows_text calls 0 plan) ≡ stored t at (rows_text (calls - call) call plan)
    pub last : from + length (rows_text calls 0 plan) ≡ at + length (rows_text (calls - call) call plan)
    pub within : call ≤ calls
    pub short : at ≤ from + 6000 * call
    pub same : length t ≡ length s

  pub rowing_start : (s : List ℕ) (from : ℕ) → Rowing s s from from 0
  rowing_start s from =
      let e : calls - 0 ≡ calls = omega arith in
      record { whole = rw e; last = rw e; within = omega arith; short = omega arith; same = refl }

  pub rowing_on : (s t u : List ℕ) (from at end call : ℕ) (row : List ℕ) → Rowing s t from at call → call < calls
      → row ≡ row_in plan call → Written t u at end (row_text call row) → Rowing s u from end (call + 1)
  unfolding rows_text
  rowing_on s t u from at end call row g h e w =
      let f : calls - call ≡ suc (calls - (call + 1)) = omega arith in
      let rest : List ℕ = rows_text (calls - (call + 1)) (call + 1) plan in
      let next : rows_text (calls - call) call plan ≡ row_text call row ++ rest = rw (f, e) refl in
      record {
        whole =
            g.whole ∙ ap (λ (l : List ℕ). stored t at l) next ∙ stored_append (row_text call row) rest t at
            ∙ rw (w.same, w.end);
        last =
            g.last ∙ ap (λ (l : List ℕ). at + length l) next ∙ ap (λ (n : ℕ). at + n) (length-append (row_text call row) rest)
            ∙ rw w.end (omega arith);
        within = omega arith;
        short = omega (arith, g.short, w.end, row_length call row);
        same = rw w.same (stored_length (row_text call row) t at) ∙ g.same;
      }

  pub rowing_end : (s t : List ℕ) (from at call : ℕ) → Rowing s t from at call → calls ≤ call → Written s t from at (rows_text calls 0 plan)
  unfolding rows_text stored
  rowing_end s t from at call g h =
      let f : calls - call ≡ 0 = omega arith in
      let none : rows_text (calls - call) call plan ≡ [] = rw f in
      record {
        same = sym (g.whole ∙ ap (λ (l : List ℕ). stored t at l) none);
        end = sym (g.last ∙ ap (λ (l : List ℕ). at + length l) none ∙ add-zero at);
      }

-- ---- the whole

pub counts_length : (a b c d : ℕ) → length (counts_text a b c d) ≤ 100
counts_length a b c d =
    let ps : List (List ℕ) = decimal a ∷ decimal b ∷ decimal c ∷ decimal d ∷ [] in
    omega (arith, ap length (spaced_line ps), length-append (spaced ps) (line_feed ∷ []), spaced_length (a ∷ b ∷ c ∷ d ∷ []))

module _ (functions cells calls keys : ℕ) (plan : List ℕ) where
  pub listed : (s t u : List ℕ) (at r n : ℕ) → n ≡ min calls max_calls
      → Written s t 0 at (counts_text functions cells calls keys) → Written t u at r (rows_text n 0 plan)
      → Written s u 0 r (listing_text functions cells calls keys plan (Ok tt))
  unfolding listing_text
  listed s t u at r n f w x =
      rw (← f) (written_more s t u 0 at r (counts_text functions cells calls keys) (rows_text n 0 plan) w (x.same, x.end))

  pub unlisted : (s t : List ℕ) (r n o : ℕ) (why : Refusal) → n ≡ number_of why → o ≡ offset_of why
      → Written s t 0 r (block_refused_text n o) → Written s t 0 r (listing_text functions cells calls keys plan (Err why))
  unfolding listing_text
  unlisted s t r n o why f g w = rw (← f, ← g) w

-- ---- an accepted block

-- Where the tests before the block is read pass, its answer is that of the block.
passed : (a b : Bool) (s : Sizes) (x : machine.Opened)
    → (if not a then refused_run s Buffers else if b then refused_run s Workers else x).answer ≡ (Ok tt) → x.answer ≡ (Ok tt)
unfolding refused_run
passed true true s x e = let z : ◌≡◌ {A = ℕ} 0 1 = cc in absurd (omega arith)
passed true false s x e = e
passed false b s x e = let z : ◌≡◌ {A = ℕ} 0 1 = cc in absurd (omega arith)

-- It was read.
read_of : (s : Sizes) (file : List ℕ) (r : Read)
    → (open_prepared s max_workers (prepare_read (room_in s) file r) (prepare_read (room_in s) file r).verdict).answer ≡ (Ok tt)
    → layout_of r ≡ Ok (layout_for (block_in r))
unfolding open_prepared refused_run prepare_read unprepared layout_of block_in
read_of s file (refused why) e = let z : ◌≡◌ {A = ℕ} 0 1 = cc in absurd (omega arith)
read_of s file (accepted b) e = refl

module _ (file : List ℕ) (s : Sizes) {plan keys : List ℕ} {cells : List ℤ} {status seats : List ℕ} {frames : List ℤ} {head : Head}
    (e : opening_with (Ok head) plan keys cells status seats frames ≡ opening_of s file max_workers) where
  answer_is : (opening_of s file max_workers).answer ≡ (Ok tt)
  answer_is = sym (ap (λ (x : machine.Opened). x.answer) e)

  -- The plan is large enough.
  pub plan_opened : fixed_sizes.plan ≤ s.plan
  plan_opened = accepted_large s file max_workers answer_is

  pub block_read : {r : Result Layout Refusal} → r ≡ layout_of (read_block file) → r ≡ Ok (layout_for (block_of file))
  unfolding opening_of
  block_read f =
      f
      ∙ read_of s file (read_block file)
      (passed (large_enough s) (eqb max_workers 0 || ltb max_workers max_workers) s
      (open_prepared s max_workers (prepare_read (room_in s) file (read_block file)) (prepare_read (room_in s) file (read_block file)).verdict) answer_is)

  -- Its layout is that of the block.
  pub block_laid : {r : Result Layout Refusal} {l : Layout} → r ≡ layout_of (read_block file) → r ≡ Ok l → l ≡ layout_for (block_of file)
  block_laid {r} {l} f g = let same : ◌≡◌ {A = Result Layout Refusal} (Ok l) (Ok (layout_for (block_of file))) = sym g ∙ block_read f in cc

-- A file that is opened, read and listed.
pub all_listed : (file : List ℕ) (s : Sizes) (plan keys : List ℕ) (cells : List ℤ) (status seats : List ℕ) (frames : List ℤ) (before after : List ℕ) (n : ℕ)
    (r : Result Head Refusal) {f c : ℕ} → opening_with r plan keys cells status seats frames ≡ opening_of s file max_workers
    → f ≡ length (block_of file).functions → c ≡ length (block_of file).cells
    → Written before after 0 n (listing_text f c (head_with r).calls (head_with r).cells plan (verdict_of r))
    → Listed file s plan keys cells status seats frames before after n
all_listed file s plan keys cells status seats frames before after n r {f} {c} e functions cell_count w =
    let text : listing_text f c (head_with r).calls (head_with r).cells plan (verdict_of r) ≡ listing_of s file =
    ap (λ (x : machine.Opened). listing_text f c x.run.head.calls x.run.head.cells x.run.plan x.answer) e
    ∙ ap₂ (λ (a b : ℕ). listing_text a b (opening_of s file max_workers).run.head.calls (opening_of s file max_workers).run.head.cells (opening_of s file max_workers).run.plan (opening_of s file max_workers).answer) functions cell_count in
    record {
      plan_is = ap (λ (x : machine.Opened). x.run.plan) e;
      keys_is = ap (λ (x : machine.Opened). x.run.keys) e;
      cells_is = ap (λ (x : machine.Opened). x.run.cells) e;
      status_is = ap (λ (x : machine.Opened). x.run.status) e;
      seats_is = ap (λ (x : machine.Opened). x.run.seats) e;
      frames_is = ap (λ (x : machine.Opened). x.run.frames) e;
      text = subst (λ (t : List ℕ). Written before after 0 n t) text w;
    }
