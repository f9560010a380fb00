-- What an accepted opening went through: its tests passed, the file is a block, the analysis refused nothing, and the run is the one made
-- of them. The other way, what passes them is accepted; and what a refused opening leaves.
use Rattle.std.specs.Prelude.{Err, Ok, Result}
use mathlib.Core.Path.{◌≡◌, refl, sym, ap}
use mathlib.Core.Bool.{true, false, ◌||◌, not, false≢true}
use mathlib.Core.List.{List, [], map}
use Prim.Native.Nat.{ℕ, ◌≤◌, ◌<◌}
use native.Mathlib.Omega.{arith}
use borrow.Author.Tests.{ltb-false, le-ltb, leb-true, le-leb, eqb-false, ne_eqb, not-false}
use lib.Dec.{eqb, leb, ltb}
use lib.IntN.{pos}
use lib.ListN.{length}
use Rattle.block.specs.Refusal.{is_accepted}
use Rattle.arith.proofs.ChoiceLaws.{both, if_all, neither}
use Rattle.wire.specs.Bytes.{repeated, padded}
use Rattle.block.specs.Limits.{max_workers}
use Rattle.block.specs.Record.{Block}
use Rattle.block.specs.Reader.{Read, accepted, refused, read_block}
use Rattle.block.specs.declared.Refusal.{Refusal}
use Rattle.block.specs.declared.Refusal.TheVariants.{Workers, Buffers}
use Rattle.footprint.specs.Access.{Access}
use Rattle.footprint.specs.Table as table
use Rattle.footprint.specs.Table.{Analysis}
use Rattle.footprint.specs.Plan.{Room, Prepared, unprepared, room_enough, prepare_analysed, prepare_read, plans, table_words, opening_value}
use Rattle.footprint.specs.BlockSets.{analysis_of}
use Rattle.machine.specs.Run.{Run, Sizes, fixed_sizes, room_in, large_enough}
use Rattle.machine.specs.Waits.{waits_set}
use Rattle.machine.specs.Opening.{Opened, head_of, refused_run, open_prepared, opening_of}
use Rattle.guarantees.specs.Demand1.{Large, Cleared}

-- ---- the tests

never : {A : Type 0} {why : Refusal} → ◌≡◌ {A = Result (Unit {0}) Refusal} (Err why) (Ok tt) → A
unfolding is_accepted
never e = absurd (false≢true (ap is_accepted e))

-- What the test of the buffers' sizes says.
pub large_sizes : (s : Sizes) → large_enough s ≡ true → Large s
unfolding large_enough room_enough
large_sizes s e =
    let a = both _ (leb fixed_sizes.frames s.frames) e in
    let z = both _ (leb fixed_sizes.seats s.seats) a.0 in
    let b = both _ (leb fixed_sizes.status s.status) z.0 in
    let c = both _ (leb fixed_sizes.cells s.cells) b.0 in
    let d = both (leb fixed_sizes.plan s.plan) (leb fixed_sizes.keys s.keys) c.0 in
    record {
      plan = leb-true fixed_sizes.plan s.plan d.0;
      keys = leb-true fixed_sizes.keys s.keys d.1;
      cells = leb-true fixed_sizes.cells s.cells c.1;
      status = leb-true fixed_sizes.status s.status b.1;
      seats = leb-true fixed_sizes.seats s.seats z.1;
      frames = leb-true fixed_sizes.frames s.frames a.1;
    }

pub sizes_large : (s : Sizes) → Large s → large_enough s ≡ true
unfolding large_enough room_enough
sizes_large s l =
    rw (
      le-leb fixed_sizes.plan s.plan l.plan,
      le-leb fixed_sizes.keys s.keys l.keys,
      le-leb fixed_sizes.cells s.cells l.cells,
      le-leb fixed_sizes.status s.status l.status,
      le-leb fixed_sizes.seats s.seats l.seats,
      le-leb fixed_sizes.frames s.frames l.frames,
    )

-- ---- what was prepared

-- The buffers of a block, by the sets of its calls and its table of keys.
abbrev pub prepared_with : Room → Block → List (List Access) → List ℕ → Prepared
prepared_with r b sets keys =
    record {
      verdict = Ok tt;
      calls = length b.calls;
      cells = length keys;
      first_call = b.first_call;
      plan = padded r.plan 0 (plans b.functions keys [] b.calls sets);
      keys = padded r.keys 0 (table_words keys);
      values = padded r.cells (pos 0) (map (opening_value b.cells) keys);
    }

record Ready (r : Room) (file : List ℕ) (p : Prepared) : Type 0 where
  block : Block
  sets : List (List Access)
  keys : List ℕ
  read : read_block file ≡ accepted block
  analysis : analysis_of file block ≡ table.analysed sets keys
  is : p ≡ prepared_with r block sets keys

ready_analysed : (r : Room) (file : List ℕ) (b : Block) → read_block file ≡ accepted b → (a : Analysis) → analysis_of file b ≡ a
    → (prepare_analysed r b a).verdict ≡ (Ok tt) → Ready r file (prepare_analysed r b a)
unfolding prepare_analysed unprepared
ready_analysed r file b read (table.refused why) e h = never h
ready_analysed r file b read (table.analysed sets keys) e h =
    record { block = b; sets = sets; keys = keys; read = read; analysis = e; is = refl }

ready_read : (r : Room) (file : List ℕ) (g : Read) → read_block file ≡ g → (prepare_read r file g).verdict ≡ (Ok tt) → Ready r file (prepare_read r file g)
unfolding prepare_read unprepared
ready_read r file (refused why) e h = never h
ready_read r file (accepted b) e h = ready_analysed r file b e (analysis_of file b) refl h

-- ---- what was made of it

-- The run of a block as the opening makes it.
abbrev pub run_with : Sizes → ℕ → Block → List (List Access) → List ℕ → Run
run_with s workers b sets keys =
    record {
      head = head_of workers (length b.calls) (length keys) b.first_call;
      plan = padded s.plan 0 (plans b.functions keys [] b.calls sets);
      keys = padded s.keys 0 (table_words keys);
      cells = padded s.cells (pos 0) (map (opening_value b.cells) keys);
      status = waits_set (padded s.plan 0 (plans b.functions keys [] b.calls sets)) (length b.calls) (repeated s.status 0);
      seats = repeated s.seats 0;
      frames = repeated s.frames (pos 0);
    }

pub record Made (s : Sizes) (file : List ℕ) (workers : ℕ) (o : Opened) : Type 0 where
  pub large : large_enough s ≡ true
  pub low : 0 < workers
  pub high : workers ≤ max_workers
  pub block : Block
  pub sets : List (List Access)
  pub keys : List ℕ
  pub read : read_block file ≡ accepted block
  pub analysis : analysis_of file block ≡ table.analysed sets keys
  pub is : o.run ≡ run_with s workers block sets keys

made_prepared : (s : Sizes) (file : List ℕ) (workers : ℕ) (p : Prepared) → (p.verdict ≡ (Ok tt) → Ready (room_in s) file p)
    → large_enough s ≡ true → 0 < workers → workers ≤ max_workers → (v : Result (Unit {0}) Refusal) → p.verdict ≡ v
    → (open_prepared s workers p v).answer ≡ (Ok tt) → Made s file workers (open_prepared s workers p v)
unfolding open_prepared refused_run
made_prepared s file workers p given large low high (Err why) e h = never h
made_prepared s file workers p given large low high (Ok tt) e h =
    let q : Ready (room_in s) file p = given e in
    record {
      large = large;
      low = low;
      high = high;
      block = q.block;
      sets = q.sets;
      keys = q.keys;
      read = q.read;
      analysis = q.analysis;
      is = ap (λ (t : Prepared). (open_prepared s workers t (Ok tt)).run) q.is;
    }

pub opening_made : (s : Sizes) (file : List ℕ) (workers : ℕ) → (opening_of s file workers).answer ≡ (Ok tt) → Made s file workers (opening_of s file workers)
unfolding opening_of refused_run
opening_made s file workers =
    let p : Prepared = prepare_read (room_in s) file (read_block file) in
    if_all (λ (o : Opened). o.answer ≡ (Ok tt) → Made s file workers o) (not (large_enough s)) (λ e h. never h) λ large.
    if_all (λ (o : Opened). o.answer ≡ (Ok tt) → Made s file workers o) (eqb workers 0 || ltb max_workers workers) (λ e h. never h) λ few.
    let n : (eqb workers 0 ≡ false) × (ltb max_workers workers ≡ false) = neither (eqb workers 0) (ltb max_workers workers) few in
    let some : workers ≡ 0 → ⊥ = eqb-false workers 0 n.0 in
    made_prepared s file workers p (ready_read (room_in s) file (read_block file) refl) (not-false (large_enough s) large) (omega arith) (ltb-false max_workers workers n.1) p.verdict refl

-- ---- the other way

-- What passes every test is prepared and opened.
prepared_accepted : (s : Sizes) (file : List ℕ) (b : Block) (sets : List (List Access)) (keys : List ℕ) → Large s
    → read_block file ≡ accepted b → analysis_of file b ≡ table.analysed sets keys
    → (prepare_read (room_in s) file (read_block file)).verdict ≡ Ok tt
unfolding prepare_read prepare_analysed
prepared_accepted s file b sets keys large read analysis = rw (read, analysis)

pub opening_accepted : (s : Sizes) (file : List ℕ) (workers : ℕ) (b : Block) (sets : List (List Access)) (keys : List ℕ) → Large s
    → 0 < workers → workers ≤ max_workers → read_block file ≡ accepted b → analysis_of file b ≡ table.analysed sets keys
    → (opening_of s file workers).answer ≡ Ok tt
unfolding opening_of open_prepared
opening_accepted s file workers b sets keys large low high read analysis =
    rw (
      sizes_large s large,
      ne_eqb workers 0 (omega arith),
      le-ltb max_workers workers high,
      prepared_accepted s file b sets keys large read analysis,
    )

-- What a refusal leaves.
record Zeroed (s : Sizes) (why : Refusal) (o : Opened) : Type 0 where
  cleared : o.answer ≡ Err why → Cleared s o.run

zeroed_refused : (s : Sizes) (why because : Refusal) → Zeroed s why (refused_run s because)
unfolding refused_run
zeroed_refused s why because = record { cleared = λ e. record { head = refl; plan = refl; keys = refl; cells = refl; status = refl; seats = refl; frames = refl } }

zeroed_prepared : (s : Sizes) (workers : ℕ) (why : Refusal) (p : Prepared) (v : Result (Unit {0}) Refusal) → Zeroed s why (open_prepared s workers p v)
unfolding open_prepared
zeroed_prepared s workers why p (Err because) = zeroed_refused s why because
zeroed_prepared s workers why p (Ok tt) = record { cleared = λ e. never (sym e) }

opening_zeroed : (s : Sizes) (file : List ℕ) (workers : ℕ) (why : Refusal) → Zeroed s why (opening_of s file workers)
unfolding opening_of
opening_zeroed s file workers why =
    if_all (Zeroed s why) (not (large_enough s)) (λ e. zeroed_refused s why Buffers) λ e.
    if_all (Zeroed s why) (eqb workers 0 || ltb max_workers workers) (λ f. zeroed_refused s why Workers) λ f. zeroed_prepared s workers why _ _

pub opening_cleared : (s : Sizes) (file : List ℕ) (workers : ℕ) (why : Refusal) → (opening_of s file workers).answer ≡ Err why
    → Cleared s (opening_of s file workers).run
opening_cleared s file workers why = (opening_zeroed s file workers why).cleared
