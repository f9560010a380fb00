-- The number and offset of a refused opening, each exactly under its condition; those of records are the reader's.
use Rattle.std.specs.Prelude.{Err, Ok, Result}
use mathlib.Core.Path.{◌≡◌, refl, sym, ap, subst, subst⁻¹, ◌∙◌}
use mathlib.Core.Bool.{Bool, true, false, ◌||◌, not, false≢true}
use mathlib.Core.List.{List, [], ◌∷◌, ◌++◌, map}
use Prim.Native.Nat.{ℕ, zero, suc, ◌+◌, ◌*◌, ◌≤◌, ◌<◌}
use native.Mathlib.Omega.{arith}
use borrow.Author.Tests.{ltb-true, ltb-false, lt-ltb, le-ltb, eqb-true, eqb-false, ne_eqb, not-true, not-false}
use lib.Dec.{eqb, ltb}
use lib.ListN.{length, get_or, take, length-map}
use Rattle.arith.proofs.ChoiceLaws.{if_all, neither}
use Rattle.block.specs.Limits.{max_call_keys, max_keys, max_workers}
use Rattle.block.specs.Record.{Function, Block, call_record_bytes}
use Rattle.block.specs.Reader.{Read, accepted, refused, read_block}
use Rattle.block.specs.Refusal.{number_of, offset_of, verdict_number, verdict_offset}
use Rattle.block.specs.Encoding.{AreBytes, Contents, HoldsContents, block_for}
use Rattle.block.specs.Faults.{Faulty, RefusedBy}
use Rattle.block.proofs.ReaderRight.{accepted_laws}
use Rattle.block.proofs.ReaderExact.{reader_exact}
use Rattle.block.proofs.FileFaults.{fault_range, long_refused_lem, refusals_exact}
use Rattle.block.specs.declared.Call.{Call}
use Rattle.block.specs.declared.Refusal.{Refusal}
use Rattle.block.specs.declared.Refusal.TheVariants.{InputTooLong, Missing, Kind, Length, Field, NotRising, BeyondLimit, Behind, Balances, Code, CallKeys, AllKeys, Workers, Buffers}
use Rattle.footprint.specs.Access.{Access}
use Rattle.footprint.specs.Sets.{sets_of}
use Rattle.footprint.specs.Plan.{Prepared, unprepared, prepare_analysed, prepare_read}
use Rattle.footprint.specs.Table as table
use Rattle.footprint.specs.Table.{Analysis, analyse, insert_keys}
use Rattle.footprint.specs.BlockSets.{all_sets, analysis_of}
use Rattle.block.specs.BlockOfFile.{opening_keys}
use Rattle.footprint.proofs.AnalysedLaws.{analyse_over, analyse_full, analyse_next}
use Rattle.machine.specs.Run.{Sizes, room_in, large_enough}
use Rattle.machine.specs.Opening.{Opened, refused_run, open_prepared, opening_of}
use Rattle.guarantees.specs.Demand1.{Exactly, Large, keys_together, KeysBefore, Over24, Over1024, Openable, Before1, OpeningRefuses, Cleared}
use Rattle.guarantees.proofs.AcceptedOpening.OpeningPassed.{large_sizes, sizes_large, opening_cleared}
use Rattle.guarantees.proofs.NumbersByCondition.OpeningExact.{together_grows, opening_exact}
use Rattle.guarantees.proofs.NumbersByCondition.ByNumbers.{chosen}

-- ---- the first call over a limit

-- What holds of the sets of the first n calls holds with one more in front of them.
each_later : (es : List Access) (sets : List (List Access)) (n : ℕ) → length es ≤ max_call_keys
    → ((i : ℕ) → i < n → length (get_or sets i []) ≤ max_call_keys) → (i : ℕ) → i < suc n → length (get_or (es ∷ sets) i []) ≤ max_call_keys
each_later es sets n short each zero l = short
each_later es sets n short each (suc i) l = each i (omega arith)

module _ (es : List Access) (sets : List (List Access)) (keys : List ℕ) (first : ℕ) where
  before_none : length keys ≤ max_keys → KeysBefore (es ∷ sets) keys 0
  unfolding keys_together
  before_none few = record { each = λ i l. absurd (omega arith); together = few }

  before_later : (n : ℕ) → length es ≤ max_call_keys → KeysBefore sets (insert_keys keys es) n → KeysBefore (es ∷ sets) keys (suc n)
  unfolding keys_together
  before_later n short b = record { each = each_later es sets n short b.each; together = b.together }

  first_24 : length keys ≤ max_keys → max_call_keys < length es → Over24 (es ∷ sets) keys first first
  first_24 few over = record { call = 0; there = omega arith; offset = omega arith; before = before_none few; over = over }

  first_1024 : length keys ≤ max_keys → length es ≤ max_call_keys → max_keys < length (insert_keys keys es) → Over1024 (es ∷ sets) keys first first
  unfolding keys_together
  first_1024 few short over =
      record { call = 0; there = omega arith; offset = omega arith; before = before_none few; own = short; over = over }

  later_24 : (at : ℕ) → length es ≤ max_call_keys → Over24 sets (insert_keys keys es) (first + call_record_bytes) at → Over24 (es ∷ sets) keys first at
  later_24 at short o =
      record {
        call = suc o.call;
        there = omega (arith, o.there);
        offset = omega (arith, o.offset);
        before = before_later o.call short o.before;
        over = o.over;
      }

  later_1024 : (at : ℕ) → length es ≤ max_call_keys → Over1024 sets (insert_keys keys es) (first + call_record_bytes) at → Over1024 (es ∷ sets) keys first at
  unfolding keys_together
  later_1024 at short o =
      record {
        call = suc o.call;
        there = omega (arith, o.there);
        offset = omega (arith, o.offset);
        before = before_later o.call short o.before;
        own = o.own;
        over = o.over;
      }

-- ---- the analysis

-- What it says of sets and opening keys, the first call's record at an offset.
abbrev Refuses : List (List Access) → List ℕ → (first : ℕ) → Refusal → Type 0
Refuses sets keys first InputTooLong = ⊥
Refuses sets keys first (Missing at) = ⊥
Refuses sets keys first (Kind at) = ⊥
Refuses sets keys first (Length at) = ⊥
Refuses sets keys first (Field at) = ⊥
Refuses sets keys first (NotRising at) = ⊥
Refuses sets keys first (BeyondLimit at) = ⊥
Refuses sets keys first (Behind at) = ⊥
Refuses sets keys first (Balances at) = ⊥
Refuses sets keys first (Code at) = ⊥
Refuses sets keys first (CallKeys at) = Over24 sets keys first at
Refuses sets keys first (AllKeys at) = Over1024 sets keys first at
Refuses sets keys first Workers = ⊥
Refuses sets keys first Buffers = ⊥

abbrev Tells : List (List Access) → List ℕ → (first : ℕ) → Analysis → Type 0
Tells sets keys first (table.analysed all t) = Unit {0}
Tells sets keys first (table.refused why) = Refuses sets keys first why

refuses_later : (es : List Access) (sets : List (List Access)) (keys : List ℕ) (first : ℕ) → length es ≤ max_call_keys → (why : Refusal)
    → Refuses sets (insert_keys keys es) (first + call_record_bytes) why → Refuses (es ∷ sets) keys first why
refuses_later es sets keys first short InputTooLong h = h
refuses_later es sets keys first short (Missing at) h = h
refuses_later es sets keys first short (Kind at) h = h
refuses_later es sets keys first short (Length at) h = h
refuses_later es sets keys first short (Field at) h = h
refuses_later es sets keys first short (NotRising at) h = h
refuses_later es sets keys first short (BeyondLimit at) h = h
refuses_later es sets keys first short (Behind at) h = h
refuses_later es sets keys first short (Balances at) h = h
refuses_later es sets keys first short (Code at) h = h
refuses_later es sets keys first short (CallKeys at) h = later_24 es sets keys first at short h
refuses_later es sets keys first short (AllKeys at) h = later_1024 es sets keys first at short h
refuses_later es sets keys first short Workers h = h
refuses_later es sets keys first short Buffers h = h

tells_later : (es : List Access) (sets : List (List Access)) (keys : List ℕ) (first : ℕ) → length es ≤ max_call_keys → (a : Analysis)
    → Tells sets (insert_keys keys es) (first + call_record_bytes) a → Tells (es ∷ sets) keys first a
tells_later es sets keys first short (table.analysed all t) h = tt
tells_later es sets keys first short (table.refused why) h = refuses_later es sets keys first short why h

module _ (file : List ℕ) (functions : List Function) where
  abbrev own : List Call → List (List Access)
  own cs = map (sets_of file functions) cs

  tells : (cs : List Call) (at : ℕ) (before : List (List Access)) (keys : List ℕ) → length keys ≤ max_keys
      → Tells (own cs) keys at (analyse file functions cs at before keys)
  unfolding analyse
  tells [] at before keys few = tt
  tells (c ∷ cs) at before keys few =
      go (ltb max_call_keys (length es)) refl (ltb max_keys (length next)) refl (tells cs (at + call_record_bytes) (before ++ (es ∷ [])) next)
    where
      es : List Access
      es = sets_of file functions c

      next : List ℕ
      next = insert_keys keys es

      go : (t : Bool) → ltb max_call_keys (length es) ≡ t → (u : Bool) → ltb max_keys (length next) ≡ u
          → (length next ≤ max_keys → Tells (own cs) next (at + call_record_bytes) (analyse file functions cs (at + call_record_bytes) (before ++ (es ∷ [])) next))
          → Tells (own (c ∷ cs)) keys at (analyse file functions (c ∷ cs) at before keys)
      go true over u g later =
          subst⁻¹ (Tells (own (c ∷ cs)) keys at) (analyse_over file functions c cs at before keys over)
          (first_24 es (own cs) keys at few (ltb-true max_call_keys (length es) over))
      go false fits true full later =
          subst⁻¹ (Tells (own (c ∷ cs)) keys at) (analyse_full file functions c cs at before keys fits full)
          (first_1024 es (own cs) keys at few (ltb-false max_call_keys (length es) fits) (ltb-true max_keys (length next) full))
      go false fits false room later =
          subst⁻¹ (Tells (own (c ∷ cs)) keys at) (analyse_next file functions c cs at before keys fits room)
          (tells_later es (own cs) keys at (ltb-false max_call_keys (length es) fits) (analyse file functions cs (at + call_record_bytes) (before ++ (es ∷ [])) next)
          (later (ltb-false max_keys (length next) room)))

  -- The calls before the first that is over a limit are passed.
  passed : (why : ℕ → Refusal) (over : List (List Access) → List ℕ → ℕ → Type 0)
      → ((c : Call) (cs : List Call) (at : ℕ) (before : List (List Access)) (keys : List ℕ) → over (own (c ∷ cs)) keys 0
      → analyse file functions (c ∷ cs) at before keys ≡ table.refused (why at))
      → ((es : List Access) (sets : List (List Access)) (keys : List ℕ) (n : ℕ) → over (es ∷ sets) keys (suc n) → over sets (insert_keys keys es) n)
      → (cs : List Call) (at : ℕ) (before : List (List Access)) (keys : List ℕ) (n : ℕ) → n < length (own cs) → KeysBefore (own cs) keys n
      → over (own cs) keys n → analyse file functions cs at before keys ≡ table.refused (why (at + call_record_bytes * n))
  unfolding keys_together
  passed why over now next [] at before keys n l b o = absurd (omega arith)
  passed why over now next (c ∷ cs) at before keys zero l b o =
      let here : at ≡ at + call_record_bytes * 0 = omega arith in now c cs at before keys o ∙ ap (λ (n : ℕ). table.refused (why n)) here
  passed why over now next (c ∷ cs) at before keys (suc n) l b o =
      let es : List Access = sets_of file functions c in
      let short : length (sets_of file functions c) ≤ max_call_keys = b.each 0 (omega arith) in
      let all : length (keys_together (insert_keys keys (sets_of file functions c)) (take n (own cs))) ≤ max_keys = b.together in
      let room : length (insert_keys keys (sets_of file functions c)) ≤ max_keys =
      omega (arith, together_grows (insert_keys keys (sets_of file functions c)) (take n (own cs))) in
      let there : at + call_record_bytes + call_record_bytes * n ≡ at + call_record_bytes * suc n = omega arith in
      analyse_next file functions c cs at before keys (le-ltb max_call_keys (length es) short) (le-ltb max_keys (length (insert_keys keys es)) room)
      ∙ passed why over now next cs (at + call_record_bytes) (before ++ (es ∷ [])) (insert_keys keys es) n (omega arith)
      (record { each = λ i h. b.each (suc i) (omega arith); together = b.together }) (next es (own cs) keys n o)
      ∙ ap (λ (k : ℕ). table.refused (why k)) there

  given_24 : (cs : List Call) (first at : ℕ) (keys : List ℕ) → Over24 (own cs) keys first at → analyse file functions cs first [] keys ≡ table.refused (CallKeys at)
  given_24 cs first at keys o =
      passed CallKeys (λ sets ks n. max_call_keys < length (get_or sets n []))
      (λ c rest from before ks h. analyse_over file functions c rest from before ks (lt-ltb max_call_keys (length (sets_of file functions c)) h))
      (λ es sets ks n h. h) cs first [] keys o.call o.there o.before o.over
      ∙ ap (λ (k : ℕ). table.refused (CallKeys k)) (sym o.offset)

  given_1024 : (cs : List Call) (first at : ℕ) (keys : List ℕ) → Over1024 (own cs) keys first at → analyse file functions cs first [] keys ≡ table.refused (AllKeys at)
  unfolding keys_together
  given_1024 cs first at keys o =
      passed AllKeys (λ sets ks n. (length (get_or sets n []) ≤ max_call_keys) × (max_keys < length (keys_together ks (take (suc n) sets))))
      (λ c rest from before ks h.
      analyse_full file functions c rest from before ks (le-ltb max_call_keys (length (sets_of file functions c)) h.0)
      (lt-ltb max_keys (length (insert_keys ks (sets_of file functions c))) h.1))
      (λ es sets ks n h. h) cs first [] keys o.call o.there o.before (o.own, o.over)
      ∙ ap (λ (k : ℕ). table.refused (AllKeys k)) (sym o.offset)

-- ---- the numbers of verdicts

accepted_number : verdict_number (Ok tt) ≡ 0
unfolding verdict_number
accepted_number = refl

refused_numbers : (why : Refusal) → (verdict_number (Err why) ≡ number_of why) × (verdict_offset (Err why) ≡ offset_of why)
unfolding verdict_number verdict_offset
refused_numbers why = (refl, refl)

refusal_some : (why : Refusal) → 1 ≤ number_of why
unfolding number_of
refusal_some InputTooLong = omega arith
refusal_some (Missing at) = omega arith
refusal_some (Kind at) = omega arith
refusal_some (Length at) = omega arith
refusal_some (Field at) = omega arith
refusal_some (NotRising at) = omega arith
refusal_some (BeyondLimit at) = omega arith
refusal_some (Behind at) = omega arith
refusal_some (Balances at) = omega arith
refusal_some (Code at) = omega arith
refusal_some (CallKeys at) = omega arith
refusal_some (AllKeys at) = omega arith
refusal_some Workers = omega arith
refusal_some Buffers = omega arith

number_accepted : (v : Result (Unit {0}) Refusal) → verdict_number v ≡ 0 → v ≡ Ok tt
number_accepted (Ok tt) e = refl
number_accepted (Err why) e = absurd (omega (arith, (refused_numbers why).0, e, refusal_some why))

-- ---- the opening

-- The answer of an opening whose sizes and workers are right is that of the file.
prepared_answer : (s : Sizes) (workers : ℕ) (p : Prepared) (v : Result (Unit {0}) Refusal) → (open_prepared s workers p v).answer ≡ v
unfolding open_prepared refused_run
prepared_answer s workers p (Ok tt) = refl
prepared_answer s workers p (Err why) = refl

-- The tests of the sizes and of the workers, by their conditions.
small_sizes : (s : Sizes) → (Large s → ⊥) → large_enough s ≡ false
small_sizes s h = go (large_enough s) refl
  where
    go : (t : Bool) → large_enough s ≡ t → t ≡ false
    go true e = absurd (h (large_sizes s e))
    go false e = refl

some_workers_lem : (workers : ℕ) → (1 ≤ workers) × (workers ≤ max_workers) → (eqb workers 0 || ltb max_workers workers) ≡ false
some_workers_lem workers h = rw (ne_eqb workers 0 (λ e. omega (arith, h.0)), le-ltb max_workers workers h.1)

few_workers_lem : (workers : ℕ) → ((1 ≤ workers) × (workers ≤ max_workers) → ⊥) → (eqb workers 0 || ltb max_workers workers) ≡ true
few_workers_lem workers h = go (eqb workers 0 || ltb max_workers workers) refl
  where
    go : (t : Bool) → (eqb workers 0 || ltb max_workers workers) ≡ t → t ≡ true
    go true e = refl
    go false e =
        let n : (eqb workers 0 ≡ false) × (ltb max_workers workers ≡ false) = neither (eqb workers 0) (ltb max_workers workers) e in
        let nonzero : workers ≡ 0 → ⊥ = eqb-false workers 0 n.0 in
        absurd (h (omega arith, ltb-false max_workers workers n.1))

module _ (s : Sizes) (file : List ℕ) (workers : ℕ) where
  abbrev prepared : Prepared
  prepared = prepare_read (room_in s) file (read_block file)

  file_answers : Before1 s workers → (opening_of s file workers).answer ≡ prepared.verdict
  unfolding opening_of
  file_answers b =
      let some : workers ≡ 0 → ⊥ = λ e. omega (arith, b.1.0) in
      rw (sizes_large s b.0, ne_eqb workers 0 some, le-ltb max_workers workers b.1.1) (prepared_answer s workers prepared prepared.verdict)

  -- The file's refusals by the reader, and by the analysis.
  read_refused : (why : Refusal) → read_block file ≡ refused why → prepared.verdict ≡ Err why
  unfolding prepare_read unprepared
  read_refused why e = rw e

  analysis_refused : (b : Block) (why : Refusal) → read_block file ≡ accepted b → analysis_of file b ≡ table.refused why
      → prepared.verdict ≡ Err why
  unfolding prepare_read prepare_analysed unprepared
  analysis_refused b why e f = rw (e, f)

  -- ---- what refuses it

  given_reader : (why : Refusal) → Before1 s workers → read_block file ≡ refused why → (opening_of s file workers).answer ≡ Err why
  given_reader why b e = file_answers b ∙ read_refused why e

  given_buffers : (Large s → ⊥) → (opening_of s file workers).answer ≡ Err Buffers
  unfolding opening_of refused_run
  given_buffers h = rw (small_sizes s h)

  given_workers : Large s → ((1 ≤ workers) × (workers ≤ max_workers) → ⊥) → (opening_of s file workers).answer ≡ Err Workers
  unfolding opening_of refused_run
  given_workers large h = rw (sizes_large s large, few_workers_lem workers h)

  -- The number and offset of the answer.
  abbrev Answers : (n offset : ℕ) → Type 0
  Answers n offset = (verdict_number (opening_of s file workers).answer ≡ n) × (verdict_offset (opening_of s file workers).answer ≡ offset)

  of_refusal : (why : Refusal) → (opening_of s file workers).answer ≡ Err why
      → (n offset : ℕ) → number_of why ≡ n → offset_of why ≡ offset → Answers n offset
  unfolding verdict_number verdict_offset
  of_refusal why e n offset f g = (ap verdict_number e ∙ f, ap verdict_offset e ∙ g)

  read_as : (t : Contents) → HoldsContents file t → read_block file ≡ accepted (block_for t)
  read_as t h = ap read_block h.bytes ∙ reader_exact.whole t h.keeps

  -- What a verdict says of the opening.
  abbrev Told : Result (Unit {0}) Refusal → Type 0
  Told (Ok tt) = Unit {0}
  Told (Err why) = OpeningRefuses s file workers (number_of why) (offset_of why)

module _ (s : Sizes) (file : List ℕ) (workers : ℕ) (bytes : AreBytes file) where
  -- ---- what refuses it

  given_faulty : Before1 s workers → (n offset : ℕ) → Faulty file n offset → Answers s file workers n offset
  given_faulty b n offset f = go (read_block file) refl (refusals_exact.faulty_refused file bytes n offset f)
    where
      go : (r : Read) → read_block file ≡ r → RefusedBy r n offset → Answers s file workers n offset
      go (accepted block) e h = absurd h
      go (refused why) e h = of_refusal s file workers why (given_reader s file workers why b e) n offset h.0 h.1

  given : (n offset : ℕ) → OpeningRefuses s file workers n offset → Answers s file workers n offset
  unfolding number_of offset_of
  given n offset =
      chosen Now (eqb n 20)
      (λ e g. of_refusal s file workers Buffers (given_buffers s file workers g.0) n offset (sym (eqb-true n 20 e)) (sym g.1))
      (λ e₁. chosen Now (eqb n 13)
      (λ e g. of_refusal s file workers Workers (given_workers s file workers g.0 g.1) n offset (sym (eqb-true n 13 e)) (sym g.2))
      (λ e₂. chosen Now (eqb n 1)
      (λ e g.
      of_refusal s file workers InputTooLong (given_reader s file workers InputTooLong g.0 (long_refused_lem file g.1)) n offset (sym (eqb-true n 1 e)) (sym g.2))
      (λ e₃. chosen Now (eqb n 11)
      (λ e g. let t : Contents = g.1.0 in
      let block : Block = block_for t in
      of_refusal s file workers (CallKeys offset)
      (file_answers s file workers g.0 ∙ analysis_refused s file workers block (CallKeys offset) (read_as s file workers t g.1.1)
      (given_24 file block.functions block.calls block.first_call offset (opening_keys block) g.1.2)) n offset (sym (eqb-true n 11 e)) refl)
      (λ e₄. chosen Now (eqb n 12)
      (λ e g. let t : Contents = g.1.0 in
      let block : Block = block_for t in
      of_refusal s file workers (AllKeys offset)
      (file_answers s file workers g.0 ∙ analysis_refused s file workers block (AllKeys offset) (read_as s file workers t g.1.1)
      (given_1024 file block.functions block.calls block.first_call offset (opening_keys block) g.1.2)) n offset (sym (eqb-true n 12 e)) refl)
      (λ e₅ g. given_faulty g.0 n offset g.1)))))
    where
      Now : Type 0
      Now = Answers s file workers n offset

  -- ---- what its refusal says

  by_record : Before1 s workers → (why : Refusal) → read_block file ≡ refused why → 2 ≤ number_of why
      → Before1 s workers × Faulty file (number_of why) (offset_of why)
  by_record b why e low = (
    b,
    refusals_exact.only_faulty file bytes (number_of why) (offset_of why) low
        (subst⁻¹ (λ (r : Read). RefusedBy r (number_of why) (offset_of why)) e (refl, refl)),
  )

  -- The reader gives no number from 11 on.
  no_record : (why : Refusal) → read_block file ≡ refused why → 11 ≤ number_of why → ⊥
  no_record why e high =
      let f : Faulty file (number_of why) (offset_of why) =
      refusals_exact.only_faulty file bytes (number_of why) (offset_of why) (omega arith)
      (subst⁻¹ (λ (r : Read). RefusedBy r (number_of why) (offset_of why)) e (refl, refl)) in
      omega (arith, f.number, fault_range f.fault)

  by_reader : Before1 s workers → (why : Refusal) → read_block file ≡ refused why → Told s file workers (Err why)
  unfolding number_of offset_of
  by_reader b InputTooLong e = (b, (refusals_exact.tooLong file bytes 0 (subst⁻¹ (λ (r : Read). RefusedBy r 1 0) e (refl, refl))).0, refl)
  by_reader b (Missing at) e = by_record b (Missing at) e (omega arith)
  by_reader b (Kind at) e = by_record b (Kind at) e (omega arith)
  by_reader b (Length at) e = by_record b (Length at) e (omega arith)
  by_reader b (Field at) e = by_record b (Field at) e (omega arith)
  by_reader b (NotRising at) e = by_record b (NotRising at) e (omega arith)
  by_reader b (BeyondLimit at) e = by_record b (BeyondLimit at) e (omega arith)
  by_reader b (Behind at) e = by_record b (Behind at) e (omega arith)
  by_reader b (Balances at) e = by_record b (Balances at) e (omega arith)
  by_reader b (Code at) e = by_record b (Code at) e (omega arith)
  by_reader b (CallKeys at) e = absurd (no_record (CallKeys at) e (omega arith))
  by_reader b (AllKeys at) e = absurd (no_record (AllKeys at) e (omega arith))
  by_reader b Workers e = absurd (no_record Workers e (omega arith))
  by_reader b Buffers e = absurd (no_record Buffers e (omega arith))

  by_analysis : Before1 s workers → (block : Block) → read_block file ≡ accepted block → (why : Refusal)
      → Refuses (all_sets file block) (opening_keys block) block.first_call why → Told s file workers (Err why)
  unfolding number_of offset_of
  by_analysis b block e InputTooLong h = absurd h
  by_analysis b block e (Missing at) h = absurd h
  by_analysis b block e (Kind at) h = absurd h
  by_analysis b block e (Length at) h = absurd h
  by_analysis b block e (Field at) h = absurd h
  by_analysis b block e (NotRising at) h = absurd h
  by_analysis b block e (BeyondLimit at) h = absurd h
  by_analysis b block e (Behind at) h = absurd h
  by_analysis b block e (Balances at) h = absurd h
  by_analysis b block e (Code at) h = absurd h
  by_analysis b block e (CallKeys at) h =
      let held = reader_exact.only file bytes block e in
      (b, (held.0, held.1, subst (λ (x : Block). Over24 (all_sets file x) (opening_keys x) x.first_call at) held.2 h))
  by_analysis b block e (AllKeys at) h =
      let held = reader_exact.only file bytes block e in
      (b, (held.0, held.1, subst (λ (x : Block). Over1024 (all_sets file x) (opening_keys x) x.first_call at) held.2 h))
  by_analysis b block e Workers h = absurd h
  by_analysis b block e Buffers h = absurd h

  analysis_told : Before1 s workers → (block : Block) → read_block file ≡ accepted block → (a : Analysis)
      → Tells (all_sets file block) (opening_keys block) block.first_call a → Told s file workers (prepare_analysed (room_in s) block a).verdict
  unfolding prepare_analysed unprepared
  analysis_told b block e (table.analysed sets keys) h = tt
  analysis_told b block e (table.refused why) h = by_analysis b block e why h

  read_told : Before1 s workers → (r : Read) → read_block file ≡ r → Told s file workers (prepare_read (room_in s) file r).verdict
  unfolding prepare_read unprepared
  read_told b (refused why) e = by_reader b why e
  read_told b (accepted block) e =
      let few : length (opening_keys block) ≤ max_keys = simp length-map (accepted_laws file block e).laws.cell_limit in
      analysis_told b block e (analysis_of file block) (tells file block.functions block.calls block.first_call [] (opening_keys block) few)

  record OpeningTold (o : Opened) : Type 0 where
    told : Told s file workers o.answer

  opening_told : OpeningTold (opening_of s file workers)
  unfolding opening_of refused_run number_of offset_of
  opening_told =
      if_all OpeningTold (not (large_enough s))
      (λ e. record { told = (λ large. false≢true (sym (not-true (large_enough s) e) ∙ sizes_large s large), refl) })
      λ e.
      let large : Large s = large_sizes s (not-false (large_enough s) e) in
      if_all OpeningTold (eqb workers 0 || ltb max_workers workers)
      (λ f. record { told = (large, λ some. false≢true (sym (some_workers_lem workers some) ∙ f), refl) })
      λ f.
      let n : (eqb workers 0 ≡ false) × (ltb max_workers workers ≡ false) = neither (eqb workers 0) (ltb max_workers workers) f in
      let nonzero : workers ≡ 0 → ⊥ = eqb-false workers 0 n.0 in
      let b : Before1 s workers = (large, (omega arith, ltb-false max_workers workers n.1)) in
      let p : Prepared = prepared s file workers in
      record { told = subst⁻¹ (Told s file workers) (prepared_answer s workers p p.verdict) (read_told b (read_block file) refl) }

  pub opens_not : (n offset : ℕ) → (n ≡ 0 → ⊥) → Exactly (Answers s file workers n offset) (OpeningRefuses s file workers n offset)
  opens_not n offset some = (said (opening_of s file workers).answer opening_told.told, given n offset)
    where
      said : (v : Result (Unit {0}) Refusal) → Told s file workers v → (verdict_number v ≡ n) × (verdict_offset v ≡ offset) → OpeningRefuses s file workers n offset
      said (Ok tt) t e = absurd (some (sym e.0 ∙ accepted_number))
      said (Err why) t e =
          subst (λ (k : ℕ). OpeningRefuses s file workers n k) (sym (refused_numbers why).1 ∙ e.1)
          (subst (λ (m : ℕ). OpeningRefuses s file workers m (offset_of why)) (sym (refused_numbers why).0 ∙ e.0) t)

  pub opens : Exactly (verdict_number (opening_of s file workers).answer ≡ 0) (Openable s file workers)
  opens = (
    λ e. (opening_exact reader_exact s file workers bytes).0 (number_accepted (opening_of s file workers).answer e),
    λ o. ap verdict_number ((opening_exact reader_exact s file workers bytes).1 o) ∙ accepted_number,
  )

pub cleared : (s : Sizes) (file : List ℕ) (workers : ℕ) → (verdict_number (opening_of s file workers).answer ≡ 0 → ⊥) → Cleared s (opening_of s file workers).run
cleared s file workers n = go (opening_of s file workers).answer refl n
  where
    go : (v : Result (Unit {0}) Refusal) → (opening_of s file workers).answer ≡ v → (verdict_number v ≡ 0 → ⊥) → Cleared s (opening_of s file workers).run
    go (Ok tt) e n = absurd (n accepted_number)
    go (Err why) e n = opening_cleared s file workers why e
