-- What `open` answers, over plain values: the tests before the block is read, and a block that is prepared or refused.
use mathlib.Core.Path.{◌≡◌, refl, sym, ap, ◌∙◌, subst⁻¹}
use mathlib.Core.Bool.{Bool, true, false, ◌||◌, not}
use mathlib.Core.List.{List}
use Prim.Native.Nat.{ℕ, ◌≤◌}
use native.Mathlib.Omega.{arith}
use borrow.Author.Tests.{leb-true}
use lib.Dec.{eqb, leb, ltb}
use lib.IntN.{ℤ, pos}
use lib.ListN.{length}
use Rattle.std.specs.Prelude.{if◌then◌else◌, Err, Ok, Result, IsErrAnd}
use Rattle.arith.proofs.ChoiceLaws.{both, if_all}
use Rattle.wire.specs.Bytes.{repeated}
use Rattle.block.specs.Limits.{max_calls, max_workers}
use Rattle.block.specs.Refusal.{verdict_number, verdict_offset}
use Rattle.block.specs.Reader as reading
use Rattle.block.specs.Reader.{Read, read_block}
use Rattle.block.specs.Record.{Block}
use Rattle.block.proofs.ReaderRight.{accepted_laws}
use Rattle.block.specs.declared.Refusal.{Refusal}
use Rattle.block.specs.declared.Refusal.TheVariants.{Workers, Buffers}
use Rattle.footprint.specs.Plan as footprint
use Rattle.footprint.specs.Plan.{Room, room_enough, unprepared, prepare_analysed, prepare_read, prepared_of}
use Rattle.footprint.specs.Table.{Analysis, analysed, refused}
use Rattle.analysis.specs.declared.Prepared.{Prepared}
use Rattle.analysis.specs.Preparing.{preparing, room_of}
use Rattle.machine.specs.Opening as machine
use Rattle.machine.specs.Opening.{head_of, refused_run, open_prepared, opening_of}
use Rattle.machine.specs.Run.{Sizes, fixed_sizes, room_in, large_enough}
use Rattle.machine.specs.Waits.{each_wait, waits_set}
use Rattle.machine.specs.declared.Head.{Head}
use Rattle.opening.specs.Opened.{sizes_for, opening_with, tested_for, OpenedAs}

-- ---- the tests before the block is read

abbrev by_tests : Bool → Bool → Result (Unit {0}) Refusal
by_tests large workers = if not large then Err Buffers else if workers then Err Workers else (Ok tt)

tests_refuse : (a b : Bool) (why : Refusal) (s : Sizes) (x : machine.Opened) → by_tests a b ≡ Err why
    → (if not a then refused_run s Buffers else if b then refused_run s Workers else x) ≡ refused_run s why
tests_refuse true true why s x e = let same : Workers ≡ why = cc in ap (refused_run s) same
tests_refuse true false why s x e = let z : ◌≡◌ {A = ℕ} 0 1 = cc in absurd (omega arith)
tests_refuse false b why s x e = let same : Buffers ≡ why = cc in ap (refused_run s) same

tests_pass : (a b : Bool) (s : Sizes) (x : machine.Opened) → by_tests a b ≡ (Ok tt)
    → (if not a then refused_run s Buffers else if b then refused_run s Workers else x) ≡ x
tests_pass true true s x e = let z : ◌≡◌ {A = ℕ} 0 1 = cc in absurd (omega arith)
tests_pass true false s x e = refl
tests_pass false b s x e = let z : ◌≡◌ {A = ℕ} 0 1 = cc in absurd (omega arith)

-- What is no refusal passes.
pub not_err : (v : Result (Unit {0}) Refusal) → ((why : Refusal) → v ≡ Err why → ⊥) → v ≡ (Ok tt)
not_err (Ok tt) n = refl
not_err (Err why) n = absurd (n why refl)

-- The block as it is prepared in the room of these sizes.
abbrev prepared_in : Sizes → List ℕ → footprint.Prepared
prepared_in s file = prepare_read (room_in s) file (read_block file)

module _ (s : Sizes) (file : List ℕ) (workers : ℕ) where
  opening_refused : (why : Refusal) → tested_for (large_enough s) workers ≡ Err why → opening_of s file workers ≡ refused_run s why
  unfolding tested_for opening_of
  opening_refused why e =
      tests_refuse (large_enough s) (eqb workers 0 || ltb max_workers workers) why s
      (open_prepared s workers (prepared_in s file) (prepared_in s file).verdict) e

  opening_passed : tested_for (large_enough s) workers ≡ (Ok tt)
      → opening_of s file workers ≡ open_prepared s workers (prepared_in s file) (prepared_in s file).verdict
  unfolding tested_for opening_of
  opening_passed e =
      tests_pass (large_enough s) (eqb workers 0 || ltb max_workers workers) s
      (open_prepared s workers (prepared_in s file) (prepared_in s file).verdict) e

-- ---- a block that is prepared

-- A refused one leaves its buffers zero.
abbrev pub Zeroed : Room → footprint.Prepared → Type 0
Zeroed r p = (why : Refusal) → p.verdict ≡ Err why → p ≡ unprepared r why

unprepared_zero : (r : Room) (why : Refusal) → Zeroed r (unprepared r why)
unfolding unprepared
unprepared_zero r why other e = let same : why ≡ other = cc in ap (unprepared r) same

analysed_zero : (r : Room) (b : Block) (a : Analysis) → Zeroed r (prepare_analysed r b a)
unfolding prepare_analysed
analysed_zero r b (refused why) = unprepared_zero r why
analysed_zero r b (analysed sets keys) = λ why e. let z : ◌≡◌ {A = ℕ} 0 1 = cc in absurd (omega arith)

read_zero : (r : Room) (file : List ℕ) (x : Read) → Zeroed r (prepare_read r file x)
unfolding prepare_read
read_zero r file (reading.refused why) = unprepared_zero r why
read_zero r file (reading.accepted b) = analysed_zero r b _

-- Its calls are as many as a block may have.
abbrev Few : footprint.Prepared → Type 0
Few p = p.calls ≤ max_calls

unprepared_few : (r : Room) (why : Refusal) → Few (unprepared r why)
unfolding unprepared
unprepared_few r why = omega arith

analysed_few : (r : Room) (b : Block) (a : Analysis) → length b.calls ≤ max_calls → Few (prepare_analysed r b a)
unfolding prepare_analysed
analysed_few r b (refused why) l = unprepared_few r why
analysed_few r b (analysed sets keys) l = l

read_few : (r : Room) (file : List ℕ) (x : Read) → read_block file ≡ x → Few (prepare_read r file x)
unfolding prepare_read
read_few r file (reading.refused why) e = unprepared_few r why
read_few r file (reading.accepted b) e = analysed_few r b _ (accepted_laws file b e).laws.call_limit

prepared_few : (r : Room) (file : List ℕ) → (prepared_of r file).calls ≤ max_calls
unfolding prepared_of
prepared_few r file = if_all Few (room_enough r) (λ t. read_few r file (read_block file) refl) (λ t. unprepared_few r Buffers)

pub calls_few : (p : Prepared) (plan keys : List ℕ) (cells : List ℤ) (r : Room) (file : List ℕ) → preparing (Ok p) plan keys cells ≡ prepared_of r file
    → p.calls ≤ max_calls
unfolding preparing
calls_few p plan keys cells r file e = subst⁻¹ Few e (prepared_few r file)

-- In buffers that are large enough the sizes are not what a block is refused by.
large_tested : (large : Bool) (workers : ℕ) → tested_for large workers ≡ (Ok tt) → large ≡ true
unfolding tested_for
large_tested true workers e = refl
large_tested false workers e = let z : ◌≡◌ {A = ℕ} 0 1 = cc in absurd (omega arith)

large_room : (s : Sizes) → large_enough s ≡ true → room_enough (room_in s) ≡ true
unfolding large_enough
large_room s large =
    (both (room_enough (room_in s)) _ (both _ (leb fixed_sizes.seats s.seats) (both _ (leb fixed_sizes.frames s.frames) large).0).0).0

prepared_large : (s : Sizes) (file : List ℕ) → large_enough s ≡ true → prepared_of (room_in s) file ≡ prepared_in s file
unfolding prepared_of
prepared_large s file large = rw (large_room s large)

large_plan : (s : Sizes) → large_enough s ≡ true → fixed_sizes.plan ≤ s.plan
unfolding room_enough
large_plan s large =
    leb-true fixed_sizes.plan s.plan (both _ _ (both _ (leb fixed_sizes.cells s.cells) (large_room s large)).0).0

-- A head and six lists that are equal, part by part.
same_run : (w c n f c' n' f' : ℕ) (x x' y y' : List ℕ) (z z' : List ℤ) (t t' u u' : List ℕ) (o o' : List ℤ)
    → c ≡ c' → n ≡ n' → f ≡ f' → x ≡ x' → y ≡ y' → z ≡ z' → t ≡ t' → u ≡ u' → o ≡ o'
    → opening_with (Ok (head_of w c n f)) x y z t u o ≡ opening_with (Ok (head_of w c' n' f')) x' y' z' t' u' o'
same_run w c n f c' n' f' x x' y y' z z' t t' u u' o o' e₁ e₂ e₃ e₄ e₅ e₆ e₇ e₈ e₉ = rw (e₁, e₂, e₃, e₄, e₅, e₆, e₇, e₈, e₉)

-- The states of the calls, the seats and the frames keep their lengths and are zero.
pub record StatesCleared (s : Sizes) (status seats : List ℕ) (frames : List ℤ) : Type 0 where
  pub status_kept : length status ≡ s.status
  pub seats_kept : length seats ≡ s.seats
  pub frames_kept : length frames ≡ s.frames
  pub status_zero : status ≡ repeated s.status 0
  pub seats_zero : seats ≡ repeated s.seats 0
  pub frames_zero : frames ≡ repeated s.frames (pos 0)

pub still_zero : (s : Sizes) (status seats : List ℕ) (frames : List ℤ) → StatesCleared s status seats frames → status ≡ repeated (length status) 0
still_zero s status seats frames z = z.status_zero ∙ ap (λ (n : ℕ). repeated n 0) (sym z.status_kept)

-- A refusal in buffers that are zero.
refused_left : (s : Sizes) (why : Refusal) {plan keys : List ℕ} {cells : List ℤ} {status seats : List ℕ} {frames : List ℤ}
    → plan ≡ repeated s.plan 0 → keys ≡ repeated s.keys 0 → cells ≡ repeated s.cells (pos 0) → StatesCleared s status seats frames
    → opening_with (Err why) plan keys cells status seats frames ≡ refused_run s why
unfolding refused_run
refused_left s why e f g z = rw (e, f, g, z.status_zero, z.seats_zero, z.frames_zero)

module _ (s : Sizes) (workers : ℕ) (plan keys : List ℕ) (cells : List ℤ) (status seats : List ℕ) (frames : List ℤ)
    (q : footprint.Prepared) (z : StatesCleared s status seats frames) where
  -- A block that is prepared is opened.
  prepared_run : (p : Prepared) (waits : List ℕ) → preparing (Ok p) plan keys cells ≡ q → waits ≡ waits_set plan p.calls status
      → opening_with (Ok (head_of workers p.calls p.cells p.first_call)) plan keys cells waits seats frames ≡ open_prepared s workers q q.verdict
  unfolding open_prepared each_wait preparing
  prepared_run p waits e w =
      same_run workers p.calls p.cells p.first_call q.calls q.cells q.first_call plan q.plan keys q.keys cells q.values
      waits (waits_set q.plan q.calls (repeated s.status 0)) seats (repeated s.seats 0) frames (repeated s.frames (pos 0))
      (ap (λ (x : footprint.Prepared). x.calls) e)
      (ap (λ (x : footprint.Prepared). x.cells) e)
      (ap (λ (x : footprint.Prepared). x.first_call) e)
      (ap (λ (x : footprint.Prepared). x.plan) e)
      (ap (λ (x : footprint.Prepared). x.keys) e)
      (ap (λ (x : footprint.Prepared). x.values) e)
      (w ∙ ap (λ (x : footprint.Prepared). waits_set x.plan x.calls status) e ∙ ap (waits_set q.plan q.calls) z.status_zero)
      z.seats_zero
      z.frames_zero
      ∙ ap (open_prepared s workers q) (ap (λ (x : footprint.Prepared). x.verdict) e)

  -- One that is not prepared leaves its buffers zero.
  unprepared_run : (why : Refusal) → preparing (Err why) plan keys cells ≡ q → Zeroed (room_of s.plan s.keys s.cells) q
      → opening_with (Err why) plan keys cells status seats frames ≡ open_prepared s workers q q.verdict
  unfolding open_prepared unprepared preparing
  unprepared_run why e zero =
      let none = e ∙ zero why (sym (ap (λ (x : footprint.Prepared). x.verdict) e)) in
      refused_left s why
      (ap (λ (x : footprint.Prepared). x.plan) none)
      (ap (λ (x : footprint.Prepared). x.keys) none)
      (ap (λ (x : footprint.Prepared). x.values) none)
      z
      ∙ ap (open_prepared s workers q) (ap (λ (x : footprint.Prepared). x.verdict) e)

-- ---- the answer, where the states, the seats and the frames are cleared

module _ (n m k t u o : ℕ) (file : List ℕ) (workers : ℕ) (status seats : List ℕ) (frames : List ℤ)
    (z : StatesCleared (sizes_for n m k t u o) status seats frames) (large : Bool)
    (l : large ≡ large_enough (sizes_for n m k (length status) (length seats) (length frames)))
    (v : Result (Unit {0}) Refusal) (tested : v ≡ tested_for large workers) where
  tested_as : v ≡ tested_for (large_enough (sizes_for n m k t u o)) workers
  tested_as =
      tested
      ∙ ap (λ (b : Bool). tested_for b workers)
      (l ∙ ap large_enough (same t u o (length status) (length seats) (length frames) z.status_kept z.seats_kept z.frames_kept))
    where
      same : (t u o t' u' o' : ℕ) → t' ≡ t → u' ≡ u → o' ≡ o → sizes_for n m k t' u' o' ≡ sizes_for n m k t u o
      same t u o t' u' o' a b c = rw (a, b, c)

  -- 20 and 13.
  pub open_refused : (why : Refusal) {plan keys : List ℕ} {cells : List ℤ} → v ≡ Err why
      → plan ≡ repeated n 0 → keys ≡ repeated m 0 → cells ≡ repeated k (pos 0)
      → opening_with (Err why) plan keys cells status seats frames ≡ opening_of (sizes_for n m k t u o) file workers
  open_refused why h planned keyed celled =
      refused_left (sizes_for n m k t u o) why planned keyed celled z
      ∙ sym (opening_refused (sizes_for n m k t u o) file workers why (sym tested_as ∙ h))

  -- Where these tests pass, the buffers are large enough.
  module _ (h : v ≡ (Ok tt)) where
    passed : tested_for (large_enough (sizes_for n m k t u o)) workers ≡ (Ok tt)
    passed = sym tested_as ∙ h

    large_is : large_enough (sizes_for n m k t u o) ≡ true
    large_is = large_tested (large_enough (sizes_for n m k t u o)) workers passed

    pub plan_large : {size : ℕ} → size ≡ n → fixed_sizes.plan ≤ size
    plan_large kept = rw kept (large_plan (sizes_for n m k t u o) large_is)

    module _ (plan' keys' : List ℕ) (cells' : List ℤ) where
      -- 1 to 12, handed on.
      pub open_unread : (r : Result Head Refusal) (why : Refusal) → IsErrAnd r (λ e. e ≡ why)
          → preparing (Err why) plan' keys' cells' ≡ prepared_of (room_of n m k) file
          → opening_with r plan' keys' cells' status seats frames ≡ opening_of (sizes_for n m k t u o) file workers
      open_unread (Ok head) why told e = absurd told
      open_unread (Err handed) why told e =
          unprepared_run (sizes_for n m k t u o) workers plan' keys' cells' status seats frames (prepared_in (sizes_for n m k t u o) file) z handed
          (ap (λ (x : Refusal). preparing (Err x) plan' keys' cells') told ∙ e ∙ prepared_large (sizes_for n m k t u o) file large_is)
          (read_zero (room_of n m k) file (read_block file))
          ∙ sym (opening_passed (sizes_for n m k t u o) file workers passed)

      -- The accepted block.
      pub open_passed : (p : Prepared) (waits : List ℕ) {head : Head}
          → preparing (Ok p) plan' keys' cells' ≡ prepared_of (room_of n m k) file
          → waits ≡ waits_set plan' p.calls status
          → head ≡ head_of workers p.calls p.cells p.first_call
          → opening_with (Ok head) plan' keys' cells' waits seats frames ≡ opening_of (sizes_for n m k t u o) file workers
      open_passed p waits e w made =
          ap (λ (h : Head). opening_with (Ok h) plan' keys' cells' waits seats frames) made
          ∙ prepared_run (sizes_for n m k t u o) workers plan' keys' cells' status seats frames (prepared_in (sizes_for n m k t u o) file) z p waits
          (e ∙ prepared_large (sizes_for n m k t u o) file large_is) w
          ∙ sym (opening_passed (sizes_for n m k t u o) file workers passed)

-- An accepted block is opened in buffers that are large enough.
large_answer : (a b : Bool) (s : Sizes) (x : machine.Opened)
    → (if not a then refused_run s Buffers else if b then refused_run s Workers else x).answer ≡ (Ok tt) → a ≡ true
unfolding refused_run
large_answer true b s x e = refl
large_answer false b s x e = let z : ◌≡◌ {A = ℕ} 0 1 = cc in absurd (omega arith)

pub accepted_large : (s : Sizes) (file : List ℕ) (workers : ℕ) → (opening_of s file workers).answer ≡ (Ok tt) → fixed_sizes.plan ≤ s.plan
unfolding opening_of
accepted_large s file workers e =
    large_plan s
    (large_answer (large_enough s) (eqb workers 0 || ltb max_workers workers) s
    (open_prepared s workers (prepared_in s file) (prepared_in s file).verdict) e)

-- Equal answers have equal numbers and offsets.
pub opened_as : {r : Result Head Refusal} {plan keys : List ℕ} {cells : List ℤ} {status seats : List ℕ} {frames : List ℤ} {o : machine.Opened}
    → opening_with r plan keys cells status seats frames ≡ o → OpenedAs r plan keys cells status seats frames o
opened_as e =
    record {
      same = e;
      number = ap (λ (x : machine.Opened). verdict_number x.answer) e;
      offset = ap (λ (x : machine.Opened). verdict_offset x.answer) e;
    }
