-- An opening's verdict, and the number of steps that the serial run takes for a call, do not depend on the sizes of the buffers.
use Rattle.block.specs.declared.Refusal.{Refusal}
use mathlib.Core.Path.{◌≡◌, refl, sym, ap, ap₂, subst⁻¹, ◌∙◌}
use mathlib.Core.Bool.{Bool, true, false, ◌||◌, not}
use mathlib.Core.List.{List, [], map}
use Prim.Native.Nat.{ℕ, ◌+◌, ◌*◌, ◌≤◌, ◌<◌}
use native.Mathlib.Omega.{arith}
use borrow.Author.Tests.{le-ltb, ne_eqb}
use lib.Dec.{eqb, ltb}
use lib.IntN.{ℤ, pos}
use lib.ListN.{length, get_or, drop}
use Rattle.std.specs.Prelude.{if◌then◌else◌, Ok, Result}
use Rattle.wire.specs.Bytes.{padded}
use Rattle.wire.proofs.BytesLaws.{padded_at}
use Rattle.block.specs.Limits.{max_workers}
use Rattle.block.specs.Record.{Function, Block, head_bytes, call_record_bytes, call_of}
use Rattle.block.specs.Reader.{Read, accepted, read_block}
use Rattle.block.specs.declared.Call.{Call}
use Rattle.block.specs.declared.Refusal.TheVariants.{Workers, Buffers}
use Rattle.footprint.specs.Access.{Access}
use Rattle.block.specs.Encoding.{AreBytes}
use Rattle.footprint.specs.Table as table
use Rattle.footprint.specs.Table.{Analysis}
use Rattle.footprint.specs.Plan.{Room, Prepared, room_enough, prepare_analysed, prepare_read, table_words, opening_value}
use Rattle.block.specs.BlockOfFile.{block_of, call_count}
use Rattle.footprint.specs.BlockSets.{all_sets, analysis_of}
use Rattle.schedule.specs.Calls as calls
use Rattle.machine.specs.Run.{Run, Sizes, fixed_sizes, room_in, large_enough}
use Rattle.machine.specs.Opening.{refused_run, open_prepared, opening_of}
use Rattle.machine.specs.Step.{View, cell_at}
use Rattle.machine.specs.CallInRun.{made_view}
use Rattle.machine.specs.Serial.{serial_steps}
use Rattle.machine.specs.declared.Head.{Head}
use Rattle.guarantees.proofs.CallsOfRun.ViewCalls.{run_view}
use Rattle.guarantees.proofs.CallsOfRun.ViewKeys.{step_same}
use Rattle.guarantees.proofs.AcceptedOpening.OpeningPassed.{Made, opening_made}
use Rattle.guarantees.proofs.AcceptedOpening.AfterOpening.{AfterOpening, after_opening}
use Rattle.guarantees.proofs.FollowingMachine.OpenedRuns.{opened_run, opened_calls, view_made}
use Rattle.guarantees.proofs.SerialAndRule.SerialRunOfFile.{opened_laws, opened_good, steps_are}
use Rattle.guarantees.proofs.SerialAndRule.SerialAlike.{Level, level_steps, StepsAlike, alike_steps}
use Rattle.guarantees.specs.BlockTally.{is_before}
use Rattle.guarantees.specs.RuleRun.{body_call}

-- ---- the verdict

prepared_accepts : (r : Room) (file : List ℕ) (b : Block) (sets : List (List Access)) (keys : List ℕ)
    → read_block file ≡ accepted b → analysis_of file b ≡ table.analysed sets keys → (prepare_read r file (read_block file)).verdict ≡ Ok tt
unfolding prepare_read prepare_analysed
prepared_accepts r file b sets keys read analysis =
    ap (λ (g : Read). (prepare_read r file g).verdict) read ∙ ap (λ (a : Analysis). (prepare_analysed r b a).verdict) analysis

workers_allowed : (workers : ℕ) → 0 < workers → workers ≤ max_workers → (eqb workers 0 || ltb max_workers workers) ≡ false
workers_allowed workers low high =
    ap₂ (λ (a b : Bool). a || b) (ne_eqb workers 0 (λ e. absurd (omega arith))) (le-ltb max_workers workers high)

-- What is accepted in some buffers is accepted in all that are large enough.
pub accepted_by_sizes : (s t : Sizes) (file : List ℕ) (workers : ℕ) → large_enough t ≡ true
    → (opening_of s file workers).answer ≡ (Ok tt) → (opening_of t file workers).answer ≡ Ok tt
unfolding opening_of open_prepared
accepted_by_sizes s t file workers large answer =
    let m : Made s file workers (opening_of s file workers) = opening_made s file workers answer in
    let p : Prepared = prepare_read (room_in t) file (read_block file) in
    ap
    (λ (b : Bool).
    (if not b
    then refused_run t Buffers
    else if eqb workers 0 || ltb max_workers workers
    then refused_run t Workers
    else open_prepared t workers p p.verdict).answer)
    large
    ∙ ap (λ (b : Bool). (if b then refused_run t Workers else open_prepared t workers p p.verdict).answer)
    (workers_allowed workers m.low m.high)
    ∙ ap (λ (v : Result (Unit {0}) Refusal). (open_prepared t workers p v).answer)
    (prepared_accepts (room_in t) file m.block m.sets m.keys m.read m.analysis)

pub accepted_fixed : (s : Sizes) (file : List ℕ) (workers : ℕ) → (opening_of s file workers).answer ≡ Ok tt
    → (opening_of fixed_sizes file workers).answer ≡ Ok tt
unfolding large_enough room_enough
accepted_fixed s file workers = accepted_by_sizes s fixed_sizes file workers refl

-- ---- the views

-- Views made of one block and one table, in two buffers of keys.
made_alike : (file : List ℕ) (room room' : ℕ) (fs : List Function) (table : List ℕ) (c : Call)
    → StepsAlike (made_view file room fs table c) (made_view file room' fs table c)
made_alike file room room' fs table c =
    record {
      entries = refl;
      fuel = refl;
      step = λ l cells.
          step_same (made_view file room fs table c) (padded room' 0 (table_words table))
          (λ i. padded_at room 0 (table_words table) i ∙ sym (padded_at room' 0 (table_words table) i)) cells l;
    }

-- One analysis has one table.
table_from : Analysis → List ℕ
table_from (table.analysed sets keys) = keys
table_from (table.refused why) = []

same_table : (a : Analysis) (sets : List (List Access)) (keys keys' : List ℕ)
    → a ≡ table.analysed sets keys → a ≡ table.analysed sets keys' → keys ≡ keys'
unfolding table_from
same_table a sets keys keys' e e' = ap table_from (sym e ∙ e')

module _ (s t : Sizes) (file : List ℕ) (workers : ℕ) (bytes : AreBytes file) (after : AfterOpening s file workers) (after' : AfterOpening t file workers) where
  abbrev r : Run
  r = opened_run s file workers

  abbrev r' : Run
  r' = opened_run t file workers

  abbrev fs : List Function
  fs = (block_of file).functions

  -- Both openings have one table, and the same record for a call.
  tables : after.table ≡ after'.table
  tables =
      same_table (analysis_of file (block_of file)) (all_sets file (block_of file)) after.table after'.table
      after.tabled.analysis after'.tabled.analysis

  firsts : r.head.first_call ≡ r'.head.first_call
  firsts = ap (λ (h : Head). h.first_call) after.opened.head ∙ sym (ap (λ (h : Head). h.first_call) after'.opened.head)

  records : (j : ℕ) → (run_view file r j).call ≡ (run_view file r' j).call
  records j = ap (λ (at : ℕ). body_call (call_of (drop (at + call_record_bytes * j + head_bytes) file))) firsts

  views : (j : ℕ) → j < call_count file → StepsAlike (run_view file r j) (run_view file r' j)
  views j h =
      let m = view_made s file workers after j h in
      let m' = view_made t file workers after' j h in
      let one : m.0 ≡ m'.0 = sym (ap (λ (v : View). v.call) m.1) ∙ records j ∙ ap (λ (v : View). v.call) m'.1 in
      let made : made_view file s.keys fs after.table m.0 ≡ made_view file s.keys fs after'.table m'.0 =
      ap₂ (made_view file s.keys fs) tables one in
      subst⁻¹ (λ (v : View). StepsAlike v (run_view file r' j)) (m.1 ∙ made)
      (subst⁻¹ (StepsAlike (made_view file s.keys fs after'.table m'.0)) m'.1
      (made_alike file s.keys t.keys fs after'.table m'.0))

  -- The opening values are the same in every cell.
  abbrev values : List ℕ → List ℤ
  values keys = map (opening_value (block_of file).cells) keys

  cells_same : (x : ℕ) → cell_at r.cells x ≡ cell_at r'.cells x
  cells_same x =
      ap (λ (l : List ℤ). cell_at l x) after.opened.cells
      ∙ padded_at s.cells (pos 0) (values after.table) x
      ∙ ap (λ (keys : List ℕ). cell_at (values keys) x) tables
      ∙ sym (padded_at t.cells (pos 0) (values after'.table) x)
      ∙ sym (ap (λ (l : List ℤ). cell_at l x) after'.opened.cells)

  level : Level (opened_calls t file workers) r.cells r'.cells
  level = record { good = opened_good s file workers bytes after; good' = opened_good t file workers bytes after'; same = cells_same }

  -- "the number of steps that the serial run takes for that call", as the theorem on schedules counts them.
  pub scheduled_steps : (c : ℕ) → c < call_count file
      → calls.steps_in_serial (opened_calls s file workers) (opened_run s file workers).cells c
      ≡ calls.steps_in_serial (opened_calls t file workers) (opened_run t file workers).cells c
  scheduled_steps c h =
      alike_steps (run_view file r) (run_view file r') (call_count file) (is_before file) views r.cells c h
      ∙ level_steps (opened_calls t file workers) (opened_laws t file workers bytes after').call r.cells r'.cells level c h

  -- The same of the run itself.
  run_steps : (c : ℕ) → c < call_count file → serial_steps file r c ≡ serial_steps file r' c
  run_steps c h =
      steps_are s file workers bytes after c h ∙ scheduled_steps c h ∙ sym (steps_are t file workers bytes after' c h)

-- ---- the theorem

-- "the number of steps that the serial run takes for that call": in any buffers as in those of the fixed sizes.
pub steps_by_sizes : (s : Sizes) (file : List ℕ) (workers : ℕ) → ((i : ℕ) → get_or file i 0 < 256) → (opening_of s file workers).answer ≡ Ok tt
    → (c : ℕ) → c < length (block_of file).calls
    → serial_steps file (opening_of s file workers).run c ≡ serial_steps file (opening_of fixed_sizes file workers).run c
steps_by_sizes s file workers bytes answer =
    run_steps s fixed_sizes file workers bytes (after_opening s file workers bytes answer)
    (after_opening fixed_sizes file workers bytes (accepted_fixed s file workers answer))
