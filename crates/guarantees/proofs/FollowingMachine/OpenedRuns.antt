-- The calls of an opened run as the theorem on schedules takes them: each view is tidy and is the one made of the block, calls that do not conflict
-- are apart, and the run is one that moves start from.
use Rattle.std.specs.Prelude.{None, Option, Some}
use mathlib.Core.Path.{◌≡◌, refl, sym, ap, ap₂, subst⁻¹, ◌∙◌}
use mathlib.Core.Bool.{Bool, false, ◌&&◌}
use mathlib.Core.List.{List}
use Prim.Native.Nat.{ℕ, ◌+◌, ◌*◌, ◌≤◌, ◌<◌}
use native.Mathlib.Omega.{arith}
use borrow.Author.Tests.{lt-ltb}
use lib.Dec.{eqb}
use lib.ListN.{length, get_or, drop, length-map, length-replicate}
use Rattle.wire.specs.Bytes.{repeated}
use Rattle.wire.proofs.BytesLaws.{repeated_at}
use Rattle.block.specs.Limits.{max_code, max_call_keys}
use Rattle.block.specs.Record.{Function, Block, head_bytes, call_record_bytes, call_of}
use Rattle.block.proofs.ReaderLaws.{FunctionSound}
use Rattle.block.specs.declared.Call.{Call}
use Rattle.schedule.specs.Calls.{Calls, Apart}
use Rattle.schedule.specs.Tally as tally
use Rattle.schedule.specs.Tally.{unfinished_earlier}
use Rattle.schedule.specs.declared.Move.{Move}
use Rattle.schedule.specs.Machine.{Machine, machine_opening}
use Rattle.schedule.proofs.CountLaws.{count_same}
use Rattle.footprint.specs.Conflict.{conflict}
use Rattle.footprint.specs.Sets.{sets_of}
use Rattle.block.specs.Naming.{function_of}
use Rattle.footprint.specs.Plan.{entry_word, code_words}
use Rattle.block.specs.BlockOfFile.{block_of, call_count}
use Rattle.footprint.proofs.EntryLaws.{entries_wait, waits_conflict}
use Rattle.machine.specs.Run.{Run, Sizes, large_enough, held_at, status_words, state_word, outcome_word, count_word, wait_word, status_word, state_of, finished, wait_count}
use Rattle.machine.specs.Waits.{named_in, finished_in}
use Rattle.machine.specs.Moves.{own_entries, view_of}
use Rattle.machine.specs.Step.{View}
use Rattle.machine.specs.CallInRun.{made_view}
use Rattle.machine.proofs.StepLaws.{FuelInRange}
use Rattle.machine.specs.Opening.{opening_of}
use Rattle.machine.proofs.WaitLaws.{each_word, each_new}
use Rattle.machine.specs.declared.Head.{Head}
use Rattle.guarantees.proofs.CallsOfRun.ViewCalls.{Proper, Tidy, run_view}
use Rattle.guarantees.proofs.AcceptedOpening.OpeningPassed.{large_sizes}
use Rattle.guarantees.proofs.AcceptedOpening.OpenedCalls.{CallOpened}
use Rattle.guarantees.proofs.AcceptedOpening.AfterOpening.{AfterOpening}
use Rattle.guarantees.proofs.CallsOfRun.SetEntries.{entries_proper, left_apart, right_apart}
use Rattle.guarantees.proofs.FollowingMachine.RunMatches.{Base, calls_in, UndamagedMove, Matches}
use Rattle.guarantees.specs.BlockTally.{is_before}
use Rattle.guarantees.specs.RuleRun.{body_call}

-- The opened run, and its calls.
abbrev pub opened_run : Sizes → List ℕ → ℕ → Run
opened_run s file workers = (opening_of s file workers).run

abbrev pub opened_calls : Sizes → List ℕ → ℕ → Calls
opened_calls s file workers = calls_in file (call_count file) (is_before file) (opened_run s file workers)

-- After an opening and moves: the run r stands for the machine's state M; and the next move's step does not find it damaged.
abbrev pub OpenedMatches : (s : Sizes) (file : List ℕ) (workers : ℕ) → Machine (opened_calls s file workers) → Run → Type 0
OpenedMatches s file workers M r = Matches file workers (call_count file) (is_before file) (opened_run s file workers) M r

abbrev pub OpenedWhole : (s : Sizes) (file : List ℕ) (workers : ℕ) → Machine (opened_calls s file workers) → Move → Type 0
OpenedWhole s file workers M m = UndamagedMove file (call_count file) (is_before file) (opened_run s file workers) M m

-- ---- one call

code_few : (file : List ℕ) (f : Option Function) → ((g : Function) → f ≡ Some g → FunctionSound file g) → get_or (code_words f) 1 0 ≤ max_code + 1
unfolding code_words
code_few file None h = omega arith
code_few file (Some g) h = let few : g.size ≤ 64 = (h g refl).few in omega arith

module _ (s : Sizes) (file : List ℕ) (workers : ℕ) (after : AfterOpening s file workers) where
  abbrev r₀ : Run
  r₀ = opened_run s file workers

  abbrev b : Block
  b = block_of file

  abbrev Opened : ℕ → Call → Type 0
  Opened j c = CallOpened file b after.table s.keys r₀ j c

  first : r₀.head.first_call ≡ b.first_call
  first = ap (λ (h : Head). h.first_call) after.opened.head

  -- Its record in the file.
  body : (j : ℕ) (c : Call) → Opened j c → call_of (drop (r₀.head.first_call + call_record_bytes * j + head_bytes) file) ≡ Some c
  body j c o = ap (λ (at : ℕ). call_of (drop (at + call_record_bytes * j + head_bytes) file)) first ∙ o.body

  view_is : (j : ℕ) (c : Call) → Opened j c → run_view file r₀ j ≡ made_view file s.keys b.functions after.table c
  unfolding body_call
  view_is j c o = ap (λ body. view_of file r₀ j (body_call body)) (body j c o) ∙ o.view

  tidy_is : (j : ℕ) (c : Call) → Opened j c → Tidy (run_view file r₀ j)
  tidy_is j c o =
      record {
        count = o.count ∙ sym size;
        few = subst⁻¹ (λ (k : ℕ). k ≤ max_call_keys) size o.few;
        entries = subst⁻¹ Proper o.entries (entries_proper after.table (sets_of file b.functions c) after.opened.few_keys o.listed);
        code = subst⁻¹ (λ (k : ℕ). k ≤ max_code + 1) o.code (code_few file (function_of b.functions c) o.sound);
        fuel = subst⁻¹ (λ (v : View). FuelInRange v.call.fuel) (view_is j c o) o.fuel;
      }
    where
      size : length (own_entries r₀.plan j) ≡ length (sets_of file b.functions c)
      size = ap length o.entries ∙ length-map (sets_of file b.functions c) (entry_word after.table)

  -- Each call's view is the one made of its block, and tidy.
  pub view_made : (j : ℕ) → j < call_count file → (c : Call) × (run_view file r₀ j ≡ made_view file s.keys b.functions after.table c)
  view_made j l = let o = after.opened.calls j l in (o.0, view_is j o.0 o.1)

  pub tidy : (j : ℕ) → j < call_count file → Tidy (run_view file r₀ j)
  tidy j l = let o = after.opened.calls j l in tidy_is j o.0 o.1

  -- "Call i is before j" where their sets conflict; calls that do not conflict share no cell that one of them writes.
  pub opened_apart : (i j : ℕ) → i < j → j < call_count file → is_before file i j ≡ false → Apart (opened_calls s file workers) i j
  opened_apart i j less l free =
      let below : i < call_count file = omega arith in
      let o = after.opened.calls i below in
      let p = after.opened.calls j l in
      let None : entries_wait (own_entries r₀.plan i) (own_entries r₀.plan j) ≡ false =
      ap₂ entries_wait o.1.entries p.1.entries
      ∙ waits_conflict after.table (sets_of file b.functions o.0) o.1.listed (sets_of file b.functions p.0) p.1.listed
      ∙ ap₂ conflict (sym o.1.own) (sym p.1.own) ∙ free in
      record {
        left = left_apart (own_entries r₀.plan i) (own_entries r₀.plan j) None;
        right = right_apart (own_entries r₀.plan i) (own_entries r₀.plan j) None;
      }

  -- The opened run is one that moves start from.
  pub base : Base file workers (call_count file) (is_before file) r₀
  base =
      record {
        large = ap large_enough after.opened.sizes ∙ after.opened.large;
        some_workers = after.opened.some_workers;
        few_workers = after.opened.few_workers;
        few_calls = after.opened.few_calls;
        tidy = tidy;
        body = λ c l. let o = after.opened.calls c l in (o.0, body c o.0 o.1);
        row = λ i c less l. after.opened.waits i c l ∙ ap (λ (t : Bool). t && is_before file i c) (lt-ltb i c less);
      }

  -- The status: no call has started, and each has the number of its earlier conflicting calls.
  abbrev n : ℕ
  n = call_count file

  abbrev zeros : List ℕ
  zeros = repeated s.status 0

  unstarted : (c : ℕ) → state_of zeros c ≡ 0
  unstarted c = repeated_at s.status _ 0

  status_room : status_words * n ≤ length zeros
  unfolding repeated
  status_room =
      let room : 256 * 4 ≤ s.status = (large_sizes s after.opened.large).status in
      let few : n ≤ 256 = after.opened.few_calls in
      rw length-replicate (omega arith)

  opening_waits : (c : ℕ) → c < n → wait_count r₀.status c ≡ unfinished_earlier (is_before file) (λ i. false) c c
  opening_waits c l =
      ap (λ (status : List ℕ). wait_count status c) after.opened.status ∙ each_new _ zeros n c l status_room
      ∙ count_same (named_in r₀.plan) (finished_in zeros) c (is_before file) (λ i. false) c (λ i less. base.row i c less l)
      (λ i less. ap (λ (word : ℕ). eqb word finished) (unstarted i))

  opening_word : (c k : ℕ) → k < wait_word → status_word r₀.status c k ≡ 0
  opening_word c k less =
      ap (λ (status : List ℕ). status_word status c k) after.opened.status ∙ each_word _ zeros n c k less ∙ repeated_at s.status _ 0

  -- "At the opening every call waits and no worker holds one."
  pub opening_matches : OpenedMatches s file workers (machine_opening (opened_calls s file workers) r₀.cells) r₀
  unfolding repeated
  opening_matches =
      record {
        plan = refl;
        keys = refl;
        worker_count = ap (λ (h : Head). h.workers) after.opened.head;
        call_count = ap (λ (h : Head). h.calls) after.opened.head;
        cell_count = refl;
        first = refl;
        sizes = refl;
        held_length = ap (λ (h : Head). length h.held) after.opened.head;
        cells = refl;
        calls = λ c l. (opening_word c state_word (omega arith), opening_word c outcome_word (omega arith), opening_word c count_word (omega arith));
        waits = opening_waits;
        idle = λ w l e. ap (λ (h : Head). held_at h w) after.opened.head ∙ repeated_at 8 w 0;
        holds = λ w c e. none_held e;
        sole = λ w u c e. none_held e;
        worker = λ c l kept e. let z : ◌≡◌ {A = ℕ} 0 1 = cc in absurd (omega arith);
      }
    where
      none_held : {A : Type 0} {c : ℕ} → tally.idle ≡ tally.holds c → A
      none_held e = let z : ◌≡◌ {A = ℕ} 0 1 = cc in absurd (omega arith)
