-- What holds of a run after an accepted opening.
use Rattle.std.specs.Prelude.{Ok}
use mathlib.Core.Path.{◌≡◌, refl, sym, ap, subst, subst⁻¹, ◌∙◌}
use mathlib.Core.Bool.{true, ◌&&◌}
use mathlib.Core.List.{List, [], map}
use Prim.Native.Nat.{ℕ, ◌*◌, ◌≤◌, ◌<◌}
use native.Mathlib.Omega.{arith}
use lib.Dec.{ltb}
use lib.IntN.{ℤ, pos}
use lib.ListN.{length, get_or, length-map, length-replicate, get_or-append}
use Rattle.wire.specs.Bytes.{repeated, padded}
use Rattle.wire.specs.Rows.{in_row}
use Rattle.wire.proofs.BytesLaws.{padded_length}
use Rattle.block.specs.Limits.{max_calls, max_keys, max_workers}
use Rattle.block.specs.Record.{Block}
use Rattle.block.specs.Reader.{accepted, read_block}
use Rattle.block.proofs.ReaderLaws.{EndsFile, opening_within}
use Rattle.block.proofs.ReaderRight.{accepted_laws}
use Rattle.block.specs.declared.Call.{Call}
use Rattle.footprint.specs.Access.{Access}
use Rattle.footprint.specs.Conflict.{member, conflict}
use Rattle.footprint.specs.Plan.{plans, table_words, opening_value}
use Rattle.rule.specs.Rule.{state_within_limit}
use Rattle.footprint.specs.Table.{cell_number, analysed}
use Rattle.footprint.proofs.ConflictLaws.{row_exact}
use Rattle.wire.proofs.ListLaws.{map_at}
use Rattle.footprint.specs.KeyWords.{RisingKeys}
use Rattle.footprint.proofs.TableLaws.{cell_lt, number_key}
use Rattle.footprint.proofs.TableWordLaws.{words_length}
use Rattle.block.specs.BlockOfFile.{block_in, block_of, opening_keys}
use Rattle.footprint.specs.BlockSets.{all_sets, analysis_of, TableOf}
use Rattle.footprint.proofs.AnalysedLaws.{Complete, analysed_complete}
use Rattle.footprint.specs.Listed.{EveryListed}
use Rattle.machine.specs.Run.{Run, Sizes, sizes_of, large_enough, row_in}
use Rattle.machine.specs.Waits.{waits_set}
use Rattle.machine.specs.Opening.{head_of, opening_of}
use Rattle.machine.specs.Step.{cell_at}
use Rattle.machine.specs.CallInRun.{Hold}
use Rattle.machine.proofs.WaitLaws.{each_length}
use Rattle.guarantees.proofs.AcceptedOpening.PlanWords.{plans_length}
use Rattle.guarantees.proofs.AcceptedOpening.OpeningLimit.{opening_limit}
use Rattle.guarantees.specs.Demand1.{Large}
use Rattle.guarantees.proofs.AcceptedOpening.OpeningPassed.{large_sizes, run_with, Made, opening_made}
use Rattle.guarantees.proofs.AcceptedOpening.OpenedCalls.{CallOpened, call_opened}

-- A run that was opened for a file with its block and table, in buffers of the given sizes.
pub record OpenedWith (s : Sizes) (file : List ℕ) (workers : ℕ) (b : Block) (table : List ℕ) (r : Run) : Type 0 where
  -- The sizes, and the number of workers.
  pub large : large_enough s ≡ true
  pub sizes : sizes_of r ≡ s
  pub some_workers : 0 < workers
  pub few_workers : workers ≤ max_workers
  -- The head; every call waits and carries its number, and no old value is kept.
  pub head : r.head ≡ head_of workers (length b.calls) (length table) b.first_call
  pub status : r.status ≡ waits_set r.plan (length b.calls) (repeated s.status 0)
  pub seats : r.seats ≡ repeated s.seats 0
  pub frames : r.frames ≡ repeated s.frames (pos 0)
  -- The table: rising, within its limit, with every key of opening and sets; and the number of calls.
  pub rising : RisingKeys table
  pub few_keys : length table ≤ max_keys
  pub few_calls : length b.calls ≤ max_calls
  pub opening_listed : (k : ℕ) → member k (opening_keys b) ≡ true → member k table ≡ true
  pub sets_listed : EveryListed table (all_sets file b)
  -- Keys and cells.
  pub keys : r.keys ≡ padded s.keys 0 (table_words table)
  pub cells : r.cells ≡ padded s.cells (pos 0) (map (opening_value b.cells) table)
  pub hold : Hold table (opening_value b.cells) r.cells
  -- Each call, and which calls it waits for.
  pub calls : (j : ℕ) → j < length b.calls → (c : Call) × CallOpened file b table s.keys r j c
  pub waits : (i j : ℕ) → j < length b.calls
      → in_row (row_in r.plan j) i ≡ (ltb i j && conflict (get_or (all_sets file b) i []) (get_or (all_sets file b) j []))
  -- "The balance limit is: no balance below zero, their sum at most 2^63 - 1."
  pub limit : state_within_limit (opening_value b.cells) ≡ true

-- What an accepted opening leaves.
pub record AfterOpening (s : Sizes) (file : List ℕ) (workers : ℕ) : Type 0 where
  pub table : List ℕ
  pub read : read_block file ≡ accepted (block_of file)
  pub whole : EndsFile file (block_of file)
  pub tabled : TableOf file table
  pub opened : OpenedWith s file workers (block_of file) table (opening_of s file workers).run

-- ---- the cells

holds : (cells : List ℤ) (room : ℕ) (table : List ℕ) (σ : ℕ → ℤ) → max_keys ≤ room → length table ≤ max_keys
    → cells ≡ padded room (pos 0) (map σ table) → Hold table σ cells
holds cells room table σ large few e =
    record {
      room = rw (e, padded_length room (pos 0) (map σ table) (rw (length-map table σ) (omega arith))) large;
      same = λ k m.
          let inside : cell_number table k < length table = cell_lt table k m in
          ap (λ (l : List ℤ). cell_at l (cell_number table k)) e
          ∙ get_or-append (map σ table) _ (pos 0) (cell_number table k) (rw (length-map table σ) inside)
          ∙ map_at σ table (cell_number table k) 0 (pos 0) inside
          ∙ ap σ (number_key table k m);
    }

-- ---- the run

module _ (s : Sizes) (file : List ℕ) (workers : ℕ) (bytes : (i : ℕ) → get_or file i 0 < 256) (b : Block) (table : List ℕ) (whole : EndsFile file b)
    (complete : Complete file b (all_sets file b) table) where
  same_length : length b.calls ≡ length (all_sets file b)
  same_length = sym (length-map b.calls _)

  made_sizes : Large s → sizes_of (run_with s workers b (all_sets file b) table) ≡ s
  unfolding repeated
  made_sizes large =
      let few_calls : length b.calls ≤ 256 = whole.laws.call_limit in
      let few_keys : length table ≤ max_keys = complete.few in
      let plan : max_calls * 32 ≤ s.plan = large.plan in
      let keys : max_keys * 2 ≤ s.keys = large.keys in
      let cells : max_keys ≤ s.cells = large.cells in
      let words : length (plans b.functions table [] b.calls (all_sets file b)) ≤ s.plan =
      omega (arith, plans_length b.functions table [] b.calls (all_sets file b) same_length complete.short) in
      let status : length (run_with s workers b (all_sets file b) table).status ≡ s.status =
      each_length _ (repeated s.status 0) (length b.calls) ∙ length-replicate {A = ℕ} s.status 0 in
      λ i. record {
        plan = padded_length s.plan 0 (plans b.functions table [] b.calls (all_sets file b)) words i;
        keys = padded_length s.keys 0 (table_words table) (omega (arith, words_length table)) i;
        cells = padded_length s.cells (pos 0) (map (opening_value b.cells) table) (omega (arith, length-map table (opening_value b.cells))) i;
        status = status i;
        seats = length-replicate {A = ℕ} s.seats 0 i;
        frames = length-replicate {A = ℤ} s.frames (pos 0) i;
      }

  -- The run that is made of a block and its table.
  made_opened : large_enough s ≡ true → 0 < workers → workers ≤ max_workers → OpenedWith s file workers b table (run_with s workers b (all_sets file b) table)
  made_opened large low high =
      let r : Run = run_with s workers b (all_sets file b) table in
      let calls : (j : ℕ) → j < length b.calls → (c : Call) × CallOpened file b table s.keys r j c =
      call_opened file bytes b whole table complete.listed complete.short r s.plan s.keys refl refl in
      record {
        large = large;
        sizes = made_sizes (large_sizes s large);
        some_workers = low;
        few_workers = high;
        head = refl;
        status = refl;
        seats = refl;
        frames = refl;
        rising = complete.rising;
        few_keys = complete.few;
        few_calls = whole.laws.call_limit;
        opening_listed = complete.opening;
        sets_listed = complete.listed;
        keys = refl;
        cells = refl;
        hold = holds r.cells s.cells table (opening_value b.cells) (large_sizes s large).cells complete.few refl;
        calls = calls;
        waits = λ i j less.
            let c = calls j less in
            rw (c.1.row, ← c.1.own) (row_exact (all_sets file b) j i (rw (← same_length) less) (rw (← same_length) whole.laws.call_limit));
        limit = opening_limit b.cells (opening_within file b bytes whole.laws);
      }

-- ---- the theorem

-- What was read is the file's block.
block_is : (file : List ℕ) (b : Block) → read_block file ≡ accepted b → block_of file ≡ b
unfolding block_in
block_is file b e = ap block_in e

-- A run that is made of a block and some sets, which the analysis gave.
record From (s : Sizes) (file : List ℕ) (workers : ℕ) (table : List ℕ) (r : Run) (b : Block) (sets : List (List Access)) : Type 0 where
  read : read_block file ≡ accepted b
  analysis : analysis_of file b ≡ analysed sets table
  complete : Complete file b sets table
  is : r ≡ run_with s workers b sets table

pub after_opening : (s : Sizes) (file : List ℕ) (workers : ℕ) → ((i : ℕ) → get_or file i 0 < 256)
    → (opening_of s file workers).answer ≡ (Ok tt) → AfterOpening s file workers
after_opening s file workers bytes answer =
    let m : Made s file workers (opening_of s file workers) = opening_made s file workers answer in
    let r : Run = (opening_of s file workers).run in
    let table : List ℕ = m.keys in
    let complete : Complete file m.block m.sets table = analysed_complete file m.block m.sets table m.read m.analysis in
    let first : From s file workers table r m.block m.sets = record { read = m.read; analysis = m.analysis; complete = complete; is = m.is } in
    let second : From s file workers table r m.block (all_sets file m.block) =
    subst (λ (t : List (List Access)). From s file workers table r m.block t) complete.all first in
    let f : From s file workers table r (block_of file) (all_sets file (block_of file)) =
    subst⁻¹ (λ (b : Block). From s file workers table r b (all_sets file b)) (block_is file m.block m.read) second in
    let whole : EndsFile file (block_of file) = accepted_laws file (block_of file) f.read in
    record {
      table = table;
      read = f.read;
      whole = whole;
      tabled = record { read = f.read; analysis = f.analysis };
      opened =
          subst⁻¹ (OpenedWith s file workers (block_of file) table) f.is
          (made_opened s file workers bytes (block_of file) table whole f.complete m.large m.low m.high);
    }
