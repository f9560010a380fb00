-- The mathematics of the proofs on the calls' keys, over plain variables: the keys of one set, and the table call by call.
use mathlib.Core.Path.{◌≡◌, refl, sym, ap, ap₂, ◌∙◌, subst⁻¹}
use mathlib.Core.Bool.{false}
use mathlib.Core.List.{List, [], ◌∷◌, ◌++◌}
use Prim.Native.Nat.{ℕ, ◌+◌, ◌*◌, ◌≤◌, ◌<◌}
use native.Mathlib.Numerals.{add-one}
use native.Mathlib.Omega.{arith}
use borrow.Author.Tests.{le-ltb, lt-ltb}
use lib.Dec.{ltb}
use lib.ListN.{length, get_or, take, drop, length-map, drop_of_length-le}
use lib.Seq.{take-suc, drop-cons}
use Rattle.std.specs.Prelude.{Option, Ok, Err, Result, IsErrAnd, ok_or}
use Rattle.std.specs.declared.option.Option.TheVariants.{None, Some}
use Rattle.wire.specs.Bytes.{padded}
use Rattle.block.specs.Limits.{max_bytes, max_call_keys, max_keys}
use Rattle.block.specs.Record.{Block, call_record_bytes}
use Rattle.block.specs.declared.Call.{Call}
use Rattle.block.specs.declared.Refusal.{Refusal}
use Rattle.block.specs.declared.Refusal.TheVariants.{CallKeys, AllKeys}
use Rattle.footprint.specs.Access.{Access}
use Rattle.footprint.specs.Plan.{table_words}
use Rattle.footprint.specs.Sets.{sets_of}
use Rattle.footprint.specs.Table.{analysed, refused, analyse, insert_key, insert_keys}
use Rattle.reader.specs.declared.Layout.{Layout}
use Rattle.analysis.specs.Collected.{CollectedAs}
use Rattle.footprint.proofs.AnalysedLaws.{analyse_over, analyse_full, analyse_next, opening_sound}
use Rattle.analysis.specs.Filling.{KeysFilled, set_key, set_keys, insert_all, count_of}
use Rattle.analysis.proofs.FillingLaws.{keys_left, keys_none, set_keys_lem, set_worded, insert_all_lem, fitting_all, count_none, count_some, filled_none, filled_full, filled_more}
use Rattle.analysis.specs.Gathered.{Holds, Worded}
use Rattle.key_uses.specs.Uses.{no_use}
use Rattle.footprint.specs.KeyWords.{keys_in}
use Rattle.analysis.specs.KeyTable.{Inserted, Tabled}
use Rattle.reader.specs.LayoutOfBlock.{LayoutOfBlock}
use Rattle.block.specs.BlockOfFile.{block_of, opening_keys}
use Rattle.footprint.specs.BlockSets.{all_sets, sets_at, analysis_of}
use Rattle.wire.proofs.ListLaws.{map_at}
use Rattle.analysis.proofs.LayoutLaws.{default_call, laid_whole, laid_cells, laid_calls, laid_first, call_within}
use Rattle.footprint.proofs.TableLaws.{rising_inserts}
use Rattle.footprint.proofs.TableWordLaws.{words_length, keys_length, keys_padded}
use Rattle.analysis.proofs.TableWords.{tabled, inserted_tabled, inserted_length}
use Rattle.wire.proofs.BytesLaws.{padded_length}
use Rattle.analysis.specs.declared.Sets.{Sets}

-- ---- the keys of one set

-- Behind the first i keys: what the rest of them leads to, all of them lead to.
pub record Filling (n : ℕ) (old : List ℕ) (s : Sets) (words : List ℕ) (count i : ℕ) : Type 0 where
  pub tabled : Tabled count words
  pub kept : length words ≡ length old
  pub rest : (r : Option ℕ) (after : List ℕ) → KeysFilled count words (drop i (set_keys s)) r after → KeysFilled n old (set_keys s) r after

module _ (n : ℕ) (old : List ℕ) (s : Sets) (words : List ℕ) (count i : ℕ) (g : Filling n old s words count i) where
  abbrev key : ℕ
  key = set_key (get_or (take s.count s.keys) i no_use)

  next_rest : i < length (take s.count s.keys) → (r : Option ℕ) (after : List ℕ) → KeysFilled count words (key ∷ drop (i + 1) (set_keys s)) r after → KeysFilled n old (set_keys s) r after
  next_rest h r after f = g.rest r after (rw (keys_left s i h) f)

  module _ (h : i < length (take s.count s.keys)) (r : ℕ) (after : List ℕ) (put : Inserted count words key r after) where
    pub filling_full : max_keys < r → KeysFilled n old (set_keys s) None after
    filling_full full =
        let many : max_keys < length (insert_key (keys_in count words) key) = rw put.counted at full in
        next_rest h None after (rw put.held (filled_full count words g.tabled key (drop (i + 1) (set_keys s)) many))

    pub filling_more : r ≤ max_keys → Filling n old s after r (i + 1)
    filling_more room =
        let fits : length (insert_key (keys_in count words) key) ≤ max_keys = rw put.counted at room in
        record {
          tabled = rw (put.counted, put.held) (inserted_tabled count words key g.tabled fits);
          kept = ap length put.held ∙ inserted_length count words key g.tabled ∙ g.kept;
          rest = λ q last f. next_rest h q last (filled_more count words g.tabled key (drop (i + 1) (set_keys s)) fits (rw (put.counted, put.held) at f));
        }

  pub filling_end : length (take s.count s.keys) ≤ i → KeysFilled n old (set_keys s) (Some count) words
  filling_end h = g.rest (Some count) words (rw (keys_none s i h) (filled_none count words g.tabled))

-- ---- the calls

-- Behind the first j calls: the analysis goes on from the table in the buffer.
pub record Collecting (file old keys : List ℕ) (n j : ℕ) : Type 0 where
  pub tabled : Tabled n keys
  pub kept : length keys ≡ length old
  pub same :
      analysis_of file (block_of file)
      ≡ analyse file (block_of file).functions (drop j (block_of file).calls) ((block_of file).first_call + call_record_bytes * j) (take j (all_sets file (block_of file))) (keys_in n keys)

module _ (file : List ℕ) (l : Layout) (laid : LayoutOfBlock file l) where
  abbrev block : Block
  block = block_of file

  start_from : (m : ℕ) (keys : List ℕ) → 2 * max_keys ≤ m → keys ≡ padded m 0 (table_words (opening_keys block))
      → Tabled l.cells keys × (keys_in l.cells keys ≡ opening_keys block)
  start_from m keys room e =
      let count : l.cells ≡ length (opening_keys block) =
      laid_cells file l laid ∙ sym (length-map block.cells (λ c. c.key)) in
      let sound = opening_sound file block (laid_whole file l laid).laws in
      rw (count, e) (tabled (opening_keys block) m sound.rising sound.few room, keys_padded m (opening_keys block))

  pub collecting_start : (keys : List ℕ) → 2 * max_keys ≤ length keys → keys ≡ padded (length keys) 0 (table_words (opening_keys block))
      → Collecting file keys keys l.cells 0
  collecting_start keys room e =
      let from = start_from (length keys) keys room e in
      let here : block.first_call ≡ block.first_call + call_record_bytes * 0 = omega arith in
      record {
        tabled = from.0;
        kept = refl;
        same = ap₂ (λ (at : ℕ) (t : List ℕ). analyse file block.functions block.calls at [] t) here (sym from.1);
      }

  module _ (old keys : List ℕ) (n j : ℕ) (g : Collecting file old keys n j) where
    pub going_place : j < l.calls → (l.first_call + call_record_bytes * j + 4 ≤ max_bytes) × (j < length (block_of file).calls)
    going_place h =
        let calls : l.calls ≡ length block.calls = laid_calls file l laid in
        let inside : j < length block.calls = omega arith in
        (call_within file l laid j inside, inside)

    module _ (h : j < length (block_of file).calls) where
      abbrev call : Call
      call = get_or block.calls j default_call

      set_is : sets_of file block.functions call ≡ sets_at file j
      set_is = sym (map_at (sets_of file block.functions) block.calls j default_call [] h)

      next_call : analysis_of file block
          ≡ analyse file block.functions (call ∷ drop (j + 1) block.calls) (block.first_call + call_record_bytes * j) (take j (all_sets file block)) (keys_in n keys)
      next_call =
          g.same
          ∙ ap (λ (cs : List Call). analyse file block.functions cs (block.first_call + call_record_bytes * j) (take j (all_sets file block)) (keys_in n keys))
          (drop-cons block.calls j default_call h ∙ ap (λ (m : ℕ). call ∷ drop m block.calls) (sym (add-one j)))

      -- Refusal 11.
      pub going_over : (at : ℕ) → at ≡ l.first_call + call_record_bytes * j → max_call_keys < length (sets_at file j) → analysis_of file (block_of file) ≡ refused (CallKeys at)
      going_over at place over =
          next_call
          ∙ analyse_over file block.functions call (drop (j + 1) block.calls) (block.first_call + call_record_bytes * j) (take j (all_sets file block)) (keys_in n keys)
          (lt-ltb max_call_keys (length (sets_of file block.functions call)) (rw set_is over))
          ∙ ap (λ (m : ℕ). refused (CallKeys m)) (sym (place ∙ ap (λ (m : ℕ). m + call_record_bytes * j) (laid_first file l laid)))

      module _ (s : Sets) (e : Holds s (sets_at file j)) where
        pub set_words : Worded s
        set_words = set_worded s (sets_at file j) e

        fits : ltb max_call_keys (length (sets_of file block.functions call)) ≡ false
        fits =
            let few : s.count ≤ max_call_keys = s.few in
            let count : s.count ≡ length (sets_at file j) = e.count in
            le-ltb max_call_keys (length (sets_of file block.functions call)) (rw set_is (omega arith))

        module _ (r : Option ℕ) (after : List ℕ) (f : KeysFilled n keys (set_keys s) r after) where
          abbrev next : List ℕ
          next = insert_keys (keys_in n keys) (sets_of file block.functions call)

          all_is : insert_all (keys_in n keys) (set_keys s) ≡ next
          all_is =
              ap (insert_all (keys_in n keys)) (set_keys_lem s (sets_at file j) e)
              ∙ insert_all_lem (keys_in n keys) (sets_at file j) ∙ ap (insert_keys (keys_in n keys)) (sym set_is)

          counted : r ≡ count_of next
          counted = f.counted ∙ ap count_of all_is

          -- Refusal 12.
          pub going_full : (at : ℕ) → at ≡ l.first_call + call_record_bytes * j → r ≡ None → analysis_of file (block_of file) ≡ refused (AllKeys at)
          going_full at place full =
              next_call
              ∙ analyse_full file block.functions call (drop (j + 1) block.calls) (block.first_call + call_record_bytes * j) (take j (all_sets file block)) (keys_in n keys)
              fits (lt-ltb max_keys (length next) (count_none next (sym full ∙ counted)))
              ∙ ap (λ (m : ℕ). refused (AllKeys m)) (sym (place ∙ ap (λ (m : ℕ). m + call_record_bytes * j) (laid_first file l laid)))

          -- The table behind call j.
          after_is : length next ≤ max_keys → after ≡ padded (length keys) 0 (table_words next)
          after_is few =
              f.held
              ∙ ap (λ (t : List ℕ). padded (length keys) 0 (table_words t))
              (fitting_all (keys_in n keys) (set_keys s) (rw all_is few) ∙ all_is)

          pub collecting_more : {m : ℕ} → r ≡ Some m → Collecting file old after m (j + 1)
          collecting_more {m} some =
              let size : m ≡ length next = (count_some next (sym some ∙ counted)).0 in
              let few : length next ≤ max_keys = (count_some next (sym some ∙ counted)).1 in
              let made : Tabled (length next) (padded (length keys) 0 (table_words next)) =
              tabled next (length keys) (rising_inserts (keys_in n keys) (sets_of file block.functions call) g.tabled.rising) few g.tabled.room in
              let space : 2 * max_keys ≤ length keys = g.tabled.room in
              let within : length (table_words next) ≤ length keys = rw (words_length next) (omega arith) in
              let there : block.first_call + call_record_bytes * j + call_record_bytes ≡ block.first_call + call_record_bytes * (j + 1) = omega arith in
              let sets : take j (all_sets file block) ++ (sets_of file block.functions call ∷ []) ≡ take (j + 1) (all_sets file block) =
              ap (λ (es : List Access). take j (all_sets file block) ++ (es ∷ [])) set_is
              ∙ sym (ap (λ (m : ℕ). take m (all_sets file block)) (add-one j) ∙ take-suc (all_sets file block) j [] (simp length-map h)) in
              let table : next ≡ keys_in m after =
              sym (ap₂ keys_in size (after_is few) ∙ keys_padded (length keys) next) in
              record {
                tabled = rw (size, after_is few) made;
                kept = ap length (after_is few) ∙ padded_length (length keys) 0 (table_words next) within ∙ g.kept;
                same =
                    next_call
                    ∙ analyse_next file block.functions call (drop (j + 1) block.calls) (block.first_call + call_record_bytes * j) (take j (all_sets file block)) (keys_in n keys)
                    fits (le-ltb max_keys (length next) few)
                    ∙ ap₂ (λ (at : ℕ) (t : List ℕ). analyse file block.functions (drop (j + 1) block.calls) at (take j (all_sets file block) ++ (sets_of file block.functions call ∷ [])) t) there table
                    ∙ ap (λ (e : List (List Access)). analyse file block.functions (drop (j + 1) block.calls) (block.first_call + call_record_bytes * (j + 1)) e (keys_in m after)) sets;
              }

    -- Behind the last call the analysis is done.
    pub collecting_end : l.calls ≤ j → CollectedAs (length old) (Ok n) keys (analysis_of file (block_of file))
    unfolding analyse CollectedAs
    collecting_end h =
        let calls : l.calls ≡ length block.calls = laid_calls file l laid in
        let done : analysis_of file block ≡ analysed (take j (all_sets file block)) (keys_in n keys) =
        g.same
        ∙ ap (λ (cs : List Call). analyse file block.functions cs (block.first_call + call_record_bytes * j) (take j (all_sets file block)) (keys_in n keys))
        (drop_of_length-le block.calls {i = j} (omega arith)) in
        subst⁻¹ (CollectedAs (length old) (Ok n) keys) done
        (sym (keys_length n keys), g.tabled.same ∙ ap (λ (m : ℕ). padded m 0 (table_words (keys_in n keys))) g.kept)

-- What is not there is told as a refusal.
told_none : {A : Type 0} (o : Option A) {told why : Refusal} → ◌≡◌ {A = Result A Refusal} (Err told) (ok_or o why) → told ≡ why
told_none None e = cc
told_none (Some x) e = let z : ◌≡◌ {A = ℕ} 0 1 = cc in absurd (omega arith)

-- A refusal is handed on.
pub going_refused : (file : List ℕ) (room : ℕ) (keys : List ℕ) {A : Type 0} (r : Result ℕ Refusal) (o : Option A) {told why : Refusal}
    → IsErrAnd r (λ e. e ≡ told) → ◌≡◌ {A = Result A Refusal} (Err told) (ok_or o why) → analysis_of file (block_of file) ≡ refused why
    → CollectedAs room r keys (analysis_of file (block_of file))
unfolding CollectedAs
going_refused file room keys (Ok n) o h e f = absurd h
going_refused file room keys (Err handed) o h e f = subst⁻¹ (CollectedAs room (Err handed) keys) f (h ∙ told_none o e)
