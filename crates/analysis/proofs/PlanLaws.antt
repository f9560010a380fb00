-- Laws of the plan in its buffer: the words of a call behind those of the calls before it, with the masks kept along.
use Rattle.std.specs.Prelude.{None, Option, Some}
use mathlib.Core.Path.{◌≡◌, refl, sym, ap, ap₂, ◌∙◌}
use mathlib.Core.List.{List, [], ◌∷◌, ◌++◌, map, append_assoc, append-nil}
use Prim.Native.Nat.{ℕ, zero, suc, ◌+◌, ◌-◌, ◌*◌, ◌≤◌, ◌<◌}
use native.Mathlib.Nat.{not-suc-le-zero, le_of_suc-le-suc, sub-zero}
use native.Mathlib.Numerals.{add-one}
use native.Mathlib.Omega.{arith}
use lib.ListN.{length, get_or, take, drop, replicate, length-append, length-replicate, length-map}
use lib.Seq.{take-append_seam, drop-append-add, take-suc, take_all, length-take-le}
use Rattle.wire.specs.Bytes.{repeated, padded, stored}
use Rattle.wire.proofs.RowLaws.{row_of_is_row}
use Rattle.wire.proofs.BytesLaws.{stored_inside}
use Rattle.block.specs.Limits.{max_calls, max_call_keys}
use Rattle.block.specs.Record.{Function}
use Rattle.block.specs.declared.Call.{Call}
use Rattle.footprint.specs.Access.{Access}
use Rattle.footprint.specs.Sets.{sets_of}
use Rattle.block.specs.Naming.{function_of}
use Rattle.footprint.specs.Conflict.{row_for, conflict_bits}
use Rattle.footprint.specs.Plan.{plan_words, entry_word, code_words, call_plan, plans, entry_writes}
use Rattle.analysis.specs.Planned.{column}
use Rattle.block.specs.BlockOfFile.{block_of, function_at}
use Rattle.footprint.specs.BlockSets.{all_sets, sets_at, TableOf}
use Rattle.footprint.proofs.AnalysedLaws.{Complete, analysed_complete}
use Rattle.footprint.specs.EntryUses.{entry_touches_cell, entry_words}
use Rattle.analysis.specs.Masks.{mask_words, mask_row_words, add_call_words, MasksFor}
use Rattle.footprint.specs.Listed.{AllListed, EveryListed}
use Rattle.analysis.proofs.MaskBuffers.{sets_row, sets_more, sets_none}
use Rattle.analysis.specs.Planned.{call_words}

-- ---- lists in cleared buffers

module _ {A : Type 0} where
  drop_replicate : (m n : ℕ) (a : A) → drop m (replicate n a) ≡ replicate (n - m) a
  drop_replicate zero n a = ap (λ (k : ℕ). replicate k a) (sym (sub-zero n))
  drop_replicate (suc m) zero a = ap (λ (k : ℕ). replicate k a) zero_left
    where
      zero_left : 0 ≡ 0 - suc m
      zero_left = omega arith
  drop_replicate (suc m) (suc n) a = drop_replicate m n a ∙ ap (λ (k : ℕ). replicate k a) less
    where
      less : n - m ≡ suc n - suc m
      less = omega arith

  -- A list stored behind another in a buffer that is cleared from there on.
  pub stored_padded : (n : ℕ) (a : A) (l ws : List A) → length l + length ws ≤ n → stored (padded n a l) (length l) ws ≡ padded n a (l ++ ws)
  unfolding repeated
  stored_padded n a l ws h =
      let rest : List A = replicate (n - length l) a in
      let room : length l + length ws ≤ length (l ++ rest) = simp (length-append, length-replicate) (omega arith) in
      let less : n - length l - length ws ≡ n - length (l ++ ws) = rw (length-append l ws) (omega arith) in
      stored_inside ws (l ++ rest) (length l) room
      ∙ rw (take-append_seam l rest, drop-append-add l rest (length ws), drop_replicate (length ws) (n - length l) a)
      (ap (λ (k : ℕ). l ++ ws ++ replicate k a) less)

-- ---- the words of a call

pub code_length_lem : (f : Option Function) → length (code_words f) ≡ 2
unfolding code_words
code_length_lem None = refl
code_length_lem (Some f) = refl

pub column_length : (f : Access → ℕ) (es : List Access) → length es ≤ max_call_keys → length (column f es) ≡ max_call_keys
unfolding repeated
column_length f es h = simp (length-append, length-replicate, length-map) (omega arith)

-- A call has 32 words.
pub call_words_length : (f : Option Function) (table : List ℕ) (es : List Access) (row : List ℕ) → length es ≤ max_call_keys → length row ≡ 4
    → length (call_words f table es row) ≡ plan_words
call_words_length f table es row short four =
    let code : length (code_words f) ≡ 2 = code_length_lem f in
    let mid : length (column (entry_word table) es) ≡ 24 = column_length (entry_word table) es short in
    simp (
      length-append (code_words f ++ (length es ∷ []) ++ column (entry_word table) es ++ row) (0 ∷ []),
      length-append (code_words f ++ (length es ∷ []) ++ column (entry_word table) es) row,
      length-append (code_words f ++ (length es ∷ [])) (column (entry_word table) es),
      length-append (code_words f) (length es ∷ []),
      code,
      mid,
      four,
    )

-- ---- the words of all calls

-- Every set is one of at most 24 keys.
abbrev pub Short : List (List Access) → Type 0
Short sets = (i : ℕ) → length (get_or sets i []) ≤ max_call_keys

module _ (functions : List Function) (table : List ℕ) where
  abbrev words_at : List (List Access) → List Call → List (List Access) → ℕ → List ℕ
  words_at earlier cs ss j =
      call_words (get_or (map (function_of functions) cs) j None) table (get_or ss j []) (row_for (earlier ++ take j ss) (get_or ss j []))

  -- One call more.
  pub plans_next : (earlier : List (List Access)) (cs : List Call) (ss : List (List Access)) (j : ℕ) → j < length cs → length ss ≡ length cs
      → plans functions table earlier (take (suc j) cs) (take (suc j) ss) ≡ plans functions table earlier (take j cs) (take j ss) ++ words_at earlier cs ss j
  unfolding plans call_plan
  plans_next earlier [] ss j h e = absurd (not-suc-le-zero h)
  plans_next earlier (c ∷ cs) [] j h e = absurd (omega arith)
  plans_next earlier (c ∷ cs) (s ∷ ss) zero h e = rw (append-nil (call_plan functions table earlier c s), append-nil earlier)
  plans_next earlier (c ∷ cs) (s ∷ ss) (suc j) h e =
      let same : length ss ≡ length cs = omega arith in
      ap (λ (ws : List ℕ). call_plan functions table earlier c s ++ ws) (plans_next (earlier ++ (s ∷ [])) cs ss j (le_of_suc-le-suc h) same)
      ∙ sym (append_assoc (call_plan functions table earlier c s) (plans functions table (earlier ++ (s ∷ [])) (take j cs) (take j ss)) (words_at (earlier ++ (s ∷ [])) cs ss j))
      ∙ rw (append_assoc earlier (s ∷ []) (take j ss))

  pub plans_so_far_length : (cs : List Call) (ss : List (List Access)) (j : ℕ) → j ≤ length cs → length ss ≡ length cs → Short ss
      → length (plans functions table [] (take j cs) (take j ss)) ≡ plan_words * j
  unfolding plans
  plans_so_far_length cs ss zero h e short = refl
  plans_so_far_length cs ss (suc j) h e short =
      let front : length (plans functions table [] (take j cs) (take j ss)) ≡ 32 * j = plans_so_far_length cs ss j (omega arith) e short in
      let four : length (row_for (take j ss) (get_or ss j [])) ≡ 4 = (row_of_is_row (conflict_bits (take j ss) (get_or ss j []))).four in
      let this : length (words_at [] cs ss j) ≡ 32 =
      call_words_length (get_or (map (function_of functions) cs) j None) table (get_or ss j []) (row_for (take j ss) (get_or ss j [])) (short j) four in
      rw (plans_next [] cs ss j h e, length-append (plans functions table [] (take j cs) (take j ss)) (words_at [] cs ss j)) (omega arith)

-- ---- the plan so far

-- What holds of the sets and the table of a file whose analysis refuses nothing.
pub complete : (file table : List ℕ) → TableOf file table → Complete file (block_of file) (all_sets file (block_of file)) table
complete file table h = analysed_complete file (block_of file) (all_sets file (block_of file)) table h.read h.analysis

module _ (file table : List ℕ) where
  abbrev functions : List Function
  functions = (block_of file).functions

  abbrev calls : List Call
  calls = (block_of file).calls

  abbrev sets : List (List Access)
  sets = all_sets file (block_of file)

  -- A buffer of the given size that holds the words of the first j calls, and two with the masks of their sets.
  pub record PlannedTo (j size : ℕ) (plan touched writers : List ℕ) : Type 0 where
    pub words : plan ≡ padded size 0 (plans functions table [] (take j calls) (take j sets))
    pub masks : MasksFor table touched writers (take j sets)

  -- Cleared buffers hold the plan of no calls.
  pub planned_none : (size : ℕ) (plan : List ℕ) (m n : ℕ) → plan ≡ repeated size 0 → mask_words ≤ m → mask_words ≤ n
      → PlannedTo 0 size plan (replicate m 0) (replicate n 0)
  unfolding plans repeated
  planned_none size plan m n e h k = record { words = e ∙ ap (λ (k : ℕ). repeated k 0) (sym (sub-zero size)); masks = sets_none table m n h k }

  module _ (known : Complete file (block_of file) (all_sets file (block_of file)) table) where
    same_count : length sets ≡ length calls
    same_count = length-map calls (sets_of file functions)

    listed_at : (ss : List (List Access)) (j : ℕ) → EveryListed table ss → AllListed table (get_or ss j [])
    listed_at [] j h = tt
    listed_at (s ∷ ss) zero h = h.0
    listed_at (s ∷ ss) (suc j) h = listed_at ss j h.1

    pub listed_set : (j : ℕ) → AllListed table (sets_at file j)
    listed_set j = listed_at sets j known.listed

    -- The words that the code stores for call j make the plan of one call more, and its marks the masks.
    pub planned_more : (j size : ℕ) (plan touched writers plan' touched' writers' : List ℕ) → PlannedTo j size plan touched writers
        → j < length calls → length calls ≤ max_calls → max_calls * plan_words ≤ size
        → plan' ≡ stored plan (plan_words * j)
        (call_words (function_at file j) table (sets_at file j) (mask_row_words touched writers (entry_words table (sets_at file j))))
        → touched' ≡ add_call_words entry_touches_cell touched j (entry_words table (sets_at file j))
        → writers' ≡ add_call_words entry_writes writers j (entry_words table (sets_at file j))
        → PlannedTo (j + 1) size plan' touched' writers'
    planned_more j size plan touched writers plan' touched' writers' so_far low few room p t w =
        let s : List Access = sets_at file j in
        let long : length (take j sets) ≡ j = length-take-le j sets (rw same_count (omega arith)) in
        let last : take (suc j) sets ≡ take j sets ++ (s ∷ []) = take-suc sets j [] (rw same_count low) in
        let row : mask_row_words touched writers (entry_words table s) ≡ row_for (take j sets) s =
        sets_row table touched writers (take j sets) so_far.masks s (listed_set j) known.few (rw long (omega arith)) in
        let before : List ℕ = plans functions table [] (take j calls) (take j sets) in
        let this : List ℕ = call_words (function_at file j) table s (row_for (take j sets) s) in
        let at : length before ≡ plan_words * j = plans_so_far_length functions table calls sets j (omega arith) same_count known.short in
        let size_of : length this ≡ 32 =
        call_words_length (function_at file j) table s (row_for (take j sets) s) (known.short j) (row_of_is_row (conflict_bits (take j sets) s)).four in
        record {
          words =
              p ∙ ap₂ (λ (l r : List ℕ). stored l (plan_words * j) (call_words (function_at file j) table s r)) so_far.words row
              ∙ ap (λ (i : ℕ). stored (padded size 0 before) i this) (sym at)
              ∙ stored_padded size 0 before this (omega arith)
              ∙ ap (padded size 0) (sym (plans_next functions table [] calls sets j low same_count))
              ∙ rw (add-one j);
          masks =
              rw (add-one j, last, t, w) (sets_more table touched writers (take j sets) so_far.masks s (listed_set j) j long (omega arith));
        }

    -- Behind all calls it is the plan of the block.
    pub planned_all : (j size : ℕ) (plan touched writers : List ℕ) → PlannedTo j size plan touched writers → length calls ≤ j
        → plan ≡ padded size 0 (plans functions table [] calls sets)
    planned_all j size plan touched writers h e =
        h.words ∙ ap₂ (λ (cs : List Call) (ss : List (List Access)). padded size 0 (plans functions table [] cs ss))
        (take_all j calls e) (take_all j sets (rw same_count e))
