-- Where the plan of a block keeps the words of each call: 32 words a call, in block order.
use Rattle.std.specs.Prelude.{None, Option, Some}
use mathlib.Core.Path.{◌≡◌, refl, sym, ap, ap₂, ◌∙◌}
use mathlib.Core.List.{List, [], ◌∷◌, ◌++◌, map, append_assoc, append-nil}
use Prim.Native.Nat.{ℕ, zero, suc, ◌+◌, ◌-◌, ◌*◌, ◌≤◌, ◌<◌}
use native.Mathlib.Omega.{arith}
use lib.ListN.{length, get_or, take, drop, length-append, length-map}
use lib.Seq.{get_or-drop, drop-drop, drop-append-add, take_at}
use Rattle.wire.specs.Bytes.{repeated, padded}
use Rattle.wire.proofs.BytesLaws.{padded_length}
use Rattle.wire.proofs.RowLaws.{row_of_is_row}
use Rattle.block.specs.Limits.{max_call_keys}
use Rattle.block.specs.Record.{Function}
use Rattle.block.specs.declared.Call.{Call}
use Rattle.footprint.specs.Access.{Access}
use Rattle.block.specs.Naming.{function_of}
use Rattle.footprint.specs.Conflict.{conflict_bits, row_for}
use Rattle.footprint.specs.Plan.{plan_words, entry_word, code_words, call_plan, plans}

-- ---- lists one behind another

module _ {A : Type 0} where
  take_front : (p a b c d : List A) → take (length p) ((((p ++ a) ++ b) ++ c) ++ d) ≡ p
  take_front [] a b c d = refl
  take_front (x ∷ p) a b c d = ap (λ (l : List A). x ∷ l) (take_front p a b c d)

  drop_front : (p a b c : List A) → drop (length p) (((p ++ a) ++ b) ++ c) ≡ (a ++ b) ++ c
  drop_front [] a b c = refl
  drop_front (x ∷ p) a b c = drop_front p a b c

-- ---- the words of one call

-- The plan has the given words from a place on.
pub record Has (plan : List ℕ) (n : ℕ) (words : List ℕ) : Type 0 where
  pub more : List ℕ
  pub same : drop n plan ≡ words ++ more

-- The two words of a code, the number of keys, the entries, the row and a last word.
abbrev call_words : Option Function → ℕ → (entries row : List ℕ) → List ℕ
call_words f n entries row = code_words f ++ (n ∷ []) ++ entries ++ row ++ (0 ∷ [])

module _ (n : ℕ) (e r more : List ℕ) where
  words_length : (f : Option Function) → length (call_words f n e r) ≡ 4 + length e + length r
  unfolding code_words
  words_length None = simp length-append (omega arith)
  words_length (Some f) = simp length-append (omega arith)

  words_start : (f : Option Function) → get_or (call_words f n e r ++ more) 0 0 ≡ get_or (code_words f) 0 0
  unfolding code_words
  words_start None = refl
  words_start (Some f) = refl

  words_code : (f : Option Function) → get_or (call_words f n e r ++ more) 1 0 ≡ get_or (code_words f) 1 0
  unfolding code_words
  words_code None = refl
  words_code (Some f) = refl

  words_count : (f : Option Function) → get_or (call_words f n e r ++ more) 2 0 ≡ n
  unfolding code_words
  words_count None = refl
  words_count (Some f) = refl

  words_behind : (f : Option Function) → drop 3 (call_words f n e r ++ more) ≡ ((e ++ r) ++ (0 ∷ [])) ++ more
  unfolding code_words
  words_behind None = refl
  words_behind (Some f) = refl

-- What the plan has for a call, at the place n.
pub record Planned (functions : List Function) (table : List ℕ) (earlier : List (List Access)) (c : Call) (es : List Access) (plan : List ℕ) (n : ℕ) : Type 0 where
  pub start : get_or plan (n + 0) 0 ≡ get_or (code_words (function_of functions c)) 0 0
  pub code : get_or plan (n + 1) 0 ≡ get_or (code_words (function_of functions c)) 1 0
  pub count : get_or plan (n + 2) 0 ≡ length es
  pub entries : take (length es) (drop (n + 3) plan) ≡ map (entry_word table) es
  pub row : take 4 (drop (n + 27) plan) ≡ row_for earlier es

module _ (functions : List Function) (table : List ℕ) (earlier : List (List Access)) (c : Call) (es : List Access) (few : length es ≤ max_call_keys) where
  abbrev entry_part : List ℕ
  entry_part = padded max_call_keys 0 (map (entry_word table) es)

  entries_length : length entry_part ≡ max_call_keys
  entries_length = padded_length max_call_keys 0 (map (entry_word table) es) (rw length-map few)

  row_length : length (row_for earlier es) ≡ 4
  row_length = (row_of_is_row (conflict_bits earlier es)).four

  pub plan_length : length (call_plan functions table earlier c es) ≡ plan_words
  unfolding call_plan
  plan_length =
      words_length (length es) entry_part (row_for earlier es) [] (function_of functions c)
      ∙ ap₂ (λ (a b : ℕ). 4 + a + b) entries_length row_length

  module _ (plan : List ℕ) (n : ℕ) (has : Has plan n (call_plan functions table earlier c es)) where
    there : drop n plan ≡ call_words (function_of functions c) (length es) entry_part (row_for earlier es) ++ has.more
    unfolding call_plan
    there = has.same

    word_at : (k : ℕ) → get_or plan (n + k) 0 ≡ get_or (call_words (function_of functions c) (length es) entry_part (row_for earlier es) ++ has.more) k 0
    word_at k = sym (get_or-drop n plan k 0) ∙ ap (λ (l : List ℕ). get_or l k 0) there

    behind : drop (n + 3) plan ≡ ((entry_part ++ row_for earlier es) ++ (0 ∷ [])) ++ has.more
    behind =
        sym (drop-drop 3 n plan) ∙ ap (λ (l : List ℕ). drop 3 l) there
        ∙ words_behind (length es) entry_part (row_for earlier es) has.more (function_of functions c)

    entries_there : take (length es) (drop (n + 3) plan) ≡ map (entry_word table) es
    entries_there =
        ap (λ (l : List ℕ). take (length es) l) behind
        ∙ ap (λ (k : ℕ). take k (((entry_part ++ row_for earlier es) ++ (0 ∷ [])) ++ has.more)) (sym (length-map es (entry_word table)))
        ∙ take_front (map (entry_word table) es) (repeated (max_call_keys - length (map (entry_word table) es)) 0) (row_for earlier es) (0 ∷ []) has.more

    row_there : take 4 (drop (n + 27) plan) ≡ row_for earlier es
    row_there =
        let far : n + 27 ≡ n + 3 + 24 = omega arith in
        ap (λ (k : ℕ). take 4 (drop k plan)) far
        ∙ ap (λ (l : List ℕ). take 4 l) (sym (drop-drop 24 (n + 3) plan) ∙ ap (λ (l : List ℕ). drop 24 l) behind)
        ∙ ap (λ (k : ℕ). take 4 (drop k (((entry_part ++ row_for earlier es) ++ (0 ∷ [])) ++ has.more))) (sym entries_length)
        ∙ ap (λ (l : List ℕ). take 4 l) (drop_front entry_part (row_for earlier es) (0 ∷ []) has.more ∙ append_assoc (row_for earlier es) (0 ∷ []) has.more)
        ∙ take_at (row_for earlier es) ((0 ∷ []) ++ has.more) 4 row_length

    pub planned : Planned functions table earlier c es plan n
    planned =
        record {
          start = word_at 0 ∙ words_start (length es) entry_part (row_for earlier es) has.more (function_of functions c);
          code = word_at 1 ∙ words_code (length es) entry_part (row_for earlier es) has.more (function_of functions c);
          count = word_at 2 ∙ words_count (length es) entry_part (row_for earlier es) has.more (function_of functions c);
          entries = entries_there;
          row = row_there;
        }

-- ---- the calls one behind another

module _ (functions : List Function) (table : List ℕ) where
  -- The plan of a block is as long as its calls need.
  pub plans_length : (earlier : List (List Access)) (calls : List Call) (sets : List (List Access))
      → length calls ≡ length sets → ((i : ℕ) → length (get_or sets i []) ≤ max_call_keys)
      → length (plans functions table earlier calls sets) ≡ plan_words * length calls
  unfolding plans
  plans_length earlier [] sets e few = refl
  plans_length earlier (c ∷ cs) [] e few = absurd (omega arith)
  plans_length earlier (c ∷ cs) (es ∷ sets) e few =
      omega (
        arith,
        length-append (call_plan functions table earlier c es) (plans functions table (earlier ++ (es ∷ [])) cs sets),
        plan_length functions table earlier c es (few 0),
        plans_length (earlier ++ (es ∷ [])) cs sets (omega arith) (λ i. few (suc i)),
      )

  -- The words of the first call are those at the front, and behind them come the others' with one set more before them.
  pub plan_has : (earlier : List (List Access)) (calls : List Call) (sets : List (List Access)) (rest : List ℕ) (j : ℕ) (d : Call)
      → length calls ≡ length sets → ((i : ℕ) → length (get_or sets i []) ≤ max_call_keys) → j < length calls
      → Has (plans functions table earlier calls sets ++ rest) (plan_words * j) (call_plan functions table (earlier ++ take j sets) (get_or calls j d) (get_or sets j []))
  unfolding plans
  plan_has earlier [] sets rest j d e few h = absurd (omega arith)
  plan_has earlier (c ∷ cs) [] rest j d e few h = absurd (omega arith)
  plan_has earlier (c ∷ cs) (es ∷ sets) rest zero d e few h =
      record {
        more = plans functions table (earlier ++ (es ∷ [])) cs sets ++ rest;
        same =
            append_assoc (call_plan functions table earlier c es) (plans functions table (earlier ++ (es ∷ [])) cs sets) rest
            ∙ ap (λ (l : List (List Access)). call_plan functions table l c es ++ (plans functions table (earlier ++ (es ∷ [])) cs sets ++ rest)) (sym (append-nil earlier));
      }
  plan_has earlier (c ∷ cs) (es ∷ sets) rest (suc j) d e few h =
      let first : List ℕ = call_plan functions table earlier c es in
      let others : List ℕ = plans functions table (earlier ++ (es ∷ [])) cs sets ++ rest in
      let long : plan_words * suc j ≡ plan_words + plan_words * j = omega arith in
      let found : Has others (plan_words * j) (call_plan functions table ((earlier ++ (es ∷ [])) ++ take j sets) (get_or cs j d) (get_or sets j [])) =
      plan_has (earlier ++ (es ∷ [])) cs sets rest j d (omega arith) (λ i. few (suc i)) (omega arith) in
      record {
        more = found.more;
        same =
            ap₂ (λ (k : ℕ) (l : List ℕ). drop k l) long (append_assoc first (plans functions table (earlier ++ (es ∷ [])) cs sets) rest)
            ∙ ap (λ (k : ℕ). drop (k + plan_words * j) (first ++ others)) (sym (plan_length functions table earlier c es (few 0)))
            ∙ drop-append-add first others (plan_words * j)
            ∙ found.same
            ∙ ap (λ (l : List (List Access)). call_plan functions table l (get_or cs j d) (get_or sets j []) ++ found.more) (append_assoc earlier (es ∷ []) (take j sets));
      }

  -- Call j in a plan that is padded to its buffer.
  pub call_planned : (calls : List Call) (sets : List (List Access)) (room j : ℕ) (d : Call)
      → length calls ≡ length sets → ((i : ℕ) → length (get_or sets i []) ≤ max_call_keys) → j < length calls
      → Planned functions table (take j sets) (get_or calls j d) (get_or sets j []) (padded room 0 (plans functions table [] calls sets)) (plan_words * j)
  call_planned calls sets room j d e few h =
      planned functions table (take j sets) (get_or calls j d) (get_or sets j []) (few j)
      (padded room 0 (plans functions table [] calls sets)) (plan_words * j)
      (plan_has [] calls sets (repeated (room - length (plans functions table [] calls sets)) 0) j d e few h)
