-- What holds where the analysis of a block refuses nothing: its sets are those of its calls, in order, and the table is rising, keeps its
-- limit and has every key of opening and sets.
use mathlib.Core.Path.{◌≡◌, refl, sym, ◌∙◌}
use mathlib.Core.Bool.{Bool, true, false}
use mathlib.Core.List.{List, [], ◌∷◌, ◌++◌, map, append-nil, append_assoc}
use Prim.Native.Nat.{ℕ, suc, ◌+◌, ◌≤◌, ◌<◌, zero-le}
use native.Mathlib.Omega.{arith}
use borrow.Author.Tests.{ltb-false, eq-eqb}
use lib.Dec.{eqb, ltb}
use lib.ListN.{length, get_or, length-map}
use Rattle.arith.proofs.ChoiceLaws.{or_left, or_right}
use Rattle.wire.specs.All.{All}
use Rattle.wire.proofs.ListLaws.{all_map, all_append, all_at}
use Rattle.block.specs.Limits.{max_call_keys, max_keys}
use Rattle.block.specs.Record.{Function, Block, call_record_bytes}
use Rattle.block.specs.Reader.{accepted, read_block}
use Rattle.block.proofs.ReaderLaws as reading
use Rattle.block.proofs.ReaderRight.{accepted_laws}
use Rattle.block.specs.declared.Call.{Call}
use Rattle.block.specs.declared.Refusal.{Refusal}
use Rattle.block.specs.declared.Refusal.TheVariants.{CallKeys, AllKeys}
use Rattle.footprint.specs.Access.{Access}
use Rattle.footprint.proofs.SetAccessLaws.{sets_used}
use Rattle.footprint.specs.Conflict.{member}
use Rattle.footprint.specs.Sets.{sets_of, access_keys}
use Rattle.block.specs.Naming.{function_of}
use Rattle.footprint.specs.Table.{analysed, refused, analyse, insert_keys}
use Rattle.footprint.specs.Listed.{AccessListed, Used, AllListed, EveryListed}
use Rattle.footprint.specs.KeyWords.{Above, RisingKeys}
use Rattle.footprint.specs.BlockSets.{all_sets, analysis_of}
use Rattle.block.specs.BlockOfFile.{opening_keys}
use Rattle.footprint.proofs.TableLaws.{rising_inserts, member_kept, member_added}

-- ---- one call of the analysis

module _ (file : List ℕ) (functions : List Function) (c : Call) (cs : List Call) (at : ℕ) (sets : List (List Access)) (table : List ℕ) where
  -- Refusal 11.
  pub analyse_over : ltb max_call_keys (length (sets_of file functions c)) ≡ true
      → analyse file functions (c ∷ cs) at sets table ≡ refused (CallKeys at)
  unfolding analyse
  analyse_over e = rw (e, analyse)

  -- Refusal 12.
  pub analyse_full : ltb max_call_keys (length (sets_of file functions c)) ≡ false
      → ltb max_keys (length (insert_keys table (sets_of file functions c))) ≡ true
      → analyse file functions (c ∷ cs) at sets table ≡ refused (AllKeys at)
  unfolding analyse
  analyse_full e f = rw (e, f, analyse)

  -- The calls behind it.
  pub analyse_next : ltb max_call_keys (length (sets_of file functions c)) ≡ false
      → ltb max_keys (length (insert_keys table (sets_of file functions c))) ≡ false
      → analyse file functions (c ∷ cs) at sets table
      ≡ analyse file functions cs (at + call_record_bytes) (sets ++ (sets_of file functions c ∷ [])) (insert_keys table (sets_of file functions c))
  unfolding analyse
  analyse_next e f = rw (e, f, analyse)

-- ---- keys in the table

-- Every key of one table is in the other.
abbrev pub KeysWithin : List ℕ → List ℕ → Type 0
KeysWithin t t' = (k : ℕ) → member k t ≡ true → member k t' ≡ true

every_more : (t t' : List ℕ) → KeysWithin t t' → (sets : List (List Access)) → EveryListed t sets → EveryListed t' sets
every_more t t' w =
    all_map (AllListed t) (AllListed t')
    (all_map (AccessListed t) (AccessListed t') (λ e a. record { in_table = w e.key a.in_table; has_use = a.has_use }))

-- A set whose keys are all in the table.
listed_of : (t : List ℕ) (es : List Access) → KeysWithin (access_keys es) t → All Used es → AllListed t es
unfolding member
listed_of t [] w u = tt
listed_of t (e ∷ es) w u =
    (record { in_table = w e.key (or_left (eqb e.key e.key) (member e.key (access_keys es)) (eq-eqb e.key e.key refl)); has_use = u.0 }, listed_of t es (λ k m. w k (or_right (eqb k e.key) (member k (access_keys es)) m)) u.1)

-- ---- the whole analysis

-- A set of at most 24 keys.
abbrev pub Short : List Access → Type 0
Short es = length es ≤ max_call_keys

-- What holds of the sets and the table behind some of the calls.
pub record SetsSound (sets : List (List Access)) (table : List ℕ) : Type 0 where
  pub rising : RisingKeys table
  pub few : length table ≤ max_keys
  pub listed : EveryListed table sets
  pub short : All Short sets

-- What holds behind all of them, from those and a table before.
pub record CollectedAll (before : List (List Access)) (old : List ℕ) (own sets : List (List Access)) (table : List ℕ) : Type 0 where
  pub all : sets ≡ before ++ own
  pub kept : KeysWithin old table
  pub sound : SetsSound sets table

never : {why : Refusal} {sets : List (List Access)} {table : List ℕ} → refused why ≡ analysed sets table → ⊥
never e = let z : ◌≡◌ {A = ℕ} 0 1 = cc in omega arith

module _ (file : List ℕ) (functions : List Function) where
  sound_next : (c : Call) (sets : List (List Access)) (table : List ℕ) → SetsSound sets table
      → length (sets_of file functions c) ≤ max_call_keys → length (insert_keys table (sets_of file functions c)) ≤ max_keys
      → SetsSound (sets ++ (sets_of file functions c ∷ [])) (insert_keys table (sets_of file functions c))
  sound_next c sets table s short few =
      let es : List Access = sets_of file functions c in
      record {
        rising = rising_inserts table es s.rising;
        few = few;
        listed =
            all_append (AllListed (insert_keys table es)) sets (es ∷ []) (every_more table (insert_keys table es) (λ k. member_kept k table es) sets s.listed)
            (listed_of (insert_keys table es) es (λ k. member_added k table es) (sets_used file c (function_of functions c)), tt);
        short = all_append Short sets (es ∷ []) s.short (short, tt);
      }

  ends : (cs : List Call) (at : ℕ) (before : List (List Access)) (old : List ℕ) (sets : List (List Access)) (table : List ℕ)
      → SetsSound before old → analyse file functions cs at before old ≡ analysed sets table
      → CollectedAll before old (map (sets_of file functions) cs) sets table
  unfolding analyse
  ends [] at before old sets table s e =
      let same : before ≡ sets = cc in
      let keys : old ≡ table = cc in
      record { all = sym same ∙ sym (append-nil before); kept = λ k m. rw (← keys) m; sound = rw (← same, ← keys) s }
  ends (c ∷ cs) at before old sets table s e =
      go (ltb max_call_keys (length es)) refl (ltb max_keys (length next)) refl (ends cs (at + call_record_bytes) (before ++ (es ∷ [])) next sets table)
    where
      es : List Access
      es = sets_of file functions c

      next : List ℕ
      next = insert_keys old es

      go : (t : Bool) → ltb max_call_keys (length es) ≡ t → (u : Bool) → ltb max_keys (length next) ≡ u
          → (SetsSound (before ++ (es ∷ [])) next → analyse file functions cs (at + call_record_bytes) (before ++ (es ∷ [])) next ≡ analysed sets table
          → CollectedAll (before ++ (es ∷ [])) next (map (sets_of file functions) cs) sets table)
          → CollectedAll before old (es ∷ map (sets_of file functions) cs) sets table
      go true over u g later = absurd (never (sym (analyse_over file functions c cs at before old over) ∙ e))
      go false fits true full later = absurd (never (sym (analyse_full file functions c cs at before old fits full) ∙ e))
      go false fits false room later =
          let rest : CollectedAll (before ++ (es ∷ [])) next (map (sets_of file functions) cs) sets table =
          later (sound_next c before old s (ltb-false max_call_keys (length es) fits) (ltb-false max_keys (length next) room))
          (sym (analyse_next file functions c cs at before old fits room) ∙ e) in
          record {
            all = rest.all ∙ append_assoc before (es ∷ []) (map (sets_of file functions) cs);
            kept = λ k m. rest.kept k (member_kept k old es m);
            sound = rest.sound;
          }

-- ---- the analysis of an accepted block

above_from : (k : ℕ) (ls : List ℕ) → ((j : ℕ) → j < length ls → k < get_or ls j 0) → Above k ls
above_from k [] h = tt
above_from k (l ∷ ls) h = (h 0 (omega arith), above_from k ls (λ j w. h (suc j) (omega arith)))

-- Numbers that rise with their places rise.
pub rising_from : (ls : List ℕ) → reading.Rising ls → RisingKeys ls
rising_from [] h = tt
rising_from (l ∷ ls) h =
    (above_from l ls (λ j w. h 0 (suc j) (omega arith) (omega arith)), rising_from ls (λ i j v w. h (suc i) (suc j) (omega arith) (omega arith)))

-- What holds of a block whose analysis refuses nothing.
pub record Complete (file : List ℕ) (b : Block) (sets : List (List Access)) (table : List ℕ) : Type 0 where
  pub all : sets ≡ all_sets file b
  pub rising : RisingKeys table
  pub few : length table ≤ max_keys
  pub opening : (k : ℕ) → member k (opening_keys b) ≡ true → member k table ≡ true
  pub listed : EveryListed table sets
  pub short : (j : ℕ) → length (get_or sets j []) ≤ max_call_keys

pub opening_sound : (file : List ℕ) (b : Block) → reading.BlockLaws file b → SetsSound [] (opening_keys b)
opening_sound file b laws =
    record {
      rising = rising_from (opening_keys b) laws.keys;
      few = simp length-map laws.cell_limit;
      listed = tt;
      short = tt;
    }

pub analysed_complete : (file : List ℕ) (b : Block) (sets : List (List Access)) (table : List ℕ)
    → read_block file ≡ accepted b → analysis_of file b ≡ analysed sets table → Complete file b sets table
analysed_complete file b sets table read e =
    let laws : reading.BlockLaws file b = (accepted_laws file b read).laws in
    let whole : CollectedAll [] (opening_keys b) (all_sets file b) sets table =
    ends file b.functions b.calls b.first_call [] (opening_keys b) sets table (opening_sound file b laws) e in
    record {
      all = whole.all;
      rising = whole.sound.rising;
      few = whole.sound.few;
      opening = whole.kept;
      listed = whole.sound.listed;
      short = all_at Short sets [] zero-le whole.sound.short;
    }
