-- Which openings are accepted, exactly, given that the reader reads exactly the blocks.
use Rattle.std.specs.Prelude.{Ok}
use mathlib.Core.Path.{◌≡◌, refl, sym, ap, subst, ◌∙◌}
use mathlib.Core.Bool.{Bool, true, false}
use mathlib.Core.List.{List, [], ◌∷◌, ◌++◌, map, append-nil, append_assoc}
use Prim.Native.Nat.{ℕ, ◌+◌, ◌≤◌}
use native.Mathlib.Omega.{arith}
use borrow.Author.Tests.{ltb-false, le-ltb}
use lib.Dec.{ltb}
use lib.ListN.{length, length-map}
use Rattle.block.specs.Limits.{max_call_keys, max_keys}
use Rattle.block.specs.Record.{Function, Block, call_record_bytes}
use Rattle.block.specs.Reader.{read_block}
use Rattle.wire.specs.All.{All}
use Rattle.block.specs.Encoding.{AreBytes, Contents, block_for, ReaderExact}
use Rattle.block.specs.declared.Call.{Call}
use Rattle.block.specs.declared.Refusal.{Refusal}
use Rattle.footprint.specs.Access.{Access}
use Rattle.footprint.specs.Sets.{sets_of}
use Rattle.footprint.specs.Table.{analysed, refused, analyse, insert_keys}
use Rattle.footprint.specs.BlockSets.{all_sets, analysis_of}
use Rattle.block.specs.BlockOfFile.{opening_keys}
use Rattle.footprint.proofs.AnalysedLaws.{analyse_over, analyse_full, analyse_next}
use Rattle.footprint.proofs.TableLaws.{inserts_length}
use Rattle.machine.specs.Run.{Sizes}
use Rattle.machine.specs.Opening.{opening_of}
use Rattle.guarantees.specs.Demand1.{Exactly, Openable, keys_together}
use Rattle.guarantees.proofs.AcceptedOpening.OpeningPassed.{large_sizes, Made, opening_made, opening_accepted}

-- ---- the analysis

-- The table only grows.
pub together_grows : (table : List ℕ) (sets : List (List Access)) → length table ≤ length (keys_together table sets)
unfolding keys_together
together_grows table [] = omega arith
together_grows table (es ∷ sets) = omega (arith, (inserts_length table es).0, together_grows (insert_keys table es) sets)

never : {why : Refusal} {sets : List (List Access)} {keys : List ℕ} → refused why ≡ analysed sets keys → ⊥
never e = let z : ◌≡◌ {A = ℕ} 0 1 = cc in omega arith

-- Sets and table within the limits, from a table on.
pub record SetsWithin (sets : List (List Access)) (table : List ℕ) : Type 0 where
  pub each : All (λ es. length es ≤ max_call_keys) sets
  pub together : length (keys_together table sets) ≤ max_keys

module _ (file : List ℕ) (functions : List Function) where
  abbrev own : List Call → List (List Access)
  own cs = map (sets_of file functions) cs

  -- Within the limits the analysis gives all sets and the table of all keys.
  analyse_whole : (cs : List Call) (at : ℕ) (before : List (List Access)) (table : List ℕ) → SetsWithin (own cs) table
      → analyse file functions cs at before table ≡ analysed (before ++ own cs) (keys_together table (own cs))
  unfolding analyse keys_together
  analyse_whole [] at before table w = ap (λ (sets : List (List Access)). analysed sets table) (sym (append-nil before))
  analyse_whole (c ∷ cs) at before table w =
      let es : List Access = sets_of file functions c in
      let short : length (sets_of file functions c) ≤ max_call_keys = w.each.0 in
      let all : length (keys_together (insert_keys table (sets_of file functions c)) (own cs)) ≤ max_keys = w.together in
      let room : length (insert_keys table (sets_of file functions c)) ≤ max_keys = omega (arith, together_grows (insert_keys table (sets_of file functions c)) (own cs)) in
      analyse_next file functions c cs at before table (le-ltb max_call_keys (length es) short) (le-ltb max_keys (length (insert_keys table es)) room)
      ∙ analyse_whole cs (at + call_record_bytes) (before ++ (es ∷ [])) (insert_keys table es) (record { each = w.each.1; together = w.together })
      ∙ ap (λ (sets : List (List Access)). analysed sets (keys_together (insert_keys table es) (own cs))) (append_assoc before (es ∷ []) (own cs))

  -- It refuses nothing only within the limits.
  analyse_within : (cs : List Call) (at : ℕ) (before : List (List Access)) (table : List ℕ) (sets : List (List Access)) (keys : List ℕ)
      → length table ≤ max_keys → analyse file functions cs at before table ≡ analysed sets keys → SetsWithin (own cs) table
  unfolding keys_together
  analyse_within [] at before table sets keys few e = record { each = tt; together = few }
  analyse_within (c ∷ cs) at before table sets keys few e =
      go (ltb max_call_keys (length es)) refl (ltb max_keys (length next)) refl
      (analyse_within cs (at + call_record_bytes) (before ++ (es ∷ [])) next sets keys)
    where
      es : List Access
      es = sets_of file functions c

      next : List ℕ
      next = insert_keys table es

      go : (t : Bool) → ltb max_call_keys (length es) ≡ t → (u : Bool) → ltb max_keys (length next) ≡ u
          → (length next ≤ max_keys → analyse file functions cs (at + call_record_bytes) (before ++ (es ∷ [])) next ≡ analysed sets keys → SetsWithin (own cs) next)
          → SetsWithin (own (c ∷ cs)) table
      go true over u g later = absurd (never (sym (analyse_over file functions c cs at before table over) ∙ e))
      go false fits true full later = absurd (never (sym (analyse_full file functions c cs at before table fits full) ∙ e))
      go false fits false room later =
          let rest : SetsWithin (own cs) next = later (ltb-false max_keys (length next) room) (sym (analyse_next file functions c cs at before table fits room) ∙ e) in
          record { each = (ltb-false max_call_keys (length es) fits, rest.each); together = rest.together }

-- ---- the opening

module _ (reader : ReaderExact) (s : Sizes) (file : List ℕ) (workers : ℕ) where
  accepts : Openable s file workers → (opening_of s file workers).answer ≡ Ok tt
  accepts o =
      let b : Block = block_for o.contents in
      opening_accepted s file workers b (all_sets file b) (keys_together (opening_keys b) (all_sets file b)) o.large o.some.0 o.some.1
      (ap read_block o.holds.bytes ∙ reader.whole o.contents o.holds.keeps)
      (analyse_whole file b.functions b.calls b.first_call [] (opening_keys b) (record { each = o.each; together = o.together }))

  -- What the analysis of a block that the file holds says.
  openable : AreBytes file → Made s file workers (opening_of s file workers) → Openable s file workers
  unfolding block_for
  openable bytes m =
      let held = reader.only file bytes m.block m.read in
      let t : Contents = held.0 in
      let b : Block = block_for t in
      let analysis : analysis_of file b ≡ analysed m.sets m.keys =
      subst (λ (x : Block). analysis_of file x ≡ analysed m.sets m.keys) held.2 m.analysis in
      let few : length (opening_keys b) ≤ max_keys = simp length-map held.1.keeps.cells.few in
      let within : SetsWithin (all_sets file b) (opening_keys b) =
      analyse_within file b.functions b.calls b.first_call [] (opening_keys b) m.sets m.keys few analysis in
      record {
        large = large_sizes s m.large;
        some = (m.low, m.high);
        contents = t;
        holds = held.1;
        each = within.each;
        together = within.together;
      }

  pub opening_exact : AreBytes file → Exactly ((opening_of s file workers).answer ≡ (Ok tt)) (Openable s file workers)
  opening_exact bytes = (λ e. openable bytes (opening_made s file workers e), accepts)
