-- Keys that an opening cell may have, and that the keys of an opened block's table are such keys.
use Rattle.std.specs.Prelude.{None, Option, Some}
use mathlib.Core.Path.{◌≡◌, refl, sym, subst, subst⁻¹, ◌∙◌}
use mathlib.Core.Logic.{⊎_elim}
use mathlib.Core.Bool.{Bool, true, false, ◌||◌, false≢true}
use mathlib.Core.List.{List, [], ◌∷◌, ◌++◌, map}
use Prim.Native.Nat.{ℕ, suc, ◌+◌, ◌*◌, ◌^◌, ◌≤◌, ◌<◌}
use native.Mathlib.Omega.{arith}
use borrow.Author.Tests.{le-ltb, eqb-true, ne_eqb}
use lib.Dec.{eqb, ltb, lit<}
use lib.ListN.{length, get_or, drop}
use Rattle.wire.specs.All.{All}
use Rattle.block.specs.Key.{first_contract, address_of, key_of, address_in, field_in, a_in, b_in, account_balance, contract_balance, key_allowed}
use Rattle.block.proofs.BodyLaws.{cell_keeps}
use Rattle.block.specs.Encoding.{CellKeeps, AreBytes}
use Rattle.block.proofs.KeyLaws.{address_of_lem, field_of, a_of, b_of}
use Rattle.block.specs.Limits.{max_call_keys, max_keys}
use Rattle.block.specs.Instruction.{instr_bytes, decode}
use Rattle.block.specs.Record.{Function, Cell, Block, cell_of, cell_allowed, code_at, call_record_bytes, head_bytes}
use Rattle.block.proofs.ReaderLaws as reading
use Rattle.block.proofs.ReaderLaws.{BlockLaws}
use Rattle.block.specs.declared.address.Address.{Address}
use Rattle.block.specs.declared.address.Address.TheVariants.{OfAccount, OfContract}
use Rattle.block.specs.declared.Call.{Call}
use Rattle.block.specs.declared.Instr.{Instr}
use Rattle.block.specs.declared.Source.{Source}
use Rattle.block.proofs.DecodeLaws.{CellSourcesFit, Decodes}
use Rattle.footprint.specs.Access.{Access, accesses}
use Rattle.block.specs.Naming.{cell_key, source_value, function_of}
use Rattle.footprint.proofs.SetAccessLaws.{drop_bytes, take_bytes, InstrSound, source_below, accesses_keyed, sets_keyed, decode_fits}
use Rattle.footprint.specs.Conflict.{member}
use Rattle.footprint.proofs.RuleLimit.{read_call_bounded}
use Rattle.footprint.specs.SafeSets.{CallBounded}
use Rattle.footprint.proofs.SetLaws.{code_each}
use Rattle.footprint.specs.Sets.{decoded_accesses, function_sets, sets_of, access_keys}
use Rattle.footprint.specs.Table.{analysed, refused, analyse, insert_keys}
use Rattle.footprint.specs.Listed.{Keyed}
use Rattle.footprint.proofs.AnalysedLaws.{analyse_over, analyse_full, analyse_next}
use Rattle.block.specs.BlockOfFile.{opening_keys, block_of}
use Rattle.footprint.specs.BlockSets.{all_sets}
use Rattle.footprint.proofs.TableLaws.{member_inserts}
use Rattle.machine.specs.Run.{Sizes}
use Rattle.guarantees.proofs.AcceptedOpening.AfterOpening.{AfterOpening}

-- "A key is address (16 bits), field (16), a (32), b (32)", and "Field 0 has only a = b = 0 and is the balance; an account has no other key".
pub record KeyFits (k : ℕ) : Type 0 where
  pub small : k < 2 ^ 96
  pub allowed : key_allowed (address_of (address_in k)) (field_in k) (a_in k) (b_in k) ≡ true

-- What holds of every key of a list.
abbrev pub HoldsOfAll : (ℕ → Type 0) → List ℕ → Type 0
HoldsOfAll K t = (k : ℕ) → member k t ≡ true → K k

-- ---- keys by their parts

module _ (address field a b : ℕ) (hn : address < 2 ^ 16) (hf : field < 2 ^ 16) (ha : a < 2 ^ 32) (hb : b < 2 ^ 32) where
  pub key_fits : key_allowed (address_of address) field a b ≡ true → KeyFits (key_of address field a b)
  key_fits e =
      record {
        small = omega arith;
        allowed = rw (address_of_lem address field a b hf ha hb, field_of address field a b hf ha hb, a_of address field a b hf ha hb, b_of address field a b hf ha hb) e;
      }

  -- A contract has every field above 0.
  cell_fits : first_contract ≤ address → 0 < field → KeyFits (key_of address field a b)
  unfolding address_of key_allowed
  cell_fits contract above = key_fits (rw (le-ltb address first_contract contract, ne_eqb field 0 (omega arith)))

-- Every address has a balance.
balance_allowed_lem : (address : Address) → key_allowed address 0 0 0 ≡ true
unfolding key_allowed
balance_allowed_lem (OfAccount account) = refl
balance_allowed_lem (OfContract contract) = refl

balance_fits : (address : ℕ) → address < 2 ^ 16 → KeyFits (key_of address 0 0 0)
balance_fits address h = key_fits address 0 0 0 h (lit< tt) (lit< tt) (lit< tt) (balance_allowed_lem (address_of address))

-- ---- keys of the opening

opening_key : (s : List ℕ) → AreBytes s → cell_allowed s ≡ true → KeyFits (cell_of s).key
opening_key s bytes e = let keeps : CellKeeps (cell_of s) = cell_keeps s bytes e in record { small = keeps.key; allowed = keeps.allowed }

-- What holds of the first key and of the others holds of all.
pub holds_cons : (K : ℕ → Type 0) (l : ℕ) (ls : List ℕ) → K l → HoldsOfAll K ls → HoldsOfAll K (l ∷ ls)
unfolding member
holds_cons K l ls first rest k m = go (eqb k l) refl m
  where
    go : (t : Bool) → eqb k l ≡ t → (t || member k ls) ≡ true → K k
    go true e f = subst⁻¹ K (eqb-true k l e) first
    go false e f = rest k f

pub holds_none : (K : ℕ → Type 0) → HoldsOfAll K []
unfolding member
holds_none K k m = absurd (false≢true m)

cells_hold : (K : ℕ → Type 0) (cs : List Cell) → reading.EachAt (λ i c. K c.key) cs → HoldsOfAll K (map (λ c. c.key) cs)
cells_hold K [] all = holds_none K
cells_hold K (c ∷ cs) all =
    holds_cons K c.key (map (λ d. d.key) cs) (all 0 c (omega arith)) (cells_hold K cs (λ i d h. all (suc i) d (omega arith)))

opening_hold : (file : List ℕ) → AreBytes file → (b : Block) → BlockLaws file b → HoldsOfAll KeyFits (opening_keys b)
opening_hold file bytes b laws =
    cells_hold KeyFits b.cells
    (λ i d h. subst⁻¹ (λ (c : Cell). KeyFits c.key) (laws.cells i d h)
    (opening_key (drop (b.opening + 24 * i + 4) file) (drop_bytes (b.opening + 24 * i + 4) file bytes) (laws.allowed i d h)))

-- ---- keys of the sets

module _ (c : Call) (fits : CallBounded c) where
  own_fits : KeyFits (contract_balance c.contract)
  own_fits = balance_fits c.contract.0 fits.ranges.contract

  account_fits : (n : ℕ) → n < first_contract → KeyFits (account_balance (record { 0 = n }))
  account_fits n h = balance_fits n (omega arith)

  named_fits : (field : ℕ) (a b : Source) → CellSourcesFit (2 ^ 16) field a b → KeyFits (cell_key c field a b)
  named_fits field a b h =
      cell_fits c.contract.0 field (source_value c a) (source_value c b) fits.ranges.contract h.below
      (source_below c a fits.ranges h.first) (source_below c b fits.ranges h.second) fits.contract h.above

  instr_fits : (i : Instr) → InstrSound i → All (Keyed KeyFits) (accesses c i)
  instr_fits i h =
      accesses_keyed c KeyFits own_fits account_fits i
      (λ x field a b e.
      ⊎_elim (λ g. named_fits field a b (subst InstrSound g h)) (λ p. named_fits field a b (subst InstrSound p h)) e)

  decoded_fits : (d : Option Instr) → Decodes InstrSound d → All (Keyed KeyFits) (decoded_accesses c d)
  decoded_fits (Some i) h = instr_fits i h
  decoded_fits None h = tt

  sets_fit : (block : List ℕ) → AreBytes block → (f : Option Function) → All (Keyed KeyFits) (function_sets block c f)
  sets_fit block h f =
      sets_keyed c KeyFits own_fits account_fits (balance_fits c.sender.0 fits.ranges.sender) block f
      (λ g. code_each (Keyed KeyFits) AreBytes (drop_bytes instr_bytes) c g.size
      (λ s q. decoded_fits (decode g.size s) (decode_fits g.size s q)) g.size
      (code_at block g.start g.size) (take_bytes (instr_bytes * g.size) (drop g.start block) (drop_bytes g.start block h)))

keyed_hold : (K : ℕ → Type 0) (es : List Access) → All (Keyed K) es → HoldsOfAll K (access_keys es)
keyed_hold K [] all = holds_none K
keyed_hold K (e ∷ es) all = holds_cons K e.key (access_keys es) all.0.keyed (keyed_hold K es all.1)

-- ---- keys of the table

-- A table has the keys that it had and those of the entries, and no others.
holds_inserts : (K : ℕ → Type 0) (t : List ℕ) (es : List Access) → HoldsOfAll K t → HoldsOfAll K (access_keys es) → HoldsOfAll K (insert_keys t es)
holds_inserts K t es old new k m = go (member k (access_keys es)) refl (sym (member_inserts k t es) ∙ m)
  where
    go : (b : Bool) → member k (access_keys es) ≡ b → (b || member k t) ≡ true → K k
    go true e f = new k e
    go false e f = old k f

-- What holds of the keys of a table and of all sets behind it holds of the keys of the table that the analysis makes.
module _ (K : ℕ → Type 0) (file : List ℕ) (functions : List Function) where
  analysed_hold : (cs : List Call) (at : ℕ) (before : List (List Access)) (old : List ℕ) (sets : List (List Access)) (table : List ℕ)
      → HoldsOfAll K old → reading.EachAt (λ i c. HoldsOfAll K (access_keys (sets_of file functions c))) cs
      → analyse file functions cs at before old ≡ analysed sets table → HoldsOfAll K table
  unfolding analyse
  analysed_hold [] at before old sets table h all e = let keys : old ≡ table = cc in subst (HoldsOfAll K) keys h
  analysed_hold (c ∷ cs) at before old sets table h all e =
      go (ltb max_call_keys (length es)) refl (ltb max_keys (length next)) refl
      (analysed_hold cs (at + call_record_bytes) (before ++ (es ∷ [])) next sets table (holds_inserts K old es h (all 0 c (omega arith))) (λ i d l. all (suc i) d (omega arith)))
    where
      es : List Access
      es = sets_of file functions c

      next : List ℕ
      next = insert_keys old es

      go : (t : Bool) → ltb max_call_keys (length es) ≡ t → (u : Bool) → ltb max_keys (length next) ≡ u
          → (analyse file functions cs (at + call_record_bytes) (before ++ (es ∷ [])) next ≡ analysed sets table → HoldsOfAll K table) → HoldsOfAll K table
      go true over u g later =
          let f : refused _ ≡ analysed sets table = sym (analyse_over file functions c cs at before old over) ∙ e in
          let z : ◌≡◌ {A = ℕ} 0 1 = cc in absurd (omega arith)
      go false few true full later =
          let f : refused _ ≡ analysed sets table = sym (analyse_full file functions c cs at before old few full) ∙ e in
          let z : ◌≡◌ {A = ℕ} 0 1 = cc in absurd (omega arith)
      go false few false room later = later (sym (analyse_next file functions c cs at before old few room) ∙ e)

-- Every key of an opened block's table is one that an opening cell may have.
pub table_fits : (s : Sizes) (file : List ℕ) (workers : ℕ) → AreBytes file → (o : AfterOpening s file workers) → HoldsOfAll KeyFits o.table
table_fits s file workers bytes o =
    let b : Block = block_of file in
    let laws : BlockLaws file b = o.whole.laws in
    analysed_hold KeyFits file b.functions b.calls b.first_call [] (opening_keys b) (all_sets file b) o.table
    (opening_hold file bytes b laws)
    (λ i c h.
    let at : ℕ = b.first_call + call_record_bytes * i + head_bytes in
    keyed_hold KeyFits (sets_of file b.functions (get_or b.calls i c))
    (sets_fit (get_or b.calls i c)
    (read_call_bounded (drop at file) (drop_bytes at file bytes) (get_or b.calls i c) (laws.calls i c h)) file bytes (function_of b.functions (get_or b.calls i c))))
    o.tabled.analysis
