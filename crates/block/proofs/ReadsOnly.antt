-- A file of bytes that is accepted is the file of contents that keep document 01's ranges, orders and limits, and is read as those: every
-- record that the reader takes adds one to them.
use Rattle.std.specs.Prelude.{None, Option, Some}
use mathlib.Core.Path.{◌≡◌, refl, sym, ap, subst, subst⁻¹, ◌∙◌}
use mathlib.Core.Bool.{true, not, ◌&&◌}
use mathlib.Core.List.{List, [], ◌∷◌, ◌++◌, map, map-append, append_assoc, append-nil}
use Prim.Native.Nat.{ℕ, ◌+◌, ◌-◌, ◌*◌, ◌/◌, ◌%◌, ◌≤◌, ◌<◌}
use native.Mathlib.Omega.{arith}
use borrow.Author.Tests.{ltb-false, leb-true, leb-false, eqb-true, eqb-false, not-false}
use lib.Dec.{eqb, leb, ltb}
use lib.ListN.{length, drop, length-append, length-drop, drop_of_length-le}
use lib.Signed.{le_z}
use Rattle.arith.proofs.ChoiceLaws.{if_all, both}
use Rattle.arith.specs.Balance.{total, largest}
use Rattle.wire.specs.Bytes.{number, read_le, bytes_of}
use Rattle.block.specs.Instruction.{first_invalid}
use Rattle.block.specs.Record.{Cell, Block, function_id, function_kind, cell_kind, call_kind, end_kind, call_bytes, recordOf, length_allowed, cell_of, cell_allowed, call_of}
use Rattle.block.specs.Reader.{Reading, accepted, refused, due, ended, rises, balances, read_function, read_cell, withCall, read_call, read_end}
use Rattle.block.specs.Encoding.{Routine, Contents, function_record, cell_record, call_record, records, file_of, AreBytes, size_of, FunctionKeeps, CellKeeps, CallKeeps, routine_id, FunctionsKeep, CellsKeep, CallsKeep, HoldsContents, placed, block_for}
use Rattle.block.specs.Faults.{behind_kind, last_kind}
use Rattle.block.proofs.EncodingLaws.{function_body, cell_body, call_body, bytes_drop, bytes_split, routine_in, function_size, function_split, function_length_in, function_keeps}
use Rattle.block.proofs.BodyLaws.{cell_split, cell_keeps, call_split, call_keeps}
use Rattle.block.proofs.ContentsLaws.{all_snoc, ascending_snoc, record_length, cell_length_lem, call_length, placed_length, placed_ids, holding, sent, sent_file, sent_function, sent_cell, sent_call, block_function, block_cell}
use Rattle.block.specs.declared.Call.{Call}

-- Before a record, behind one of the given kind: the file so far is the records of contents that keep the rules.
pub record Standing (file : List ℕ) (kind at : ℕ) (rest : List ℕ) (fs : List Routine) (cs : List Cell) (ks : List Call) : Type 0 where
  pub functions : FunctionsKeep fs
  pub cells : CellsKeep cs
  pub calls : CallsKeep ks
  pub parts : file ≡ sent fs cs ks ++ rest
  pub place : at ≡ length (sent fs cs ks)
  pub bytes : AreBytes rest
  pub last : kind ≡ last_kind (holding fs cs ks)

-- The same of the reader's own block: it is that of the contents.
pub record Held (file : List ℕ) (kind at : ℕ) (rest : List ℕ) (b : Block) : Type 0 where
  pub fs : List Routine
  pub cs : List Cell
  pub ks : List Call
  pub stands : Standing file kind at rest fs cs ks
  pub block : b ≡ block_for (holding fs cs ks)

-- At the end: the file is that of the contents.
abbrev pub Right : List ℕ → Reading → Type 0
Right file (due kind at rest b) = Held file kind at rest b
Right file (ended (accepted b)) = (t : Contents) × HoldsContents file t × (b ≡ block_for t)
Right file (ended (refused why)) = Unit {0}

-- Behind a record of a kind there are none of higher kinds; behind one more record of a kind it is the last.
no_cells_lem : (fs : List Routine) (cs : List Cell) (ks : List Call) → last_kind (holding fs cs ks) < 2 → length cs ≡ 0
no_cells_lem fs cs (k ∷ ks) h = absurd (omega arith)
no_cells_lem fs (c ∷ cs) [] h = absurd (omega arith)
no_cells_lem fs [] [] h = refl

no_calls_lem : (fs : List Routine) (cs : List Cell) (ks : List Call) → last_kind (holding fs cs ks) < 3 → length ks ≡ 0
no_calls_lem fs cs (k ∷ ks) h = absurd (omega arith)
no_calls_lem fs cs [] h = refl

behind_more : {A : Type 0} (kind before : ℕ) (xs : List A) (x : A) → kind ≡ behind_kind kind before (xs ++ (x ∷ []))
behind_more kind before [] x = refl
behind_more kind before (y ∷ xs) x = refl

-- ---- one record more

-- Bytes that begin with a record.
pub record_split : (rest : List ℕ) → AreBytes rest → 4 ≤ length rest → (body more : List ℕ) → number 2 rest ≡ length body → drop 4 rest ≡ body ++ more
    → rest ≡ recordOf (read_le 2 rest 2) body ++ more
record_split rest bytes four body more len e =
    bytes_split 2 0 rest bytes (omega arith)
    ∙ ap (λ (s : List ℕ). bytes_of 2 (number 2 rest) ++ s)
    (bytes_split 2 2 rest bytes (omega arith) ∙ ap (λ (s : List ℕ). bytes_of 2 (read_le 2 rest 2) ++ s) e)
    ∙ ap (λ (n : ℕ). bytes_of 2 n ++ (bytes_of 2 (read_le 2 rest 2) ++ (body ++ more))) len
    ∙ simp append_assoc

-- The file, with the record's bytes moved from what is to come to what was.
parts_next : (file before own after rest more : List ℕ) → file ≡ before ++ rest → rest ≡ own ++ more → after ≡ before ++ own → file ≡ after ++ more
parts_next file before own after rest more e f g = rw (e, f, g) (sym (append_assoc before own more))

place_next : (before own after : List ℕ) (at len : ℕ) → at ≡ length before → after ≡ before ++ own → length own ≡ 4 + len → at + 4 + len ≡ length after
place_next before own after at len here e long = omega (arith, ap length e, length-append before own)

module _ (file : List ℕ) (kind at : ℕ) (rest : List ℕ) (len : ℕ) (own : len ≡ number 2 rest) (four : 4 ≤ length rest) (whole : 4 + len ≤ length rest) where
  abbrev body : List ℕ
  body = drop 4 rest

  body_fits : len ≤ length (drop 4 rest)
  body_fits = simp length-drop (omega arith)

  behind_bytes : AreBytes rest → AreBytes (drop len (drop 4 rest))
  behind_bytes h = bytes_drop len (drop 4 rest) (bytes_drop 4 rest h)

  with_function : (fs : List Routine) → Standing file kind at rest fs [] [] → read_le 2 rest 2 ≡ 1 → 4 ≤ len → FunctionKeeps (routine_in body len)
      → length (placed 0 fs) < 64 → rises (map function_id (placed 0 fs)) (routine_id (routine_in body len)) ≡ true
      → Held file 1 (at + 4 + len) (drop len (drop 4 rest))
      (record { functions = placed 0 fs ++ (record { contract = record { 0 = number 2 body }; number = read_le 2 body 2; start = at + 4 + 4; size = (len - 4) / 8 } ∷ []); cells = []; calls = []; opening = at + 4 + len; first_call = at + 4 + len })
  with_function fs r is low keeps room up =
      let f : Routine = routine_in body len in
      let fits : len ≤ length (drop 4 rest) = body_fits in
      let split : drop 4 rest ≡ function_body f ++ drop len (drop 4 rest) = function_split body (bytes_drop 4 rest r.bytes) len low fits in
      let long : length (function_body f) ≡ len = function_length_in body (bytes_drop 4 rest r.bytes) len low fits in
      let bytes : rest ≡ function_record f ++ drop len (drop 4 rest) =
      subst (λ (k : ℕ). rest ≡ recordOf k (function_body f) ++ drop len (drop 4 rest)) is
      (record_split rest r.bytes four (function_body f) (drop len (drop 4 rest)) (sym own ∙ sym long) split) in
      let record-long : length (function_record f) ≡ 4 + length (function_body f) = record_length function_kind (function_body f) in
      let sizes : (len - 4) / 8 ≡ size_of f = omega (arith, function_size f) in
      record {
        fs = fs ++ (f ∷ []);
        cs = [];
        ks = [];
        stands =
            record {
              functions =
                  record {
                    each = all_snoc FunctionKeeps fs f r.functions.each keeps;
                    rising = rw (map-append routine_id fs (f ∷ [])) (ascending_snoc (map routine_id fs) (routine_id f) r.functions.rising (rw (placed_ids 0 fs) at up));
                    few = omega (arith, length-append fs (f ∷ []), placed_length 0 fs);
                  };
              cells = r.cells;
              calls = r.calls;
              parts = parts_next file (sent fs [] []) (function_record f) (sent (fs ++ (f ∷ [])) [] []) rest (drop len (drop 4 rest)) r.parts bytes (sent_function fs f);
              place = place_next (sent fs [] []) (function_record f) (sent (fs ++ (f ∷ [])) [] []) at len r.place (sent_function fs f) (omega arith);
              bytes = behind_bytes r.bytes;
              last = behind_more 1 0 fs f;
            };
        block = sym (block_function fs f at len ((len - 4) / 8) r.place (sym long) sizes);
      }

  pub right_function : (fs : List Routine) (cs : List Cell) (ks : List Call) → Standing file kind at rest fs cs ks → read_le 2 rest 2 ≡ 1 → kind < 2
      → 4 ≤ len → len ≤ 516 → (len - 4) % 8 ≡ 0 → Right file (read_function at len (drop 4 rest) (block_for (holding fs cs ks)))
  unfolding read_function block_for
  right_function fs (c ∷ cs) ks r is early low high eight = let none : length (c ∷ cs) ≡ 0 = no_cells_lem fs (c ∷ cs) ks (omega (arith, r.last)) in absurd (omega arith)
  right_function fs [] (k ∷ ks) r is early low high eight = let none : length (k ∷ ks) ≡ 0 = no_calls_lem fs [] (k ∷ ks) (omega (arith, r.last)) in absurd (omega arith)
  right_function fs [] [] r is early low high eight =
      if_all (Right file) (leb 64 (length (placed 0 fs))) (λ e. tt) λ room.
      if_all (Right file) (ltb (number 2 body) 32768) (λ e. tt) λ contract.
      if_all (Right file) (ltb (first_invalid ((len - 4) / 8) 0 ((len - 4) / 8) (drop 4 body)) ((len - 4) / 8)) (λ e. tt) λ good.
      if_all (Right file) (not (rises (map function_id (placed 0 fs)) (number 2 body * 65536 + read_le 2 body 2))) (λ e. tt) λ up.
      with_function fs r is low
      (function_keeps body (bytes_drop 4 rest r.bytes) len low body_fits (ltb-false (number 2 body) 32768 contract) high eight (ltb-false _ _ good))
      (leb-false 64 (length (placed 0 fs)) room) (not-false _ up)

  with_cell : (fs : List Routine) (cs : List Cell) → Standing file kind at rest fs cs [] → read_le 2 rest 2 ≡ 2 → len ≡ 20 → CellKeeps (cell_of body)
      → length cs < 1024 → rises (map (λ c. c.key) cs) (cell_of body).key ≡ true → le_z (total (balances (cs ++ (cell_of body ∷ [])))) largest ≡ true
      → Held file 2 (at + 4 + len) (drop len (drop 4 rest))
      (record { functions = placed 0 fs; cells = cs ++ (cell_of body ∷ []); calls = []; opening = length (records function_record fs); first_call = at + 4 + len })
  with_cell fs cs r is twenty keeps room up sum =
      let c : Cell = cell_of body in
      let fits : len ≤ length (drop 4 rest) = body_fits in
      let split : drop 4 rest ≡ cell_body c ++ drop len (drop 4 rest) =
      subst⁻¹ (λ (n : ℕ). drop 4 rest ≡ cell_body c ++ drop n (drop 4 rest)) twenty (cell_split body (bytes_drop 4 rest r.bytes) (omega arith)) in
      let long : length (cell_body c) ≡ 20 = cell_length_lem c in
      let bytes : rest ≡ cell_record c ++ drop len (drop 4 rest) =
      subst (λ (k : ℕ). rest ≡ recordOf k (cell_body c) ++ drop len (drop 4 rest)) is
      (record_split rest r.bytes four (cell_body c) (drop len (drop 4 rest)) (sym own ∙ twenty ∙ sym long) split) in
      let record-long : length (cell_record c) ≡ 4 + length (cell_body c) = record_length cell_kind (cell_body c) in
      record {
        fs = fs;
        cs = cs ++ (c ∷ []);
        ks = [];
        stands =
            record {
              functions = r.functions;
              cells =
                  record {
                    each = all_snoc CellKeeps cs c r.cells.each keeps;
                    rising = rw (map-append (λ d. d.key) cs (c ∷ [])) (ascending_snoc (map (λ d. d.key) cs) c.key r.cells.rising up);
                    few = omega (arith, length-append cs (c ∷ []));
                    sum = sum;
                  };
              calls = r.calls;
              parts = parts_next file (sent fs cs []) (cell_record c) (sent fs (cs ++ (c ∷ [])) []) rest (drop len (drop 4 rest)) r.parts bytes (sent_cell fs cs c);
              place = place_next (sent fs cs []) (cell_record c) (sent fs (cs ++ (c ∷ [])) []) at len r.place (sent_cell fs cs c) (omega arith);
              bytes = behind_bytes r.bytes;
              last = behind_more 2 (behind_kind 1 0 fs) cs c;
            };
        block =
            ap (λ (n : ℕ). record { functions = placed 0 fs; cells = cs ++ (c ∷ []); calls = []; opening = length (records function_record fs); first_call = at + 4 + n }) twenty
            ∙ sym (block_cell fs cs c at r.place);
      }

  pub right_cell : (fs : List Routine) (cs : List Cell) (ks : List Call) → Standing file kind at rest fs cs ks → read_le 2 rest 2 ≡ 2 → kind < 3 → len ≡ 20
      → Right file (read_cell at len (drop 4 rest) (block_for (holding fs cs ks)))
  unfolding read_cell block_for
  right_cell fs cs (k ∷ ks) r is early twenty = let none : length (k ∷ ks) ≡ 0 = no_calls_lem fs cs (k ∷ ks) (omega (arith, r.last)) in absurd (omega arith)
  right_cell fs cs [] r is early twenty =
      if_all (Right file) (leb 1024 (length cs)) (λ e. tt) λ room.
      if_all (Right file) (not (cell_allowed body)) (λ e. tt) λ good.
      if_all (Right file) (not (rises (map (λ c. c.key) cs) (cell_of body).key)) (λ e. tt) λ up.
      if_all (Right file) (not (le_z (total (balances (cs ++ (cell_of body ∷ [])))) largest)) (λ e. tt) λ sum.
      with_cell fs cs r is twenty (cell_keeps body (bytes_drop 4 rest r.bytes) (not-false _ good)) (leb-false 1024 (length cs) room) (not-false _ up) (not-false _ sum)

  with_call : (fs : List Routine) (cs : List Cell) (ks : List Call) → Standing file kind at rest fs cs ks → read_le 2 rest 2 ≡ 3 → len ≡ call_bytes
      → length ks < 256 → (c : Call) → call_of body ≡ Some c → 0 < c.fuel → Held file 3 (at + 4 + len) (drop len (drop 4 rest)) (block_for (holding fs cs (ks ++ (c ∷ []))))
  with_call fs cs ks r is sized room c e fuel =
      let fits : len ≤ length (drop 4 rest) = body_fits in
      let split : drop 4 rest ≡ call_body c ++ drop len (drop 4 rest) =
      subst⁻¹ (λ (n : ℕ). drop 4 rest ≡ call_body c ++ drop n (drop 4 rest)) sized (call_split body (bytes_drop 4 rest r.bytes) c e (omega arith)) in
      let long : length (call_body c) ≡ call_bytes = call_length c in
      let bytes : rest ≡ call_record c ++ drop len (drop 4 rest) =
      subst (λ (k : ℕ). rest ≡ recordOf k (call_body c) ++ drop len (drop 4 rest)) is
      (record_split rest r.bytes four (call_body c) (drop len (drop 4 rest)) (sym own ∙ sized ∙ sym long) split) in
      let record-long : length (call_record c) ≡ 4 + length (call_body c) = record_length call_kind (call_body c) in
      record {
        fs = fs;
        cs = cs;
        ks = ks ++ (c ∷ []);
        stands =
            record {
              functions = r.functions;
              cells = r.cells;
              calls = record { each = all_snoc CallKeeps ks c r.calls.each (call_keeps body (bytes_drop 4 rest r.bytes) c e fuel); few = omega (arith, length-append ks (c ∷ [])) };
              parts = parts_next file (sent fs cs ks) (call_record c) (sent fs cs (ks ++ (c ∷ []))) rest (drop len (drop 4 rest)) r.parts bytes (sent_call fs cs ks c);
              place = place_next (sent fs cs ks) (call_record c) (sent fs cs (ks ++ (c ∷ []))) at len r.place (sent_call fs cs ks c) (omega arith);
              bytes = behind_bytes r.bytes;
              last = behind_more 3 (behind_kind 2 (behind_kind 1 0 fs) cs) ks c;
            };
        block = refl;
      }

  pub right_call : (fs : List Routine) (cs : List Cell) (ks : List Call) → Standing file kind at rest fs cs ks → read_le 2 rest 2 ≡ 3 → len ≡ call_bytes
      → Right file (read_call at len (drop 4 rest) (block_for (holding fs cs ks)))
  unfolding read_call withCall block_for
  right_call fs cs ks r is sized =
      if_all (Right file) (leb 256 (length ks)) (λ e. tt) λ room. go (leb-false 256 (length ks) room) (call_of body) refl
    where
      go : length ks < 256 → (c : Option Call) → call_of body ≡ c → Right file (withCall at len body (block_for (holding fs cs ks)) c)
      go room None e = tt
      go room (Some c) e =
          if_all (Right file) (eqb c.fuel 0) (λ f. tt)
          (λ f. with_call fs cs ks r is sized room c e (let some = eqb-false c.fuel 0 f in omega (arith, some)))

  pub right_end : length file ≤ 65536 → (fs : List Routine) (cs : List Cell) (ks : List Call) → Standing file kind at rest fs cs ks → read_le 2 rest 2 ≡ 4 → len ≡ 0
      → Right file (read_end (length file) at (block_for (holding fs cs ks)))
  unfolding read_end
  right_end short fs cs ks r is none =
      if_all (Right file) (ltb (at + 4) (length file)) (λ e. tt) λ e. done (ltb-false (at + 4) (length file) e)
    where
      done : length file ≤ at + 4 → (t : Contents) × HoldsContents file t × (block_for (holding fs cs ks) ≡ block_for t)
      done last =
          let all : length file ≡ length (sent fs cs ks) + length rest = ap length r.parts ∙ length-append (sent fs cs ks) rest in
          let here : at ≡ length (sent fs cs ks) = r.place in
          let nothing : drop 4 rest ≡ [] = drop_of_length-le rest {i = 4} (omega arith) in
          let bytes : rest ≡ recordOf end_kind [] =
          subst (λ (k : ℕ). rest ≡ recordOf k [] ++ []) is (record_split rest r.bytes four [] [] (sym own ∙ none) nothing) ∙ append-nil (recordOf end_kind []) in
          let file-is : file ≡ file_of (holding fs cs ks) =
          r.parts ∙ ap (λ (s : List ℕ). sent fs cs ks ++ s) bytes ∙ sym (sent_file (holding fs cs ks)) in (
            holding fs cs ks,
            record {
              keeps = record { functions = r.functions; cells = r.cells; calls = r.calls; size = subst (λ (s : List ℕ). length s ≤ 65536) file-is short };
              bytes = file-is;
            },
            refl,
          )

-- ---- lengths

pub function_lengths : (len : ℕ) → length_allowed 1 len ≡ true → (4 ≤ len) × (len ≤ 516) × ((len - 4) % 8 ≡ 0)
unfolding length_allowed
function_lengths len e =
    let o = both (leb 4 len && leb len 516) (eqb ((len - 4) % 8) 0) e in
    let p = both (leb 4 len) (leb len 516) o.0 in
    (leb-true 4 len p.0, leb-true len 516 p.1, eqb-true ((len - 4) % 8) 0 o.1)

pub other_lengths : (len : ℕ) → (length_allowed 2 len ≡ true → len ≡ 20) × (length_allowed 3 len ≡ true → len ≡ call_bytes) × (length_allowed 4 len ≡ true → len ≡ 0)
unfolding length_allowed
other_lengths len = (eqb-true len 20, eqb-true len call_bytes, eqb-true len 0)
