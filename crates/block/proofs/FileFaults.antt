-- The reader refuses a file by its fault, and by nothing else: contents that keep the rules are read through, and what stands behind them is refused
-- by its first fault.
use mathlib.Core.Path.{◌≡◌, refl, sym, ap, ap₂, subst, subst⁻¹, ◌∙◌}
use mathlib.Core.List.{List, [], ◌∷◌, ◌++◌, append_assoc, append-nil}
use Prim.Native.Nat.{ℕ, zero, suc, ◌+◌, ◌-◌, ◌≤◌, ◌<◌}
use native.Mathlib.Omega.{arith}
use native.Mathlib.Decide.{dec_lt}
use borrow.Author.Tests.{ltb-true, ltb-false, lt-ltb, le-ltb}
use lib.Dec.{ltb}
use lib.ListN.{length, drop, length-append}
use lib.Seq.{drop-append_seam}
use Rattle.arith.proofs.ChoiceLaws.{if_all}
use Rattle.block.specs.Limits.{max_bytes}
use Rattle.block.specs.Record.{Cell, Block, function_kind, cell_kind, call_kind}
use Rattle.block.specs.Reader.{Read, Reading, accepted, refused, due, ended, empty_block, read_record, read_from, read_block}
use Rattle.block.specs.Refusal.{number_of, offset_of}
use Rattle.block.specs.Encoding.{Routine, Contents, function_record, cell_record, call_record, records, AreBytes, placed, block_for}
use Rattle.block.specs.Faults.{records_of, Stands, behind_kind, last_kind, Fault, head_cut, kind_wrong, length_wrong, body_cut, limit_passed, field_wrong, code_wrong, not_rising, sum_passed, bytes_behind, fault_number, fault_place, HasFault, Faulty, RefusedBy, RefusalsExact}
use Rattle.block.proofs.EncodingLaws.{function_body, cell_body, call_body, bytes_drop}
use Rattle.block.proofs.ContentsLaws.{record_length, holding, sent, sent_none, sent_length}
use Rattle.block.proofs.ReadsWhole.{records_count, function_step, cell_step, call_step, from_ended}
use Rattle.block.proofs.ReadsOnly.{Standing, Held, Right}
use Rattle.block.proofs.ReadsRight.{right_record, nothing_stands}
use Rattle.block.proofs.FaultLaws.{first_one, into_one}
use Rattle.block.proofs.RecordFaults.{Fails, Told}
use Rattle.block.proofs.RecordTold.{told_record}
use Rattle.block.specs.declared.Call.{Call}
use Rattle.block.specs.declared.Refusal.{Refusal}
use Rattle.block.specs.declared.Refusal.TheVariants.{InputTooLong}

records_sent : (t : Contents) → records_of t ≡ sent t.functions t.cells t.calls
unfolding records_of sent
records_sent t = refl

pub fault_range : (f : Fault) → (2 ≤ fault_number f) × (fault_number f ≤ 10)
unfolding fault_number
fault_range head_cut = (omega arith, omega arith)
fault_range kind_wrong = (omega arith, omega arith)
fault_range length_wrong = (omega arith, omega arith)
fault_range body_cut = (omega arith, omega arith)
fault_range limit_passed = (omega arith, omega arith)
fault_range field_wrong = (omega arith, omega arith)
fault_range code_wrong = (omega arith, omega arith)
fault_range not_rising = (omega arith, omega arith)
fault_range sum_passed = (omega arith, omega arith)
fault_range bytes_behind = (omega arith, omega arith)

place_most : (f : Fault) → fault_place f < 10
unfolding fault_place
place_most head_cut = omega arith
place_most kind_wrong = omega arith
place_most length_wrong = omega arith
place_most body_cut = omega arith
place_most limit_passed = omega arith
place_most field_wrong = omega arith
place_most code_wrong = omega arith
place_most not_rising = omega arith
place_most sum_passed = omega arith
place_most bytes_behind = omega arith

-- ---- a refusal is a fault

abbrev FileTold : List ℕ → Read → Type 0
FileTold file (accepted b) = Unit {0}
FileTold file (refused why) = Faulty file (number_of why) (offset_of why)

module _ (file : List ℕ) (short : length file ≤ 65536) where
  module _ (kind at : ℕ) (rest : List ℕ) (fs : List Routine) (cs : List Cell) (ks : List Call) (r : Standing file kind at rest fs cs ks) where
    sizes : length file ≡ at + length rest
    sizes = ap length r.parts ∙ length-append (sent fs cs ks) rest ∙ ap (λ (n : ℕ). n + length rest) (sym r.place)

    record_told : Told (holding fs cs ks) rest at (read_record (length file) kind at rest (block_for (holding fs cs ks)))
    record_told =
        subst⁻¹ (λ (k : ℕ). Told (holding fs cs ks) rest at (read_record (length file) k at rest (block_for (holding fs cs ks)))) r.last
        (told_record (holding fs cs ks) r.functions r.cells at rest r.bytes (omega (arith, sizes)) (length file) sizes)

    faulty : (why : Refusal) → Fails (holding fs cs ks) rest at why → Faulty file (number_of why) (offset_of why)
    faulty why f =
        record {
          short = short;
          before = holding fs cs ks;
          rest = rest;
          stands = record {
            functions = r.functions;
            cells = r.cells;
            calls = r.calls;
            bytes = r.parts ∙ ap (λ (s : List ℕ). s ++ rest) (sym (records_sent (holding fs cs ks)));
          };
          fault = f.fault;
          into = f.into;
          has = f.has;
          none = f.none;
          number = f.number;
          place = f.place ∙ ap (λ (n : ℕ). n + f.into) (r.place ∙ sym (ap length (records_sent (holding fs cs ks))));
        }

    turn_told : (turns : ℕ) → length file < suc turns + at
        → ((k n : ℕ) (more : List ℕ) (b : Block) → Held file k n more b → length file < turns + n
        → FileTold file (read_from turns (length file) (due k n more b)))
        → (g : Reading) → Told (holding fs cs ks) rest at g → Right file g → FileTold file (read_from turns (length file) g)
    turn_told turns enough later (due k n more b) told held = later k n more b held (omega (arith, enough, told.1))
    turn_told turns enough later (ended (accepted b)) told held = subst⁻¹ (FileTold file) (from_ended turns (length file) (accepted b)) tt
    turn_told turns enough later (ended (refused why)) told held =
        subst⁻¹ (FileTold file) (from_ended turns (length file) (refused why)) (faulty why told)

  from_told : (turns kind at : ℕ) (rest : List ℕ) (b : Block) → Held file kind at rest b → length file < turns + at
      → FileTold file (read_from turns (length file) (due kind at rest b))
  unfolding read_from
  from_told zero kind at rest b h enough = absurd (omega (arith, enough, sizes kind at rest h.fs h.cs h.ks h.stands))
  from_told (suc turns) kind at rest b h enough =
      turn_told kind at rest h.fs h.cs h.ks h.stands turns enough (from_told turns) (read_record (length file) kind at rest b)
      (subst⁻¹ (λ (c : Block). Told (holding h.fs h.cs h.ks) rest at (read_record (length file) kind at rest c)) h.block
      (record_told kind at rest h.fs h.cs h.ks h.stands))
      (right_record file short kind at rest b h)

-- What a file is refused by: 1 if it is too long, else its fault.
abbrev BlockTold : List ℕ → Read → Type 0
BlockTold file r = (length file ≤ max_bytes → FileTold file r) × (max_bytes < length file → r ≡ refused InputTooLong)

block_told : (file : List ℕ) → AreBytes file → BlockTold file (read_block file)
unfolding read_block
block_told file bytes =
    if_all (BlockTold file) (ltb 65536 (length file))
    (λ e. (λ h. absurd (omega (arith, ltb-true 65536 (length file) e, h)), λ h. refl))
    λ e. (
      λ h. from_told file h (length file + 1) 0 0 file empty_block (nothing_stands file bytes) (omega arith),
      λ h. absurd (omega (arith, ltb-false 65536 (length file) e, h)),
    )

-- ---- a fault is refused

module _ {A : Type 0} where
  behind_le : (kind before : ℕ) (xs : List A) → before ≤ kind → behind_kind kind before xs ≤ kind
  behind_le kind before [] h = h
  behind_le kind before (x ∷ xs) h = omega arith

  behind_same : (kind : ℕ) (xs : List A) → behind_kind kind kind xs ≡ kind
  behind_same kind [] = refl
  behind_same kind (x ∷ xs) = refl

  -- Records of one kind are read through.
  module _ (of : A → List ℕ) (size k : ℕ) (place : List A → ℕ) (state : List A → Block) (all : List A)
      (step : (before : List A) (x : A) (xs : List A) → before ++ x ∷ xs ≡ all → (kind : ℕ) → kind ≤ k → (more : List ℕ)
      → read_record size kind (place before) (of x ++ more) (state before) ≡ due k (place (before ++ (x ∷ []))) more (state (before ++ (x ∷ []))))
      (tail : List ℕ) (left : ℕ) where
    through : (xs before : List A) (turns kind : ℕ) → before ++ xs ≡ all → kind ≤ k → turns ≡ length xs + left
        → read_from turns size (due kind (place before) (records of xs ++ tail) (state before))
        ≡ read_from left size (due (behind_kind k kind xs) (place all) tail (state all))
    unfolding read_from records
    through [] before turns kind same up count =
        let whole : before ≡ all = sym (append-nil before) ∙ same in
        let now : turns ≡ left = omega arith in
        rw (whole, now) refl
    through (x ∷ xs) before zero kind same up count = absurd (omega arith)
    through (x ∷ xs) before (suc turns) kind same up count =
        ap (λ (s : List ℕ). read_from turns size (read_record size kind (place before) s (state before))) (append_assoc (of x) (records of xs) tail)
        ∙ ap (read_from turns size) (step before x xs same kind up (records of xs ++ tail))
        ∙ through xs (before ++ (x ∷ [])) turns k (append_assoc before (x ∷ []) xs ∙ same) (omega arith) (omega arith)
        ∙ ap (λ (n : ℕ). read_from left size (due n (place all) tail (state all))) (behind_same k xs)

module _ (file : List ℕ) (bytes : AreBytes file) (short : length file ≤ 65536) (t : Contents) (rest : List ℕ) (r : Stands file t rest) where
  abbrev at : ℕ
  at = length (sent t.functions t.cells t.calls)

  parts : file ≡ sent t.functions t.cells t.calls ++ rest
  parts = r.bytes ∙ ap (λ (s : List ℕ). s ++ rest) (records_sent t)

  file_size : length file ≡ at + length rest
  file_size = ap length parts ∙ length-append (sent t.functions t.cells t.calls) rest

  rest_bytes : AreBytes rest
  rest_bytes =
      let behind : drop at file ≡ rest = ap (drop at) parts ∙ drop-append_seam (sent t.functions t.cells t.calls) rest in
      subst AreBytes behind (bytes_drop at file bytes)

  abbrev calls : List ℕ
  calls = records call_record t.calls ++ rest

  abbrev cells : List ℕ
  cells = records cell_record t.cells ++ calls

  file_order : file ≡ records function_record t.functions ++ cells
  unfolding sent
  file_order = parts ∙ simp append_assoc

  through_all : (left : ℕ) → length file + 1 ≡ length t.functions + (length t.cells + (length t.calls + left))
      → read_from (length file + 1) (length file) (due 0 0 file empty_block) ≡ read_from left (length file) (due (last_kind t) at rest (block_for t))
  unfolding block_for placed records
  through_all left turns =
      ap₂ (λ (n : ℕ) (s : List ℕ). read_from (length file + 1) (length file) (due 0 n s empty_block)) (sym (ap length sent_none)) file_order
      ∙ through function_record (length file) 1 (λ l. length (sent l [] [])) (λ l. block_for (holding l [] [])) t.functions
      (λ before f fs same k low more. function_step (length file) k more t.functions r.functions (omega (arith, file_size, sizes)) before f fs same low)
      cells (length t.cells + (length t.calls + left)) t.functions [] (length file + 1) 0 refl (omega arith) turns
      ∙ through cell_record (length file) 2 (λ l. length (sent t.functions l [])) (λ l. block_for (holding t.functions l [])) t.cells
      (λ before c cs same k low more.
      cell_step (length file) k more t.functions t.cells r.cells (omega (arith, file_size, sizes)) before c cs same low)
      calls (length t.calls + left) t.cells [] (length t.cells + (length t.calls + left)) (behind_kind 1 0 t.functions) refl
      (omega (arith, behind_le 1 0 t.functions (omega arith))) refl
      ∙ through call_record (length file) 3 (λ l. length (sent t.functions t.cells l)) (λ l. block_for (holding t.functions t.cells l)) t.calls
      (λ before c ks same k low more.
      call_step (length file) k more t.functions t.cells t.calls r.calls (omega (arith, file_size)) before c ks same low)
      rest left t.calls [] (length t.calls + left) (behind_kind 2 (behind_kind 1 0 t.functions) t.cells) refl
      (omega (arith, behind_le 2 (behind_kind 1 0 t.functions) t.cells (omega (arith, behind_le 1 0 t.functions (omega arith))))) refl
    where
      sizes : at ≡ length (records function_record t.functions) + length (records cell_record t.cells) + length (records call_record t.calls)
      sizes = sent_length t.functions t.cells t.calls

  -- The reader comes to what stands behind the contents.
  abbrev left : ℕ
  left = length file - (length t.functions + length t.cells + length t.calls)

  reached : read_block file ≡ read_from left (length file) (read_record (length file) (last_kind t) at rest (block_for t))
  unfolding read_block read_from
  reached =
      let turns : length file + 1 ≡ length t.functions + (length t.cells + (length t.calls + suc left)) =
      omega (arith, file_size, sent_length t.functions t.cells t.calls, functions_count, cells_count, calls_count) in
      rw (le-ltb 65536 (length file) short) (through_all (suc left) turns)
    where
      functions_count : length t.functions ≤ length (records function_record t.functions)
      functions_count = records_count function_record (λ f. omega (arith, record_length function_kind (function_body f))) t.functions

      cells_count : length t.cells ≤ length (records cell_record t.cells)
      cells_count = records_count cell_record (λ c. omega (arith, record_length cell_kind (cell_body c))) t.cells

      calls_count : length t.calls ≤ length (records call_record t.calls)
      calls_count = records_count call_record (λ c. omega (arith, record_length call_kind (call_body c))) t.calls

module _ (file : List ℕ) (bytes : AreBytes file) (n offset : ℕ) (f : Faulty file n offset) where
  abbrev t : Contents
  t = f.before

  abbrev start : ℕ
  start = length (sent t.functions t.cells t.calls)

  told : Told t f.rest start (read_record (length file) (last_kind t) start f.rest (block_for t))
  told =
      let size : length file ≡ start + length f.rest = file_size file bytes f.short t f.rest f.stands in
      told_record t f.stands.functions f.stands.cells start f.rest (rest_bytes file bytes f.short t f.rest f.stands)
      (omega (arith, size, f.short)) (length file) size

  refuses : (turns : ℕ) (g : Reading) → Told t f.rest start g → RefusedBy (read_from turns (length file) g) n offset
  refuses turns (due k m more b) h = absurd (h.0 f.fault (place_most f.fault) f.into f.has)
  refuses turns (ended (accepted b)) h = absurd (h f.fault (place_most f.fault) f.into f.has)
  refuses turns (ended (refused why)) h =
      let size : length file ≡ start + length f.rest = file_size file bytes f.short t f.rest f.stands in
      let same : h.fault ≡ f.fault = first_one t f.rest h.fault f.fault h.into f.into h.has h.none f.has f.none in
      let place : h.into ≡ f.into =
      into_one t f.rest (omega (arith, size, f.short)) f.fault h.into f.into
      (subst (λ (g : Fault). HasFault t f.rest g h.into) same h.has) f.has in
      subst⁻¹ (λ (r : Read). RefusedBy r n offset) (from_ended turns (length file) (refused why)) (
        h.number ∙ ap fault_number same ∙ sym f.number,
        h.place ∙ ap (λ (m : ℕ). start + m) place ∙ ap (λ (m : ℕ). m + f.into) (sym (ap length (records_sent t))) ∙ sym f.place,
      )

  faulty_refused_lem : RefusedBy (read_block file) n offset
  faulty_refused_lem =
      subst⁻¹ (λ (r : Read). RefusedBy r n offset) (reached file bytes f.short t f.rest f.stands)
      (refuses (left file bytes f.short t f.rest f.stands) _ told)

-- ---- the statement

one_refusal : (r : Read) (n n' k k' : ℕ) → RefusedBy r n k → RefusedBy r n' k' → (n ≡ n') × (k ≡ k')
one_refusal (accepted b) n n' k k' a b' = absurd a
one_refusal (refused why) n n' k k' a b' = (sym a.0 ∙ b'.0, sym a.1 ∙ b'.1)

pub long_refused_lem : (file : List ℕ) → max_bytes < length file → read_block file ≡ refused InputTooLong
unfolding read_block
long_refused_lem file h = rw (lt-ltb 65536 (length file) h)

too_long : (file : List ℕ) → AreBytes file → (offset : ℕ) → RefusedBy (read_block file) 1 offset → (max_bytes < length file) × (offset ≡ 0)
unfolding number_of offset_of
too_long file bytes offset h = go (dec_lt max_bytes (length file)) (read_block file) refl h
  where
    short : (r : Read) → FileTold file r → RefusedBy r 1 offset → ⊥
    short (accepted b) told h = h
    short (refused why) told h = omega (arith, told.number, h.0, fault_range told.fault)

    go : Dec (max_bytes < length file) → (r : Read) → read_block file ≡ r → RefusedBy r 1 offset → (max_bytes < length file) × (offset ≡ 0)
    go (yes l) r e h = (l, sym (subst (λ (q : Read). RefusedBy q 1 offset) (sym e ∙ long_refused_lem file l) h).1)
    go (no l) r e h = absurd (short r (subst (FileTold file) e ((block_told file bytes).0 (omega arith))) h)

only_faulty_lem : (file : List ℕ) → AreBytes file → (n offset : ℕ) → 2 ≤ n → RefusedBy (read_block file) n offset → Faulty file n offset
unfolding number_of
only_faulty_lem file bytes n offset low h = go (dec_lt max_bytes (length file)) (read_block file) refl h
  where
    short : (r : Read) → FileTold file r → RefusedBy r n offset → Faulty file n offset
    short (accepted b) told h = absurd h
    short (refused why) told h = subst (λ (k : ℕ). Faulty file n k) h.1 (subst (λ (m : ℕ). Faulty file m (offset_of why)) h.0 told)

    go : Dec (max_bytes < length file) → (r : Read) → read_block file ≡ r → RefusedBy r n offset → Faulty file n offset
    go (yes l) r e h =
        let one : number_of InputTooLong ≡ n = (subst (λ (q : Read). RefusedBy q n offset) (sym e ∙ long_refused_lem file l) h).0 in
        let is : 1 ≡ n = one in
        absurd (omega arith)
    go (no l) r e h = short r (subst (FileTold file) e ((block_told file bytes).0 (omega arith))) h

pub refusals_exact : RefusalsExact
unfolding number_of offset_of
refusals_exact =
    record {
      tooLong = too_long;
      long_refused = λ file h. subst⁻¹ (λ (r : Read). RefusedBy r 1 0) (long_refused_lem file h) (refl, refl);
      only_faulty = only_faulty_lem;
      faulty_refused = faulty_refused_lem;
      one = λ file bytes n n' k k' f g.
          one_refusal (read_block file) n n' k k' (faulty_refused_lem file bytes n k f) (faulty_refused_lem file bytes n' k' g);
    }
