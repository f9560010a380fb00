-- What holds of the block in an accepted file, for the crates above: where its cells and calls stand, that its codes are valid, that
-- its ids and keys rise, and its limits. Every record that the reader takes keeps it.
use Rattle.std.specs.Prelude.{None, Option, Some}
use mathlib.Core.Path.{◌≡◌, refl, sym, ◌∙◌, ap, subst⁻¹}
use mathlib.Core.Bool.{Bool, true, false, not, ◌&&◌}
use mathlib.Core.List.{List, [], ◌∷◌, ◌++◌, map, map-append}
use Prim.Native.Nat.{ℕ, zero, suc, ◌+◌, ◌*◌, ◌-◌, ◌/◌, ◌%◌, ◌^◌, ◌<◌, ◌≤◌}
use native.Mathlib.Omega.{arith}
use native.Mathlib.Decide.{dec_lt}
use native.Mathlib.Nat.{lt_trans}
use lib.Dec.{eqb, leb, ltb}
use lib.ListN.{length, get_or, drop, length-append, get_or-append}
use lib.IntN.{ℤ, pos, negsuc}
use lib.Seq.{drop-drop, get_or-drop, get_or-append_seam}
use lib.Signed.{le_z, lt_z, non_neg}
use borrow.Author.Tests.{ltb-true, ltb-false, leb-true, leb-false, eqb-true, eqb-false, not-false, eq-eqb}
use Rattle.arith.proofs.ChoiceLaws.{if_all, both}
use Rattle.arith.specs.Balance.{total, largest, none_below_zero, within_limit}
use Rattle.wire.specs.Bytes.{number, read_le}
use Rattle.wire.proofs.BytesLaws.{number_lt}
use Rattle.block.specs.Key.{address_of, field_in, is_balance, key_allowed}
use Rattle.block.proofs.KeyLaws.{field_of}
use Rattle.block.specs.Instruction.{decode, is_valid, first_invalid}
use Rattle.block.specs.Record.{Function, Cell, Block, function_id, call_bytes, call_record_bytes, length_allowed, cell_of, cell_allowed, call_of}
use Rattle.block.specs.Reader.{Reading, accepted, refused, due, ended, empty_block, rises, balances, read_function, read_cell, withCall, read_call, read_end}
use Rattle.block.specs.declared.Call.{Call}

-- What holds of each element of a list and its index; the default is never asked.
abbrev pub EachAt : {A : Type 0} → (ℕ → A → Type 0) → List A → Type 0
EachAt {A} P l = (i : ℕ) (d : A) → i < length l → P i (get_or l i d)

-- Strictly rising numbers.
abbrev pub Rising : List ℕ → Type 0
Rising l = (i j : ℕ) → i < j → j < length l → get_or l i 0 < get_or l j 0

-- A function's code lies within the file, and each of its instructions is valid.
pub record FunctionSound (file : List ℕ) (f : Function) : Type 0 where
  pub within : f.start + 8 * f.size ≤ length file
  pub few : f.size ≤ 64
  pub valid : first_invalid f.size 0 f.size (drop f.start file) ≡ f.size

pub record BlockLaws (file : List ℕ) (b : Block) : Type 0 where
  pub codes : EachAt (λ i f. FunctionSound file f) b.functions
  pub cells : EachAt (λ i c. c ≡ cell_of (drop (b.opening + 24 * i + 4) file)) b.cells
  pub allowed : EachAt (λ i c. cell_allowed (drop (b.opening + 24 * i + 4) file) ≡ true) b.cells
  pub calls : EachAt (λ i c. call_of (drop (b.first_call + call_record_bytes * i + 4) file) ≡ Some c) b.calls
  pub fuelled : EachAt (λ i c. 0 < c.fuel) b.calls
  pub first_call : b.opening + 24 * length b.cells ≡ b.first_call
  pub ids : Rising (map function_id b.functions)
  pub keys : Rising (map (λ c. c.key) b.cells)
  pub function_limit : length b.functions ≤ 64
  pub cell_limit : length b.cells ≤ 1024
  pub call_limit : length b.calls ≤ 256
  pub sum : le_z (total (balances b.cells)) largest ≡ true

-- Before a record, behind one of the given kind.
pub record Reached (file : List ℕ) (kind at : ℕ) (rest : List ℕ) (b : Block) : Type 0 where
  pub laws : BlockLaws file b
  pub here : rest ≡ drop at file
  pub within : at ≤ length file
  pub place : b.first_call + call_record_bytes * length b.calls ≡ at
  pub no_cells : kind < 2 → length b.cells ≡ 0
  pub no_calls : kind < 3 → length b.calls ≡ 0

-- At the end: the end record is the last of the file.
pub record EndsFile (file : List ℕ) (b : Block) : Type 0 where
  pub laws : BlockLaws file b
  pub end : b.first_call + call_record_bytes * length b.calls + 4 ≡ length file

abbrev pub Right : List ℕ → Reading → Type 0
Right file (due kind at rest b) = Reached file kind at rest b
Right file (ended (accepted b)) = EndsFile file b
Right file (ended (refused why)) = Unit {0}

-- ---- lists that grow at their end

module _ {A : Type 0} where
  each_none : (P : ℕ → A → Type 0) (l : List A) → length l ≡ 0 → EachAt P l
  each_none P l e i d h = absurd (omega arith)

  each_snoc : (P : ℕ → A → Type 0) (l : List A) (x : A) → EachAt P l → P (length l) x → EachAt P (l ++ (x ∷ []))
  each_snoc P l x all new i d h = go (dec_lt i (length l))
    where
      go : Dec (i < length l) → P i (get_or (l ++ (x ∷ [])) i d)
      go (yes g) = subst⁻¹ (P i) (get_or-append l (x ∷ []) d i g) (all i d g)
      go (no g) =
          let e : i ≡ length l = omega (arith, length-append l (x ∷ [])) in
          rw (e, get_or-append_seam l x [] d) new

  length_snoc : (l : List A) (x : A) → length (l ++ (x ∷ [])) ≡ length l + 1
  length_snoc l x = length-append l (x ∷ [])

-- The last number of a list is below one that it rises to.
below_last : (l : List ℕ) (n i : ℕ) → rises l n ≡ true → i + 1 ≡ length l → get_or l i 0 < n
unfolding rises
below_last [] n i e h = absurd (omega arith)
below_last (m ∷ []) n zero e h = ltb-true m n e
below_last (m ∷ []) n (suc i) e h = absurd (omega arith)
below_last (m ∷ k ∷ l) n zero e h = absurd (omega arith)
below_last (m ∷ k ∷ l) n (suc i) e h = below_last (k ∷ l) n i e (omega arith)

rising_snoc : (l : List ℕ) (n : ℕ) → Rising l → rises l n ≡ true → Rising (l ++ (n ∷ []))
rising_snoc l n up e i j h k = go (dec_lt j (length l))
  where
    last : (m : ℕ) → m + 1 ≡ length l → i < length l → Dec (i < m) → get_or l i 0 < n
    last m f inside (yes g) = lt_trans (up i m g (omega arith)) (below_last l n m e f)
    last m f inside (no g) = below_last l n i e (omega arith)

    go : Dec (j < length l) → get_or (l ++ (n ∷ [])) i 0 < get_or (l ++ (n ∷ [])) j 0
    go (yes g) = rw (get_or-append l (n ∷ []) 0 i (omega arith), get_or-append l (n ∷ []) 0 j g) (up i j h g)
    go (no g) =
        let f : j ≡ length l = omega (arith, length-append l (n ∷ [])) in
        let inside : i < length l = omega arith in
        rw (get_or-append l (n ∷ []) 0 i inside, f, get_or-append_seam l n [] 0)
        (last (length l - 1) (omega arith) inside (dec_lt i (length l - 1)))

-- ---- one record

pub function_length_range : (kind len : ℕ) → length_allowed kind len ≡ true → kind ≡ 1 → (4 ≤ len) × (len ≤ 516)
unfolding length_allowed
function_length_range kind len e k =
    let f : leb 4 len && leb len 516 && eqb ((len - 4) % 8) 0 ≡ true = simp (eq-eqb kind 1 k) at e in
    let g : (leb 4 len && leb len 516 ≡ true) × (eqb ((len - 4) % 8) 0 ≡ true) = both _ _ f in
    let h : (leb 4 len ≡ true) × (leb len 516 ≡ true) = both _ _ g.0 in
    (leb-true 4 len h.0, leb-true len 516 h.1)

pub cell_length_lem : (kind len : ℕ) → length_allowed kind len ≡ true → kind ≡ 2 → len ≡ 20
unfolding length_allowed
cell_length_lem kind len e k = eqb-true len 20 (simp k at e)

pub call_length : (kind len : ℕ) → length_allowed kind len ≡ true → kind ≡ 3 → len ≡ call_bytes
unfolding length_allowed
call_length kind len e k = eqb-true len call_bytes (simp k at e)

invalid_le : (left index size : ℕ) (s : List ℕ) → first_invalid left index size s ≤ index + left
unfolding first_invalid
invalid_le zero index size s = omega arith
invalid_le (suc left) index size s = go (is_valid (decode size s)) refl (invalid_le left (index + 1) size (drop 8 s))
  where
    go : (t : Bool) → is_valid (decode size s) ≡ t → first_invalid left (index + 1) size (drop 8 s) ≤ index + 1 + left → first_invalid (suc left) index size s ≤ index + suc left
    go true e h = rw (e, first_invalid) (omega arith)
    go false e h = rw (e, first_invalid) (omega arith)

module _ (file : List ℕ) (kind at : ℕ) (rest : List ℕ) (b : Block) (r : Reached file kind at rest b) (len : ℕ) (whole : at + 4 + len ≤ length file) where
  body_at : drop 4 rest ≡ drop (at + 4) file
  body_at = rw (r.here, drop-drop 4 at file) refl

  next_at : drop len (drop 4 rest) ≡ drop (at + 4 + len) file
  next_at = rw (body_at, drop-drop len (at + 4) file) refl

  code_at : drop 4 (drop 4 rest) ≡ drop (at + 4 + 4) file
  code_at = rw (body_at, drop-drop 4 (at + 4) file) refl

  with_function : (f : Function) → kind < 2 → length b.functions < 64 → FunctionSound file f → rises (map function_id b.functions) (function_id f) ≡ true
      → Reached file 1 (at + 4 + len) (drop len (drop 4 rest)) (record { functions = b.functions ++ (f ∷ []); cells = b.cells; calls = b.calls; opening = at + 4 + len; first_call = at + 4 + len })
  with_function f k room good up =
      let cells : length b.cells ≡ 0 = r.no_cells k in
      let calls : length b.calls ≡ 0 = r.no_calls (omega arith) in
      record {
        laws =
            record {
              codes = each_snoc (λ i g. FunctionSound file g) b.functions f r.laws.codes good;
              cells = each_none (λ i c. c ≡ cell_of (drop (at + 4 + len + 24 * i + 4) file)) b.cells cells;
              allowed = each_none (λ i c. cell_allowed (drop (at + 4 + len + 24 * i + 4) file) ≡ true) b.cells cells;
              calls = each_none (λ i c. call_of (drop (at + 4 + len + call_record_bytes * i + 4) file) ≡ Some c) b.calls calls;
              fuelled = r.laws.fuelled;
              first_call = omega arith;
              ids = rw (map-append function_id b.functions (f ∷ [])) (rising_snoc (map function_id b.functions) (function_id f) r.laws.ids up);
              keys = r.laws.keys;
              function_limit = omega (arith, length_snoc b.functions f);
              cell_limit = r.laws.cell_limit;
              call_limit = r.laws.call_limit;
              sum = r.laws.sum;
            };
        here = next_at;
        within = whole;
        place = omega arith;
        no_cells = λ h. cells;
        no_calls = λ h. calls;
      }

  pub right_function : kind < 2 → 4 ≤ len → len ≤ 516 → Right file (read_function at len (drop 4 rest) b)
  unfolding read_function
  right_function k low high =
      if_all (Right file) (leb 64 (length b.functions)) (λ e. tt) λ room.
      if_all (Right file) (ltb (number 2 (drop 4 rest)) 32768) (λ e. tt) λ e₂.
      if_all (Right file) (ltb (first_invalid ((len - 4) / 8) 0 ((len - 4) / 8) (drop 4 (drop 4 rest))) ((len - 4) / 8)) (λ e. tt) λ good.
      if_all (Right file) (not (rises (map function_id b.functions) (number 2 (drop 4 rest) * 65536 + read_le 2 (drop 4 rest) 2))) (λ e. tt) λ up.
      with_function (record { contract = record { 0 = number 2 (drop 4 rest) }; number = read_le 2 (drop 4 rest) 2; start = at + 4 + 4; size = (len - 4) / 8 }) k
      (leb-false 64 (length b.functions) room)
      (record {
        within = omega arith;
        few = omega arith;
        valid = rw (← code_at) (ends (first_invalid ((len - 4) / 8) 0 ((len - 4) / 8) (drop 4 (drop 4 rest))) (ltb-false _ _ good) (invalid_le ((len - 4) / 8) 0 ((len - 4) / 8) (drop 4 (drop 4 rest))));
      })
      (not-false _ up)
    where
      ends : (n : ℕ) → (len - 4) / 8 ≤ n → n ≤ 0 + (len - 4) / 8 → n ≡ (len - 4) / 8
      ends n f g = omega arith

  with_cell : kind < 3 → len ≡ 20 → length b.cells < 1024 → cell_allowed (drop 4 rest) ≡ true
      → rises (map (λ c. c.key) b.cells) (cell_of (drop 4 rest)).key ≡ true
      → le_z (total (balances (b.cells ++ (cell_of (drop 4 rest) ∷ [])))) largest ≡ true
      → Reached file 2 (at + 4 + len) (drop len (drop 4 rest)) (record { functions = b.functions; cells = b.cells ++ (cell_of (drop 4 rest) ∷ []); calls = b.calls; opening = b.opening; first_call = at + 4 + len })
  with_cell k size room good up sum =
      let calls : length b.calls ≡ 0 = r.no_calls k in
      let from : b.opening + 24 * length b.cells ≡ b.first_call = r.laws.first_call in
      let to : b.first_call + call_record_bytes * length b.calls ≡ at = r.place in
      let here : at + 4 ≡ b.opening + 24 * length b.cells + 4 = omega arith in
      let body : drop 4 rest ≡ drop (b.opening + 24 * length b.cells + 4) file = body_at ∙ ap (λ (n : ℕ). drop n file) here in
      record {
        laws =
            record {
              codes = r.laws.codes;
              cells = each_snoc (λ i c. c ≡ cell_of (drop (b.opening + 24 * i + 4) file)) b.cells (cell_of (drop 4 rest)) r.laws.cells (ap (λ (s : List ℕ). cell_of s) body);
              allowed = each_snoc (λ i c. cell_allowed (drop (b.opening + 24 * i + 4) file) ≡ true) b.cells (cell_of (drop 4 rest)) r.laws.allowed (rw (← body) good);
              calls = each_none (λ i c. call_of (drop (at + 4 + len + call_record_bytes * i + 4) file) ≡ Some c) b.calls calls;
              fuelled = r.laws.fuelled;
              first_call = omega (arith, length_snoc b.cells (cell_of (drop 4 rest)));
              ids = r.laws.ids;
              keys = rw (map-append (λ c. c.key) b.cells (cell_of (drop 4 rest) ∷ [])) (rising_snoc (map (λ c. c.key) b.cells) (cell_of (drop 4 rest)).key r.laws.keys up);
              function_limit = r.laws.function_limit;
              cell_limit = omega (arith, length_snoc b.cells (cell_of (drop 4 rest)));
              call_limit = r.laws.call_limit;
              sum = sum;
            };
        here = next_at;
        within = whole;
        place = omega arith;
        no_cells = λ h. absurd (omega arith);
        no_calls = λ h. calls;
      }

  pub right_cell : kind < 3 → len ≡ 20 → Right file (read_cell at len (drop 4 rest) b)
  unfolding read_cell
  right_cell k size =
      if_all (Right file) (leb 1024 (length b.cells)) (λ e. tt) λ room.
      if_all (Right file) (not (cell_allowed (drop 4 rest))) (λ e. tt) λ good.
      if_all (Right file) (not (rises (map (λ c. c.key) b.cells) (cell_of (drop 4 rest)).key)) (λ e. tt) λ up.
      if_all (Right file) (not (le_z (total (balances (b.cells ++ (cell_of (drop 4 rest) ∷ [])))) largest)) (λ e. tt) λ sum.
      with_cell k size (leb-false 1024 (length b.cells) room) (not-false _ good) (not-false _ up) (not-false _ sum)

  with_call : (c : Call) → len ≡ call_bytes → length b.calls < 256 → call_of (drop 4 rest) ≡ Some c → 0 < c.fuel
      → Reached file 3 (at + 4 + len) (drop len (drop 4 rest)) (record { functions = b.functions; cells = b.cells; calls = b.calls ++ (c ∷ []); opening = b.opening; first_call = b.first_call })
  with_call c size room good fuel =
      let to : b.first_call + call_record_bytes * length b.calls ≡ at = r.place in
      let here : at + 4 ≡ b.first_call + call_record_bytes * length b.calls + 4 = omega arith in
      let body : drop 4 rest ≡ drop (b.first_call + call_record_bytes * length b.calls + 4) file = body_at ∙ ap (λ (n : ℕ). drop n file) here in
      record {
        laws =
            record {
              codes = r.laws.codes;
              cells = r.laws.cells;
              allowed = r.laws.allowed;
              calls = each_snoc (λ i c'. call_of (drop (b.first_call + call_record_bytes * i + 4) file) ≡ Some c') b.calls c r.laws.calls (rw (← body) good);
              fuelled = each_snoc (λ i c'. 0 < c'.fuel) b.calls c r.laws.fuelled fuel;
              first_call = r.laws.first_call;
              ids = r.laws.ids;
              keys = r.laws.keys;
              function_limit = r.laws.function_limit;
              cell_limit = r.laws.cell_limit;
              call_limit = omega (arith, length_snoc b.calls c);
              sum = r.laws.sum;
            };
        here = next_at;
        within = whole;
        place = omega (arith, length_snoc b.calls c);
        no_cells = λ h. absurd (omega arith);
        no_calls = λ h. absurd (omega arith);
      }

  pub right_call : len ≡ call_bytes → Right file (read_call at len (drop 4 rest) b)
  unfolding read_call withCall
  right_call size = if_all (Right file) (leb 256 (length b.calls)) (λ e. tt) λ room. go (leb-false 256 (length b.calls) room) (call_of (drop 4 rest)) refl
    where
      go : length b.calls < 256 → (c : Option Call) → call_of (drop 4 rest) ≡ c → Right file (withCall at len (drop 4 rest) b c)
      go room None e = tt
      go room (Some c) e =
          if_all (Right file) (eqb c.fuel 0) (λ f. tt) (λ f. with_call c size room e (let some = eqb-false c.fuel 0 f in omega (arith, some)))

  pub right_end : Right file (read_end (length file) at b)
  unfolding read_end
  right_end =
      if_all (Right file) (ltb (at + 4) (length file)) (λ e. tt) λ e.
      let last : length file ≤ at + 4 = ltb-false (at + 4) (length file) e in
      let to : b.first_call + call_record_bytes * length b.calls ≡ at = r.place in
      record { laws = r.laws; end = omega arith }

-- ---- the start

-- There is nothing yet.
pub reached_start : (file : List ℕ) → Reached file 0 0 file empty_block
unfolding total balances
reached_start file =
    record {
      laws =
          record {
            codes = each_none (λ i f. FunctionSound file f) [] refl;
            cells = each_none (λ i c. c ≡ cell_of (drop (0 + 24 * i + 4) file)) [] refl;
            allowed = each_none (λ i c. cell_allowed (drop (0 + 24 * i + 4) file) ≡ true) [] refl;
            calls = each_none (λ i c. call_of (drop (0 + call_record_bytes * i + 4) file) ≡ Some c) [] refl;
            fuelled = each_none (λ i c. 0 < c.fuel) [] refl;
            first_call = refl;
            ids = λ i j h k. absurd (omega arith);
            keys = λ i j h k. absurd (omega arith);
            function_limit = omega arith;
            cell_limit = omega arith;
            call_limit = omega arith;
            sum = refl;
          };
      here = refl;
      within = omega arith;
      place = refl;
      no_cells = λ h. refl;
      no_calls = λ h. refl;
    }

-- ---- balances

module _ (file : List ℕ) (bytes : (i : ℕ) → get_or file i 0 < 256) where
  from_bytes : (n k : ℕ) → number k (drop n file) < 256 ^ k
  from_bytes n k = number_lt k (drop n file) (λ i. rw (get_or-drop n file i 0) (bytes (n + i)))

  -- A balance among opening cells is above zero.
  cell_above : (n : ℕ) → cell_allowed (drop n file) ≡ true → is_balance (cell_of (drop n file)).key ≡ true → lt_z (pos 0) (cell_of (drop n file)).value ≡ true
  unfolding cell_allowed
  cell_above n good own =
      let small : read_le 2 (drop n file) 2 < 2 ^ 16 = rw (drop-drop 2 n file) (from_bytes (n + 2) 2) in
      let small-a : read_le 4 (drop n file) 4 < 2 ^ 32 = rw (drop-drop 4 n file) (from_bytes (n + 4) 4) in
      let small_b : read_le 4 (drop n file) 8 < 2 ^ 32 = rw (drop-drop 8 n file) (from_bytes (n + 8) 4) in
      let field : field_in (cell_of (drop n file)).key ≡ read_le 2 (drop n file) 2 =
      field_of (number 2 (drop n file)) (read_le 2 (drop n file) 2) (read_le 4 (drop n file) 4) (read_le 4 (drop n file) 8) small small-a small_b in
      let zero : eqb (read_le 2 (drop n file) 2) 0 ≡ true = ap (λ (f : ℕ). eqb f 0) (sym field) ∙ own in
      simp zero at (both (key_allowed (address_of (number 2 (drop n file))) (read_le 2 (drop n file) 2) (read_le 4 (drop n file) 4) (read_le 4 (drop n file) 8)) _ good).1

  pub balances_above : (b : Block) → BlockLaws file b → EachAt (λ i c. is_balance c.key ≡ true → lt_z (pos 0) c.value ≡ true) b.cells
  balances_above b laws i d h =
      subst⁻¹ (λ (c : Cell). is_balance c.key ≡ true → lt_z (pos 0) c.value ≡ true) (laws.cells i d h)
      (cell_above (b.opening + 24 * i + 4) (laws.allowed i d h))

pub above_from_zero : (z : ℤ) → lt_z (pos 0) z ≡ true → non_neg z ≡ true
above_from_zero (pos n) e = refl
above_from_zero (negsuc n) e = e

none_below : (cs : List Cell) → EachAt (λ i c. is_balance c.key ≡ true → lt_z (pos 0) c.value ≡ true) cs → none_below_zero (balances cs) ≡ true
unfolding balances none_below_zero
none_below [] all = refl
none_below (c ∷ cs) all =
    let rest : none_below_zero (balances cs) ≡ true = none_below cs (λ i d h. all (suc i) d (omega arith)) in
    if_all (λ (l : List ℤ). none_below_zero l ≡ true) (is_balance c.key)
    (λ e. simp (above_from_zero c.value (all 0 c (omega arith) e), rest))
    (λ e. rest)

-- The opening keeps the balance limit.
pub opening_within : (file : List ℕ) (b : Block) → ((i : ℕ) → get_or file i 0 < 256) → BlockLaws file b → within_limit (balances b.cells) ≡ true
opening_within file b bytes laws = simp (none_below b.cells (balances_above file bytes b laws), laws.sum)
