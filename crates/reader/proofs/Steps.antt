-- What a record makes of the reader's numbers: each way through a record's function is the definition's, and leaves numbers that
-- stand for the definition's block.
use mathlib.Core.Path.{◌≡◌, refl, sym, ◌∙◌, ap}
use mathlib.Core.Bool.{Bool, true, false, true≢false}
use mathlib.Core.List.{List, [], ◌∷◌, ◌++◌, map, map-append}
use Prim.Native.Nat.{ℕ, ◌+◌, ◌*◌, ◌-◌, ◌/◌, ◌^◌, ◌<◌, ◌≤◌}
use native.Mathlib.Omega.{arith}
use native.Mathlib.Decide.{dec_le}
use lib.Dec.{eqb, leb, ltb}
use lib.IntN.{ℤ, pos, ◌+ℤ◌, +ℤ_assoc, +ℤ_idl, +ℤ_idr}
use lib.ListN.{length, drop, length-append}
use lib.Signed.{lt_z}
use borrow.Author.Tests.{lt-ltb, le-ltb, le-leb, lt-leb, eq-eqb, ne_eqb, ltb-true, ltb-false, eqb-true}
use Rattle.std.specs.Prelude.{Ok, Err, if◌then◌else◌, None, Some}
use Rattle.arith.specs.Balance.{total}
use Rattle.arith.specs.Exact.{signed}
use Rattle.arith.proofs.IntegerLaws.{signed_low, signed_high}
use Rattle.wire.specs.Bytes.{number, read_le}
use Rattle.block.specs.Key.{address_of, key_allowed, field_in, is_balance}
use Rattle.block.proofs.KeyLaws.{field_of}
use Rattle.block.specs.Instruction.{first_invalid}
use Rattle.block.specs.Record.{Function, Cell, Block, function_id, head_bytes, function_kind, cell_kind, call_kind, cell_of, cell_allowed, call_of}
use Rattle.block.specs.Reader.{rises, balances, read_function, read_cell, withCall, read_call}
use Rattle.reader.specs.Layout.{numbers_of}
use Rattle.reader.specs.Standing.{floor_of, value_allowed, NumbersOfBlock, TurnFollows}
use Rattle.block.specs.declared.Call.{Call}
use Rattle.block.specs.declared.Refusal.TheVariants.{BeyondLimit, Field, Code, NotRising, Balances}
use Rattle.reader.specs.declared.Progress.{Progress}
use Rattle.reader.specs.declared.Turn.TheVariants.{More, Function as AddFunction}

-- ---- the numbers behind one more function, opening cell or call

abbrev pub after_function : Progress → (len id : ℕ) → Progress
after_function p len id =
    record {
      kind = function_kind;
      at = p.at + head_bytes + len;
      functions = p.functions + 1;
      cells = p.cells;
      calls = p.calls;
      opening = p.at + head_bytes + len;
      first_call = p.at + head_bytes + len;
      least = id + 1;
      high = p.high;
      low = p.low;
      sum = p.sum;
    }

abbrev pub after_cell : Progress → (len high low sum : ℕ) → Progress
after_cell p len high low sum =
    record {
      kind = cell_kind;
      at = p.at + head_bytes + len;
      functions = p.functions;
      cells = p.cells + 1;
      calls = p.calls;
      opening = p.opening;
      first_call = p.at + head_bytes + len;
      least = p.least;
      high = high;
      low = low + 1;
      sum = sum;
    }

abbrev pub after_call : Progress → (len : ℕ) → Progress
after_call p len =
    record {
      kind = call_kind;
      at = p.at + head_bytes + len;
      functions = p.functions;
      cells = p.cells;
      calls = p.calls + 1;
      opening = p.opening;
      first_call = p.first_call;
      least = p.least;
      high = p.high;
      low = p.low;
      sum = p.sum;
    }

-- ---- rising numbers

above_one : (m n : ℕ) → ltb m n ≡ leb (m + 1) n
above_one m n = go (ltb m n) refl
  where
    go : (t : Bool) → ltb m n ≡ t → t ≡ leb (m + 1) n
    go true e = let h : m < n = ltb-true m n e in sym (le-leb (m + 1) n (omega arith))
    go false e = let h : n ≤ m = ltb-false m n e in sym (lt-leb (m + 1) n (omega arith))

pub rises_floor : (l : List ℕ) (n : ℕ) → rises l n ≡ leb (floor_of l) n
unfolding rises floor_of
rises_floor [] n = sym (le-leb 0 n (omega arith))
rises_floor (m ∷ []) n = above_one m n
rises_floor (m ∷ k ∷ l) n = rises_floor (k ∷ l) n

pub floor_snoc : (l : List ℕ) (n : ℕ) → floor_of (l ++ (n ∷ [])) ≡ n + 1
unfolding floor_of
floor_snoc [] n = refl
floor_snoc (m ∷ []) n = refl
floor_snoc (m ∷ k ∷ l) n = floor_snoc (k ∷ l) n

snoc_length : {A : Type 0} (l : List A) (x : A) (n : ℕ) → n ≡ length l → n + 1 ≡ length (l ++ (x ∷ []))
snoc_length l x n e = omega (arith, length-append l (x ∷ []), e)

-- ---- a function

module _ (p : Progress) (b : Block) (h : NumbersOfBlock p b) (len : ℕ) (body : List ℕ) where
  pub function_limit_lem : 64 ≤ p.functions → TurnFollows p b (Err (BeyondLimit p.at)) (read_function p.at len body b)
  unfolding read_function
  function_limit_lem full = simp (le-leb 64 (length b.functions) (rw h.functions at full)) refl

  module _ (room : p.functions < 64) {contract : ℕ} (ec : contract ≡ read_le 2 body 0) where
    free : leb 64 (length b.functions) ≡ false
    free = lt-leb 64 (length b.functions) (rw h.functions at room)

    pub function_field : contract < 32768 → TurnFollows p b (Err (Field p.at)) (read_function p.at len body b)
    unfolding read_function
    function_field low = simp (free, lt-ltb (number 2 body) 32768 (rw ec at low)) refl

    module _ (high : 32768 ≤ contract) {i : ℕ} (ei : i ≡ first_invalid ((len - 4) / 8) 0 ((len - 4) / 8) (drop 4 body)) where
      is_contract : ltb (number 2 body) 32768 ≡ false
      is_contract = le-ltb (number 2 body) 32768 (rw ec at high)

      pub function_code_refused : i < (len - 4) / 8 → TurnFollows p b (Err (Code (p.at + 4 + 4 + 8 * i))) (read_function p.at len body b)
      unfolding read_function
      function_code_refused bad = simp (free, is_contract, ← ei, lt-ltb i ((len - 4) / 8) bad) refl

      module _ (good : (len - 4) / 8 ≤ i) {id : ℕ} (ed : id ≡ contract * 65536 + read_le 2 body 2) where
        rising : rises (map function_id b.functions) (number 2 body * 65536 + read_le 2 body 2) ≡ leb p.least id
        rising = rises_floor (map function_id b.functions) (number 2 body * 65536 + read_le 2 body 2) ∙ simp (← h.ids, ed, ec)

        pub function_rising : id < p.least → TurnFollows p b (Err (NotRising p.at)) (read_function p.at len body b)
        unfolding read_function
        function_rising below = simp (free, is_contract, ← ei, le-ltb i ((len - 4) / 8) good, rising, lt-leb p.least id below) refl

        f : Function
        f = record { contract = record { 0 = number 2 body }; number = read_le 2 body 2; start = p.at + 4 + 4; size = (len - 4) / 8 }

        id_is : function_id f ≡ id
        unfolding f
        id_is = simp (ed, ec)

        pub function_more : p.least ≤ id → TurnFollows p b (Ok (AddFunction (after_function p len id) (record { id = id; start = p.at + 4 + 4; size = (len - 4) / 8 }))) (read_function p.at len body b)
        unfolding read_function f
        function_more above =
            simp (free, is_contract, ← ei, le-ltb i ((len - 4) / 8) good, rising, le-leb p.least id above) (
              record {
                kind = refl;
                at = refl;
                later = omega arith;
                holds =
                    record {
                      functions = snoc_length b.functions f p.functions h.functions;
                      cells = h.cells;
                      calls = h.calls;
                      opening = refl;
                      first_call = refl;
                      ids = rw (map-append function_id b.functions (f ∷ []), floor_snoc (map function_id b.functions) (function_id f)) (ap (λ (n : ℕ). n + 1) (sym id_is));
                      keys = h.keys;
                      sum = h.sum;
                      steady = record { low = h.steady.low; sum = h.steady.sum };
                    };
              },
              map-append numbers_of b.functions (f ∷ [])
                  ∙ ap (λ (n : ℕ). map numbers_of b.functions ++ (record { id = n; start = p.at + 4 + 4; size = (len - 4) / 8 } ∷ [])) id_is,
            )

-- ---- the sum of balances

-- What a cell adds to the sum.
abbrev share : Cell → ℤ
share c = if is_balance c.key then c.value else pos 0

share_first : (t : Bool) (v : ℤ) (vs : List ℤ) → total (if t then v ∷ vs else vs) ≡ (if t then v else pos 0) +ℤ total vs
unfolding total
share_first true v vs = refl
share_first false v vs = sym (+ℤ_idl (total vs))

total_cons : (c : Cell) (cs : List Cell) → total (balances (c ∷ cs)) ≡ share c +ℤ total (balances cs)
unfolding balances
total_cons c cs = share_first (is_balance c.key) c.value (balances cs)

pub total_snoc : (cs : List Cell) (c : Cell) → total (balances (cs ++ (c ∷ []))) ≡ total (balances cs) +ℤ share c
unfolding balances total
total_snoc [] c = total_cons c [] ∙ +ℤ_idr (share c) ∙ sym (+ℤ_idl (share c))
total_snoc (d ∷ cs) c =
    total_cons d (cs ++ (c ∷ []))
    ∙ ap (λ (z : ℤ). share d +ℤ z) (total_snoc cs c)
    ∙ sym (+ℤ_assoc (share d) (total (balances cs)) (share c))
    ∙ ap (λ (z : ℤ). z +ℤ share c) (sym (total_cons d cs))

-- A balance above zero is its bits.
above_zero : (bits : ℕ) → lt_z (pos 0) (signed 64 bits) ≡ true → bits < 2 ^ 63
above_zero bits e = go (dec_le (2 ^ 63) bits)
  where
    go : Dec (2 ^ 63 ≤ bits) → bits < 2 ^ 63
    go (yes h) =
        let f : lt_z (pos 0) (signed 64 bits) ≡ false = rw (signed_high 64 bits h) refl in
        let z : ◌≡◌ {A = Bool} true false = sym e ∙ f in
        absurd (true≢false z)
    go (no h) = omega arith

pub balance_bits : (field bits : ℕ) → value_allowed field bits ≡ true → field ≡ 0 → bits < 2 ^ 63
balance_bits field bits e z = above_zero bits (simp (eq-eqb field 0 z) at e)

-- ---- an opening cell

module _ (p : Progress) (b : Block) (h : NumbersOfBlock p b) (len : ℕ) (body : List ℕ) where
  pub cell_limit_lem : 1024 ≤ p.cells → TurnFollows p b (Err (BeyondLimit p.at)) (read_cell p.at len body b)
  unfolding read_cell
  cell_limit_lem full = simp (le-leb 1024 (length b.cells) (rw h.cells at full)) refl

  module _ (room : p.cells < 1024) {address field x y bits : ℕ} (e₁ : address ≡ read_le 2 body 0) (e₂ : field ≡ read_le 2 body 2)
      (e₃ : x ≡ read_le 4 body 4) (e₄ : y ≡ read_le 4 body 8) (e₅ : bits ≡ read_le 8 body 12) where
    has_room : leb 1024 (length b.cells) ≡ false
    has_room = lt-leb 1024 (length b.cells) (rw h.cells at room)

    pub cell_key_refused : key_allowed (address_of address) field x y ≡ false → TurnFollows p b (Err (Field p.at)) (read_cell p.at len body b)
    unfolding read_cell cell_allowed
    cell_key_refused bad = simp (has_room, rw (e₁, e₂, e₃, e₄) at bad) refl

    module _ (good : key_allowed (address_of address) field x y ≡ true) where
      key_good : key_allowed (address_of (number 2 body)) (read_le 2 body 2) (read_le 4 body 4) (read_le 4 body 8) ≡ true
      key_good = rw (e₁, e₂, e₃, e₄) at good

      pub cell_value : value_allowed field bits ≡ false → TurnFollows p b (Err (Field p.at)) (read_cell p.at len body b)
      unfolding read_cell cell_allowed
      cell_value bad = simp (has_room, key_good, rw (e₂, e₅) at bad) refl

      module _ (right : value_allowed field bits ≡ true) {high : ℕ} (eh : high ≡ address * 2 ^ 48 + field * 2 ^ 32 + x) where
        is_allowed : cell_allowed body ≡ true
        unfolding cell_allowed
        is_allowed = simp (key_good, rw (e₂, e₅) at right)

        the_key : (cell_of body).key ≡ high * 2 ^ 32 + y
        the_key = rw (eh, e₁, e₂, e₃, e₄) (omega arith)

        cell_rises : rises (map (λ c. c.key) b.cells) (cell_of body).key ≡ leb (p.high * 2 ^ 32 + p.low) (high * 2 ^ 32 + y)
        cell_rises = rises_floor (map (λ c. c.key) b.cells) (cell_of body).key ∙ rw (h.keys, the_key)

        pub cell_rising : leb (p.high * 2 ^ 32 + p.low) (high * 2 ^ 32 + y) ≡ false → TurnFollows p b (Err (NotRising p.at)) (read_cell p.at len body b)
        unfolding read_cell
        cell_rising below = simp (has_room, is_allowed, cell_rises, below) refl

        module _ (above : leb (p.high * 2 ^ 32 + p.low) (high * 2 ^ 32 + y) ≡ true) (small : field < 2 ^ 16) (small-x : x < 2 ^ 32) (small-y : y < 2 ^ 32)
            {sum : ℕ} (es : sum ≡ (if eqb field 0 then p.sum + bits else p.sum)) where
          own_field : field_in (cell_of body).key ≡ field
          own_field = rw (← e₁, ← e₂, ← e₃, ← e₄) (field_of address field x y small small-x small-y)

          new_sum : pos sum ≡ total (balances (b.cells ++ (cell_of body ∷ [])))
          new_sum =
              rw (total_snoc b.cells (cell_of body), ← h.sum, own_field, es) (go (eqb field 0) refl)
            where
              go : (t : Bool) → eqb field 0 ≡ t → pos (if t then p.sum + bits else p.sum) ≡ pos p.sum +ℤ (if t then (cell_of body).value else pos 0)
              go true e = rw (← e₅, signed_low 64 bits (balance_bits field bits right (eqb-true field 0 e))) refl
              go false e = sym (+ℤ_idr (pos p.sum))

          pub cell_sum : 2 ^ 63 - 1 < sum → TurnFollows p b (Err (Balances p.at)) (read_cell p.at len body b)
          unfolding read_cell
          cell_sum over = simp (has_room, is_allowed, cell_rises, above, ← new_sum, lt-leb sum (2 ^ 63 - 1) over) refl

          pub cell_more : sum ≤ 2 ^ 63 - 1 → TurnFollows p b (Ok (More (after_cell p len high y sum))) (read_cell p.at len body b)
          unfolding read_cell
          cell_more under =
              simp (has_room, is_allowed, cell_rises, above, ← new_sum, le-leb sum (2 ^ 63 - 1) under) (
                record {
                  kind = refl;
                  at = refl;
                  later = omega arith;
                  holds =
                      record {
                        functions = h.functions;
                        cells = snoc_length b.cells (cell_of body) p.cells h.cells;
                        calls = h.calls;
                        opening = h.opening;
                        first_call = refl;
                        ids = h.ids;
                        keys = rw (map-append (λ c. c.key) b.cells (cell_of body ∷ []), floor_snoc (map (λ c. c.key) b.cells) (cell_of body).key, the_key) (omega arith);
                        sum = new_sum;
                        steady = record { low = omega arith; sum = omega arith };
                      };
                },
                refl,
              )

-- ---- a call

module _ (p : Progress) (b : Block) (h : NumbersOfBlock p b) (len : ℕ) (body : List ℕ) where
  pub call_limit_lem : 256 ≤ p.calls → TurnFollows p b (Err (BeyondLimit p.at)) (read_call p.at len body b)
  unfolding read_call
  call_limit_lem full = simp (le-leb 256 (length b.calls) (rw h.calls at full)) refl

  module _ (room : p.calls < 256) where
    call_room : leb 256 (length b.calls) ≡ false
    call_room = lt-leb 256 (length b.calls) (rw h.calls at room)

    pub call_field : call_of body ≡ None → TurnFollows p b (Err (Field p.at)) (read_call p.at len body b)
    unfolding read_call withCall
    call_field bad = simp (call_room, bad) refl

    pub call_unfuelled : (c : Call) → call_of body ≡ Some c → c.fuel ≡ 0 → TurnFollows p b (Err (Field p.at)) (read_call p.at len body b)
    unfolding read_call withCall
    call_unfuelled c good none' = simp (call_room, good, eq-eqb c.fuel 0 none') refl

    pub call_more : (c : Call) → call_of body ≡ Some c → ¬ (c.fuel ≡ 0) → TurnFollows p b (Ok (More (after_call p len))) (read_call p.at len body b)
    unfolding read_call withCall
    call_more c good some =
        simp (call_room, good, ne_eqb c.fuel 0 some) (
          record {
            kind = refl;
            at = refl;
            later = omega arith;
            holds =
                record {
                  functions = h.functions;
                  cells = h.cells;
                  calls = snoc_length b.calls c p.calls h.calls;
                  opening = h.opening;
                  first_call = h.first_call;
                  ids = h.ids;
                  keys = h.keys;
                  sum = h.sum;
                  steady = record { low = h.steady.low; sum = h.steady.sum };
                };
          },
          refl,
        )
