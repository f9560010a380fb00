-- The bytes of an opening cell and of a call: it is read back from them, and bytes that are read as one are its own.
use mathlib.Core.Path.{◌≡◌, refl, sym, ap, subst, subst⁻¹, ◌∙◌}
use mathlib.Core.Bool.{Bool, true, false, ◌&&◌, not}
use mathlib.Core.List.{List, ◌++◌, append_assoc}
use Prim.Native.Nat.{ℕ, ◌^◌, ◌≤◌, ◌<◌}
use native.Mathlib.Omega.{arith}
use borrow.Author.Tests.{ltb-true, leb-true, eqb-false, not-true, lt-ltb, le-leb, ne_eqb}
use lib.Dec.{eqb, leb, ltb, lit<}
use lib.IntN.{pos}
use lib.ListN.{length, drop}
use lib.Signed.{mag, lt_z, non_neg}
use Rattle.std.specs.Prelude.{if◌then◌else◌, None, Some}
use Rattle.arith.proofs.ChoiceLaws.{both}
use Rattle.arith.specs.Exact.{signed, unsigned}
use Rattle.arith.proofs.IntegerLaws.{pos_part, clash, lt_z_true, signed_unsigned, unsigned_signed, signed_range, unsigned_range}
use Rattle.wire.specs.Bytes.{number, read_le, bytes_of}
use Rattle.wire.proofs.BytesLaws.{number_bytes_of, number_lt}
use Rattle.block.specs.Key.{first_contract, address_of, key_of, address_in, field_in, a_in, b_in, is_balance, key_allowed}
use Rattle.block.proofs.KeyLaws.{address_of_lem, field_of, a_of, b_of, key_parts}
use Rattle.block.specs.Limits.{max_fuel}
use Rattle.block.specs.Record.{Cell, call_bytes, cell_of, cell_allowed, call_of}
use Rattle.block.specs.Encoding.{AreBytes, CellKeeps, CallKeeps, CallFits}
use Rattle.block.proofs.EncodingLaws.{cell_body, call_body, bytes_drop, bytes_split}
use Rattle.block.specs.declared.Call.{Call}

-- ---- a cell

module _ (c : Cell) (more : List ℕ) where
  abbrev body : List ℕ
  body = cell_body c ++ more

  pub cell_behind : drop 20 body ≡ more
  unfolding bytes_of
  cell_behind = refl

  module _ (small : c.key < 2 ^ 96) (fits : mag c.value < 2 ^ 63) where
    body_address : number 2 body ≡ address_in c.key
    unfolding bytes_of
    body_address = number_bytes_of 2 (address_in c.key) _ (omega arith)

    body_field : read_le 2 body 2 ≡ field_in c.key
    unfolding bytes_of
    body_field = number_bytes_of 2 (field_in c.key) _ (omega arith)

    body_a : read_le 4 body 4 ≡ a_in c.key
    unfolding bytes_of
    body_a = number_bytes_of 4 (a_in c.key) _ (omega arith)

    body_b : read_le 4 body 8 ≡ b_in c.key
    unfolding bytes_of
    body_b = number_bytes_of 4 (b_in c.key) _ (omega arith)

    body_value : read_le 8 body 12 ≡ unsigned 64 c.value
    unfolding bytes_of
    body_value = number_bytes_of 8 (unsigned 64 c.value) more (unsigned_range 64 c.value (lit< tt) fits)

    value_back : signed 64 (unsigned 64 c.value) ≡ c.value
    value_back = signed_unsigned 64 c.value (lit< tt) fits

    pub cell_back : cell_of body ≡ c
    cell_back = rw (body_address, body_field, body_a, body_b, body_value) (λ i. record { key = key_parts c.key i; value = value_back i })

  module _ (keeps : CellKeeps c) where
    small : c.key < 2 ^ 96
    small = keeps.key

    fits : mag c.value < 2 ^ 63
    fits = keeps.value

    value_some : unsigned 64 c.value ≡ 0 → ⊥
    unfolding signed
    value_some e = keeps.some (sym (value_back small fits) ∙ ap (signed 64) e)

    value_allowed_lem : (t : Bool) → is_balance c.key ≡ t → (if t then lt_z (pos 0) c.value else not (eqb (unsigned 64 c.value) 0)) ≡ true
    value_allowed_lem true e = keeps.above e
    value_allowed_lem false e = rw (ne_eqb (unsigned 64 c.value) 0 value_some)

    pub cell_allowed_lem : cell_allowed body ≡ true
    unfolding cell_allowed
    cell_allowed_lem =
        rw (body_address small fits, body_field small fits, body_a small fits, body_b small fits, body_value small fits, value_back small fits, keeps.allowed)
        (value_allowed_lem (is_balance c.key) refl)

module _ (s : List ℕ) (bytes : AreBytes s) where
  pub below_16 : (at : ℕ) → read_le 2 s at < 2 ^ 16
  below_16 at = number_lt 2 (drop at s) (bytes_drop at s bytes)

  pub below_32 : (at : ℕ) → read_le 4 s at < 2 ^ 32
  below_32 at = number_lt 4 (drop at s) (bytes_drop at s bytes)

  below_64 : (at : ℕ) → read_le 8 s at < 2 ^ 64
  below_64 at = number_lt 8 (drop at s) (bytes_drop at s bytes)

  value_bytes : (at : ℕ) → unsigned 64 (signed 64 (read_le 8 s at)) ≡ read_le 8 s at
  value_bytes at = unsigned_signed 64 (read_le 8 s at) (below_64 at)

  pub value_fits : (at : ℕ) → mag (signed 64 (read_le 8 s at)) < 2 ^ 63
  value_fits at = signed_range 64 (read_le 8 s at) (lit< tt) (below_64 at)

  pub cell_split : 20 ≤ length s → s ≡ cell_body (cell_of s) ++ drop 20 s
  cell_split fit =
      let n = number 2 s in
      let f = read_le 2 s 2 in
      let a = read_le 4 s 4 in
      let b = read_le 4 s 8 in
      rw (address_of_lem n f a b (below_16 2) (below_32 4) (below_32 8), field_of n f a b (below_16 2) (below_32 4) (below_32 8), a_of n f a b (below_16 2) (below_32 4) (below_32 8), b_of n f a b (below_16 2) (below_32 4) (below_32 8), value_bytes 12)
      (bytes_split 2 0 s bytes (omega arith) ∙ ap (λ (t : List ℕ). bytes_of 2 n ++ t)
      (bytes_split 2 2 s bytes (omega arith) ∙ ap (λ (t : List ℕ). bytes_of 2 f ++ t)
      (bytes_split 4 4 s bytes (omega arith) ∙ ap (λ (t : List ℕ). bytes_of 4 a ++ t)
      (bytes_split 4 8 s bytes (omega arith) ∙ ap (λ (t : List ℕ). bytes_of 4 b ++ t) (bytes_split 8 12 s bytes (omega arith))))) ∙ simp append_assoc)

  -- "not zero, a balance above zero", by whether it is a balance.
  abbrev Valued : Bool → Bool
  Valued t = if t then lt_z (pos 0) (signed 64 (read_le 8 s 12)) else not (eqb (read_le 8 s 12) 0)

  valued_some : (t : Bool) → Valued t ≡ true → signed 64 (read_le 8 s 12) ≡ pos 0 → ⊥
  unfolding unsigned
  valued_some true e z = omega (arith, lt_z_true (pos 0) (signed 64 (read_le 8 s 12)) e, ap pos_part z)
  valued_some false e z = eqb-false (read_le 8 s 12) 0 (not-true _ e) (sym (value_bytes 12) ∙ ap (unsigned 64) z)

  valued_above : (t : Bool) → t ≡ true → Valued t ≡ true → lt_z (pos 0) (signed 64 (read_le 8 s 12)) ≡ true
  valued_above true e h = h
  valued_above false e h = clash e

  pub cell_keeps : cell_allowed s ≡ true → CellKeeps (cell_of s)
  unfolding cell_allowed
  cell_keeps e =
      let n : ℕ = number 2 s in
      let f : ℕ = read_le 2 s 2 in
      let a : ℕ = read_le 4 s 4 in
      let b : ℕ = read_le 4 s 8 in
      let parts : (key_allowed (address_of n) f a b ≡ true) × (Valued (eqb f 0) ≡ true) = both (key_allowed (address_of n) f a b) _ e in
      let own : field_in (key_of n f a b) ≡ f = field_of n f a b (below_16 2) (below_32 4) (below_32 8) in
      let n-low : n < 2 ^ 16 = below_16 0 in
      let f-low : f < 2 ^ 16 = below_16 2 in
      let a-low : a < 2 ^ 32 = below_32 4 in
      let b-low : b < 2 ^ 32 = below_32 8 in
      record {
        key = omega arith;
        allowed = rw (address_of_lem n f a b (below_16 2) (below_32 4) (below_32 8), own, a_of n f a b (below_16 2) (below_32 4) (below_32 8), b_of n f a b (below_16 2) (below_32 4) (below_32 8)) parts.0;
        value = value_fits 12;
        some = valued_some (eqb f 0) parts.1;
        above = λ balance. valued_above (eqb f 0) (ap (λ (g : ℕ). eqb g 0) (sym own) ∙ balance) parts.1;
      }

-- ---- a call

-- The call in a body at the front of the bytes.
abbrev pub call_in_body : List ℕ → Call
call_in_body s =
    record {
      sender = record { 0 = number 2 s };
      contract = record { 0 = read_le 2 s 2 };
      function = read_le 2 s 4;
      value = signed 64 (read_le 8 s 6);
      arg1 = read_le 4 s 14;
      arg2 = read_le 4 s 18;
      arg3 = read_le 4 s 22;
      arg4 = read_le 4 s 26;
      fuel = read_le 2 s 30;
    }

pub call_fits : (c : Call) → CallKeeps c → CallFits c
call_fits c keeps =
    let sender : c.sender.0 < first_contract = keeps.sender in
    record { addresses = (omega arith, keeps.contract.1, keeps.function); value = keeps.value.1; arguments = keeps.arguments; fuel = omega (arith, keeps.fuel.1) }

module _ (c : Call) (more : List ℕ) where
  abbrev call : List ℕ
  call = call_body c ++ more

  pub call_behind : drop call_bytes call ≡ more
  unfolding bytes_of
  call_behind = refl

  module _ (fits : CallFits c) where
    call_sender : number 2 call ≡ c.sender.0
    unfolding bytes_of
    call_sender = number_bytes_of 2 c.sender.0 _ fits.addresses.0

    call_contract : read_le 2 call 2 ≡ c.contract.0
    unfolding bytes_of
    call_contract = number_bytes_of 2 c.contract.0 _ fits.addresses.1

    call_function : read_le 2 call 4 ≡ c.function
    unfolding bytes_of
    call_function = number_bytes_of 2 c.function _ fits.addresses.2

    call_value : read_le 8 call 6 ≡ unsigned 64 c.value
    unfolding bytes_of
    call_value = number_bytes_of 8 (unsigned 64 c.value) _ (unsigned_range 64 c.value (lit< tt) fits.value)

    call_1 : read_le 4 call 14 ≡ c.arg1
    unfolding bytes_of
    call_1 = number_bytes_of 4 c.arg1 _ fits.arguments.0

    call_2 : read_le 4 call 18 ≡ c.arg2
    unfolding bytes_of
    call_2 = number_bytes_of 4 c.arg2 _ fits.arguments.1

    call_3 : read_le 4 call 22 ≡ c.arg3
    unfolding bytes_of
    call_3 = number_bytes_of 4 c.arg3 _ fits.arguments.2

    call_4 : read_le 4 call 26 ≡ c.arg4
    unfolding bytes_of
    call_4 = number_bytes_of 4 c.arg4 _ fits.arguments.3

    call_fuel : read_le 2 call 30 ≡ c.fuel
    unfolding bytes_of
    call_fuel = number_bytes_of 2 c.fuel _ fits.fuel

    pub call_same : call_in_body call ≡ c
    call_same =
        let value : signed 64 (unsigned 64 c.value) ≡ c.value = signed_unsigned 64 c.value (lit< tt) fits.value in
        rw (call_sender, call_contract, call_function, call_value, call_1, call_2, call_3, call_4, call_fuel, value)

  call_long : call_bytes ≤ length call
  unfolding bytes_of
  call_long = omega arith

  pub call_back : CallKeeps c → call_of call ≡ Some c
  unfolding call_of
  call_back keeps =
      let is : call_in_body call ≡ c = call_same (call_fits c keeps) in
      subst⁻¹ (λ (d : Call). (if leb call_bytes (length call) && ltb d.sender.0 first_contract && leb first_contract d.contract.0 && non_neg d.value then Some d else None) ≡ Some c) is
      (rw (le-leb call_bytes (length call) call_long, lt-ltb c.sender.0 first_contract keeps.sender, le-leb first_contract c.contract.0 keeps.contract.0, keeps.value.0))

-- What its range asks, and that it is the one.
pub call_in_lem : (s : List ℕ) (c : Call) → call_of s ≡ Some c
    → (number 2 s < first_contract) × (first_contract ≤ read_le 2 s 2) × (non_neg (signed 64 (read_le 8 s 6)) ≡ true) × (c ≡ call_in_body s)
unfolding call_of
call_in_lem s c e = go (leb call_bytes (length s) && ltb (number 2 s) first_contract && leb first_contract (read_le 2 s 2) && non_neg (signed 64 (read_le 8 s 6))) refl e
  where
    go : (t : Bool) → (leb call_bytes (length s) && ltb (number 2 s) first_contract && leb first_contract (read_le 2 s 2) && non_neg (signed 64 (read_le 8 s 6))) ≡ t
        → (if t then Some (call_in_body s) else None) ≡ Some c
        → (number 2 s < first_contract) × (first_contract ≤ read_le 2 s 2) × (non_neg (signed 64 (read_le 8 s 6)) ≡ true) × (c ≡ call_in_body s)
    go false f h = let z : ◌≡◌ {A = ℕ} 0 1 = cc in absurd (omega arith)
    go true f h =
        let o = both _ (non_neg (signed 64 (read_le 8 s 6))) f in
        let p = both _ (leb first_contract (read_le 2 s 2)) o.0 in
        let q = both (leb call_bytes (length s)) (ltb (number 2 s) first_contract) p.0 in
        (ltb-true (number 2 s) first_contract q.1, leb-true first_contract (read_le 2 s 2) p.1, o.1, cc)

module _ (s : List ℕ) (bytes : AreBytes s) where
  pub in_split : call_bytes ≤ length s → s ≡ call_body (call_in_body s) ++ drop call_bytes s
  in_split fit =
      rw (value_bytes s bytes 6)
      (bytes_split 2 0 s bytes (omega arith) ∙ ap (λ (t : List ℕ). bytes_of 2 (number 2 s) ++ t)
      (bytes_split 2 2 s bytes (omega arith) ∙ ap (λ (t : List ℕ). bytes_of 2 (read_le 2 s 2) ++ t)
      (bytes_split 2 4 s bytes (omega arith) ∙ ap (λ (t : List ℕ). bytes_of 2 (read_le 2 s 4) ++ t)
      (bytes_split 8 6 s bytes (omega arith) ∙ ap (λ (t : List ℕ). bytes_of 8 (read_le 8 s 6) ++ t)
      (bytes_split 4 14 s bytes (omega arith) ∙ ap (λ (t : List ℕ). bytes_of 4 (read_le 4 s 14) ++ t)
      (bytes_split 4 18 s bytes (omega arith) ∙ ap (λ (t : List ℕ). bytes_of 4 (read_le 4 s 18) ++ t)
      (bytes_split 4 22 s bytes (omega arith) ∙ ap (λ (t : List ℕ). bytes_of 4 (read_le 4 s 22) ++ t)
      (bytes_split 4 26 s bytes (omega arith) ∙ ap (λ (t : List ℕ). bytes_of 4 (read_le 4 s 26) ++ t) (bytes_split 2 30 s bytes (omega arith))))))))) ∙ simp append_assoc)

  in_keeps : number 2 s < first_contract → first_contract ≤ read_le 2 s 2 → non_neg (signed 64 (read_le 8 s 6)) ≡ true → 0 < read_le 2 s 30 → CallKeeps (call_in_body s)
  in_keeps sender contract value fuel =
      record {
        sender = sender;
        contract = (contract, below_16 s bytes 2);
        function = below_16 s bytes 4;
        value = (value, value_fits s bytes 6);
        arguments = (below_32 s bytes 14, below_32 s bytes 18, below_32 s bytes 22, below_32 s bytes 26);
        fuel = (fuel, omega (arith, below_16 s bytes 30));
      }

  pub call_split : (c : Call) → call_of s ≡ Some c → call_bytes ≤ length s → s ≡ call_body c ++ drop call_bytes s
  call_split c e fit = rw (call_in_lem s c e).3 (in_split fit)

  pub call_keeps : (c : Call) → call_of s ≡ Some c → 0 < c.fuel → CallKeeps c
  call_keeps c e fuel =
      let o = call_in_lem s c e in
      rw o.3 (in_keeps o.0 o.1 o.2 (subst (λ (d : Call). 0 < d.fuel) o.3 fuel))

  -- Its fuel is in 16 bits.
  pub call_fuel_most : (c : Call) → call_of s ≡ Some c → c.fuel ≤ max_fuel
  call_fuel_most c e = rw (call_in_lem s c e).3 (omega (arith, below_16 s bytes 30))
