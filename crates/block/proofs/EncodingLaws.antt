-- The bytes of a function: it is read back from them, and bytes that are read as one are its own.
use mathlib.Core.Path.{◌≡◌, refl, sym, ap, ◌∙◌}
use mathlib.Core.Bool.{Bool, true, false}
use mathlib.Core.List.{List, [], ◌∷◌, ◌++◌, append_assoc}
use Prim.Native.Nat.{ℕ, zero, suc, ◌+◌, ◌-◌, ◌*◌, ◌/◌, ◌%◌, ◌^◌, ◌≤◌, ◌<◌}
use native.Mathlib.Omega.{arith}
use lib.Dec.{lit<}
use lib.ListN.{length, take, drop, length-drop, take-append-drop}
use lib.Seq.{drop-drop, get_or-drop, drop-append-le, length-take-le}
use Rattle.arith.specs.Exact.{unsigned}
use Rattle.wire.specs.Bytes.{number, read_le, bytes_of}
use Rattle.wire.proofs.BytesLaws.{number_bytes_of, number_lt, bytes_of_read, read_first}
use Rattle.block.specs.Key.{first_contract, address_in, field_in, a_in, b_in}
use Rattle.block.specs.Instruction.{decode, is_valid, first_invalid}
use Rattle.block.specs.Record.{Cell}
use Rattle.block.specs.Encoding.{Routine, AreBytes, size_of, FunctionKeeps}
use Rattle.block.specs.declared.Call.{Call}
use Rattle.block.proofs.DecoderExact.{holds_valid, valid_holds}

-- The bodies of the records.
abbrev pub function_body : Routine → List ℕ
function_body f = bytes_of 2 f.contract.0 ++ bytes_of 2 f.number ++ f.code

abbrev pub cell_body : Cell → List ℕ
cell_body c =
    bytes_of 2 (address_in c.key)
    ++ bytes_of 2 (field_in c.key) ++ bytes_of 4 (a_in c.key) ++ bytes_of 4 (b_in c.key) ++ bytes_of 8 (unsigned 64 c.value)

abbrev pub call_body : Call → List ℕ
call_body c =
    bytes_of 2 c.sender.0
    ++ bytes_of 2 c.contract.0
    ++ bytes_of 2 c.function
    ++ bytes_of 8 (unsigned 64 c.value) ++ bytes_of 4 c.arg1 ++ bytes_of 4 c.arg2 ++ bytes_of 4 c.arg3 ++ bytes_of 4 c.arg4 ++ bytes_of 2 c.fuel

-- ---- bytes in front of others

pub bytes_drop : (n : ℕ) (s : List ℕ) → AreBytes s → AreBytes (drop n s)
bytes_drop n s h i = rw (get_or-drop n s i 0) (h (n + i))

-- Bytes are those of the number that they make.
pub bytes_split : (k at : ℕ) (s : List ℕ) → AreBytes s → at + k ≤ length s → drop at s ≡ bytes_of k (read_le k s at) ++ drop (at + k) s
bytes_split k at s h fit =
    sym (take-append-drop k (drop at s))
    ∙ ap (λ (t : List ℕ). t ++ drop k (drop at s)) (sym (bytes_of_read k s at h fit))
    ∙ ap (λ (t : List ℕ). bytes_of k (read_le k s at) ++ t) (drop-drop k at s)

-- ---- a function

-- An instruction is in its own eight bytes.
decode_front : (size : ℕ) (s more : List ℕ) → 8 ≤ length s → decode size (s ++ more) ≡ decode size s
decode_front size s more h =
    rw (read_first 1 s more 0 (omega arith), read_first 1 s more 1 (omega arith), read_first 1 s more 2 (omega arith), read_first 1 s more 3 (omega arith), read_first 4 s more 4 (omega arith))

pub decode_code : (i size : ℕ) (code more : List ℕ) → length code ≡ 8 * size → i < size
    → decode size (drop (8 * i) (code ++ more)) ≡ decode size (drop (8 * i) code)
decode_code i size code more len h =
    ap (decode size) (drop-append-le (8 * i) code more (omega arith))
    ∙ decode_front size (drop (8 * i) code) more (simp length-drop (omega arith))

-- Valid one by one, and valid all together.
all_valid : (left index size : ℕ) (s : List ℕ) → ((i : ℕ) → i < left → is_valid (decode size (drop (8 * i) s)) ≡ true)
    → first_invalid left index size s ≡ index + left
unfolding first_invalid
all_valid zero index size s h = omega arith
all_valid (suc left) index size s h =
    let first : is_valid (decode size s) ≡ true = h 0 (omega arith) in
    let rest : first_invalid left (index + 1) size (drop 8 s) ≡ index + 1 + left = all_valid left (index + 1) size (drop 8 s) next in
    rw (first, first_invalid) (rest ∙ omega arith)
  where
    next : (i : ℕ) → i < left → is_valid (decode size (drop (8 * i) (drop 8 s))) ≡ true
    next i less =
        let there : 8 + 8 * i ≡ 8 * suc i = omega arith in
        rw (drop-drop (8 * i) 8 s, there) (h (suc i) (omega arith))

each_valid : (left index size : ℕ) (s : List ℕ) → index + left ≤ first_invalid left index size s → (i : ℕ) → i < left
    → is_valid (decode size (drop (8 * i) s)) ≡ true
unfolding first_invalid
each_valid zero index size s e i h = absurd (omega arith)
each_valid (suc left) index size s e i h = go (is_valid (decode size s)) refl (each_valid left (index + 1) size (drop 8 s)) i h
  where
    go : (t : Bool) → is_valid (decode size s) ≡ t
        → (index + 1 + left ≤ first_invalid left (index + 1) size (drop 8 s) → (i : ℕ) → i < left → is_valid (decode size (drop (8 * i) (drop 8 s))) ≡ true)
        → (i : ℕ) → i < suc left → is_valid (decode size (drop (8 * i) s)) ≡ true
    go false f later i less = let g : index + suc left ≤ index = rw (f, first_invalid) at e in absurd (omega arith)
    go true f later zero less = f
    go true f later (suc i) less =
        let g : index + suc left ≤ first_invalid left (index + 1) size (drop 8 s) = rw (f, first_invalid) at e in
        let there : 8 + 8 * i ≡ 8 * suc i = omega arith in
        rw (drop-drop (8 * i) 8 s, there) at (later (omega arith) i (omega arith))

module _ (f : Routine) (more : List ℕ) where
  pub function_contract : f.contract.0 < 2 ^ 16 → number 2 (function_body f ++ more) ≡ f.contract.0
  unfolding bytes_of
  function_contract h = number_bytes_of 2 f.contract.0 _ h

  pub function_number : f.number < 2 ^ 16 → read_le 2 (function_body f ++ more) 2 ≡ f.number
  unfolding bytes_of
  function_number h = number_bytes_of 2 f.number _ h

  pub function_code : drop 4 (function_body f ++ more) ≡ f.code ++ more
  unfolding bytes_of
  function_code = refl

  pub function_valid : FunctionKeeps f → first_invalid (size_of f) 0 (size_of f) (f.code ++ more) ≡ size_of f
  function_valid keeps =
      all_valid (size_of f) 0 (size_of f) (f.code ++ more) one ∙ omega arith
    where
      one : (i : ℕ) → i < size_of f → is_valid (decode (size_of f) (drop (8 * i) (f.code ++ more))) ≡ true
      one i h =
          rw (decode_code i (size_of f) f.code more keeps.whole h)
          (holds_valid (size_of f) (drop (8 * i) f.code) keeps.few (keeps.valid i h))

pub function_size : (f : Routine) → length (function_body f) ≡ 4 + length f.code
unfolding bytes_of
function_size f = omega arith

pub bytes_take : (n : ℕ) (s : List ℕ) → AreBytes s → AreBytes (take n s)
bytes_take zero s h i = lit< tt
bytes_take (suc n) [] h i = h i
bytes_take (suc n) (b ∷ s) h zero = h 0
bytes_take (suc n) (b ∷ s) h (suc i) = bytes_take n s (λ j. h (suc j)) i

-- The function in a body of length len at the front of the bytes.
abbrev pub routine_in : List ℕ → ℕ → Routine
routine_in s len = record { contract = record { 0 = number 2 s }; number = read_le 2 s 2; code = take (len - 4) (drop 4 s) }

module _ (s : List ℕ) (bytes : AreBytes s) (len : ℕ) (low : 4 ≤ len) (fit : len ≤ length s) where
  code_length_lem : length (take (len - 4) (drop 4 s)) ≡ len - 4
  code_length_lem = length-take-le (len - 4) (drop 4 s) (simp length-drop (omega arith))

  pub code_split : drop 4 s ≡ take (len - 4) (drop 4 s) ++ drop len s
  code_split =
      let all : 4 + (len - 4) ≡ len = omega arith in
      sym (take-append-drop (len - 4) (drop 4 s))
      ∙ ap (λ (t : List ℕ). take (len - 4) (drop 4 s) ++ t) (drop-drop (len - 4) 4 s ∙ ap (λ (n : ℕ). drop n s) all)

  pub function_split : s ≡ function_body (routine_in s len) ++ drop len s
  function_split =
      bytes_split 2 0 s bytes (omega arith)
      ∙ ap (λ (t : List ℕ). bytes_of 2 (number 2 s) ++ t)
      (bytes_split 2 2 s bytes (omega arith) ∙ ap (λ (t : List ℕ). bytes_of 2 (read_le 2 s 2) ++ t) code_split)
      ∙ simp append_assoc

  pub function_length_in : length (function_body (routine_in s len)) ≡ len
  function_length_in = function_size (routine_in s len) ∙ omega (arith, code_length_lem)

  pub function_keeps : first_contract ≤ number 2 s → len ≤ 516 → (len - 4) % 8 ≡ 0
      → (len - 4) / 8 ≤ first_invalid ((len - 4) / 8) 0 ((len - 4) / 8) (drop 4 s) → FunctionKeeps (routine_in s len)
  function_keeps contract high whole good =
      let long : length (take (len - 4) (drop 4 s)) ≡ len - 4 = code_length_lem in
      record {
        contract = (contract, number_lt 2 s bytes);
        number = number_lt 2 (drop 2 s) (bytes_drop 2 s bytes);
        bytes = bytes_take (len - 4) (drop 4 s) (bytes_drop 4 s bytes);
        whole = omega arith;
        few = omega arith;
        valid = λ i h.
            valid_holds (length (take (len - 4) (drop 4 s)) / 8) (drop (8 * i) (take (len - 4) (drop 4 s)))
            (bytes_drop (8 * i) (take (len - 4) (drop 4 s)) (bytes_take (len - 4) (drop 4 s) (bytes_drop 4 s bytes)))
            (simp length-drop (omega arith)) (valid i (length (take (len - 4) (drop 4 s)) / 8) (omega arith) h);
      }
    where
      valid : (i n : ℕ) → n ≡ (len - 4) / 8 → i < n → is_valid (decode n (drop (8 * i) (take (len - 4) (drop 4 s)))) ≡ true
      valid i n e h =
          let long : length (take (len - 4) (drop 4 s)) ≡ len - 4 = code_length_lem in
          let eight : length (take (len - 4) (drop 4 s)) ≡ 8 * n = omega arith in
          rw (← decode_code i n (take (len - 4) (drop 4 s)) (drop len s) eight h, ← code_split) (each_valid n 0 n (drop 4 s) (rw e (omega arith)) i h)
