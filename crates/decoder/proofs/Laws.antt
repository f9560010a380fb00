-- What the proofs of this crate cite, and those of the code above: the word of an instruction, addresses that were read, and the bytes of a call.
use Rattle.std.specs.Prelude.{None}
use mathlib.Core.Path.{◌≡◌, sym, ap, ◌∙◌}
use mathlib.Core.List.{List}
use Prim.Native.Nat.{ℕ, ◌+◌, ◌*◌, ◌/◌, ◌%◌, ◌^◌, ◌<◌, ◌≤◌}
use native.Mathlib.Omega.{arith}
use lib.ListN.{length, take, drop, get_or}
use lib.Seq.{length-take-le}
use borrow.Author.Tests.{le-leb, lt-leb}
use Rattle.wire.specs.Bytes.{read_le}
use Rattle.wire.proofs.BytesLaws.{read_suc, read_one, read_lt, read_taken}
use Rattle.block.specs.Key.{address_of, address_number}
use Rattle.block.proofs.KeyLaws.{number_named}
use Rattle.block.proofs.EncodingLaws.{bytes_drop}
use Rattle.block.specs.Encoding.{AreBytes}
use Rattle.block.specs.Instruction.{decode_parts, decode}
use Rattle.block.specs.Record.{call_bytes, call_of}
use Rattle.block.specs.declared.address.Address.{Address}

-- The parts of an instruction, read one by one: a number of one byte is that byte.
pub decode_parts_lem : (size : ℕ) (s : List ℕ) {op x y z w : ℕ} → op ≡ get_or s 0 0 → x ≡ get_or s 1 0 → y ≡ get_or s 2 0 → z ≡ get_or s 3 0
    → w ≡ read_le 4 s 4 → decode_parts size op x y z w ≡ decode size s
decode_parts_lem size s p q r t u =
    simp (p ∙ sym (read_one s 0), q ∙ sym (read_one s 1), r ∙ sym (read_one s 2), t ∙ sym (read_one s 3), u)

-- The upper four bytes of a word of eight.
four_bytes : (n : ℕ) → n / 4294967296 < 4294967296
    → n / 4294967296 % 256 + n / 1099511627776 % 256 * 256 + n / 281474976710656 % 256 * 65536 + n / 72057594037927936 % 256 * 16777216 ≡ n / 4294967296
four_bytes n h = omega arith

-- They are the bytes of the word at a position, w the last four of them.
pub decode_word : (size : ℕ) (s : List ℕ) (at : ℕ) {word w : ℕ} → AreBytes s → word ≡ read_le 8 s at
    → w ≡ word / 4294967296 % 256 + word / 1099511627776 % 256 * 256 + word / 281474976710656 % 256 * 65536 + word / 72057594037927936 % 256 * 16777216
    → decode_parts size (word % 256) (word / 256 % 256) (word / 65536 % 256) (word / 16777216 % 256) w ≡ decode size (drop at s)
decode_word size s at {word} {w} bytes e f =
    let t : List ℕ = drop at s in
    let small : AreBytes t = bytes_drop at s bytes in
    let b₀ : get_or t 0 0 < 256 = small 0 in
    let b₁ : get_or t 1 0 < 256 = small 1 in
    let b₂ : get_or t 2 0 < 256 = small 2 in
    let b₃ : get_or t 3 0 < 256 = small 3 in
    let op : word ≡ get_or t 0 0 + 256 * read_le 7 t 1 = e ∙ read_suc 7 t 0 in
    let x : read_le 7 t 1 ≡ get_or t 1 0 + 256 * read_le 6 t 2 = read_suc 6 t 1 in
    let y : read_le 6 t 2 ≡ get_or t 2 0 + 256 * read_le 5 t 3 = read_suc 5 t 2 in
    let z : read_le 5 t 3 ≡ get_or t 3 0 + 256 * read_le 4 t 4 = read_suc 4 t 3 in
    let high : word / 4294967296 ≡ read_le 4 t 4 = omega arith in
    let below : read_le 4 t 4 < 4294967296 = read_lt 4 t small 4 in
    decode_parts_lem size t (omega arith) (omega arith) (omega arith) (omega arith) (f ∙ four_bytes word (omega arith) ∙ high)

-- What the address of a number that was read is.
pub address_read : {r x : Address} {n m : ℕ} → r ≡ address_of n → n ≡ m → r ≡ x → address_of m ≡ x
address_read e f g = sym (e ∙ ap address_of f) ∙ g

-- The first word of a key, by the number of its address.
pub high_named : (n field a : ℕ) {r : Address} {high : ℕ} → r ≡ address_of n → high ≡ address_number r * 2 ^ 48 + field * 2 ^ 32 + a
    → high ≡ n * 2 ^ 48 + field * 2 ^ 32 + a
high_named n field a e f = f ∙ ap (λ (k : ℕ). k * 2 ^ 48 + field * 2 ^ 32 + a) (ap address_number e ∙ number_named n)

-- A call's body, by its length and the addresses that it names.
pub call_cut : (s : List ℕ) → length s < call_bytes → None ≡ call_of s
unfolding call_of
call_cut s short = simp (lt-leb call_bytes (length s) short)

module _ (s : List ℕ) (whole : call_bytes ≤ length s) where
  -- It is in its own bytes.
  pub call_taken : call_of (take call_bytes s) ≡ call_of s
  unfolding call_of
  call_taken =
      let long : length (take call_bytes s) ≡ call_bytes = length-take-le call_bytes s whole in
      let same : (k at : ℕ) → at + k ≤ call_bytes → read_le k (take call_bytes s) at ≡ read_le k s at = λ k at fit. read_taken k call_bytes s at fit whole in
      rw (long, le-leb call_bytes (length s) whole, same 2 0 (omega arith), same 2 2 (omega arith), same 2 4 (omega arith), same 8 6 (omega arith), same 4 14 (omega arith), same 4 18 (omega arith), same 4 22 (omega arith), same 4 26 (omega arith), same 2 30 (omega arith))
