-- The mathematics of the crate's proofs, over plain variables: a number read or written byte by byte, and the loop that clears a list.
use mathlib.Core.Path.{◌≡◌, refl, sym, ap, ap₂, ◌∙◌}
use mathlib.Core.List.{List, [], ◌∷◌, ◌++◌, append-nil}
use Prim.Native.Nat.{ℕ, zero, suc, ◌+◌, ◌-◌, ◌*◌, ◌/◌, ◌%◌, ◌^◌, ◌≤◌, ◌<◌}
use native.Mathlib.Nat.{le_refl, lt_of_lt_of_le, not-suc-le-zero, le_of_suc-le-suc, mul_comm, mod-eq_of_lt, pow-suc, pow-le-pow_right}
use native.Mathlib.Numerals.{add-one}
use native.Mathlib.Omega.{arith}
use lib.ListN.{length, get_or, set, drop, replicate, drop_of_length-le}
use Rattle.std.proofs.lemmas.Nat.{pow-add}
use Rattle.wire.specs.Bytes.{number, read_le, bytes_of, stored, write_le, repeated}
use Rattle.wire.proofs.BytesLaws.{read_one, read_join, read_lt}

-- ---- a number read byte by byte

two_to : (i : ℕ) → 2 ^ (8 * i) ≡ 256 ^ i
two_to zero = refl
two_to (suc i) =
    let e : 8 * suc i ≡ 8 * i + 8 = omega arith in
    ap (λ (k : ℕ). 2 ^ k) e ∙ pow-add 2 (8 * i) 8 ∙ ap (λ (x : ℕ). x * 256) (two_to i) ∙ sym (pow-suc 256 i)

pub read_none : (s : List ℕ) (at : ℕ) → 0 ≡ read_le 0 s at
unfolding number
read_none s at = refl

-- The byte behind those that were read, at its place value.
module _ (s : List ℕ) (at i : ℕ) {number b : ℕ} (is : number ≡ read_le i s at) (byte : b ≡ get_or s (at + i) 0) (short : i < 8) (bytes : (k : ℕ) → get_or s k 0 < 256) where
  whole : read_le i s at + 256 ^ i * get_or s (at + i) 0 ≡ read_le (i + 1) s at
  whole = sym (read_join i 1 s at ∙ ap (λ (r : ℕ). read_le i s at + 256 ^ i * r) (read_one s (at + i)))

  whole_lt : read_le (i + 1) s at < 256 ^ 8
  whole_lt = lt_of_lt_of_le (read_lt (i + 1) s bytes at) (pow-le-pow_right {n = 256} (omega arith) {i = i + 1} {j = 8} (omega arith))

  placed : b * 2 ^ (8 * i) % 2 ^ 64 ≡ 256 ^ i * get_or s (at + i) 0
  placed =
      let value : b * 2 ^ (8 * i) ≡ 256 ^ i * get_or s (at + i) 0 = ap₂ (λ (x y : ℕ). x * y) byte (two_to i) ∙ mul_comm (get_or s (at + i) 0) (256 ^ i) in
      rw value (mod-eq_of_lt (omega (arith, whole, whole_lt)))

  pub read_more : number + b * 2 ^ (8 * i) % 2 ^ 64 ≡ read_le (i + 1) s at
  read_more = ap₂ (λ (x y : ℕ). x + y) is placed ∙ whole

  pub read_more_lt : number + b * 2 ^ (8 * i) % 2 ^ 64 < 256 ^ 8
  read_more_lt = rw read_more whole_lt

-- ---- a number written from its first byte to its last: what is written and what is left make up the whole

pub write_more : (s : List ℕ) (at n i rest : ℕ) → i < n
    → write_le (n - (i + 1)) (set s (at + i) (rest % 256)) (at + (i + 1)) (rest / 256) ≡ write_le (n - i) s (at + i) rest
unfolding bytes_of stored
write_more s at n i rest l =
    let long : n - i ≡ suc (n - (i + 1)) = omega arith in
    let next : at + (i + 1) ≡ at + i + 1 = omega arith in
    ap (λ (p : ℕ). write_le (n - (i + 1)) (set s (at + i) (rest % 256)) p (rest / 256)) next ∙ ap (λ (k : ℕ). write_le k s (at + i) rest) (sym long)

pub write_done : (s : List ℕ) (at n i rest : ℕ) {all : List ℕ} → n ≤ i → write_le (n - i) s at rest ≡ all → s ≡ all
unfolding bytes_of stored
write_done s at n i rest l h = let e : n - i ≡ 0 = omega arith in sym (ap (λ (k : ℕ). write_le k s at rest) e) ∙ h

-- ---- clearing

module _ {ℓ} {A : Type ℓ} (a : A) where
  -- The first i elements of a list are cleared to a, and the others are as they were.
  pub record ClearedBelow (s₀ s : List A) (i : ℕ) : Type ℓ where
    pub within : i ≤ length s₀
    pub same : s ≡ replicate i a ++ drop i s₀

  step : (i : ℕ) (s : List A) → i < length s → set (replicate i a ++ drop i s) i a ≡ replicate (suc i) a ++ drop (suc i) s
  step i [] h = absurd (not-suc-le-zero h)
  step zero (x ∷ s) h = refl
  step (suc i) (x ∷ s) h = ap (λ (t : List A). a ∷ t) (step i s (le_of_suc-le-suc h))

  pub cleared_more : (s₀ s : List A) (i : ℕ) → ClearedBelow s₀ s i → i < length s₀ → ClearedBelow s₀ (set s i a) (i + 1)
  cleared_more s₀ s i h l =
      record { within = omega arith; same = ap (λ (t : List A). set t i a) h.same ∙ simp add-one (step i s₀ l) }

  pub cleared_all : (s₀ s : List A) (i : ℕ) → ClearedBelow s₀ s i → length s₀ ≤ i → s ≡ repeated (length s₀) a
  unfolding repeated
  cleared_all s₀ s i h end =
      let l : i ≡ length s₀ = let w : i ≤ length s₀ = h.within in omega arith in
      h.same ∙ rw l (ap (λ (t : List A). replicate (length s₀) a ++ t) (drop_of_length-le s₀ (le_refl (length s₀))) ∙ append-nil (replicate (length s₀) a))
