-- The parts of a record, stored one behind the other.
use mathlib.Core.Path.{◌≡◌, sym, ap, ap₂, ◌∙◌}
use mathlib.Core.List.{List, ◌∷◌, ◌++◌}
use Prim.Native.Nat.{ℕ, ◌+◌, ◌*◌, ◌/◌, ◌%◌, ◌^◌, ◌<◌}
use native.Mathlib.Omega.{arith}
use lib.ListN.{length, length-append}
use Rattle.wire.specs.Bytes.{bytes_of, stored}
use Rattle.wire.proofs.BytesLaws.{bytes_of_length, stored_append}
use Rattle.block.specs.Record.{recordOf, cell_kind, receipt_kind}
use Rattle.sheet.specs.Sheet.{key_bytes, receipt_record}
use Rattle.sheet.proofs.SheetRecords.{cell_body_lem, receipt_body}

-- What is stored behind a list that was stored is stored with it.
pub stored_joined : (s : List ℕ) (i : ℕ) (xs ys : List ℕ) {t u : List ℕ} {j : ℕ} → j ≡ i + length xs → t ≡ stored s i xs → u ≡ stored t j ys → u ≡ stored s i (xs ++ ys)
stored_joined s i xs ys e p q = q ∙ ap₂ (λ (l : List ℕ) (k : ℕ). stored l k ys) p e ∙ sym (stored_append xs ys s i)

-- A head and behind it the body make a record.
pub record_behind : (s : List ℕ) (at kind size : ℕ) (body : List ℕ) → length body ≡ size → {t u : List ℕ}
    → t ≡ stored s at (bytes_of 2 size ++ bytes_of 2 kind) → u ≡ stored t (at + 4) body → u ≡ stored s at (recordOf kind body)
record_behind s at kind size body e p q =
    let four : length (bytes_of 2 size ++ bytes_of 2 kind) ≡ 4 = simp (length-append, bytes_of_length) in
    stored_joined s at (bytes_of 2 size ++ bytes_of 2 kind) body (omega arith) p q
    ∙ ap (λ (n : ℕ). stored s at (bytes_of 2 n ++ bytes_of 2 kind ++ body)) (sym e)

-- A head is one number of four bytes.
pub head_number : (size kind : ℕ) → size < 2 ^ 16 → kind < 2 ^ 16 → bytes_of 4 (size + 65536 * kind) ≡ bytes_of 2 size ++ bytes_of 2 kind
unfolding bytes_of
head_number size kind s k =
    let n : ℕ = size + 65536 * kind in
    let q : ℕ = size / 256 in
    let up : n / 256 ≡ q + 256 * kind = omega arith in
    let low : n % 256 ≡ size % 256 = omega arith in
    let high : n / 256 % 256 ≡ q % 256 = ap (λ (m : ℕ). m % 256) up ∙ omega arith in
    let rest : n / 256 / 256 ≡ kind = ap (λ (m : ℕ). m / 256) up ∙ omega arith in
    λ i. low i ∷ high i ∷ bytes_of 2 (rest i)

-- The parts of a key, one behind the other.
pub key_behind : (s : List ℕ) (at high low : ℕ) {s₁ s₂ s₃ s₄ : List ℕ} → s₁ ≡ stored s at (bytes_of 2 (high / 2 ^ 48)) → s₂ ≡ stored s₁ (at + 2) (bytes_of 2 (high / 2 ^ 32))
    → s₃ ≡ stored s₂ (at + 4) (bytes_of 4 high) → s₄ ≡ stored s₃ (at + 8) (bytes_of 4 low) → s₄ ≡ stored s at (key_bytes high low)
key_behind s at high low p q r u =
    let a = bytes_of 2 (high / 2 ^ 48) in
    let b = bytes_of 2 (high / 2 ^ 32) in
    let c = bytes_of 4 high in
    let i : at + 2 ≡ at + length a = omega (arith, bytes_of_length 2 (high / 2 ^ 48)) in
    let j : at + 4 ≡ at + length (a ++ b) = simp (length-append, bytes_of_length) in
    let k : at + 8 ≡ at + length (a ++ b ++ c) = simp (length-append, bytes_of_length) in
    stored_joined s at (a ++ b ++ c) (bytes_of 4 low) k (stored_joined s at (a ++ b) c j (stored_joined s at a b i p q) r) u

-- A cell's record, and a call's, from their parts.
pub cell_behind : (s : List ℕ) (at high low bits : ℕ) {t u v : List ℕ} → t ≡ stored s at (bytes_of 2 20 ++ bytes_of 2 cell_kind)
    → u ≡ stored t (at + 4) (key_bytes high low) → v ≡ stored u (at + 16) (bytes_of 8 bits) → v ≡ stored s at (recordOf cell_kind (key_bytes high low ++ bytes_of 8 bits))
cell_behind s at high low bits p q r =
    let twelve : at + 16 ≡ at + 4 + length (key_bytes high low) = simp (length-append, bytes_of_length) (omega arith) in
    record_behind s at cell_kind 20 (key_bytes high low ++ bytes_of 8 bits) (cell_body_lem high low bits) p (stored_joined _ (at + 4) (key_bytes high low) (bytes_of 8 bits) twelve q r)

pub receipt_behind : (s : List ℕ) (at outcome count : ℕ) {t u v : List ℕ} → t ≡ stored s at (bytes_of 2 4 ++ bytes_of 2 receipt_kind)
    → u ≡ stored t (at + 4) (bytes_of 2 outcome) → v ≡ stored u (at + 6) (bytes_of 2 count) → v ≡ stored s at (receipt_record outcome count)
receipt_behind s at outcome count p q r =
    let two : at + 6 ≡ at + 4 + length (bytes_of 2 outcome) = omega (arith, bytes_of_length 2 outcome) in
    record_behind s at receipt_kind 4 (bytes_of 2 outcome ++ bytes_of 2 count) (receipt_body outcome count) p (stored_joined _ (at + 4) (bytes_of 2 outcome) (bytes_of 2 count) two q r)

-- ---- records of a list
