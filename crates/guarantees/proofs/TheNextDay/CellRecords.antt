-- The sheet's record of a cell is a block's record of it.
use mathlib.Core.Path.{◌≡◌, refl, sym, ap, ap₂, ◌∙◌}
use mathlib.Core.List.{List, ◌++◌}
use Prim.Native.Nat.{ℕ, ◌-◌, ◌/◌, ◌%◌, ◌^◌, ◌<◌}
use native.Mathlib.Omega.{arith}
use borrow.Author.Tests.{ne_eqb}
use lib.Dec.{eqb}
use lib.IntN.{ℤ, pos, negsuc}
use lib.Signed.{mag}
use Rattle.arith.specs.Compare.{eq_z}
use Rattle.arith.specs.Exact.{unsigned}
use Rattle.wire.specs.Bytes.{number, bytes_of}
use Rattle.wire.proofs.BytesLaws.{bytes_of_read, bytes_of_lt}
use Rattle.block.specs.Encoding.{cell_record}
use Rattle.block.specs.Key.{address_in, field_in, a_in, b_in}
use Rattle.block.specs.Record.{recordOf, cell_kind}
use Rattle.footprint.specs.Plan.{high_word, low_word}
use Rattle.sheet.specs.Sheet.{key_bytes}

-- ---- one cell

-- The bytes of a value are zero only of zero.
pub unsigned_zero : (z : ℤ) → mag z < 2 ^ 63 → eqb (unsigned 64 z) 0 ≡ eq_z z (pos 0)
unfolding unsigned
unsigned_zero (pos n) h = refl
unsigned_zero (negsuc n) h = ne_eqb (2 ^ 64 - 1 - n) 0 (omega arith)

-- The low bytes of a number.
two_bytes : (n : ℕ) → bytes_of 2 n ≡ bytes_of 2 (n % 2 ^ 16)
unfolding number bytes_of
two_bytes n =
    let low : number 2 (bytes_of 2 n) ≡ n % 2 ^ 16 = omega arith in
    sym (bytes_of_read 2 (bytes_of 2 n) 0 (bytes_of_lt 2 n) (omega arith)) ∙ ap (bytes_of 2) low

four_bytes : (n : ℕ) → bytes_of 4 n ≡ bytes_of 4 (n % 2 ^ 32)
unfolding number bytes_of
four_bytes n =
    let low : number 4 (bytes_of 4 n) ≡ n % 2 ^ 32 = omega arith in
    sym (bytes_of_read 4 (bytes_of 4 n) 0 (bytes_of_lt 4 n) (omega arith)) ∙ ap (bytes_of 4) low

-- The words of a key have the bytes of its parts.
key_bytes_lem : (k : ℕ) → key_bytes (high_word k) (low_word k) ≡ bytes_of 2 (address_in k) ++ bytes_of 2 (field_in k) ++ bytes_of 4 (a_in k) ++ bytes_of 4 (b_in k)
key_bytes_lem k =
    let address : k / 2 ^ 32 / 2 ^ 48 ≡ k / 2 ^ 80 = omega arith in
    let field : k / 2 ^ 32 / 2 ^ 32 % 2 ^ 16 ≡ k / 2 ^ 64 % 2 ^ 16 = omega arith in
    let a : List ℕ = bytes_of 4 (k / 2 ^ 32) in
    ap₂ (λ (s t : List ℕ). s ++ t ++ a ++ bytes_of 4 (k % 2 ^ 32)) (ap (bytes_of 2) address) (two_bytes (k / 2 ^ 32 / 2 ^ 32) ∙ ap (bytes_of 2) field)
    ∙ ap (λ (s : List ℕ). bytes_of 2 (address_in k) ++ bytes_of 2 (field_in k) ++ s ++ bytes_of 4 (k % 2 ^ 32)) (four_bytes (k / 2 ^ 32))

pub sheet_cell : (k : ℕ) (v : ℤ)
    → recordOf cell_kind (key_bytes (high_word k) (low_word k) ++ bytes_of 8 (unsigned 64 v)) ≡ cell_record (record { key = k; value = v })
sheet_cell k v = ap (λ (s : List ℕ). recordOf cell_kind (s ++ bytes_of 8 (unsigned 64 v))) (key_bytes_lem k)
