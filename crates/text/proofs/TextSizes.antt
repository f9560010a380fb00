-- How long the text of numbers within a range can be.
use mathlib.Core.Path.{◌≡◌, refl}
use mathlib.Core.Bool.{Bool, true, false}
use mathlib.Core.List.{List, [], ◌∷◌, map}
use Prim.Native.Nat.{ℕ, zero, suc, ◌+◌, ◌*◌, ◌/◌, ◌%◌, ◌^◌, ◌≤◌, ◌<◌}
use native.Mathlib.Omega.{arith}
use borrow.Author.Tests.{ltb-false}
use lib.Dec.{ltb}
use lib.ListN.{length, length-append}
use Rattle.std.specs.Prelude.{if◌then◌else◌}
use Rattle.wire.specs.Decimal.{digits_of, decimal, zero_digit, parts, text_line}
use Rattle.text.specs.Lines.{passing}
use Rattle.text.specs.Written.{spaced}
use Rattle.text.proofs.Laws.{digits_length}

-- A number below 10^k has at most k digits.
pub digits_fit : (left k n : ℕ) → n < 10 ^ (suc k) → length (digits_of left n) ≤ suc k
unfolding digits_of
digits_fit zero k n h = omega arith
digits_fit (suc left) k n h = go (ltb n 10) refl k h (λ j. digits_fit left j (n / 10))
  where
    go : (t : Bool) → ltb n 10 ≡ t → (k : ℕ) → n < 10 ^ (suc k) → ((j : ℕ) → n / 10 < 10 ^ (suc j) → length (digits_of left (n / 10)) ≤ suc j)
        → length (digits_of (suc left) n) ≤ suc k
    go true e k h rest = rw (e, digits_of) (omega arith)
    go false e zero h rest = let l : 10 ≤ n = ltb-false n 10 e in absurd (omega arith)
    go false e (suc k) h rest =
        let s : length (digits_of left (n / 10)) ≤ suc k = rest k (omega arith) in
        rw (e, digits_of) (rw (length-append (digits_of left (n / 10)) ((zero_digit + n % 10) ∷ [])) (omega arith))

-- A line of a letter and some numbers: at most 21 bytes for each, and two more.
pub line_fits : (letter : ℕ) (ns : List ℕ) → length (text_line letter (map decimal ns)) ≤ 21 * length ns + 2
unfolding parts
line_fits letter [] = omega arith
line_fits letter (n ∷ ns) =
    omega (arith, length-append (decimal n) (parts (map decimal ns)), digits_length 20 n, line_fits letter ns)

-- The numbers below 1,000 that pass a test, each behind a space.
pub passing_fit : (p : ℕ → Bool) (n i : ℕ) → i + n ≤ 1000 → length (spaced (map decimal (passing p n i))) ≤ 4 * n
unfolding passing spaced
passing_fit p zero i h = omega arith
passing_fit p (suc n) i h = go (p i) (passing_fit p n (i + 1) (omega arith)) (digits_fit 20 2 i (omega arith))
  where
    go : (t : Bool) → length (spaced (map decimal (passing p n (i + 1)))) ≤ 4 * n → length (decimal i) ≤ 3
        → length (spaced (map decimal (if t then i ∷ passing p n (i + 1) else passing p n (i + 1)))) ≤ 4 * suc n
    go true r d = rw (length-append (decimal i) (spaced (map decimal (passing p n (i + 1))))) (omega arith)
    go false r d = omega arith
