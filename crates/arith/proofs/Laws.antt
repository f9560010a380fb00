-- What the proofs of this crate cite: how the machine reads a signed number back from its bits, and the arithmetic of each operation over plain integers.
use mathlib.Core.Path.{◌≡◌, refl, sym, ◌∙◌, ap, subst}
use mathlib.Core.Bool.{Bool, true, false}
use Prim.Native.Nat.{ℕ, zero, suc, ◌+◌, ◌*◌, ◌/◌, ◌%◌, ◌^◌, ◌<◌, ◌≤◌}
use native.Mathlib.Omega.{arith}
use native.Mathlib.Nat.{le-suc, le_trans, lt_of_le_of_lt, mod-lt, div-add-mod', div-le_self, div-lt_self, zero-div, zero-mod}
use lib.Arith.{digits_div}
use lib.Dec.{eqb}
use lib.IntN.{ℤ, pos, negsuc, neg_ℤ, ◌-ℤ◌}
use lib.Signed.{mag, mag_rem, lt_z, quot_z, rem_z}
use mir.Syntax.{w64}
use mir.Val.{SFits, to_z, of_z}
use mir.ValLaws.{to_z-of_z}
use borrow.Author.Tests.{eq-eqb, ne_eqb, ltb-true, ltb-false}
use Rattle.std.specs.Prelude.{if◌then◌else◌, Option, None, Some, Ok, Err, SomeIff}
use Rattle.std.specs.Option.{ok_or}
use Rattle.arith.specs.Compare.{eq_z}
use Rattle.arith.specs.Exact.{fits64, checked, floor_by, div_of}
use Rattle.arith.proofs.IntegerLaws.{equal, diff, P-neg, N-neg, refuse, lt_z_true, lt_z_false, eq_z_true, eq_z_false, sfits_parts, parts_sfits, sfits_fits, checked_value, checked_overflow}
use Rattle.arith.specs.declared.NoResult.TheVariants.{Overflow, ZeroDivisor}

-- ---- a signed number as the machine reads it back

abbrev pub read : ℤ → ℤ
read z = to_z w64 (of_z w64 z)

pub read_back : {z : ℤ} → SFits w64 z → read z ≡ z
read_back {z} f = to_z-of_z w64 z f

pub read_fits : {z : ℤ} → SFits w64 z → SFits w64 (read z)
read_fits f = subst (SFits w64) (sym (read_back f)) f

-- A value that was stored is the checked one.
pub value : {s z : ℤ} → SFits w64 s → s ≡ z → Ok (read s) ≡ checked z
value {s} {z} f e = ap Ok (read_back f) ∙ sym (checked_value s (sfits_fits f)) ∙ ap checked e

-- A number is the one that its bits name.
pub bits_name : {z : ℤ} {n : ℕ} → SFits w64 z → of_z w64 z ≡ n → z ≡ to_z w64 n
bits_name f e = sym (read_back f) ∙ ap (to_z w64) e

pub unnamed : {z : ℤ} (v : ℤ) → SFits w64 z → (of_z w64 z ≡ of_z w64 v → ⊥) → read z ≡ v → ⊥
unnamed v f h e = h (ap (of_z w64) (sym (read_back f) ∙ e))

-- Two numbers of the range have the same bits exactly where they are equal.
pub same_bits : {a b : ℤ} → SFits w64 a → SFits w64 b → eqb (of_z w64 a) (of_z w64 b) ≡ eq_z a b
same_bits {a} {b} f g = go (eq_z a b) refl
  where
    go : (t : Bool) → eq_z a b ≡ t → eqb (of_z w64 a) (of_z w64 b) ≡ t
    go true e = eq-eqb _ _ (ap (of_z w64) (eq_z_true a b e))
    go false e = ne_eqb _ _ (λ h. eq_z_false a b e (bits_name f h ∙ read_back g))

-- ---- what the library's methods answer

-- What does not fit has no checked result.
pub none_fits : (z : ℤ) → (SFits w64 z → ⊥) → Err Overflow ≡ checked z
none_fits z n = sym (checked_overflow z (refuse (fits64 z) (λ e. n (record { sfits = ltb-true (mag z) (2 ^ 63) e }))))

-- What a method answers exactly where the result fits is the checked result.
pub answered : (z : ℤ) (o : Option ℤ) → SomeIff o (SFits w64 z) z → ok_or o Overflow ≡ checked z
answered z None n = none_fits z n
answered z (Some x) h = ap Ok h.1 ∙ sym (checked_value z (sfits_fits h.0))

-- ---- differences

-- Of like signs a difference fits.
module _ {a b : ℤ} (f : SFits w64 a) (g : SFits w64 b) where
  pub diff_fits : (t : Bool) → lt_z a (pos 0) ≡ t → lt_z b (pos 0) ≡ t → SFits w64 (a -ℤ b)
  diff_fits true s u =
      parts_sfits w64 (a -ℤ b)
      (omega (arith, diff a b, lt_z_true a (pos 0) s, lt_z_true b (pos 0) u, sfits_parts f, sfits_parts g))
  diff_fits false s u =
      parts_sfits w64 (a -ℤ b)
      (omega (arith, diff a b, lt_z_false a (pos 0) s, lt_z_false b (pos 0) u, sfits_parts f, sfits_parts g))

-- ---- quotients

-- Only by -1 may a truncated quotient not fit, and by -1 it is the floor.
pub none_divided : (a b : ℤ) → SFits w64 a → (SFits w64 (quot_z a b) → ⊥) → Err Overflow ≡ div_of a b
unfolding div_of floor_by
none_divided (pos a) (pos b) f n = absurd (n (record { sfits = lt_of_le_of_lt (div-le_self a b) f.sfits }))
none_divided (pos a) (negsuc b) f n =
    let k : a < 2 ^ 63 = f.sfits in
    let q = a / suc b in
    let l : q ≤ a = div-le_self a (suc b) in
    absurd (n (parts_sfits w64 (neg_ℤ (pos q)) (omega (arith, P-neg (pos q), N-neg (pos q)))))
none_divided (negsuc a) (pos b) f n =
    let k : a < 2 ^ 63 = f.sfits in
    let q = suc a / b in
    let l : q ≤ suc a = div-le_self (suc a) b in
    absurd (n (parts_sfits w64 (neg_ℤ (pos q)) (omega (arith, P-neg (pos q), N-neg (pos q)))))
none_divided (negsuc a) (negsuc zero) f n = none_fits (quot_z (negsuc a) (negsuc zero)) n
none_divided (negsuc a) (negsuc (suc b)) f n =
    let k : a < 2 ^ 63 = f.sfits in
    let l : suc a / suc (suc b) < suc a = div-lt_self (omega arith) (omega arith) in
    absurd (n (record { sfits = omega arith }))

-- Rounding of -(n + 1) by d + 1: the truncated quotient where nothing is left, one less where something is.
exact : (n d : ℕ) → suc n % suc d ≡ 0 → negsuc (n / suc d) ≡ neg_ℤ (pos (suc n / suc d))
exact n d e = go (suc n / suc d) refl
  where
    go : (k : ℕ) → suc n / suc d ≡ k → negsuc (n / suc d) ≡ neg_ℤ (pos k)
    go zero q = absurd (omega (arith, div-add-mod' (suc n) (suc d), ap (λ (x : ℕ). x * suc d) q))
    go (suc k) q =
        let h : suc n ≡ suc k * suc d = omega (arith, div-add-mod' (suc n) (suc d), ap (λ (x : ℕ). x * suc d) q) in
        let l : n ≡ k * suc d + d = omega arith in
        ap negsuc (ap (λ (x : ℕ). x / suc d) l ∙ digits_div k (omega arith))

inexact : (n d m : ℕ) → suc n % suc d ≡ suc m → negsuc (n / suc d) ≡ neg_ℤ (pos (suc n / suc d)) -ℤ pos 1
inexact n d m e =
    let q = suc n / suc d in
    let h : n ≡ q * suc d + m = omega (arith, div-add-mod' (suc n) (suc d)) in
    let l : n / suc d ≡ q = ap (λ (x : ℕ). x / suc d) h ∙ digits_div q (omega (arith, mod-lt (suc n) {m = suc d} (omega arith))) in
    equal (negsuc (n / suc d)) (neg_ℤ (pos q) -ℤ pos 1) (omega (arith, diff (neg_ℤ (pos q)) (pos 1), P-neg (pos q), N-neg (pos q)))

-- z is the floor, and it is no further from 0 than a.
pub record Floor (a b z : ℤ) : Type 0 where
  pub is : div_of a b ≡ checked z
  pub small : mag z ≤ mag a

pub floor_fits : {a b z : ℤ} → SFits w64 a → Floor a b z → SFits w64 z
floor_fits f h = record { sfits = lt_of_le_of_lt h.small f.sfits }

pub rem_fits : (a b : ℤ) → SFits w64 a → SFits w64 (rem_z a b)
rem_fits a b f = record { sfits = lt_of_le_of_lt (mag_rem a b) f.sfits }

pub by_zero_lem : (a : ℤ) {b : ℤ} → b ≡ pos 0 → Err ZeroDivisor ≡ div_of a b
unfolding div_of
by_zero_lem a e = rw e

-- One less than a quotient that was stored.
pub less_fits : {q : ℤ} {a b : ℤ} → SFits w64 q → SFits w64 a → Floor a b (q -ℤ pos 1) → SFits w64 (read q -ℤ pos 1)
less_fits f g h = subst (λ (x : ℤ). SFits w64 (x -ℤ pos 1)) (sym (read_back f)) (floor_fits g h)

pub less_value : {q : ℤ} {a b : ℤ} → SFits w64 q → SFits w64 a → Floor a b (q -ℤ pos 1) → Ok (read (read q -ℤ pos 1)) ≡ div_of a b
less_value f g h = value (less_fits f g h) (ap (λ (x : ℤ). x -ℤ pos 1) (read_back f)) ∙ sym h.is

-- The remainder has the other sign: one less than the truncated quotient.
less_of : (n d r : ℕ) → suc n % suc d ≡ r → 0 < r → negsuc (n / suc d) ≡ neg_ℤ (pos (suc n / suc d)) -ℤ pos 1
less_of n d zero e h = absurd (omega arith)
less_of n d (suc m) e h = inexact n d m e

round_low : (a b : ℤ) → lt_z b (pos 0) ≡ true → lt_z (pos 0) (rem_z a b) ≡ true → Floor a b (quot_z a b -ℤ pos 1)
unfolding div_of floor_by
round_low a (pos b) s t = absurd (omega (arith, lt_z_true (pos b) (pos 0) s))
round_low (pos zero) (negsuc d) s t = absurd (omega (arith, ltb-true 0 (0 % suc d) t, zero-mod (suc d)))
round_low (pos (suc n)) (negsuc d) s t =
    let e = less_of n d (suc n % suc d) refl (ltb-true 0 (suc n % suc d) t) in
    record { is = ap checked e; small = subst (λ (z : ℤ). mag z ≤ suc n) e (le_trans (div-le_self n (suc d)) (le-suc n)) }
round_low (negsuc n) (negsuc d) s t =
    let r = suc n % suc d in
    absurd (omega (arith, lt_z_true (pos 0) (neg_ℤ (pos r)) t, P-neg (pos r), N-neg (pos r)))

round_high : (a b : ℤ) → (b ≡ pos 0 → ⊥) → lt_z b (pos 0) ≡ false → lt_z (rem_z a b) (pos 0) ≡ true → Floor a b (quot_z a b -ℤ pos 1)
unfolding div_of floor_by
round_high a (negsuc b) h s t = absurd (omega (arith, lt_z_false (negsuc b) (pos 0) s))
round_high a (pos zero) h s t = absurd (h refl)
round_high (pos n) (pos (suc d)) h s t = absurd (omega (arith, ltb-true (n % suc d) 0 t))
round_high (negsuc n) (pos (suc d)) h s t =
    let r = suc n % suc d in
    let e = less_of n d r refl (omega (arith, lt_z_true (neg_ℤ (pos r)) (pos 0) t, P-neg (pos r), N-neg (pos r))) in
    record { is = ap checked e; small = subst (λ (z : ℤ). mag z ≤ n) e (div-le_self n (suc d)) }

-- No remainder, or one with the divisor's sign: the truncated quotient.
keep_low : (a b : ℤ) → lt_z b (pos 0) ≡ true → lt_z (pos 0) (rem_z a b) ≡ false → div_of a b ≡ checked (quot_z a b)
unfolding div_of floor_by
keep_low a (pos b) s t = absurd (omega (arith, lt_z_true (pos b) (pos 0) s))
keep_low (pos zero) (negsuc d) s t = rw zero-div
keep_low (pos (suc n)) (negsuc d) s t =
    let h : suc n % suc d ≡ 0 = omega (arith, ltb-false 0 (suc n % suc d) t) in
    ap checked (exact n d h)
keep_low (negsuc n) (negsuc d) s t = refl

keep_high : (a b : ℤ) → (b ≡ pos 0 → ⊥) → lt_z b (pos 0) ≡ false → lt_z (rem_z a b) (pos 0) ≡ false → div_of a b ≡ checked (quot_z a b)
unfolding div_of floor_by
keep_high a (negsuc b) h s t = absurd (omega (arith, lt_z_false (negsuc b) (pos 0) s))
keep_high a (pos zero) h s t = absurd (h refl)
keep_high (pos n) (pos (suc d)) h s t = refl
keep_high (negsuc n) (pos (suc d)) h s t =
    let r = suc n % suc d in
    let k : r ≡ 0 = omega (arith, lt_z_false (neg_ℤ (pos r)) (pos 0) t, P-neg (pos r), N-neg (pos r)) in
    ap checked (exact n d k)

-- Whether a rest is on the other side of 0 than the divisor, as `opposed` tests it.
abbrev pub Opposed : ℤ → ℤ → Bool
Opposed r b = if lt_z b (pos 0) then lt_z (pos 0) r else lt_z r (pos 0)

pub rounds : (a b : ℤ) → (b ≡ pos 0 → ⊥) → Opposed (rem_z a b) b ≡ true → Floor a b (quot_z a b -ℤ pos 1)
rounds a b h e = go (lt_z b (pos 0)) refl
  where
    go : (t : Bool) → lt_z b (pos 0) ≡ t → Floor a b (quot_z a b -ℤ pos 1)
    go true s = round_low a b s (rw s at e)
    go false s = round_high a b h s (rw s at e)

pub keeps : (a b : ℤ) → (b ≡ pos 0 → ⊥) → Opposed (rem_z a b) b ≡ false → div_of a b ≡ checked (quot_z a b)
keeps a b h e = go (lt_z b (pos 0)) refl
  where
    go : (t : Bool) → lt_z b (pos 0) ≡ t → div_of a b ≡ checked (quot_z a b)
    go true s = keep_low a b s (rw s at e)
    go false s = keep_high a b h s (rw s at e)
