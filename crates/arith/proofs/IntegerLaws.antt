-- Laws of ℤ for linear arithmetic: an integer z is posPart z - negPart z, so that each fact of sums, orders and ranges becomes one of ℕ, which `omega` proves.
use mathlib.Core.Path.{◌≡◌, refl, sym, ◌∙◌, ap}
use mathlib.Core.Bool.{Bool, true, false, cond}
use Prim.Native.Nat.{ℕ, zero, suc, ◌+◌, ◌*◌, ◌-◌, ◌/◌, ◌%◌, ◌^◌, ◌<◌, ◌≤◌}
use native.Mathlib.Omega.{arith}
use native.Mathlib.Decide.{dec_lt}
use native.Mathlib.Nat.{pow-suc, mod-lt, div-add-mod}
use lib.Arith.{digits_div}
use lib.Dec.{ltb}
use lib.IntN.{ℤ, pos, negsuc, neg_ℤ, nat_abs, sub_ℕ, ◌+ℤ◌, ◌-ℤ◌, ◌*ℤ◌, neg_ℤ-neg_ℤ, neg_ℤ-+ℤ, *ℤ_comm, *ℤ-negsuc}
use lib.Signed.{mag, lt_z, le_z, non_neg}
use mir.Syntax.{Width, w8, w16, w32, w64, w128}
use mir.Val.{SFits, bits, hbits, to_z, of_z, sel}
use borrow.Author.Tests.{ltb-true, ltb-false, leb-true, leb-false, eqb-true, lt-ltb, le-ltb, eq-eqb}
use Rattle.std.specs.Prelude.{if◌then◌else◌, Ok, Err}
use Rattle.arith.specs.Compare.{eq_z}
use Rattle.arith.specs.Exact.{fits64, checked, floor_by, div_of, signed, unsigned}
use Rattle.arith.specs.declared.NoResult.TheVariants.{Overflow}

-- What z has above zero, and what below.
abbrev pub pos_part : ℤ → ℕ
pos_part (pos n) = n
pos_part (negsuc n) = 0

abbrev pub neg_part : ℤ → ℕ
neg_part (pos n) = 0
neg_part (negsuc n) = suc n

-- ---- the parts: the lesser of them is 0, and they tell z

pub N-zero : (z : ℤ) → neg_part z ≤ pos_part z → neg_part z ≡ 0
N-zero (pos n) h = refl
N-zero (negsuc n) h = absurd (omega arith)

pub equal : (a b : ℤ) → pos_part a + neg_part b ≡ pos_part b + neg_part a → a ≡ b
equal (pos a) (pos b) h = let e : a ≡ b = omega arith in ap pos e
equal (pos a) (negsuc b) h = absurd (omega arith)
equal (negsuc a) (pos b) h = absurd (omega arith)
equal (negsuc a) (negsuc b) h = let e : a ≡ b = omega arith in ap negsuc e

-- ---- sums, negation, differences

sub_parts : (a b : ℕ) → pos_part (sub_ℕ a b) + b ≡ a + neg_part (sub_ℕ a b)
sub_parts a b = go (ltb a b) refl
  where
    go : (t : Bool) → ltb a b ≡ t → pos_part (cond t (negsuc (b - suc a)) (pos (a - b))) + b ≡ a + neg_part (cond t (negsuc (b - suc a)) (pos (a - b)))
    go true e = let h : a < b = ltb-true a b e in omega arith
    go false e = let h : b ≤ a = ltb-false a b e in omega arith

pub sum : (a b : ℤ) → pos_part (a +ℤ b) + (neg_part a + neg_part b) ≡ pos_part a + pos_part b + neg_part (a +ℤ b)
sum (pos a) (pos b) = omega arith
sum (pos a) (negsuc b) = omega (arith, sub_parts a (suc b))
sum (negsuc a) (pos b) = omega (arith, sub_parts b (suc a))
sum (negsuc a) (negsuc b) = omega arith

pub P-neg : (z : ℤ) → pos_part (neg_ℤ z) ≡ neg_part z
P-neg (pos zero) = refl
P-neg (pos (suc n)) = refl
P-neg (negsuc n) = refl

pub N-neg : (z : ℤ) → neg_part (neg_ℤ z) ≡ pos_part z
N-neg (pos zero) = refl
N-neg (pos (suc n)) = refl
N-neg (negsuc n) = refl

pub diff : (a b : ℤ) → pos_part (a -ℤ b) + (neg_part a + pos_part b) ≡ pos_part a + neg_part b + neg_part (a -ℤ b)
diff a b = omega (arith, sum a (neg_ℤ b), P-neg b, N-neg b)

-- ---- orders: what a test tells, and what tells a test

-- A test has one answer.
pub clash : {A : Type 0} → ◌≡◌ {A = Bool} false true → A
clash e = let z : ◌≡◌ {A = ℕ} 0 1 = cc in absurd (omega arith)

pub lt_z_true : (a b : ℤ) → lt_z a b ≡ true → pos_part a + neg_part b < pos_part b + neg_part a
lt_z_true (pos a) (pos b) e = omega (arith, ltb-true a b e)
lt_z_true (pos a) (negsuc b) e = clash e
lt_z_true (negsuc a) (pos b) e = omega arith
lt_z_true (negsuc a) (negsuc b) e = omega (arith, ltb-true b a e)

pub lt_z_false : (a b : ℤ) → lt_z a b ≡ false → pos_part b + neg_part a ≤ pos_part a + neg_part b
lt_z_false (pos a) (pos b) e = omega (arith, ltb-false a b e)
lt_z_false (pos a) (negsuc b) e = omega arith
lt_z_false (negsuc a) (pos b) e = clash (sym e)
lt_z_false (negsuc a) (negsuc b) e = omega (arith, ltb-false b a e)

pub le_z_true : (a b : ℤ) → le_z a b ≡ true → pos_part a + neg_part b ≤ pos_part b + neg_part a
le_z_true (pos a) (pos b) e = omega (arith, leb-true a b e)
le_z_true (pos a) (negsuc b) e = clash e
le_z_true (negsuc a) (pos b) e = omega arith
le_z_true (negsuc a) (negsuc b) e = omega (arith, leb-true b a e)

pub le_z_false : (a b : ℤ) → le_z a b ≡ false → pos_part b + neg_part a < pos_part a + neg_part b
le_z_false (pos a) (pos b) e = omega (arith, leb-false a b e)
le_z_false (pos a) (negsuc b) e = omega arith
le_z_false (negsuc a) (pos b) e = clash (sym e)
le_z_false (negsuc a) (negsuc b) e = omega (arith, leb-false b a e)

pub eq_z_true : (a b : ℤ) → eq_z a b ≡ true → a ≡ b
eq_z_true (pos a) (pos b) e = ap pos (eqb-true a b e)
eq_z_true (pos a) (negsuc b) e = clash e
eq_z_true (negsuc a) (pos b) e = clash e
eq_z_true (negsuc a) (negsuc b) e = ap negsuc (eqb-true a b e)

pub eq_eq_z : (a b : ℤ) → a ≡ b → eq_z a b ≡ true
eq_eq_z a b h = rw (← h) (self a)
  where
    self : (z : ℤ) → eq_z z z ≡ true
    self (pos n) = eq-eqb n n refl
    self (negsuc n) = eq-eqb n n refl

pub eq_z_false : (a b : ℤ) → eq_z a b ≡ false → a ≡ b → ⊥
eq_z_false a b e h = clash (sym e ∙ eq_eq_z a b h)

pub non_neg_true : (z : ℤ) → non_neg z ≡ true → neg_part z ≡ 0
non_neg_true (pos n) e = refl
non_neg_true (negsuc n) e = clash e

-- Each test from its fact: the other answer would tell the opposite.
decide : (t : Bool) → (t ≡ false → ⊥) → t ≡ true
decide true h = refl
decide false h = absurd (h refl)

pub refuse : (t : Bool) → (t ≡ true → ⊥) → t ≡ false
refuse true h = absurd (h refl)
refuse false h = refl

pub le_lt_z : (a b : ℤ) → pos_part b + neg_part a ≤ pos_part a + neg_part b → lt_z a b ≡ false
le_lt_z a b h = refuse (lt_z a b) (λ e. omega (arith, lt_z_true a b e))

pub le_le_z : (a b : ℤ) → pos_part a + neg_part b ≤ pos_part b + neg_part a → le_z a b ≡ true
le_le_z a b h = decide (le_z a b) (λ e. omega (arith, le_z_false a b e))

pub lt_le_z : (a b : ℤ) → pos_part b + neg_part a < pos_part a + neg_part b → le_z a b ≡ false
lt_le_z a b h = refuse (le_z a b) (λ e. omega (arith, le_z_true a b e))

pub ne_eq_z : (a b : ℤ) → (a ≡ b → ⊥) → eq_z a b ≡ false
ne_eq_z a b h = refuse (eq_z a b) (λ e. h (eq_z_true a b e))

pub non_neg_of : (z : ℤ) → neg_part z ≤ pos_part z → non_neg z ≡ true
non_neg_of (pos n) h = refl
non_neg_of (negsuc n) h = absurd (omega arith)

-- ---- ranges: H numbers from 0 up and H below 0, at H = 2 ^ 63 those of 64 signed bits

pub mag_parts : (z : ℤ) {H : ℕ} → mag z < H → (pos_part z < H) × (neg_part z ≤ H)
mag_parts (pos n) h = omega arith
mag_parts (negsuc n) h = omega arith

pub parts_mag : (z : ℤ) {H : ℕ} → (pos_part z < H + neg_part z) × (neg_part z ≤ H + pos_part z) → mag z < H
parts_mag (pos n) h = omega arith
parts_mag (negsuc n) h = omega arith

-- The range as the library says it of a type, and as the test says it.
pub sfits_parts : {w : Width} {z : ℤ} → SFits w z → (pos_part z < 2 ^ hbits w) × (neg_part z ≤ 2 ^ hbits w)
sfits_parts {z = z} f = mag_parts z f.sfits

pub parts_sfits : (w : Width) (z : ℤ) → (pos_part z < 2 ^ hbits w + neg_part z) × (neg_part z ≤ 2 ^ hbits w + pos_part z) → SFits w z
parts_sfits w z h = record { sfits = parts_mag z h }

pub sfits_fits : {z : ℤ} → SFits w64 z → fits64 z ≡ true
sfits_fits {z} f = lt-ltb (mag z) (2 ^ 63) f.sfits

-- ---- what `checked` gives within the range and outside

pub checked_value : (z : ℤ) → fits64 z ≡ true → checked z ≡ Ok z
unfolding checked
checked_value z e = rw e

pub checked_overflow : (z : ℤ) → fits64 z ≡ false → checked z ≡ Err Overflow
unfolding checked
checked_overflow z e = rw e

-- ---- two's complement: `signed k` and `unsigned k` case by case, and inverse to each other

pub signed_low : (k n : ℕ) → n < 2 ^ (k - 1) → signed k n ≡ pos n
unfolding signed
signed_low k n h = rw (lt-ltb n (2 ^ (k - 1)) h)

pub signed_high : (k n : ℕ) → 2 ^ (k - 1) ≤ n → signed k n ≡ negsuc (2 ^ k - 1 - n)
unfolding signed
signed_high k n h = rw (le-ltb n (2 ^ (k - 1)) h)

pub unsigned_signed : (k n : ℕ) → n < 2 ^ k → unsigned k (signed k n) ≡ n
unfolding unsigned
unsigned_signed k n h = go (dec_lt n (2 ^ (k - 1)))
  where
    go : Dec (n < 2 ^ (k - 1)) → unsigned k (signed k n) ≡ n
    go (yes l) = ap (unsigned k) (signed_low k n l)
    go (no l) = ap (unsigned k) (signed_high k n (omega arith)) ∙ omega arith

-- A width's range is twice its half.
two_halves : (k : ℕ) → 0 < k → 2 ^ k ≡ 2 ^ (k - 1) * 2
two_halves k h = let e : k ≡ suc (k - 1) = omega arith in ap (λ (j : ℕ). 2 ^ j) e ∙ pow-suc 2 (k - 1)

pub signed_range : (k n : ℕ) → 0 < k → n < 2 ^ k → mag (signed k n) < 2 ^ (k - 1)
signed_range k n p h = go (dec_lt n (2 ^ (k - 1)))
  where
    go : Dec (n < 2 ^ (k - 1)) → mag (signed k n) < 2 ^ (k - 1)
    go (yes l) = rw (signed_low k n l) l
    go (no l) = rw (signed_high k n (omega arith)) (omega (arith, two_halves k p))

pub unsigned_range : (k : ℕ) (z : ℤ) → 0 < k → mag z < 2 ^ (k - 1) → unsigned k z < 2 ^ k
unfolding unsigned
unsigned_range k (pos n) p h = omega (arith, two_halves k p)
unsigned_range k (negsuc n) p h = omega (arith, two_halves k p)

pub signed_unsigned : (k : ℕ) (z : ℤ) → 0 < k → mag z < 2 ^ (k - 1) → signed k (unsigned k z) ≡ z
unfolding unsigned
signed_unsigned k (pos n) p h = signed_low k n h
signed_unsigned k (negsuc n) p h =
    let e : 2 ^ k - 1 - (2 ^ k - 1 - n) ≡ n = omega (arith, two_halves k p) in
    signed_high k (2 ^ k - 1 - n) (omega (arith, two_halves k p)) ∙ ap negsuc e

-- They are the library's readings of a type's bits.
chosen : (t : Bool) (n m : ℕ) → (if t then pos n else negsuc (m - 1 - n)) ≡ sel t (pos n) (negsuc (m - suc n))
chosen true n m = refl
chosen false n m = let e : m - 1 - n ≡ m - suc n = omega arith in ap negsuc e

pub signed_to_z : (w : Width) (n : ℕ) → signed (bits w) n ≡ to_z w n
unfolding signed
signed_to_z w8 n = chosen (ltb n (2 ^ 7)) n (2 ^ 8)
signed_to_z w16 n = chosen (ltb n (2 ^ 15)) n (2 ^ 16)
signed_to_z w32 n = chosen (ltb n (2 ^ 31)) n (2 ^ 32)
signed_to_z w64 n = chosen (ltb n (2 ^ 63)) n (2 ^ 64)
signed_to_z w128 n = chosen (ltb n (2 ^ 127)) n (2 ^ 128)

pub unsigned_of_z : (w : Width) (z : ℤ) → unsigned (bits w) z ≡ of_z w z
unfolding unsigned
unsigned_of_z w (pos n) = refl
unsigned_of_z w (negsuc n) = omega arith

-- ---- floor division: `floor_by a d` is the one q with a = d q + r for a rest r from 0 to d - 1

pub record Rest (a : ℤ) (d : ℕ) (q : ℤ) : Type 0 where
  pub rest : ℕ
  pub less : rest < d
  pub is : a ≡ pos d *ℤ q +ℤ pos rest

pub floor_rest : (a : ℤ) (d : ℕ) → 0 < d → Rest a d (floor_by a d)
unfolding floor_by
floor_rest (pos n) d h = record { rest = n % d; less = mod-lt n h; is = ap pos (sym (div-add-mod n d)) }
floor_rest (negsuc n) d h =
    let m = d * suc (n / d) in
    let s = neg_ℤ (pos m) +ℤ pos (d - 1 - n % d) in
    let l : n % d < d = mod-lt n h in
    record {
      rest = d - 1 - n % d;
      less = omega arith;
      is = equal (negsuc n) s (omega (arith, sum (neg_ℤ (pos m)) (pos (d - 1 - n % d)), P-neg (pos m), N-neg (pos m), div-add-mod n d));
    }

pub floor_only : (a : ℤ) (d : ℕ) (q : ℤ) → Rest a d q → q ≡ floor_by a d
unfolding floor_by
floor_only (pos n) d (pos k) h =
    let e : n ≡ k * d + h.rest = omega (arith, ap pos_part h.is) in
    ap pos (sym (ap (λ (x : ℕ). x / d) e ∙ digits_div k h.less))
floor_only (pos n) d (negsuc k) h =
    let m = d * suc k in
    absurd (omega (arith, ap pos_part h.is, ap neg_part h.is, sum (neg_ℤ (pos m)) (pos h.rest), P-neg (pos m), N-neg (pos m), h.less))
floor_only (negsuc n) d (pos k) h = absurd (omega (arith, ap neg_part h.is))
floor_only (negsuc n) d (negsuc k) h =
    let m = d * suc k in
    let e : n ≡ k * d + (d - 1 - h.rest) =
    omega (arith, ap pos_part h.is, ap neg_part h.is, sum (neg_ℤ (pos m)) (pos h.rest), P-neg (pos m), N-neg (pos m), h.less)
    in
    ap negsuc (sym (ap (λ (x : ℕ). x / d) e ∙ digits_div k (omega (arith, h.less))))

-- Division is that floor for every divisor but 0: the rest is between 0 and the divisor.
pub record Divided (a b : ℤ) : Type 0 where
  pub quotient : ℤ
  pub rest : ℕ
  pub answer : div_of a b ≡ checked quotient
  pub less : rest < nat_abs b
  pub is : a ≡ b *ℤ quotient +ℤ (if lt_z b (pos 0) then neg_ℤ (pos rest) else pos rest)

pub div_rest : (a b : ℤ) → (b ≡ pos 0 → ⊥) → Divided a b
unfolding div_of
div_rest a (pos zero) h = absurd (h refl)
div_rest a (pos (suc d)) h =
    let f = floor_rest a (suc d) (omega arith) in
    record {
      quotient = floor_by a (suc d);
      rest = f.rest;
      answer = refl;
      less = f.less;
      is = rw (le-ltb (suc d) 0 (omega arith)) f.is;
    }
div_rest a (negsuc d) h =
    let f = floor_rest (neg_ℤ a) (suc d) (omega arith) in
    let q = floor_by (neg_ℤ a) (suc d) in
    record {
      quotient = q;
      rest = f.rest;
      answer = refl;
      less = f.less;
      is =
          sym (neg_ℤ-neg_ℤ a) ∙ ap neg_ℤ f.is ∙ neg_ℤ-+ℤ (pos (suc d) *ℤ q) (pos f.rest)
          ∙ ap (λ (z : ℤ). z +ℤ neg_ℤ (pos f.rest))
          (ap neg_ℤ (*ℤ_comm (pos (suc d)) q) ∙ sym (*ℤ-negsuc q d) ∙ *ℤ_comm q (negsuc d));
    }

-- ---- signs

-- The sign test, and what it leaves.
pub negative : (z : ℤ) → lt_z z (pos 0) ≡ true → non_neg z ≡ false
negative (pos n) e = let h : n < 0 = ltb-true n 0 e in absurd (omega arith)
negative (negsuc n) e = refl

pub not_negative : (z : ℤ) → lt_z z (pos 0) ≡ false → non_neg z ≡ true
not_negative (pos n) e = refl
not_negative (negsuc n) e = sym e
