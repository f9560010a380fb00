-- The divisions of document 01, computed: "-7 by 2: -4; 7 by -2: -4; -2^63 by -1: outcome 4; by 0: 4", which by M-103 is 6, whatever is
-- divided.
use Rattle.std.specs.Prelude.{◌≡◌, refl, ◌-◌, ◌^◌, pos, negsuc, Ok, Err}
use Rattle.arith.specs.Exact.{checked, add_of, sub_of, mul_of, floor_by, div_of, signed, unsigned}
use Rattle.arith.specs.declared.NoResult.TheVariants.{Overflow, ZeroDivisor}

pub record Divisions : Type 0 where
  pub by_2 : div_of (negsuc 6) (pos 2) ≡ Ok (negsuc 3)
  pub by_minus_2 : div_of (pos 7) (negsuc 1) ≡ Ok (negsuc 3)
  pub both_positive : div_of (pos 7) (pos 2) ≡ Ok (pos 3)
  pub both_negative : div_of (negsuc 6) (negsuc 1) ≡ Ok (pos 3)
  pub past_the_largest : div_of (negsuc (2 ^ 63 - 1)) (negsuc 0) ≡ Err Overflow
  pub by_0 : div_of (negsuc 6) (pos 0) ≡ Err ZeroDivisor
  pub zero_by_0 : div_of (pos 0) (pos 0) ≡ Err ZeroDivisor
  pub lowest_by_0 : div_of (negsuc (2 ^ 63 - 1)) (pos 0) ≡ Err ZeroDivisor

pub divisions : Divisions
unfolding checked floor_by div_of
divisions =
    record {
      by_2 = refl;
      by_minus_2 = refl;
      both_positive = refl;
      both_negative = refl;
      past_the_largest = refl;
      by_0 = refl;
      zero_by_0 = refl;
      lowest_by_0 = refl;
    }

-- The ends of 64 signed bits, and two's complement.
pub record Ranges : Type 0 where
  pub sum_at : add_of (pos (2 ^ 63 - 2)) (pos 1) ≡ Ok (pos (2 ^ 63 - 1))
  pub sum_past : add_of (pos (2 ^ 63 - 1)) (pos 1) ≡ Err Overflow
  pub difference_at : sub_of (negsuc (2 ^ 63 - 2)) (pos 1) ≡ Ok (negsuc (2 ^ 63 - 1))
  pub difference_past : sub_of (negsuc (2 ^ 63 - 1)) (pos 1) ≡ Err Overflow
  pub product_at : mul_of (negsuc (2 ^ 62 - 1)) (pos 2) ≡ Ok (negsuc (2 ^ 63 - 1))
  pub product_past : mul_of (negsuc (2 ^ 62 - 1)) (negsuc 1) ≡ Err Overflow
  pub minus_1 : signed 32 (2 ^ 32 - 1) ≡ negsuc 0
  pub lowest : signed 64 (2 ^ 63) ≡ negsuc (2 ^ 63 - 1)
  pub bits_of_minus_1 : unsigned 64 (negsuc 0) ≡ 2 ^ 64 - 1

pub ranges : Ranges
unfolding checked signed unsigned
ranges =
    record {
      sum_at = refl;
      sum_past = refl;
      difference_at = refl;
      difference_past = refl;
      product_at = refl;
      product_past = refl;
      minus_1 = refl;
      lowest = refl;
      bits_of_minus_1 = refl;
    }
