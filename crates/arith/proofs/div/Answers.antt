-- `arith::div` meets its contract: the truncated quotient fits but for -2^63 by -1, and the floor is one less exactly where the rest is on the other side of 0
-- than the divisor.
use mathlib.Core.Path.{◌≡◌, refl, sym, ◌∙◌, ap, ap₂}
use mathlib.Core.Bool.{Bool}
use lib.IntN.{ℤ, pos, ◌-ℤ◌}
use lib.Signed.{quot_z, rem_z}
use mir.Syntax.{w64}
use mir.Val.{SFits}
use Rattle.std.specs.Prelude.{Ok}
use Rattle.arith.specs.Exact.{div_of}
use Rattle.arith.proofs.Laws.{read, read_back, read_fits, value, bits_name, unnamed, none_divided, Floor, Opposed, less_value, rem_fits, by_zero_lem, rounds, keeps}
use borrow.Author.Rules.{rules}
use Rattle.arith.proofs.div.Goals.{Else-b-eq0}
use Rattle.arith.proofs.div.Goals as goal

pub returns-then-b-eq0 : goal.returns-then-b-eq0
returns-then-b-eq0 c = by_zero_lem c.args.a (bits_name c.ranges.b c.if-b-eq0.true)

-- What the test of the divisor leaves, of the numbers as they are read back.
module _ (c : Else-b-eq0) where
  abbrev a' : ℤ
  a' = read c.args.a

  abbrev b' : ℤ
  b' = read c.args.b

  fits-a : SFits w64 a'
  fits-a = read_fits c.ranges.a

  not_zero : b' ≡ pos 0 → ⊥
  not_zero = unnamed (pos 0) c.ranges.b c.if-b-eq0.false

  plain : div_of a' b' ≡ div_of c.args.a c.args.b
  plain = ap₂ div_of (read_back c.ranges.a) (read_back c.ranges.b)

pub returns-in_default : goal.returns-in_default
returns-in_default c =
    let at = (goal.at.returns-in_default c).Else-b-eq0 in
    let none : SFits w64 (quot_z (a' at) (b' at)) → ⊥ = λ h. c.in_default.ensures (search rules, h) in
    none_divided (a' at) (b' at) (fits-a at) none ∙ plain at

-- What `opposed` answered, of the rest itself.
told : (at : Else-b-eq0) {t u : Bool} → t ≡ Opposed (read (rem_z (a' at) (b' at))) (b' at) → t ≡ u → Opposed (rem_z (a' at) (b' at)) (b' at) ≡ u
told at h e = ap (λ (r : ℤ). Opposed r (b' at)) (sym (read_back (rem_fits (a' at) (b' at) (fits-a at)))) ∙ sym h ∙ e

pub returns-then-opposed : goal.returns-then-opposed
returns-then-opposed c =
    let at = (goal.at.returns-then-opposed c).Else-b-eq0 in
    let lower : Floor (a' at) (b' at) (quot_z (a' at) (b' at) -ℤ pos 1) = rounds (a' at) (b' at) (not_zero at) (told at c.opposed.ensures c.if-opposed.true) in
    ap (λ (q : ℤ). Ok (read (read q -ℤ pos 1))) c.in-Some.ensures.1 ∙ less_value c.in-Some.ensures.0.1 (fits-a at) lower ∙ plain at

pub returns-else-opposed : goal.returns-else-opposed
returns-else-opposed c =
    let at = (goal.at.returns-else-opposed c).Else-b-eq0 in
    ap (λ (q : ℤ). Ok (read q)) c.in-Some.ensures.1 ∙ value c.in-Some.ensures.0.1 refl
    ∙ sym (keeps (a' at) (b' at) (not_zero at) (told at c.opposed.ensures c.if-opposed.false)) ∙ plain at
