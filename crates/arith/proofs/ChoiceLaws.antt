-- Laws of choice by a test: what holds of a choice, and what the tests of a test that passes or fails are.
use mathlib.Core.Path.{◌≡◌, refl}
use mathlib.Core.Bool.{Bool, true, false, ◌&&◌, ◌||◌, false≢true, true≢false}
use Rattle.std.specs.Prelude.{if◌then◌else◌}

-- What holds at both answers of a test, each under its own, holds at the answer that it has.
pub by_test : (Q : Bool → Type 0) (t : Bool) → (t ≡ true → Q true) → (t ≡ false → Q false) → Q t
by_test Q true f g = f refl
by_test Q false f g = g refl

-- What holds of both results of a choice, each under its test, holds of the choice.
pub if_all : {A : Type 0} (P : A → Type 0) (t : Bool) {x y : A} → (t ≡ true → P x) → (t ≡ false → P y) → P (if t then x else y)
if_all P t {x} {y} f g = by_test (λ b. P (if b then x else y)) t f g

pub both : (s t : Bool) → (s && t) ≡ true → (s ≡ true) × (t ≡ true)
both true t e = (refl, e)
both false t e = absurd (false≢true e)

pub neither : (s t : Bool) → (s || t) ≡ false → (s ≡ false) × (t ≡ false)
neither true t e = absurd (true≢false e)
neither false t e = (refl, e)

pub or_left : (s t : Bool) → s ≡ true → (s || t) ≡ true
or_left true t e = refl
or_left false t e = absurd (false≢true e)

pub or_right : (s t : Bool) → t ≡ true → (s || t) ≡ true
or_right true t e = refl
or_right false t e = e

-- A choice whose test is known.
pub if_true : {A : Type 0} {b : Bool} (x y : A) → b ≡ true → (if b then x else y) ≡ x
if_true x y e = rw e

pub if_false : {A : Type 0} {b : Bool} (x y : A) → b ≡ false → (if b then x else y) ≡ y
if_false x y e = rw e
