-- From answers to the numbers of document 01: what is found for each answer is what is found for its number.
use Rattle.std.specs.Prelude.{Ok, Err, Result}
use mathlib.Core.Path.{◌≡◌, refl, sym, ap, subst, subst⁻¹, ◌∙◌}
use mathlib.Core.Bool.{Bool, true, false}
use Prim.Native.Nat.{ℕ}
use native.Mathlib.Omega.{arith}
use borrow.Author.Tests.{eqb-true}
use lib.Dec.{eqb}
use Rattle.arith.specs.Choice.{when◌then◌else◌}
use Rattle.machine.specs.Run.{Run}
use Rattle.machine.specs.Answer.{answer_number, refused_number}
use Rattle.machine.specs.declared.Answer.{Answer}
use Rattle.machine.specs.declared.Answer.TheVariants as answer
use Rattle.guarantees.specs.Demand1.{Exactly, BeginGives, HeldRefuses}

-- What a condition that is chosen by a test gives.
pub chosen : (C : Type 0) (t : Bool) {A B : Type 0} → (t ≡ true → A → C) → (t ≡ false → B → C) → (when t then A else B) → C
chosen C true f g h = f refl h
chosen C false f g h = g refl h

-- ---- the numbers of the answers

-- An accepted move, and a refused one.
abbrev pub accepted : Result (Unit {0}) Answer
accepted = Ok tt

abbrev pub refusal : Answer → Result (Unit {0}) Answer
refusal a = Err a

pub accepted_number : {a : Result (Unit {0}) Answer} → a ≡ accepted → answer_number a ≡ 0
unfolding answer_number refused_number
accepted_number e = ap answer_number e

pub damaged_number : {a : Result (Unit {0}) Answer} → a ≡ refusal answer.Damaged → answer_number a ≡ 20
unfolding answer_number refused_number
damaged_number e = ap answer_number e

pub number_accepted : (a : Result (Unit {0}) Answer) → answer_number a ≡ 0 → a ≡ accepted
unfolding answer_number refused_number
number_accepted (Ok tt) e = refl
number_accepted (Err answer.Damaged) e = absurd (omega (arith, e))
number_accepted (Err answer.NoWorker) e = absurd (omega (arith, e))
number_accepted (Err answer.NoCall) e = absurd (omega (arith, e))
number_accepted (Err answer.WorkerBusy) e = absurd (omega (arith, e))
number_accepted (Err answer.NotWaiting) e = absurd (omega (arith, e))
number_accepted (Err answer.EarlierUnfinished) e = absurd (omega (arith, e))
number_accepted (Err answer.WorkerIdle) e = absurd (omega (arith, e))
number_accepted (Err answer.CallUnfinished) e = absurd (omega (arith, e))
number_accepted (Err answer.SheetTooLong) e = absurd (omega (arith, e))

number_damaged : (a : Result (Unit {0}) Answer) → answer_number a ≡ 20 → a ≡ refusal answer.Damaged
unfolding answer_number refused_number
number_damaged (Ok tt) e = absurd (omega (arith, e))
number_damaged (Err answer.Damaged) e = refl
number_damaged (Err answer.NoWorker) e = absurd (omega (arith, e))
number_damaged (Err answer.NoCall) e = absurd (omega (arith, e))
number_damaged (Err answer.WorkerBusy) e = absurd (omega (arith, e))
number_damaged (Err answer.NotWaiting) e = absurd (omega (arith, e))
number_damaged (Err answer.EarlierUnfinished) e = absurd (omega (arith, e))
number_damaged (Err answer.WorkerIdle) e = absurd (omega (arith, e))
number_damaged (Err answer.CallUnfinished) e = absurd (omega (arith, e))
number_damaged (Err answer.SheetTooLong) e = absurd (omega (arith, e))

-- Accepted by its number, and 20 by its.
pub accepted_exactly : (given : Result (Unit {0}) Answer) {B : Type 0} → Exactly (given ≡ accepted) B → Exactly (answer_number given ≡ 0) B
accepted_exactly given x = (λ e. x.0 (number_accepted given e), λ b. accepted_number (x.1 b))

pub damaged_exactly : (given : Result (Unit {0}) Answer) {B : Type 0} → Exactly (given ≡ refusal answer.Damaged) B → Exactly (answer_number given ≡ 20) B
damaged_exactly given x = (λ e. x.0 (number_damaged given e), λ b. damaged_number (x.1 b))

-- The answer of a number.
abbrev Numbered : ℕ → Type 0
Numbered n = (a : Result (Unit {0}) Answer) × (answer_number a ≡ n)

-- ---- by number

module _ (given : Result (Unit {0}) Answer) (G : ℕ → Type 0) where
  -- Of every number but 20.
  pub by_number : ((given ≡ refusal answer.Damaged → ⊥) → G (answer_number given)) → ((a : Result (Unit {0}) Answer) → G (answer_number a) → given ≡ a)
      → ((n : ℕ) → G n → Numbered n) → (n : ℕ) → (n ≡ 20 → ⊥) → Exactly (answer_number given ≡ n) (G n)
  by_number gives from known n d = (λ e. subst G e (gives (λ f. d (sym e ∙ damaged_number f))), back)
    where
      back : G n → answer_number given ≡ n
      back g = let o : Numbered n = known n g in ap answer_number (from o.0 (subst⁻¹ G o.1 g)) ∙ o.1

  -- Of every number but 0 and 20.
  pub by_refusal : ((given ≡ accepted → ⊥) → (given ≡ refusal answer.Damaged → ⊥) → G (answer_number given)) → ((a : Result (Unit {0}) Answer) → G (answer_number a) → given ≡ a)
      → ((n : ℕ) → G n → Numbered n) → (n : ℕ) → (n ≡ 0 → ⊥) → (n ≡ 20 → ⊥) → Exactly (answer_number given ≡ n) (G n)
  by_refusal gives from known n z d = (λ e. subst G e (gives (λ f. z (sym e ∙ accepted_number f)) (λ f. d (sym e ∙ damaged_number f))), back)
    where
      back : G n → answer_number given ≡ n
      back g = let o : Numbered n = known n g in ap answer_number (from o.0 (subst⁻¹ G o.1 g)) ∙ o.1

-- ---- each condition is that of an answer

pub begin_known : (r : Run) (worker call n : ℕ) → BeginGives r worker call n → Numbered n
unfolding answer_number refused_number
begin_known r worker call n =
    chosen (Numbered n) (eqb n 0) (λ e g. (accepted, sym (eqb-true n 0 e)))
    (λ e₁. chosen (Numbered n) (eqb n 21) (λ e g. ((Err answer.NoWorker), sym (eqb-true n 21 e)))
    (λ e₂. chosen (Numbered n) (eqb n 22) (λ e g. ((Err answer.NoCall), sym (eqb-true n 22 e)))
    (λ e₃. chosen (Numbered n) (eqb n 23) (λ e g. ((Err answer.WorkerBusy), sym (eqb-true n 23 e)))
    (λ e₄. chosen (Numbered n) (eqb n 24) (λ e g. ((Err answer.NotWaiting), sym (eqb-true n 24 e)))
    (λ e₅. chosen (Numbered n) (eqb n 25) (λ e g. ((Err answer.EarlierUnfinished), sym (eqb-true n 25 e))) (λ e₆ g. absurd g))))))

pub held_known : (r : Run) (worker n : ℕ) → HeldRefuses r worker n → Numbered n
unfolding answer_number refused_number
held_known r worker n =
    chosen (Numbered n) (eqb n 21) (λ e g. ((Err answer.NoWorker), sym (eqb-true n 21 e)))
    (λ e₁. chosen (Numbered n) (eqb n 26) (λ e g. ((Err answer.WorkerIdle), sym (eqb-true n 26 e))) (λ e₂ g. absurd g))
