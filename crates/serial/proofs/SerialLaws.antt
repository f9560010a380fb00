-- The laws of the serial run that its loops go by: one more call, one more step, and a refused one.
use mathlib.Core.Path.{◌≡◌, refl, sym, ap, ◌∙◌}
use mathlib.Core.Bool.{Bool, true, false}
use mathlib.Core.List.{List, [], ◌∷◌}
use Prim.Native.Nat.{ℕ, zero, suc, ◌+◌, ◌≤◌, ◌<◌}
use native.Mathlib.Numerals.{add-one}
use native.Mathlib.Omega.{arith}
use Rattle.std.specs.Prelude.{Result, Ok, Err}
use Rattle.wire.specs.Bytes.{below}
use Rattle.machine.proofs.RefusedLaws.{step_unmoved}
use Rattle.machine.proofs.SerialRunLaws.{run_calls_append}
use Rattle.machine.specs.Run.{Run}
use Rattle.machine.specs.Moves.{Moved, step_of}
use Rattle.machine.specs.declared.Answer.{Answer}
use Rattle.machine.specs.Serial.{is_serial_idle, step_to_end, run_call, run_calls}

-- ---- the calls

-- No call yet, and the next one behind those below it.
module _ (block : List ℕ) (r : Run) where
  pub calls_none : r ≡ run_calls block r (below 0)
  unfolding run_calls below
  calls_none = refl

  pub calls_next : (c : ℕ) {q s : Run} → q ≡ run_calls block r (below c) → s ≡ run_call block q c → s ≡ run_calls block r (below (c + 1))
  unfolding run_calls below
  calls_next c before made =
      made ∙ rw (before, add-one c) (sym (run_calls_append block r (below c) (c ∷ [])))

-- ---- the steps

-- No step is left, the worker is free, or it is not and makes one.
module _ (block : List ℕ) (r : Run) where
  pub steps_over : (left : ℕ) → left ≤ 0 → step_to_end left block r ≡ r
  unfolding step_to_end
  steps_over zero h = refl
  steps_over (suc left) h = absurd (omega arith)

  pub steps_idle : (left : ℕ) → 0 < left → true ≡ is_serial_idle r → step_to_end left block r ≡ r
  unfolding step_to_end
  steps_idle zero h e = absurd (omega arith)
  steps_idle (suc left) h e = rw (← e, step_to_end)

  pub steps_next :
      (left : ℕ) → 0 < left → false ≡ is_serial_idle r → {m : Moved} → m ≡ step_of block r 0 → (rest : ℕ) → rest + 1 ≡ left →
      step_to_end left block r ≡ step_to_end rest block m.run
  unfolding step_to_end
  steps_next zero h e made rest n = absurd (omega arith)
  steps_next (suc left) h e made rest n =
      let z : rest ≡ left = omega arith in
      rw (← e, step_to_end, z, made)

-- ---- a refused step

-- Where a step leaves the run, all later ones do.
module _ (block : List ℕ) (r : Run) where
  unless_idle : (left : ℕ) (t : Bool) → is_serial_idle r ≡ t → step_to_end left block (step_of block r 0).run ≡ r → step_to_end (suc left) block r ≡ r
  unfolding step_to_end
  unless_idle left true e on = rw (e, step_to_end)
  unless_idle left false e on = rw (e, step_to_end) on

  steps_stay : (step_of block r 0).run ≡ r → (left : ℕ) → step_to_end left block r ≡ r
  unfolding step_to_end
  steps_stay e zero = refl
  steps_stay e (suc left) = unless_idle left (is_serial_idle r) refl (ap (step_to_end left block) e ∙ steps_stay e left)

  pub steps_refused : (left : ℕ) {m : Moved} → m ≡ step_of block r 0 → {why : Answer} → m.answer ≡ Err why → step_to_end left block r ≡ m.run
  steps_refused left {m} made {why} told =
      let stays : (step_of block r 0).run ≡ r = step_unmoved block r 0 (λ e. refused (sym told ∙ ap (λ (x : Moved). x.answer) made ∙ e)) in
      steps_stay stays left ∙ sym stays ∙ sym (ap (λ (x : Moved). x.run) made)
    where
      refused : ◌≡◌ {A = Result (Unit {0}) Answer} (Err why) (Ok tt) → ⊥
      refused e = absurd cc
