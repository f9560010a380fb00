-- Runs of one call with nothing in between: frame, locality, and the number of steps.
use Prim.Native.Nat.{ℕ, zero, suc, ◌+◌, ◌<◌, ◌≤◌}
use native.Mathlib.Nat.{add-zero, add-suc, suc-add, zero-add}
use native.Mathlib.Omega.{arith}
use native.Mathlib.Decide.{dec_lt}
use mathlib.Core.Path.{◌≡◌, refl, sym, ap, subst, ◌∙◌}
use mathlib.Core.Bool.{Bool, true, false, ◌||◌}
use Rattle.schedule.specs.Calls.{Calls, CallCourse, more, done, is_done, touches, Alike, RunPoint, advance, trace, steps_from, steps_of, whole, Lawful}

-- A test has one answer.
pub one_answer : {A : Type 0} {b : Bool} → b ≡ true → b ≡ false → A
one_answer p q = let z : ◌≡◌ {A = ℕ} 0 1 = cc in absurd (omega arith)

module _ (Y : Calls) (c : ℕ) where
  pub wr_touches : (x : ℕ) → Y.wr c x ≡ true → touches Y c x ≡ true
  wr_touches x e = rw e (go (Y.rd c x))
    where
      go : (b : Bool) → (b || true) ≡ true
      go true = refl
      go false = refl

  -- Two runs of the call stand at the same place, with the same in its cells.
  pub record RunsAlike (p p' : RunPoint Y) : Type 0 where
    pub course : p.course ≡ p'.course
    pub cells : Alike Y c p.state p'.state

module _ (Y : Calls) (c : ℕ) (law : Lawful Y c) where
  -- Every state of a run is good, and its cells outside the write set are those of the begin.
  pub trace_good : (s : Y.State) → Y.Good s → (k : ℕ) → Y.Good (trace Y c s k).state
  unfolding trace
  trace_good s g zero = g
  trace_good s g (suc k) = go (trace Y c s k).course (trace Y c s k).state (trace_good s g k)
    where
      go : (q : CallCourse Y.Local Y.Receipt) (t : Y.State) → Y.Good t → Y.Good (advance Y c (Y.save c s) q t).state
      go (more l) t h = law.step_good s t g h l
      go (done r) t h = h

  pub trace_frame :
      (s : Y.State) → Y.Good s → (x : ℕ) → Y.wr c x ≡ false → (k : ℕ) →
      Y.get (trace Y c s k).state x ≡ Y.get s x
  unfolding trace
  trace_frame s g x e zero = refl
  trace_frame s g x e (suc k) = go (trace Y c s k).course (trace Y c s k).state (trace_good s g k) ∙ trace_frame s g x e k
    where
      go :
          (q : CallCourse Y.Local Y.Receipt) (t : Y.State) → Y.Good t →
          Y.get (advance Y c (Y.save c s) q t).state x ≡ Y.get t x
      go (more l) t h = law.step_frame s t g h l x e
      go (done r) t h = refl

  -- One step from states that are alike, and so every step of two runs begun in such states.
  pub advance_like :
      (s t t' : Y.State) → Y.Good s → Y.Good t → Y.Good t' → Alike Y c t t' → (q : CallCourse Y.Local Y.Receipt) →
      RunsAlike Y c (advance Y c (Y.save c s) q t) (advance Y c (Y.save c s) q t')
  advance_like s t t' g h h' a (more l) =
      record { course = law.step_course s t t' g h h' a l; cells = law.step_cells s t t' g h h' a l }
  advance_like s t t' g h h' a (done r) = record { course = refl; cells = a }

  pub trace_like :
      (s s' : Y.State) → Y.Good s → Y.Good s' → Alike Y c s s' → (k : ℕ) →
      RunsAlike Y c (trace Y c s k) (trace Y c s' k)
  unfolding trace
  trace_like s s' g g' a zero = record { course = refl; cells = a }
  trace_like s s' g g' a (suc k) =
      let h = trace_like s s' g g' a k in
      rw (← (law.save_local s s' g g' a), ← h.course)
      (advance_like s (trace Y c s k).state (trace Y c s' k).state g (trace_good s g k) (trace_good s' g' k) h.cells
      (trace Y c s k).course)

-- The number of steps, counted from any point of a run.
module _ (Y : Calls) (c : ℕ) (s : Y.State) where
  abbrev ended : ℕ → Bool
  ended k = is_done (trace Y c s k).course

  abbrev left : ℕ → ℕ → ℕ
  left f j = steps_from Y f c (Y.save c s) (trace Y c s j)

  left_done : (f j : ℕ) → ended j ≡ true → left (suc f) j ≡ 0
  unfolding steps_from
  left_done f j e = rw (e, steps_from)

  left_more : (f j : ℕ) → ended j ≡ false → left (suc f) j ≡ suc (left f (suc j))
  unfolding steps_from trace
  left_more f j e = rw (e, steps_from)

  -- Within the fuel: no end before that number of steps, and the end at it.
  record Counted (f j : ℕ) : Type 0 where
    pub within : left f j ≤ f
    pub early : (k : ℕ) → k < left f j → ended (j + k) ≡ false
    pub late : ended (j + f) ≡ true → ended (j + left f j) ≡ true

  counted : (f j : ℕ) → Counted f j
  unfolding steps_from
  counted zero j = record { within = omega arith; early = λ k h. absurd (omega arith); late = λ e. e }
  counted (suc f) j = go (ended j) refl (counted f (suc j))
    where
      go : (b : Bool) → ended j ≡ b → Counted f (suc j) → Counted (suc f) j
      go true e ih =
          let z : left (suc f) j ≡ 0 = left_done f j e in
          record {
            within = omega arith;
            early = λ k h. absurd (omega arith);
            late = λ e'. rw (z, add-zero) e;
          }
      go false e ih =
          let z : left (suc f) j ≡ suc (left f (suc j)) = left_more f j e in
          record {
            within = omega (arith, ih.within);
            early = λ k. at k;
            late = λ e'. rw (z, add-suc, ← (suc-add j (left f (suc j)))) (ih.late (rw (suc-add, ← (add-suc j f)) e'));
          }
        where
          at : (k : ℕ) → k < left (suc f) j → ended (j + k) ≡ false
          at zero h = rw add-zero e
          at (suc k) h =
              let m : suc j + k ≡ j + suc k = omega arith in
              let z : left (suc f) j ≡ suc (left f (suc j)) = left_more f j e in
              subst (λ i. ended i ≡ false) m (ih.early k (omega arith))

  -- The steps of a call: at most its bound, with the end at that number and not before.
  pub steps_within : steps_of Y c s ≤ Y.bound c
  unfolding steps_of
  steps_within = (counted (Y.bound c) 0).within

  pub steps_early : (k : ℕ) → k < steps_of Y c s → is_done (trace Y c s k).course ≡ false
  unfolding steps_of
  steps_early k h = rw (← (zero-add k)) ((counted (Y.bound c) 0).early k h)

module _ (Y : Calls) (c : ℕ) (law : Lawful Y c) where
  pub steps_done : (s : Y.State) → Y.Good s → is_done (trace Y c s (steps_of Y c s)).course ≡ true
  unfolding steps_of
  steps_done s g =
      rw zero-add at ((counted Y c s (Y.bound c) 0).late (rw zero-add (law.ends s g)))

  pub steps_positive : (s : Y.State) → Y.Good s → 0 < steps_of Y c s
  unfolding trace
  steps_positive s g = go (steps_of Y c s) (steps_done s g)
    where
      go : (k : ℕ) → is_done (trace Y c s k).course ≡ true → 0 < k
      go zero e = one_answer e refl
      go (suc k) e = omega arith

  -- The run from a state that is alike there takes as many steps, and ends alike.
  steps_most : (s s' : Y.State) → Y.Good s → Y.Good s' → Alike Y c s s' → steps_of Y c s ≤ steps_of Y c s'
  steps_most s s' g g' a = go (dec_lt (steps_of Y c s') (steps_of Y c s))
    where
      go : Dec (steps_of Y c s' < steps_of Y c s) → steps_of Y c s ≤ steps_of Y c s'
      go (yes h) =
          one_answer
          (ap is_done (trace_like Y c law s s' g g' a (steps_of Y c s')).course ∙ steps_done s' g')
          (steps_early Y c s (steps_of Y c s') h)
      go (no h) = omega arith

  pub steps_like : (s s' : Y.State) → Y.Good s → Y.Good s' → Alike Y c s s' → steps_of Y c s ≡ steps_of Y c s'
  steps_like s s' g g' a = omega (arith, steps_most s s' g g' a, steps_most s' s g' g (λ x e. sym (a x e)))

  pub whole_like : (s s' : Y.State) → Y.Good s → Y.Good s' → Alike Y c s s' → RunsAlike Y c (whole Y c s) (whole Y c s')
  unfolding whole
  whole_like s s' g g' a = rw (← (steps_like s s' g g' a)) (trace_like Y c law s s' g g' a (steps_of Y c s))

  pub whole_good : (s : Y.State) → Y.Good s → Y.Good (whole Y c s).state
  unfolding whole
  whole_good s g = trace_good Y c law s g (steps_of Y c s)

  pub whole_frame : (s : Y.State) → Y.Good s → (x : ℕ) → Y.wr c x ≡ false → Y.get (whole Y c s).state x ≡ Y.get s x
  unfolding whole
  whole_frame s g x e = trace_frame Y c law s g x e (steps_of Y c s)
