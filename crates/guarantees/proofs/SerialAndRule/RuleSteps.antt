-- The steps of one call to its end, against its run in the theorem on schedules: the same receipt, the same cells, as many steps,
-- and none of them damaged.
use mathlib.Core.Path.{◌≡◌, refl, sym, ap, subst, ◌∙◌}
use mathlib.Core.Bool.{Bool}
use mathlib.Core.List.{List}
use Prim.Native.Nat.{ℕ, zero, suc, ◌+◌}
use native.Mathlib.Nat.{add-zero, zero-add}
use native.Mathlib.Omega.{arith}
use lib.IntN.{ℤ}
use lib.Dec.{ltb}
use Rattle.arith.proofs.ChoiceLaws.{if_all}
use Rattle.schedule.specs.Calls.{Calls, CallCourse, more, done, RunPoint, advance, trace, steps_from, steps_of, whole}
use Rattle.block.specs.Outcomes.{thrown}
use Rattle.machine.specs.Step as machine
use Rattle.machine.specs.Step.{View, Local, Performed, Stepped, restorable, saved_of, step_place, step_call}
use Rattle.machine.specs.CallInRun as made
use Rattle.machine.specs.CallInRun.{begun_local}
use Rattle.machine.specs.Serial.{step_limit}
use Rattle.guarantees.proofs.CallsOfRun.ViewCalls.{Place, place_with_saved, Receipt, broken, receipt, point_of, view_calls}

-- ---- the old values

-- A call that goes on has these old values.
abbrev Saves : List ℤ → Stepped → Type 0
Saves saved machine.damaged = Unit {0}
Saves saved (machine.more l cells) = l.saved ≡ saved
Saves saved (machine.done outcome count cells) = Unit {0}

-- No step changes them.
step_saves : (v : View) (l : Local) (s : List ℤ) → Saves l.saved (step_call v l s)
unfolding step_call machine.concluded machine.finish
step_saves v l s = go (step_place v l.place l.count l.regs s)
  where
    go : (x : Performed) → Saves l.saved (machine.concluded v l.saved s x)
    go machine.broken = tt
    go (machine.onward to n regs after) = refl
    go (machine.ending outcome n) =
        if_all (Saves l.saved) (ltb outcome thrown) (λ h. tt) λ h.
        if_all (Saves l.saved) (restorable v.count v.entries) (λ h. tt) (λ h. tt)

-- ---- the run of a call

-- A receipt is not the broken one, and a call that goes on has none.
not_broken : {outcome count : ℕ} → ◌≡◌ {A = CallCourse Place Receipt} (done (receipt outcome count)) (done broken) → ⊥
not_broken e = let z : ◌≡◌ {A = ℕ} 0 1 = cc in omega arith

not_over : {l : Place} → ◌≡◌ {A = CallCourse Place Receipt} (more l) (done broken) → ⊥
not_over e = let z : ◌≡◌ {A = ℕ} 0 1 = cc in omega arith

-- The call begun in the cells s ends with this receipt and these cells, and none of its steps finds the run damaged.
pub record CallRuns (view : ℕ → View) (n : ℕ) (before : ℕ → ℕ → Bool) (c : ℕ) (s : List ℤ) (outcome count : ℕ) (cells : List ℤ) : Type 0 where
  pub course : (whole (view_calls view n before) c s).course ≡ done (receipt outcome count)
  pub state : (whole (view_calls view n before) c s).state ≡ cells
  pub unbroken : (k : ℕ) → ¬ ((trace (view_calls view n before) c s k).course ≡ done broken)
  pub steps : steps_of (view_calls view n before) c s ≡ made.steps_taken (step_limit (view c).call.fuel) (view c) (machine.more (begun_local (view c) s) s)

module _ (view : ℕ → View) (n : ℕ) (before : ℕ → ℕ → Bool) (c : ℕ) (s : List ℤ) where
  abbrev Y : Calls
  Y = view_calls view n before

  abbrev saved : List ℤ
  saved = saved_of (view c).entries s

  -- k steps from a point of the call's run.
  onward : ℕ → RunPoint Y → RunPoint Y
  onward zero p = p
  onward (suc k) p = onward k (advance Y c saved p.course p.state)

  trace_onward : (k j : ℕ) → trace Y c s (j + k) ≡ onward k (trace Y c s j)
  unfolding onward trace
  trace_onward zero j = ap (trace Y c s) (add-zero j)
  trace_onward (suc k) j = let next : j + suc k ≡ suc j + k = omega arith in ap (trace Y c s) next ∙ trace_onward k (suc j)

  from_begin : (k : ℕ) → trace Y c s k ≡ onward k (trace Y c s 0)
  from_begin k = ap (trace Y c s) (sym (zero-add k)) ∙ trace_onward k 0

  -- The call's end, with its receipt.
  abbrev over : (outcome count : ℕ) (cells : List ℤ) → RunPoint Y
  over outcome count cells = record { state = cells; course = done (receipt outcome count) }

  -- From this point, in at most f steps, the call comes to that end, and no step on the way finds the run damaged.
  record Reaches (f : ℕ) (p : RunPoint Y) (outcome count : ℕ) (cells : List ℤ) : Type 0 where
    end : onward (steps_from Y f c saved p) p ≡ over outcome count cells
    unbroken : (k : ℕ) → ¬ ((onward k p).course ≡ done broken)

  abbrev ReachesBy : ℕ → RunPoint Y → Stepped → Type 0
  ReachesBy f p machine.damaged = Unit {0}
  ReachesBy f p (machine.more l cells) = Unit {0}
  ReachesBy f p (machine.done outcome count cells) = Reaches f p outcome count cells

  -- What has ended stays.
  onward_over : (outcome count : ℕ) (cells : List ℤ) (k : ℕ) → onward k (over outcome count cells) ≡ over outcome count cells
  unfolding onward
  onward_over outcome count cells zero = refl
  onward_over outcome count cells (suc k) = onward_over outcome count cells k

  ended : (f outcome count : ℕ) (cells : List ℤ) → Reaches f (over outcome count cells) outcome count cells
  unfolding onward steps_from
  ended f outcome count cells =
      record {
        end = onward_over outcome count cells (steps_from Y f c saved (over outcome count cells));
        unbroken = λ k e. not_broken (ap (λ (p : RunPoint Y). p.course) (sym (onward_over outcome count cells k)) ∙ e);
      }

  -- A point that goes on reaches what its next point does.
  earlier : (f : ℕ) (l : Local) (cells : List ℤ) → l.saved ≡ saved → (r : Stepped) → ReachesBy f (point_of cells (step_call (view c) l cells)) r
      → ReachesBy (suc f) (point_of cells (machine.more l cells)) r
  unfolding onward steps_from point_of
  earlier f l cells same machine.damaged h = tt
  earlier f l cells same (machine.more l' cells') h = tt
  earlier f l cells same (machine.done outcome count cells') h = record { end = next.end; unbroken = at }
    where
      -- The next point, by the old values that the step is given.
      next_by : List ℤ → RunPoint Y
      next_by o = point_of cells (step_call (view c) (place_with_saved (record { place = l.place; count = l.count; regs = l.regs }) o) cells)

      next : Reaches f (next_by saved) outcome count cells'
      next = subst (λ (o : List ℤ). Reaches f (next_by o) outcome count cells') same h

      at : (k : ℕ) → ¬ ((onward k (point_of cells (machine.more l cells))).course ≡ done broken)
      at zero e = not_over e
      at (suc k) e = next.unbroken k e

  -- Where at most f steps from this point end, the theorem's run comes to their end.
  reaches : (f : ℕ) (t : List ℤ) (r : Stepped) → Saves saved r → ReachesBy f (point_of t r) (made.step_times f (view c) r)
  unfolding point_of made.step_times
  reaches zero t machine.damaged same = tt
  reaches zero t (machine.more l cells) same = tt
  reaches zero t (machine.done outcome count cells) same = ended zero outcome count cells
  reaches (suc f) t machine.damaged same = tt
  reaches (suc f) t (machine.more l cells) same =
      earlier f l cells same (made.step_times f (view c) (step_call (view c) l cells))
      (reaches f cells (step_call (view c) l cells) (subst (λ (o : List ℤ). Saves o (step_call (view c) l cells)) same (step_saves (view c) l cells)))
  reaches (suc f) t (machine.done outcome count cells) same = ended (suc f) outcome count cells

  -- It takes as many steps.
  steps_same : (f : ℕ) (t : List ℤ) (r : Stepped) → Saves saved r → steps_from Y f c saved (point_of t r) ≡ made.steps_taken f (view c) r
  unfolding point_of made.steps_taken steps_from
  steps_same zero t r same = refl
  steps_same (suc f) t machine.damaged same = refl
  steps_same (suc f) t (machine.more l cells) same =
      ap suc
      (subst
      (λ (o : List ℤ).
      steps_from Y f c saved (point_of cells (step_call (view c) (place_with_saved (record { place = l.place; count = l.count; regs = l.regs }) o) cells))
      ≡ made.steps_taken f (view c) (step_call (view c) l cells))
      same
      (steps_same f cells (step_call (view c) l cells) (subst (λ (o : List ℤ). Saves o (step_call (view c) l cells)) same (step_saves (view c) l cells))))
  steps_same (suc f) t (machine.done outcome count cells) same = refl

  -- Where the steps of a made run end, so does the call in the theorem's run, with what they leave.
  pub rule_steps : (outcome count : ℕ) (cells : List ℤ) → made.step_times (step_limit (view c).call.fuel) (view c) (machine.more (begun_local (view c) s) s) ≡ machine.done outcome count cells
      → CallRuns view n before c s outcome count cells
  unfolding whole steps_of trace point_of
  rule_steps outcome count cells e =
      let most : ℕ = step_limit (view c).call.fuel in
      let h : Reaches (step_limit (view c).call.fuel) (trace Y c s 0) outcome count cells =
      subst (ReachesBy most (trace Y c s 0)) e (reaches most s (machine.more (begun_local (view c) s) s) refl) in
      let last : whole Y c s ≡ over outcome count cells = from_begin (steps_from Y most c saved (trace Y c s 0)) ∙ h.end in
      record {
        course = ap (λ (p : RunPoint Y). p.course) last;
        state = ap (λ (p : RunPoint Y). p.state) last;
        unbroken = λ k f. h.unbroken k (ap (λ (p : RunPoint Y). p.course) (sym (from_begin k)) ∙ f);
        steps = steps_same most s (machine.more (begun_local (view c) s) s) refl;
      }
