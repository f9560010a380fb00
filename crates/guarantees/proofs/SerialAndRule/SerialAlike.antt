-- The serial run from states with the same in every cell, and by views whose steps are the same: it takes as many steps for each call.
use mathlib.Core.Path.{◌≡◌, refl, sym, ap, ap₂, ◌∙◌}
use mathlib.Core.Bool.{Bool, true, false}
use mathlib.Core.List.{List}
use Prim.Native.Nat.{ℕ, zero, suc, ◌≤◌, ◌<◌}
use native.Mathlib.Omega.{arith}
use lib.IntN.{ℤ}
use Rattle.schedule.specs.Calls.{Calls, CallCourse, more, done, is_done, RunPoint, advance, trace, steps_from, steps_of, whole, alone, serial, steps_in_serial, Lawful}
use Rattle.schedule.proofs.RunLaws.{wr_touches, steps_like, whole_like, whole_good, whole_frame}
use Rattle.machine.specs.Step.{View, Local, saved_of, step_call}
use Rattle.machine.specs.Serial.{step_limit}
use Rattle.guarantees.proofs.CallsOfRun.ViewCalls.{Place, place_with_saved, Receipt, point_of, view_calls}

-- ---- states

-- Good states with the same in every cell.
pub record Level (Y : Calls) (s s' : Y.State) : Type 0 where
  pub good : Y.Good s
  pub good' : Y.Good s'
  pub same : (x : ℕ) → Y.get s x ≡ Y.get s' x

module _ (Y : Calls) where
  -- A call leaves its write set alike, and every other cell as it was.
  whole_level : (c : ℕ) → Lawful Y c → (s s' : Y.State) → Level Y s s' → Level Y (whole Y c s).state (whole Y c s').state
  whole_level c law s s' l =
      record {
        good = whole_good Y c law s l.good;
        good' = whole_good Y c law s' l.good';
        same = λ x. go x (Y.wr c x) refl;
      }
    where
      go : (x : ℕ) (b : Bool) → Y.wr c x ≡ b → Y.get (whole Y c s).state x ≡ Y.get (whole Y c s').state x
      go x true e = (whole_like Y c law s s' l.good l.good' (λ y t. l.same y)).cells x (wr_touches Y c x e)
      go x false e = whole_frame Y c law s l.good x e ∙ l.same x ∙ sym (whole_frame Y c law s' l.good' x e)

  module _ (laws : (c : ℕ) → c < Y.calls → Lawful Y c) (s s' : Y.State) (l : Level Y s s') where
    serial_level : (m : ℕ) → m ≤ Y.calls → Level Y (serial Y s m) (serial Y s' m)
    unfolding alone
    serial_level zero h = l
    serial_level (suc m) h = whole_level m (laws m h) (serial Y s m) (serial Y s' m) (serial_level m (omega arith))

    pub level_steps : (c : ℕ) → c < Y.calls → steps_in_serial Y s c ≡ steps_in_serial Y s' c
    level_steps c h =
        let q : Level Y (serial Y s c) (serial Y s' c) = serial_level c (omega arith) in
        steps_like Y c (laws c h) (serial Y s c) (serial Y s' c) q.good q.good' (λ x t. q.same x)

-- ---- views

-- Two views of a call by which its entries and its steps are the same.
pub record StepsAlike (v v' : View) : Type 0 where
  pub entries : v.entries ≡ v'.entries
  pub fuel : v.call.fuel ≡ v'.call.fuel
  pub step : (l : Local) (cells : List ℤ) → step_call v l cells ≡ step_call v' l cells

module _ (view view' : ℕ → View) (n : ℕ) (before : ℕ → ℕ → Bool) where
  abbrev Y : Calls
  Y = view_calls view n before

  abbrev Y' : Calls
  Y' = view_calls view' n before

  module _ (c : ℕ) (alike : StepsAlike (view c) (view' c)) where
    saved_same : (s : List ℤ) → saved_of (view c).entries s ≡ saved_of (view' c).entries s
    saved_same s = ap (λ (es : List ℕ). saved_of es s) alike.entries

    advance_same : (o : List ℤ) (q : CallCourse Place Receipt) (s : List ℤ) → advance Y c o q s ≡ advance Y' c o q s
    advance_same o (more l) s = ap (point_of s) (alike.step (place_with_saved l o) s)
    advance_same o (done r) s = refl

    trace_same : (s : List ℤ) (k : ℕ) → trace Y c s k ≡ trace Y' c s k
    unfolding trace
    trace_same s zero = refl
    trace_same s (suc k) =
        advance_same (Y.save c s) (trace Y c s k).course (trace Y c s k).state
        ∙ ap₂ (λ (o : List ℤ) (p : RunPoint Y'). advance Y' c o p.course p.state) (saved_same s) (trace_same s k)

    from_same : (f : ℕ) (o : List ℤ) (p : RunPoint Y) → steps_from Y f c o p ≡ steps_from Y' f c o p
    unfolding steps_from
    from_same zero o p = refl
    from_same (suc f) o p =
        ap (λ (k : ℕ). elim (is_done p.course) [ true ↦ zero | false ↦ suc k ])
        (from_same f o (advance Y c o p.course p.state)
        ∙ ap (steps_from Y' f c o) (advance_same o p.course p.state))

    steps_same : (s : List ℤ) → steps_of Y c s ≡ steps_of Y' c s
    unfolding steps_of
    steps_same s =
        from_same (step_limit (view c).call.fuel) (Y.save c s) (trace Y c s 0)
        ∙ ap₂ (λ (o : List ℤ) (p : RunPoint Y'). steps_from Y' (step_limit (view c).call.fuel) c o p) (saved_same s) (trace_same s 0)
        ∙ ap (λ (n : ℕ). steps_from Y' (step_limit n) c (Y'.save c s) (trace Y' c s 0)) alike.fuel

    whole_same : (s : List ℤ) → whole Y c s ≡ whole Y' c s
    unfolding whole
    whole_same s = trace_same s (steps_of Y c s) ∙ ap (trace Y' c s) (steps_same s)

  module _ (alike : (c : ℕ) → c < n → StepsAlike (view c) (view' c)) (s : List ℤ) where
    serial_same : (m : ℕ) → m ≤ n → serial Y s m ≡ serial Y' s m
    unfolding alone
    serial_same zero h = refl
    serial_same (suc m) h =
        ap (λ (p : RunPoint Y'). p.state) (whole_same m (alike m h) (serial Y s m))
        ∙ ap (λ (t : List ℤ). (whole Y' m t).state) (serial_same m (omega arith))

    pub alike_steps : (c : ℕ) → c < n → steps_in_serial (view_calls view n before) s c ≡ steps_in_serial (view_calls view' n before) s c
    alike_steps c h = steps_same c (alike c h) (serial Y s c) ∙ ap (steps_of Y' c) (serial_same c (omega arith))
