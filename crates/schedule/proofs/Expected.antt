-- What each cell holds, as a function of the calls' phases alone: what the last begun call that may write it has there
-- in its own serial run after its own number of steps, and the opening value where there is none.
use Prim.Native.Nat.{ℕ, zero, suc, ◌+◌, ◌-◌, ◌<◌, ◌≤◌}
use native.Mathlib.Nat.{add-zero, add-suc}
use native.Mathlib.Omega.{arith}
use mathlib.Core.Path.{◌≡◌, refl, sym, ap, subst, ◌∙◌}
use mathlib.Core.Bool.{Bool, true, false, cond, ◌&&◌, and-false}
use Rattle.schedule.specs.Tally.{Phase, waiting, running, finished, has_begun, steps_of_phase}
use Rattle.schedule.specs.Calls.{Calls, touches, Alike, RunPoint, trace, whole, alone, serial, steps_in_serial, Lawful, Laws}
use Rattle.schedule.proofs.RunLaws.{one_answer, wr_touches, trace_frame, whole_good, whole_frame, whole_like}

-- The chosen calls finished, the others waiting.
abbrev pub only : (ℕ → Bool) → ℕ → Phase
only chosen i = cond (chosen i) finished waiting

module _ (Y : Calls) where
  -- The earlier conflicting calls of `c` are finished.
  abbrev pub EarlierFinished : (ℕ → Phase) → ℕ → Type 0
  EarlierFinished ph c = (i : ℕ) → i < c → Y.before i c ≡ true → ph i ≡ finished

  -- No later conflicting call of `c` has begun.
  abbrev pub Last : (ℕ → Phase) → ℕ → Type 0
  Last ph c = (j : ℕ) → c < j → j < Y.calls → has_begun (ph j) ≡ true → Y.before c j ≡ false

  -- A set of calls that holds every earlier conflicting call of its members.
  abbrev pub ClosedUnderEarlier : (ℕ → Bool) → Type 0
  ClosedUnderEarlier chosen = (i j : ℕ) → i < j → j < Y.calls → chosen j ≡ true → Y.before i j ≡ true → chosen i ≡ true

module _ (Y : Calls) (s₀ : Y.State) where
  -- Where the serial run has the call after as many steps.
  abbrev pub reached : ℕ → Phase → RunPoint Y
  reached c p = trace Y c (serial Y s₀ c) (steps_of_phase (steps_in_serial Y s₀) c p)

  -- What the cell `x` holds by the phases of the calls below `m`.
  unfoldable pub expected : (phase : ℕ → Phase) (m x : ℕ) → Y.Value
  expected phase zero x = Y.get s₀ x
  expected phase (suc m) x = cond (has_begun (phase m) && Y.wr m x) (Y.get (reached m (phase m)).state x) (expected phase m x)

  module _ (phase : ℕ → Phase) (m x : ℕ) where
    expected_own : has_begun (phase m) ≡ true → Y.wr m x ≡ true → expected phase (suc m) x ≡ Y.get (reached m (phase m)).state x
    unfolding expected
    expected_own b e = rw (b, e)

    expected_skip : Y.wr m x ≡ false → expected phase (suc m) x ≡ expected phase m x
    unfolding expected
    expected_skip e = rw (e, and-false)

    expected_wait : has_begun (phase m) ≡ false → expected phase (suc m) x ≡ expected phase m x
    unfolding expected
    expected_wait e = rw e

  pub expected_start : (x m : ℕ) → expected (λ c. waiting) m x ≡ Y.get s₀ x
  unfolding expected
  expected_start x zero = refl
  expected_start x (suc m) = expected_start x m

  -- The cell depends on the phases of the calls that may write it.
  pub expected_same :
      (ph ph' : ℕ → Phase) (x m : ℕ) → ((i : ℕ) → i < m → Y.wr i x ≡ true → ph i ≡ ph' i) →
      expected ph m x ≡ expected ph' m x
  unfolding expected
  expected_same ph ph' x zero h = refl
  expected_same ph ph' x (suc m) h = go (Y.wr m x) refl (expected_same ph ph' x m (λ i l. h i (omega arith)))
    where
      go : (b : Bool) → Y.wr m x ≡ b → expected ph m x ≡ expected ph' m x → expected ph (suc m) x ≡ expected ph' (suc m) x
      go true e ih = rw (h m (omega arith) e, ih)
      go false e ih = expected_skip ph m x e ∙ ih ∙ sym (expected_skip ph' m x e)

  -- Calls from `c` on that have not begun, or may not write the cell, do not count.
  pub expected_later :
      (ph : ℕ → Phase) (x c d : ℕ) → ((i : ℕ) → c ≤ i → i < c + d → has_begun (ph i) ≡ true → Y.wr i x ≡ false) →
      expected ph (c + d) x ≡ expected ph c x
  expected_later ph x c zero h = rw add-zero
  expected_later ph x c (suc d) h =
      rw add-suc (go (has_begun (ph (c + d))) refl ∙ expected_later ph x c d (λ i l l'. h i l (omega arith)))
    where
      go : (b : Bool) → has_begun (ph (c + d)) ≡ b → expected ph (suc (c + d)) x ≡ expected ph (c + d) x
      go true e = expected_skip ph (c + d) x (h (c + d) (omega arith) (omega arith) e)
      go false e = expected_wait ph (c + d) x e

module _ (Y : Calls) (laws : Laws Y) (s₀ : Y.State) (good₀ : Y.Good s₀) where
  -- The states of the runs are good.
  pub alone_good : (chosen : ℕ → Bool) (m : ℕ) → m ≤ Y.calls → Y.Good (alone Y chosen s₀ m)
  unfolding alone
  alone_good chosen zero h = good₀
  alone_good chosen (suc m) h = go (chosen m) (alone_good chosen m (omega arith))
    where
      go :
          (b : Bool) → Y.Good (alone Y chosen s₀ m) →
          Y.Good (cond b (whole Y m (alone Y chosen s₀ m)).state (alone Y chosen s₀ m))
      go true g = whole_good Y m (laws.call m (omega arith)) (alone Y chosen s₀ m) g
      go false g = g

  pub serial_good : (m : ℕ) → m ≤ Y.calls → Y.Good (serial Y s₀ m)
  serial_good m h = alone_good (λ i. true) m h

  -- Where every call that may write the cell is finished, the cell is that of the serial run.
  pub settled :
      (ph : ℕ → Phase) (x m : ℕ) → m ≤ Y.calls → ((i : ℕ) → i < m → Y.wr i x ≡ true → ph i ≡ finished) →
      expected Y s₀ ph m x ≡ Y.get (serial Y s₀ m) x
  unfolding expected alone whole
  settled ph x zero l h = refl
  settled ph x (suc m) l h = go (Y.wr m x) refl (settled ph x m (omega arith) (λ i k. h i (omega arith)))
    where
      law : Lawful Y m
      law = laws.call m l

      go :
          (b : Bool) → Y.wr m x ≡ b → expected Y s₀ ph m x ≡ Y.get (serial Y s₀ m) x →
          expected Y s₀ ph (suc m) x ≡ Y.get (serial Y s₀ (suc m)) x
      go true e ih = rw (h m (omega arith) e, e)
      go false e ih =
          expected_skip Y s₀ ph m x e ∙ ih ∙ sym (whole_frame Y m law (serial Y s₀ m) (serial_good m (omega arith)) x e)

  -- Calls whose sets meet are noted as conflicting, the earlier one first.
  pub meeting_sets_conflict : (i j x : ℕ) → i < j → j < Y.calls → Y.wr i x ≡ true → touches Y j x ≡ true → Y.before i j ≡ true
  meeting_sets_conflict i j x l h e t = go (Y.before i j) refl
    where
      go : (b : Bool) → Y.before i j ≡ b → b ≡ true
      go true q = refl
      go false q = one_answer t ((laws.apart i j l h q).left x e)

  -- Before a call whose earlier conflicting calls are finished, what it reads or writes is that of the serial run.
  pub ahead :
      (ph : ℕ → Phase) (c : ℕ) → c < Y.calls → EarlierFinished Y ph c → (x : ℕ) → touches Y c x ≡ true →
      expected Y s₀ ph c x ≡ Y.get (serial Y s₀ c) x
  ahead ph c l earlier x t = settled ph x c (omega arith) (λ i k e. earlier i k (meeting_sets_conflict i c x k l e t))

  -- If no later conflicting call has begun, what it reads or writes stands where its serial run has it after as many steps.
  pub own :
      (ph : ℕ → Phase) (c : ℕ) → c < Y.calls → EarlierFinished Y ph c → Last Y ph c → (x : ℕ) → touches Y c x ≡ true →
      expected Y s₀ ph Y.calls x ≡ Y.get (reached Y s₀ c (ph c)).state x
  unfolding trace
  own ph c l earlier last x t = later ∙ here (Y.wr c x) refl (ph c) refl
    where
      base : expected Y s₀ ph c x ≡ Y.get (serial Y s₀ c) x
      base = ahead ph c l earlier x t

      apart : (i : ℕ) → c < i → i < Y.calls → has_begun (ph i) ≡ true → (b : Bool) → Y.wr i x ≡ b → b ≡ false
      apart i k k' e true q = one_answer t ((laws.apart c i k k' (last i k k' e)).right x q)
      apart i k k' e false q = refl

      later : expected Y s₀ ph Y.calls x ≡ expected Y s₀ ph (suc c) x
      later =
          let n : suc c + (Y.calls - suc c) ≡ Y.calls = omega arith in
          subst (λ m. expected Y s₀ ph m x ≡ expected Y s₀ ph (suc c) x) n
          (expected_later Y s₀ ph x (suc c) (Y.calls - suc c) (λ i k k' e. apart i k (omega arith) e (Y.wr i x) refl))

      here :
          (b : Bool) → Y.wr c x ≡ b → (p : Phase) → ph c ≡ p →
          expected Y s₀ ph (suc c) x ≡ Y.get (reached Y s₀ c (ph c)).state x
      here true e waiting q = expected_wait Y s₀ ph c x (ap has_begun q) ∙ base ∙ rw q
      here true e (running k) q = expected_own Y s₀ ph c x (ap has_begun q) e
      here true e finished q = expected_own Y s₀ ph c x (ap has_begun q) e
      here false e p q =
          expected_skip Y s₀ ph c x e ∙ base
          ∙ sym
          (trace_frame Y c (laws.call c l) (serial Y s₀ c) (serial_good c (omega arith)) x e (steps_of_phase (steps_in_serial Y s₀) c (ph c)))

  only_earlier : (chosen : ℕ → Bool) → ClosedUnderEarlier Y chosen → (c : ℕ) → c < Y.calls → chosen c ≡ true → EarlierFinished Y (only chosen) c
  only_earlier chosen closed c l e i k b = rw (closed i c k l e b)

  -- If the closed set, run alone up to the call `c` of it, leaves what is expected, it is alike the serial run there.
  pub alone_ahead :
      (chosen : ℕ → Bool) → ClosedUnderEarlier Y chosen → (c : ℕ) → c < Y.calls → chosen c ≡ true →
      ((x : ℕ) → Y.get (alone Y chosen s₀ c) x ≡ expected Y s₀ (only chosen) c x) →
      Alike Y c (alone Y chosen s₀ c) (serial Y s₀ c)
  alone_ahead chosen closed c l e h x t = h x ∙ ahead (only chosen) c l (only_earlier chosen closed c l e) x t

  -- What a closed set of calls, run alone, leaves in each cell.
  pub alone_expected :
      (chosen : ℕ → Bool) → ClosedUnderEarlier Y chosen → (m : ℕ) → m ≤ Y.calls → (x : ℕ) →
      Y.get (alone Y chosen s₀ m) x ≡ expected Y s₀ (only chosen) m x
  unfolding alone expected whole
  alone_expected chosen closed zero l x = refl
  alone_expected chosen closed (suc m) l x = go (chosen m) refl (Y.wr m x) refl (alone_expected chosen closed m (omega arith))
    where
      r : Y.State
      r = alone Y chosen s₀ m

      good : Y.Good r
      good = alone_good chosen m (omega arith)

      law : Lawful Y m
      law = laws.call m l

      taken : chosen m ≡ true → Y.get (alone Y chosen s₀ (suc m)) x ≡ Y.get (whole Y m r).state x
      taken e = rw e

      go :
          (b : Bool) → chosen m ≡ b → (w : Bool) → Y.wr m x ≡ w →
          ((x : ℕ) → Y.get r x ≡ expected Y s₀ (only chosen) m x) →
          Y.get (alone Y chosen s₀ (suc m)) x ≡ expected Y s₀ (only chosen) (suc m) x
      go true e true q ih =
          taken e
          ∙ (whole_like Y m law r (serial Y s₀ m) good (serial_good m (omega arith)) (alone_ahead chosen closed m l e ih)
          ).cells x (wr_touches Y m x q)
          ∙ last
        where
          last : Y.get (whole Y m (serial Y s₀ m)).state x ≡ expected Y s₀ (only chosen) (suc m) x
          last = rw (e, q)
      go true e false q ih = taken e ∙ whole_frame Y m law r good x q ∙ ih x ∙ sym (expected_skip Y s₀ (only chosen) m x q)
      go false e w q ih = rw e (ih x)
