-- Calls over a state that is read by cell: their read and write sets, steps, serial runs, and the laws asked of them.
use Rattle.std.specs.Prelude.{ℕ, zero, suc, ◌<◌, ◌≡◌, Bool, true, false, cond, ◌||◌}

-- How far a begun call is: it goes on from a local state, or it has ended with a receipt.
pub data CallCourse (Local Receipt : Type 0) : Type 0 where
  more : Local → CallCourse Local Receipt
  done : Receipt → CallCourse Local Receipt

-- What one step leaves: the state, and how far the call is.
pub record Point (State Local Receipt : Type 0) : Type 0 where
  pub state : State
  pub course : CallCourse Local Receipt

-- The call has ended.
abbrev pub is_done : {L R : Type 0} → CallCourse L R → Bool
is_done (more l) = false
is_done (done r) = true

-- A block of calls 0 to `calls` - 1, and what one step of each does.
pub record Calls : Type 1 where
  -- the state, the value of a cell, a call's local state, the old values that it keeps, its receipt
  pub State : Type 0
  pub Value : Type 0
  pub Local : Type 0
  pub Saved : Type 0
  pub Receipt : Type 0
  -- the states of which the laws are asked
  pub Good : State → Type 0
  -- the value of the cell of that number
  pub get : State → ℕ → Value
  pub calls : ℕ
  -- the cells that a call may read and those that it may write: call, cell
  pub rd : ℕ → ℕ → Bool
  pub wr : ℕ → ℕ → Bool
  -- "Call i is before j": the earlier conflicting calls i of j
  pub before : ℕ → ℕ → Bool
  -- the local state at a begin, and the old values that it keeps
  pub start : ℕ → Local
  pub save : ℕ → State → Saved
  -- one step, which may use the old values
  pub step : ℕ → Saved → Local → State → Point State Local Receipt
  -- what a cancel makes of the state
  pub restore : ℕ → Saved → State → State
  -- the most steps that a call takes
  pub bound : ℕ → ℕ

module _ (Y : Calls) where
  -- The cell is one that the call reads or writes.
  abbrev pub touches : ℕ → ℕ → Bool
  touches c x = Y.rd c x || Y.wr c x

  -- Two states hold the same in every cell that the call reads or writes.
  abbrev pub Alike : ℕ → Y.State → Y.State → Type 0
  Alike c s s' = (x : ℕ) → touches c x ≡ true → Y.get s x ≡ Y.get s' x

  -- The strong-swap test on the sets of two calls: neither one's writes meet the other's reads or writes.
  pub record Apart (i j : ℕ) : Type 0 where
    pub left : (x : ℕ) → Y.wr i x ≡ true → touches j x ≡ false
    pub right : (x : ℕ) → Y.wr j x ≡ true → touches i x ≡ false

  -- A point of these calls' runs.
  abbrev pub RunPoint : Type 0
  RunPoint = Point Y.State Y.Local Y.Receipt

  -- One step of a call that goes on; a call that has ended stays.
  abbrev pub advance : ℕ → Y.Saved → CallCourse Y.Local Y.Receipt → Y.State → RunPoint
  advance c o (more l) s = Y.step c o l s
  advance c o (done r) s = record { state = s; course = done r }

  -- The call `c`, begun in the state `s` and stepped `k` times with nothing in between.
  unfoldable pub trace : (c : ℕ) (s : Y.State) (k : ℕ) → RunPoint
  trace c s zero = record { state = s; course = more (Y.start c) }
  trace c s (suc k) = advance c (Y.save c s) (trace c s k).course (trace c s k).state

  -- The steps that are left to the end, at most `f`.
  unfoldable pub steps_from : (f c : ℕ) → Y.Saved → RunPoint → ℕ
  steps_from zero c o p = zero
  steps_from (suc f) c o p =
      elim (is_done p.course) [
        | true ↦ zero
        | false ↦ suc (steps_from f c o (advance c o p.course p.state))
      ]

  -- The number of steps that the call takes from its begin in the state `s` to its end.
  unfoldable pub steps_of : (c : ℕ) → Y.State → ℕ
  steps_of c s = steps_from (Y.bound c) c (Y.save c s) (trace c s zero)

  -- The call begun in the state `s` "and stepped to its end": what it leaves, and its receipt.
  unfoldable pub whole : (c : ℕ) → Y.State → RunPoint
  whole c s = trace c s (steps_of c s)

  -- "the serial run of this same block in which only they are begun": the chosen calls below `m`, in block order.
  unfoldable pub alone : (chosen : ℕ → Bool) → Y.State → (m : ℕ) → Y.State
  alone chosen s zero = s
  alone chosen s (suc m) = let r = alone chosen s m in cond (chosen m) (whole m r).state r

  -- "Serial run: calls 0, 1, .. each begun and stepped to its end": what the calls below `m` leave.
  abbrev pub serial : Y.State → (m : ℕ) → Y.State
  serial s m = alone (λ i. true) s m

  -- "the number of steps that the serial run takes for that call"
  abbrev pub steps_in_serial : Y.State → ℕ → ℕ
  steps_in_serial s c = steps_of c (serial s c)

  -- What is asked of one call, of good states only. `s₁` is the state of its begin, `s` and `s'` are states of a step.
  pub record Lawful (c : ℕ) : Type 0 where
    -- what a begin keeps depends on what the call reads or writes
    pub save_local : (s s' : Y.State) → Y.Good s → Y.Good s' → Alike c s s' → Y.save c s ≡ Y.save c s'
    -- a step leaves a good state, in which only cells of the write set are new
    pub step_good : (s₁ s : Y.State) → Y.Good s₁ → Y.Good s → (l : Y.Local) → Y.Good (Y.step c (Y.save c s₁) l s).state
    pub step_frame :
        (s₁ s : Y.State) → Y.Good s₁ → Y.Good s → (l : Y.Local) (x : ℕ) → Y.wr c x ≡ false →
        Y.get (Y.step c (Y.save c s₁) l s).state x ≡ Y.get s x
    -- its course, and what it leaves in those cells, depend on what the call reads or writes
    pub step_course :
        (s₁ s s' : Y.State) → Y.Good s₁ → Y.Good s → Y.Good s' → Alike c s s' → (l : Y.Local) →
        (Y.step c (Y.save c s₁) l s).course ≡ (Y.step c (Y.save c s₁) l s').course
    pub step_cells :
        (s₁ s s' : Y.State) → Y.Good s₁ → Y.Good s → Y.Good s' → Alike c s s' → (l : Y.Local) →
        Alike c (Y.step c (Y.save c s₁) l s).state (Y.step c (Y.save c s₁) l s').state
    -- a restore leaves a good state, the write set as it was at the begin, and every other cell as it is
    pub restore_good : (s₁ s : Y.State) → Y.Good s₁ → Y.Good s → Y.Good (Y.restore c (Y.save c s₁) s)
    pub restore_back :
        (s₁ s : Y.State) → Y.Good s₁ → Y.Good s → (x : ℕ) → Y.wr c x ≡ true →
        Y.get (Y.restore c (Y.save c s₁) s) x ≡ Y.get s₁ x
    pub restore_frame :
        (s₁ s : Y.State) → Y.Good s₁ → Y.Good s → (x : ℕ) → Y.wr c x ≡ false →
        Y.get (Y.restore c (Y.save c s₁) s) x ≡ Y.get s x
    -- the call ends within its bound
    pub ends : (s : Y.State) → Y.Good s → is_done (trace c s (Y.bound c)).course ≡ true

  -- What is asked of the calls of a block.
  pub record Laws : Type 0 where
    -- where no conflict is noted the sets are apart
    pub apart : (i j : ℕ) → i < j → j < Y.calls → Y.before i j ≡ false → Apart i j
    pub call : (c : ℕ) → c < Y.calls → Lawful c
