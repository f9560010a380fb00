-- How a move changes the head: not at all, or in what its own worker holds, by a number of 16 bits.
use Rattle.std.specs.Prelude.{None, Option, Some, Ok, Err, Result}
use Rattle.block.specs.declared.Call.{Call}
use mathlib.Core.Path.{◌≡◌, refl, ap, ◌∙◌}
use mathlib.Core.Bool.{Bool, true, false, ◌||◌, not}
use mathlib.Core.List.{List, [], ◌∷◌}
use Prim.Native.Nat.{ℕ, zero, suc, ◌+◌, ◌*◌, ◌≤◌, ◌<◌}
use native.Mathlib.Omega.{arith}
use borrow.Author.Tests.{ltb-false, leb-false}
use lib.Dec.{eqb, leb, ltb}
use lib.ListN.{drop}
use lib.Seq.{set-set}
use Rattle.arith.proofs.ChoiceLaws.{if_all, neither}
use Rattle.block.specs.Limits.{max_calls, max_code, max_workers}
use Rattle.block.specs.Record.{head_bytes, call_record_bytes, call_of}
use Rattle.footprint.specs.Plan.{code_length}
use Rattle.machine.specs.Run.{Run, sizes_of, large_enough, held_at, with_held, place_in, plan_word, state_of, is_state, waiting}
use Rattle.machine.specs.Waits.{waits_lowerable}
use Rattle.machine.specs.Step.{Stepped, damaged, more, done, restorable, step_call}
use Rattle.machine.specs.Moves.{Moved, call_key_count, own_entries, Waits, waits_by_count, begin_call, begin_checked, begin_by, begin_of, view_of, local_of, stepped, step_record, step_held, cancel_held, held_by, step_for, cancel_for, step_of, cancel_of}
use Rattle.machine.specs.Serial.{is_serial_idle, step_to_end, max_steps, run_call, run_calls}
use Rattle.machine.specs.declared.Answer.{Answer}
use Rattle.machine.specs.declared.Head.{Head}
use Rattle.exports.specs.Words.{largest_held}

pub data HeadChange (w : ℕ) (h after : Head) : Type 0 where
  kept : after ≡ h → HeadChange w h after
  held : (n : ℕ) → w < max_workers → n ≤ largest_held → after ≡ with_held h w n → HeadChange w h after

-- One change behind another is one change.
pub change_more : (w : ℕ) (h mid after : Head) → HeadChange w h mid → HeadChange w mid after → HeadChange w h after
change_more w h mid after first (kept e) = rw e first
change_more w h mid after (kept e) (held n l small f) = held n l small (f ∙ ap (λ (x : Head). with_held x w n) e)
change_more w h mid after (held m _ _ e) (held n l small f) =
    held n l small (f ∙ ap (λ (x : Head). with_held x w n) e ∙ twice)
  where
    twice : with_held (with_held h w m) w n ≡ with_held h w n
    twice = rw (set-set h.held w m n)

module _ (r : Run) (w : ℕ) where
  -- What a move does to its run's head.
  abbrev Changes : Moved → Type 0
  Changes m = HeadChange w r.head m.run.head

  -- A worker of the run is one of eight.
  among_eight : (not (large_enough (sizes_of r)) || eqb r.head.workers 0 || ltb max_workers r.head.workers) ≡ false
      → leb r.head.workers w ≡ false → w < max_workers
  among_eight sized here =
      let few = ltb-false max_workers r.head.workers
      (neither (not (large_enough (sizes_of r)) || eqb r.head.workers 0) (ltb max_workers r.head.workers) sized).1 in
      omega (arith, few, leb-false r.head.workers w here)

  -- ---- BEGIN

  module _ (call : ℕ) where
    begun_change : (waits : Waits) → w < max_workers → call + 1 ≤ largest_held → Changes (begin_checked waits r w call)
    unfolding begin_checked begin_call
    begun_change waits here small =
        if_all Changes (not (is_state (state_of r.status call))) (λ _. kept refl) λ _.
        if_all Changes (not (eqb (state_of r.status call) waiting)) (λ _. kept refl) λ _.
        if_all Changes waits.broken (λ _. kept refl) λ _.
        if_all Changes waits.unfinished (λ _. kept refl) λ _.
        if_all Changes (not (restorable (call_key_count r.plan call) (own_entries r.plan call))) (λ _. kept refl) λ _.
        held (call + 1) here small refl

    pub begin_change : Changes (begin_of r w call)
    unfolding begin_by
    begin_change =
        if_all Changes (not (large_enough (sizes_of r)) || eqb r.head.workers 0 || ltb max_workers r.head.workers) (λ _. kept refl) λ sized.
        if_all Changes (leb r.head.workers w) (λ _. kept refl) λ here.
        if_all Changes (ltb max_calls r.head.calls) (λ _. kept refl) λ few.
        if_all Changes (leb r.head.calls call) (λ _. kept refl) λ one.
        if_all Changes (ltb r.head.calls (held_at r.head w)) (λ _. kept refl) λ _.
        if_all Changes (not (eqb (held_at r.head w) 0)) (λ _. kept refl) λ _.
        begun_change (waits_by_count r call) (among_eight sized here) (omega (arith, ltb-false max_calls r.head.calls few, leb-false r.head.calls call one))

  -- ---- STEP and CANCEL

  -- What holds of each answer, and of each call that one of eight workers holds, holds of what the worker holds.
  by_held : (P : Result ℕ Answer → Type 0) → ((a : Answer) → P (Err a)) → (w < max_workers → (call : ℕ) → P (Ok call)) → P (held_by r w)
  unfolding held_by
  by_held P refused found =
      if_all P (not (large_enough (sizes_of r)) || eqb r.head.workers 0 || ltb max_workers r.head.workers) (λ _. refused _) λ sized.
      if_all P (leb r.head.workers w) (λ _. refused _) λ here.
      if_all P (eqb (held_at r.head w) 0) (λ _. refused _) λ _.
      if_all P (ltb max_calls r.head.calls || ltb r.head.calls (held_at r.head w)) (λ _. refused _) λ _.
      found (among_eight sized here) _

  module _ (here : w < max_workers) (call : ℕ) where
    freed : HeadChange w r.head (with_held r.head w 0)
    freed = held 0 here (omega arith) refl

    stepped_change : (s : Stepped) → Changes (stepped r w call s)
    unfolding stepped
    stepped_change damaged = kept refl
    stepped_change (more l cells) = kept refl
    stepped_change (done outcome count cells) =
        if_all Changes (not (waits_lowerable r.plan r.status call r.head.calls)) (λ _. kept refl) (λ _. freed)

    record_change : (block : List ℕ) (b : Option Call) → Changes (step_record block r w call b)
    unfolding step_record
    record_change block None = kept refl
    record_change block (Some body) = stepped_change (step_call (view_of block r call body) (local_of r w call) r.cells)

    held_change : (block : List ℕ) → Changes (step_held block r w call)
    unfolding step_held
    held_change block =
        if_all Changes (ltb (max_code + 1) (plan_word r.plan call code_length) || ltb (plan_word r.plan call code_length) (place_in r.seats w)) (λ _. kept refl) λ _.
        record_change block (call_of (drop (r.head.first_call + call_record_bytes * call + head_bytes) block))

    cancelled_change : Changes (cancel_held r w call)
    unfolding cancel_held
    cancelled_change = if_all Changes (restorable (call_key_count r.plan call) (own_entries r.plan call)) (λ _. freed) (λ _. kept refl)

  pub step_change : (block : List ℕ) → Changes (step_of block r w)
  unfolding step_for
  step_change block = by_held (λ h. Changes (step_for block r w h)) (λ a. kept refl) (λ here call. held_change here call block)

  pub cancel_change : Changes (cancel_of r w)
  unfolding cancel_for
  cancel_change = by_held (λ h. Changes (cancel_for r w h)) (λ a. kept refl) (λ here call. cancelled_change here call)

-- ---- the serial run

module _ (block : List ℕ) where
  unless_idle : (left : ℕ) (r : Run) (t : Bool) → is_serial_idle r ≡ t → HeadChange 0 r.head (step_to_end left block (step_of block r 0).run).head
      → HeadChange 0 r.head (step_to_end (suc left) block r).head
  unfolding step_to_end
  unless_idle left r true e on = rw (e, step_to_end) (kept refl)
  unless_idle left r false e on = rw (e, step_to_end) on

  steps_change : (left : ℕ) (r : Run) → HeadChange 0 r.head (step_to_end left block r).head
  unfolding step_to_end
  steps_change zero r = kept refl
  steps_change (suc left) r =
      unless_idle left r (is_serial_idle r) refl
      (change_more 0 r.head (step_of block r 0).run.head (step_to_end left block (step_of block r 0).run).head
      (step_change r 0 block) (steps_change left (step_of block r 0).run))

  pub runs_change : (cs : List ℕ) (r : Run) → HeadChange 0 r.head (run_calls block r cs).head
  unfolding run_calls
  runs_change [] r = kept refl
  runs_change (c ∷ cs) r =
      change_more 0 r.head (run_call block r c).head (run_calls block (run_call block r c) cs).head
      (change_more 0 r.head (begin_of r 0 c).run.head (run_call block r c).head (begin_change r 0 c) (steps_change max_steps (begin_of r 0 c).run))
      (runs_change cs (run_call block r c))
