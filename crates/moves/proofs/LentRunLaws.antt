-- The mathematics of the proofs of `step` on a run, over plain variables: where the block holds no record, and the run behind a turn.
use mathlib.Core.Path.{◌≡◌, refl, sym, ap, ◌∙◌}
use mathlib.Core.Bool.{Bool, true, false, ◌||◌, not}
use mathlib.Core.List.{List}
use Prim.Native.Nat.{ℕ, ◌+◌, ◌*◌, ◌<◌}
use native.Mathlib.Omega.{arith}
use lib.Dec.{ltb}
use lib.IntN.{ℤ}
use lib.ListN.{length, drop, length-drop}
use Rattle.std.specs.Prelude.{if◌then◌else◌, Option, None, Some}
use Rattle.block.specs.Limits.{max_code}
use Rattle.block.specs.Record.{head_bytes, call_bytes, call_record_bytes, call_of}
use Rattle.decoder.proofs.Laws.{call_cut}
use Rattle.block.specs.declared.Call.{Call}
use Rattle.machine.specs.Run.{Run, place_in, count_in, plan_word, regs_in}
use Rattle.machine.specs.Step.{View, Performed, broken, onward, ending, concluded, finish, step_call, step_place}
use Rattle.machine.specs.Moves.{Moved, local_of, stay, step_held, step_record, stepped, view_of}
use Rattle.machine.specs.declared.Answer.TheVariants.{Damaged}
use Rattle.machine.specs.declared.Head.{Head}
use Rattle.moves.specs.Lent.{lent}
use Rattle.moves.specs.Turn.{StandsForPlace, TurnWithCells, cell_view, performed_of, turn_settled, turned, view_in, worker_saved}
use Rattle.moves.specs.declared.Turn.{Turn}

-- A record behind the end of the block.
pub record_short : (block : List ℕ) (first c : ℕ) → length block < first + call_record_bytes * c + head_bytes
    → None ≡ call_of (drop (first + call_record_bytes * c + head_bytes) block)
record_short block first c h =
    let cut : length (drop (first + call_record_bytes * c + head_bytes) block) < call_bytes = simp length-drop (omega arith) in
    call_cut (drop (first + call_record_bytes * c + head_bytes) block) cut

-- The place is in its range.
abbrev pub in_range : (code place : ℕ) → Bool
in_range code place = not (ltb (max_code + 1) code || ltb code place)

-- A test that is made the other way round, and passes.
test_passed : {A : Type 0} (p : Bool) {ok : Bool} (x y : A) → ok ≡ not p → ok ≡ true → y ≡ (if p then x else y)
test_passed false x y e f = refl
test_passed true x y e f = let z : ◌≡◌ {A = ℕ} 0 1 = cc in absurd (omega arith)

-- ---- a step on a run

-- What concludes a step looks at the entries of its view alone.
concluded_view : (block plan keys : List ℕ) (c : ℕ) (call : Call) (saved cells : List ℤ) (p : Performed)
    → concluded (cell_view plan keys c) saved cells p ≡ concluded (view_in block plan keys c call) saved cells p
unfolding concluded finish
concluded_view block plan keys c call saved cells broken = refl
concluded_view block plan keys c call saved cells (onward place count regs after) = refl
concluded_view block plan keys c call saved cells (ending outcome count) = refl

module _ (head : Head) (block plan keys : List ℕ) (cells : List ℤ) (status seats : List ℕ) (frames : List ℤ) (w c : ℕ) where
  abbrev run : Run
  run = lent head plan keys cells status seats frames

  -- The run behind a turn is that behind the step that it stands for.
  stands_settled : (v : View) (saved : List ℤ) (p : Performed) → stepped (lent head plan keys (turned cells p).cells status seats frames) w c (concluded v saved (turned cells p).cells (performed_of (turned cells p).turn (turned cells p).cells))
      ≡ stepped run w c (concluded v saved cells p)
  unfolding concluded stepped
  stands_settled v saved broken = refl
  stands_settled v saved (onward place count regs after) = refl
  stands_settled v saved (ending outcome count) = refl

  pub place_settled : (call : Call) {place count : ℕ} {regs : List ℤ} {t : Option Turn} {after : List ℤ} → place ≡ place_in seats w → count ≡ count_in seats w → regs ≡ regs_in frames w
      → StandsForPlace t after cells (step_place (view_in block plan keys c call) place count regs cells)
      → turn_settled head plan keys after status seats frames w c t ≡ stepped run w c (step_call (view_of block run c call) (local_of run w c) cells)
  unfolding step_call
  place_settled call e f g p =
      let here : Performed = step_place (view_in block plan keys c call) (place_in seats w) (count_in seats w) (regs_in frames w) cells in
      let own : StandsForPlace _ _ cells here = rw (e, f, g) at p in
      ap (λ (x : TurnWithCells). turn_settled head plan keys x.cells status seats frames w c x.turn) own
      ∙ stands_settled (cell_view plan keys c) (worker_saved plan frames w c) here
      ∙ ap (stepped run w c) (concluded_view block plan keys c call (worker_saved plan frames w c) cells here)

  -- A step behind the test of the place, with the first call record at a place.
  abbrev behind_place : ℕ → Moved
  behind_place first = step_record block run w c (call_of (drop (first + call_record_bytes * c + head_bytes) block))

  abbrev bad_place : Bool
  bad_place = ltb (max_code + 1) (plan_word plan c 1) || ltb (plan_word plan c 1) (place_in seats w)

  module _ {place : ℕ} {ok : Bool} (placed : place ≡ place_in seats w) (tested : ok ≡ in_range (plan_word plan c 1) place) where
    same_test : ok ≡ not bad_place
    same_test = rw (← placed) tested

    module _ (seated : ok ≡ true) {first : ℕ} (starts : first ≡ head.first_call)
        {body : Option Call} (read : body ≡ call_of (drop (first + call_record_bytes * c + head_bytes) block)) where
      on_head : behind_place head.first_call ≡ step_held block run w c
      unfolding step_held
      on_head = test_passed bad_place (stay run Damaged) (behind_place head.first_call) same_test seated

      on_record : step_record block run w c body ≡ step_held block run w c
      on_record = ap (step_record block run w c) read ∙ ap behind_place starts ∙ on_head

      pub held_stepped : {call : Call} {m : Moved} → body ≡ Some call → m ≡ stepped run w c (step_call (view_of block run c call) (local_of run w c) cells) → m ≡ step_held block run w c
      unfolding step_record
      held_stepped e p = p ∙ ap (step_record block run w c) (sym e) ∙ on_record
