-- "Number only; nothing changes": a move that is not accepted leaves the run as it was. Behind the tests of the held call it is accepted or finds the run damaged.
use Rattle.std.specs.Prelude.{None, Option, Some, Ok, Err, Result}
use Rattle.block.specs.declared.Call.{Call}
use mathlib.Core.Path.{◌≡◌, refl, ap}
use mathlib.Core.Bool.{◌||◌, not}
use mathlib.Core.List.{List}
use Prim.Native.Nat.{ℕ, ◌+◌, ◌*◌}
use lib.Dec.{ltb}
use lib.ListN.{drop}
use Rattle.arith.proofs.ChoiceLaws.{if_all}
use Rattle.block.specs.Limits.{max_code}
use Rattle.block.specs.Record.{head_bytes, call_record_bytes, call_of}
use Rattle.footprint.specs.Plan.{code_length}
use Rattle.machine.specs.Run.{Run, place_in, plan_word}
use Rattle.machine.specs.Waits.{waits_lowerable}
use Rattle.machine.specs.Step.{Stepped, damaged, more, done, step_call}
use Rattle.machine.specs.Moves.{Moved, stay, view_of, local_of, held_by, stepped, step_record, step_held, step_for, step_of}
use Rattle.machine.specs.declared.Answer.{Answer}
use Rattle.machine.specs.declared.Answer.TheVariants.{Damaged}

-- Accepted, or damaged and nothing else.
pub record StaysDamaged (r : Run) (m : Moved) : Type 0 where
  pub stays : (m.answer ≡ Ok tt → ⊥) → m ≡ stay r Damaged

pub here : (r : Run) → StaysDamaged r (stay r Damaged)
here r = record { stays = λ n. refl }

pub moves : {r : Run} {m : Moved} → m.answer ≡ Ok tt → StaysDamaged r m
moves e = record { stays = λ n. absurd (n e) }

of_run : {m m' : Moved} → m ≡ m' → m.run ≡ m'.run
of_run e = ap (λ (m : Moved). m.run) e

-- A move that a refusal of the held call's tests ends, and that goes on with the held call.
pub unmoved_held : (r : Run) (w : ℕ) (move : Result ℕ Answer → Moved) → ((a : Answer) → move (Err a) ≡ stay r a) → ((c : ℕ) → StaysDamaged r (move (Ok c)))
    → ((move (held_by r w)).answer ≡ Ok tt → ⊥) → (move (held_by r w)).run ≡ r
unmoved_held r w move stops on = go (held_by r w)
  where
    go : (h : Result ℕ Answer) → ((move h).answer ≡ Ok tt → ⊥) → (move h).run ≡ r
    go (Err b) n = of_run (stops b)
    go (Ok c) n = of_run ((on c).stays n)

-- ---- STEP

module _ (block : List ℕ) (r : Run) (w : ℕ) where
  stepped_stays : (c : ℕ) (s : Stepped) → StaysDamaged r (stepped r w c s)
  unfolding stepped
  stepped_stays c damaged = here r
  stepped_stays c (more l cells) = moves refl
  stepped_stays c (done outcome count cells) =
      if_all (StaysDamaged r) (not (waits_lowerable r.plan r.status c r.head.calls)) (λ e. here r) λ e. moves refl

  record_stays : (c : ℕ) (b : Option Call) → StaysDamaged r (step_record block r w c b)
  unfolding step_record
  record_stays c None = here r
  record_stays c (Some call) = stepped_stays c (step_call (view_of block r c call) (local_of r w c) r.cells)

  pub step_stays : (c : ℕ) → StaysDamaged r (step_held block r w c)
  unfolding step_held
  step_stays c =
      if_all (StaysDamaged r)
      (ltb (max_code + 1) (plan_word r.plan c code_length) || ltb (plan_word r.plan c code_length) (place_in r.seats w)) (λ e. here r) λ e.
      record_stays c (call_of (drop (r.head.first_call + call_record_bytes * c + head_bytes) block))

  pub step_unmoved : ((step_of block r w).answer ≡ Ok tt → ⊥) → (step_of block r w).run ≡ r
  unfolding step_for
  step_unmoved = unmoved_held r w (step_for block r w) (λ a. refl) step_stays
