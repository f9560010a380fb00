-- One step of a call: what its place can come to, and the law that a step which goes on stays in range with fewer steps left.
use mathlib.Core.Path.{◌≡◌, refl, sym, ◌∙◌}
use mathlib.Core.Bool.{Bool, true, false}
use mathlib.Core.List.{List}
use Prim.Native.Nat.{ℕ, ◌+◌, ◌-◌, ◌*◌, ◌≤◌, ◌<◌}
use native.Mathlib.Omega.{arith}
use borrow.Author.Tests.{eqb-true, eqb-false}
use lib.IntN.{ℤ}
use lib.Dec.{eqb, leb, ltb}
use lib.ListN.{length, drop}
use Rattle.std.specs.Prelude.{if◌then◌else◌, None, Option, Some}
use Rattle.arith.proofs.ChoiceLaws.{if_all}
use Rattle.block.specs.Instruction.{instr_bytes}
use Rattle.block.proofs.DecodeLaws.{JumpsWithin, Decodes}
use Rattle.block.proofs.DecodeOwn.{decode_within}
use Rattle.block.specs.Outcomes.{thrown, out_of_fuel}
use Rattle.block.specs.declared.Instr.{Instr}
use Rattle.footprint.specs.Access.{Access, entry_accesses, accesses}
use Rattle.machine.specs.Action.{instr_action, entry_action}
use Rattle.machine.specs.Step.{View, Local, Performed, broken, onward, ending, restorable, finish, concluded, perform_action, fuel_broken, step_entry, step_decoded, step_instr, step_body, step_place, step_call}
use Rattle.machine.specs.declared.Action.{Action}
use Rattle.machine.proofs.StepLaws.{Ranged, ranged_count, entry_leads, next_leads, jump_leads, ActionFits, entry_fits, instr_fits, PlaceLowers, StepLowers, perform_lowers}

-- ---- every place

-- What holds of a broken place, of an end, of one for want of fuel, of the entry's action and of that of each instruction that may stand there, holds of what each
-- place comes to.
module _ (v : View) (place count : ℕ) (regs : List ℤ) (P : (List ℤ → Performed) → Type 0) (breaks : P (λ cells. broken))
    (ends : (outcome n : ℕ) → outcome < out_of_fuel → n ≤ count → P (λ cells. ending outcome n))
    (spends : ¬ (place ≡ 0) → ¬ (place ≡ v.code) → count ≡ v.call.fuel → P (λ cells. ending out_of_fuel count))
    (enters : place ≡ 0 → ¬ (place ≡ v.code)
    → P (λ cells. perform_action v place 0 (entry_accesses v.call) (entry_action v.call regs) cells))
    (executes : ¬ (place ≡ 0) → ¬ (place ≡ v.code) → ¬ (count ≡ v.call.fuel) → (i : Instr) → JumpsWithin (v.code - 1) i
    → P (λ cells. perform_action v place (count + 1) (accesses v.call i) (instr_action v.call place regs i) cells)) where
  -- A test that looks at no cell.
  tested : (t : Bool) (x y : List ℤ → Performed) → (t ≡ true → P x) → (t ≡ false → P y) → P (λ cells. if t then x cells else y cells)
  tested true x y f g = f refl
  tested false x y f g = g refl

  entry_each : place ≡ 0 → P (λ cells. step_entry v place regs cells)
  unfolding step_entry
  entry_each e =
      tested (eqb v.code 0) _ _ (λ h. ends _ _ (omega arith) (omega arith)) (λ h. enters e (λ q. eqb-false v.code 0 h (sym q ∙ e)))

  module _ (some : ¬ (place ≡ 0)) (inside : ¬ (place ≡ v.code)) (fuelled : ¬ (count ≡ v.call.fuel)) where
    decoded_each : (d : Option Instr) → Decodes (JumpsWithin (v.code - 1)) d → P (λ cells. step_decoded v place count regs cells d)
    unfolding step_decoded
    decoded_each (Some i) j = executes some inside fuelled i j
    decoded_each None j = breaks

    instr_each : P (λ cells. step_instr v place count regs cells)
    unfolding step_instr
    instr_each =
        tested (leb (v.start + instr_bytes * (v.code - 1)) (length v.block)) _ _
        (λ h. decoded_each _ (decode_within (v.code - 1) (drop (v.start + instr_bytes * (place - 1)) v.block))) (λ h. breaks)

  body_each : ¬ (place ≡ 0) → P (λ cells. step_body v place count regs cells)
  unfolding step_body
  body_each some =
      tested (fuel_broken v.call.fuel count) _ _ (λ e. breaks) λ e.
      tested (eqb place v.code) _ _ (λ f. ends _ _ (omega arith) (omega arith)) λ f.
      tested (eqb count _) _ _ (λ g. spends some (eqb-false place v.code f) (eqb-true count _ g))
      (λ g. instr_each some (eqb-false place v.code f) (eqb-false count _ g))

  pub place_each : P (λ cells. step_place v place count regs cells)
  unfolding step_place
  place_each = tested (eqb place 0) _ _ (λ e. entry_each (eqb-true place 0 e)) (λ e. body_each (eqb-false place 0 e))

-- The same of every action that fits.
pub place_all : (v : View) (place count : ℕ) (regs : List ℤ) (P : (List ℤ → Performed) → Type 0) → P (λ cells. broken)
    → ((outcome n : ℕ) → outcome < out_of_fuel → n ≤ count → P (λ cells. ending outcome n))
    → (¬ (place ≡ 0) → ¬ (place ≡ v.code) → count ≡ v.call.fuel → P (λ cells. ending out_of_fuel count))
    → ((n : ℕ) (as' : List Access) (a : Action) → ActionFits v place count n as' regs a → P (λ cells. perform_action v place n as' a cells))
    → P (λ cells. step_place v place count regs cells)
place_all v place count regs P breaks ends spends acts =
    place_each v place count regs P breaks ends spends
    (λ e inside.
    acts 0 (entry_accesses v.call) (entry_action v.call regs)
    (entry_fits v place count 0 regs (entry_leads v place count inside e) v.call e))
    (λ some inside fuelled i j.
    acts _ (accesses v.call i) (instr_action v.call place regs i)
    (instr_fits v place count _ regs (next_leads v place count inside some fuelled) (jump_leads v place count inside some fuelled) v.call i j))

-- ---- a step from a place in range

module _ (v : View) (place count : ℕ) (regs : List ℤ) (range : Ranged v place count) (cells : List ℤ) where
  abbrev Low : Performed → Type 0
  Low = PlaceLowers v place count regs

  place_lowers : Low (step_place v place count regs cells)
  place_lowers =
      place_all v place count regs (λ f. Low (f cells)) tt (λ outcome n few less. (omega (arith, few), omega (arith, less, ranged_count range)))
      (λ some inside spent. (omega arith, ranged_count range))
      (λ n as' a f. perform_lowers v place count regs range cells n (f.behind range) a.regs f.registers as' a.next f.next)

-- A step that goes on from a place in range stays in range, with fewer steps left.
pub step_lowers : (v : View) (l : Local) (cells : List ℤ) → Ranged v l.place l.count → StepLowers v l (step_call v l cells)
unfolding step_call concluded finish
step_lowers v l cells range =
    go (step_place v l.place l.count l.regs cells) (place_lowers v l.place l.count l.regs range cells)
  where
    go : (x : Performed) → PlaceLowers v l.place l.count l.regs x → StepLowers v l (concluded v l.saved cells x)
    go broken h = tt
    go (onward to n regs after) h = h
    go (ending outcome n) h =
        if_all (StepLowers v l) (ltb outcome thrown) (λ e. h) λ e. if_all (StepLowers v l) (restorable v.count v.entries) (λ f. h) (λ f. tt)
