-- A step of a call of a made run from behind its entry: the test of its place, that of its fuel, and the instruction.
use mathlib.Core.Path.{◌≡◌, ◌∙◌}
use mathlib.Core.Bool.{true}
use mathlib.Core.List.{List, map}
use Prim.Native.Nat.{ℕ, ◌+◌, ◌-◌, ◌*◌, ◌≤◌, ◌<◌}
use native.Mathlib.Omega.{arith}
use borrow.Author.Tests.{ne_eqb, le-leb, le-ltb}
use lib.Dec.{eqb}
use lib.IntN.{ℤ}
use lib.ListN.{length, drop}
use Rattle.std.specs.Prelude.{if◌then◌else◌, Some}
use Rattle.wire.specs.Bytes.{padded}
use Rattle.block.specs.Limits.{max_call_keys, max_keys}
use Rattle.block.specs.Outcomes.{ended, out_of_fuel}
use Rattle.block.specs.Instruction.{instr_bytes, decode}
use Rattle.block.specs.Record.{Function}
use Rattle.block.proofs.ReaderLaws.{FunctionSound}
use Rattle.block.specs.declared.Call.{Call}
use Rattle.block.specs.declared.Instr.{Instr}
use Rattle.footprint.specs.Access.{Access, accesses}
use Rattle.block.specs.Encoding.{AreBytes}
use Rattle.footprint.specs.Sets.{function_sets}
use Rattle.footprint.specs.Plan.{entry_word, table_words}
use Rattle.rule.specs.Rule.{State, state_within_limit}
use Rattle.footprint.specs.SafeSets.{CallBounded}
use Rattle.machine.specs.Action.{instr_action}
use Rattle.machine.specs.Step.{View, Local, ending, saved_of, concluded, perform_action, step_decoded, step_instr, step_body, step_place, step_call}
use Rattle.machine.specs.CallInRun.{Hold}
use Rattle.machine.proofs.LookupLaws.{KeysInTable}
use Rattle.machine.proofs.StepLaws.{FuelInRange}
use Rattle.machine.proofs.StepRule.{rule_local}

-- The view of a call whose function is f.
abbrev pub view_in : (file : List ℕ) (room : ℕ) (table : List ℕ) → Call → Function → View
view_in file room table c f =
    record {
      block = file;
      call = c;
      start = f.start;
      code = f.size + 1;
      count = length (function_sets file c (Some f));
      entries = map (entry_word table) (function_sets file c (Some f));
      keys = padded room 0 (table_words table);
    }

-- A call of the function f, begun at a state that the old cells hold.
module _ (file : List ℕ) (bytes : AreBytes file) (c : Call) (fits : CallBounded c) (fuelled : FuelInRange c.fuel) (f : Function) (sound : FunctionSound file f) (table : List ℕ)
    (few : length table ≤ max_keys) (known : KeysInTable table (function_sets file c (Some f))) (small : length (function_sets file c (Some f)) ≤ max_call_keys)
    (room : ℕ) (start : State) (within : state_within_limit start ≡ true) (old : List ℤ) (first : Hold table start old) where
  abbrev es : List Access
  es = function_sets file c (Some f)

  abbrev view : View
  view = view_in file room table c f

  abbrev at : ℕ → List ℤ → ℕ → Local
  at place ρ n = rule_local view table es start old place ρ n

  abbrev kept : List ℤ
  kept = saved_of view.entries old

  -- Behind the entry, at a count within the fuel.
  pub body_step : (p : ℕ) (ρ : List ℤ) (n : ℕ) (cells : List ℤ) → n ≤ c.fuel
      → step_call view (at (p + 1) ρ n) cells
      ≡ concluded view kept cells
      (if eqb (p + 1) (f.size + 1) then ending ended n else if eqb n c.fuel then ending out_of_fuel n else step_instr view (p + 1) n ρ cells)
  unfolding step_call step_place step_body
  body_step p ρ n cells within =
      rw (ne_eqb (p + 1) 0 (omega arith), ne_eqb c.fuel 0 (λ e. omega (arith, e, fuelled.0)), le-ltb c.fuel n within)

  pub step_instr_lem : (p : ℕ) (ρ : List ℤ) (n : ℕ) (cells : List ℤ) (i : Instr) → p < f.size → n < c.fuel → decode f.size (drop (f.start + instr_bytes * p) file) ≡ Some i
      → step_call view (at (p + 1) ρ n) cells ≡ concluded view kept cells (perform_action view (p + 1) (n + 1) (accesses c i) (instr_action c (p + 1) ρ i) cells)
  unfolding step_instr step_decoded
  step_instr_lem p ρ n cells i l m e =
      let index : p + 1 - 1 ≡ p = omega arith in
      let length' : f.size + 1 - 1 ≡ f.size = omega arith in
      body_step p ρ n cells (omega arith)
      ∙ rw (
        ne_eqb (p + 1) (f.size + 1) (omega arith),
        ne_eqb n c.fuel (omega arith),
        index,
        length',
        le-leb (f.start + instr_bytes * f.size) (length file) sound.within,
        e,
      )
