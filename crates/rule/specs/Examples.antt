-- What fuel leaves of a transaction of the published rule, computed.
use Rattle.std.specs.Prelude.{◌≡◌, refl, ℕ, pos, length}
use mathlib.Core.List.{List, [], ◌∷◌, flatten}
use Rattle.block.specs.Assemble.{STOP, THROW, SET, JEQ}
use Rattle.block.specs.Computing as block
use Rattle.block.specs.declared.Call.{Call}
use Rattle.rule.specs.Rule.{Left, steps_for, update, execute, execute_at, unfuelled, run_body, with_instr, body_of, settle, run_function}

-- A call with so much fuel; and outcome, count and steps of what it leaves of a function with this code, where no cell has a value.
abbrev sent : (fuel : ℕ) → Call
sent fuel =
    record {
      sender = record { 0 = 5 };
      contract = record { 0 = 32768 };
      function = 0;
      value = pos 0;
      arg1 = 0;
      arg2 = 0;
      arg3 = 0;
      arg4 = 0;
      fuel = fuel;
    }

abbrev told : Left → List ℕ
told l = l.outcome ∷ l.count ∷ steps_for l ∷ []

abbrev runs : (fuel : ℕ) → List (List ℕ) → List ℕ
runs fuel code =
    told
    (run_function (flatten code) (sent fuel) (λ k. pos 0) (record { contract = record { 0 = 32768 }; number = 0; start = 0; size = length code }))

pub record Fuelled : Type 0 where
  -- Two instructions with fuel for both, for one and for one more: "Reaching the end needs no fuel."
  pub enough : runs 2 (SET 0 (pos 1) ∷ SET 1 (pos 2) ∷ []) ≡ 0 ∷ 2 ∷ 4 ∷ []
  pub one_short : runs 1 (SET 0 (pos 1) ∷ SET 1 (pos 2) ∷ []) ≡ 7 ∷ 1 ∷ 3 ∷ []
  pub one_more : runs 3 (SET 0 (pos 1) ∷ SET 1 (pos 2) ∷ []) ≡ 0 ∷ 2 ∷ 4 ∷ []
  -- STOP and THROW need fuel, and end in their own step.
  pub stop_due : runs 1 (SET 0 (pos 1) ∷ STOP ∷ []) ≡ 7 ∷ 1 ∷ 3 ∷ []
  pub stop_runs : runs 2 (SET 0 (pos 1) ∷ STOP ∷ []) ≡ 0 ∷ 2 ∷ 3 ∷ []
  pub throw_due : runs 1 (SET 0 (pos 1) ∷ THROW ∷ []) ≡ 7 ∷ 1 ∷ 3 ∷ []
  -- A jump to its own index, back to the first, and to the code's length.
  pub own_index : runs 5 (JEQ 0 0 0 ∷ []) ≡ 7 ∷ 5 ∷ 7 ∷ []
  pub back : runs 6 (SET 0 (pos 1) ∷ JEQ 0 0 0 ∷ []) ≡ 7 ∷ 6 ∷ 8 ∷ []
  pub to_the_end : runs 1 (JEQ 0 0 2 ∷ THROW ∷ []) ≡ 0 ∷ 1 ∷ 3 ∷ []
  pub no_code : runs 1 [] ≡ 0 ∷ 0 ∷ 2 ∷ []

pub fuelled : Fuelled
unfolding block.computing update execute execute_at unfuelled run_body with_instr body_of settle run_function
fuelled =
    record {
      enough = refl;
      one_short = refl;
      one_more = refl;
      stop_due = refl;
      stop_runs = refl;
      throw_due = refl;
      own_index = refl;
      back = refl;
      to_the_end = refl;
      no_code = refl;
    }
