-- "Serial run: calls 0, 1, .. each begun and stepped to its end."
use Rattle.std.specs.Prelude.{Bool, true, false, List, [], ◌∷◌, ℕ, zero, suc, min, eqb}
use Rattle.std.specs.Prelude.{if◌then◌else◌}
use Rattle.wire.specs.Bytes.{below}
use Rattle.block.specs.Limits.{max_calls, max_fuel}
use Rattle.machine.specs.Run.{Run, held_at}
use Rattle.machine.specs.Moves.{begin_of, step_of}

-- M-104: "In place of the 66 .., a call takes at most fuel plus 2 accepted steps": its entry, its counted instructions, and one for reaching the end or for
-- running out of fuel. So no call takes more than one of the highest fuel may.
abbrev pub step_limit : (fuel : ℕ) → ℕ
step_limit fuel = suc (suc fuel)

abbrev pub max_steps : ℕ
max_steps = step_limit max_fuel

-- The serial run uses worker 0.
abbrev pub is_serial_idle : Run → Bool
is_serial_idle r = eqb (held_at r.head 0) 0

-- Steps until the worker is free, `left` at most; and how many they are.
unfoldable pub step_to_end : ℕ → List ℕ → Run → Run
step_to_end zero block r = r
step_to_end (suc left) block r = elim (is_serial_idle r) [ true ↦ r | false ↦ step_to_end left block (step_of block r 0).run ]

unfoldable pub steps_to_end : ℕ → List ℕ → Run → ℕ
steps_to_end zero block r = 0
steps_to_end (suc left) block r =
    elim (is_serial_idle r) [ true ↦ 0 | false ↦ suc (steps_to_end left block (step_of block r 0).run) ]

abbrev pub run_call : List ℕ → Run → ℕ → Run
run_call block r call = step_to_end max_steps block (begin_of r 0 call).run

unfoldable pub run_calls : List ℕ → Run → List ℕ → Run
run_calls block r [] = r
run_calls block r (call ∷ cs) = run_calls block (run_call block r call) cs

-- The calls of a list that pass a test.
unfoldable pub chosen : (ℕ → Bool) → List ℕ → List ℕ
chosen test [] = []
chosen test (call ∷ cs) = if test call then call ∷ chosen test cs else chosen test cs

abbrev pub all_calls : Run → List ℕ
all_calls r = below (min r.head.calls max_calls)

-- "It starts at the opening and is the serial run of demand 3."
abbrev pub serial_run : List ℕ → Run → Run
serial_run block r = run_calls block r (all_calls r)

-- "The finished calls alone are the serial run of this same block in which only they are begun."
abbrev pub serial_run_of : (ℕ → Bool) → List ℕ → Run → Run
serial_run_of test block r = run_calls block r (chosen test (all_calls r))

-- "the number of steps that the serial run takes for that call"
abbrev pub serial_steps : List ℕ → Run → ℕ → ℕ
serial_steps block r call = steps_to_end max_steps block (begin_of (run_calls block r (below call)) 0 call).run
