-- Calls run in order, one list behind another.
use mathlib.Core.Path.{◌≡◌, refl}
use mathlib.Core.List.{List, [], ◌∷◌, ◌++◌}
use Prim.Native.Nat.{ℕ}
use Rattle.machine.specs.Run.{Run}
use Rattle.machine.specs.Serial.{run_call, run_calls}

pub run_calls_append : (block : List ℕ) (r : Run) (cs ds : List ℕ) → run_calls block r (cs ++ ds) ≡ run_calls block (run_calls block r cs) ds
unfolding run_calls
run_calls_append block r [] ds = refl
run_calls_append block r (c ∷ cs) ds = run_calls_append block (run_call block r c) cs ds
