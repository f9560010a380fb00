-- The status of a run's calls.
use Rattle.std.specs.Prelude.{List, map, ℕ}
use Rattle.wire.specs.Bytes.{below}
use Rattle.machine.specs.Run.{Run, status_word}

-- A word of the status of each call.
abbrev pub of_calls : ℕ → Run → List ℕ
of_calls word r = map (λ call. status_word r.status call word) (below r.head.calls)
