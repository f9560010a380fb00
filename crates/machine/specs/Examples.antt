-- BEGIN, STEP and CANCEL, and the numbers that calls carry, computed in short on block P; `examples` has all of it, and damaged runs.
use Rattle.std.specs.Prelude.{◌≡◌, refl, List, [], ◌∷◌, ◌++◌, map, ℕ, take, set}
use Rattle.schedule.specs.declared.Move.TheVariants.{Begin, Step, Cancel}
use Rattle.block.specs.Assemble.{text}
use Rattle.block.specs.Worked.{P}
use Rattle.machine.specs.Answer.{answer_number}
use Rattle.machine.specs.Run.{Run, wait_count}
use Rattle.machine.specs.Opening.{opened_for_eight}
use Rattle.machine.specs.Moves.{begin_of, step_of, run_after, answers_of}
use Rattle.machine.specs.Damage.{status_at, seat_as}
use Rattle.machine.specs.Computing.{computing}

-- Block P: the table has the balances of 5, 7 and 32768, and field 1 of 32768, as cells 0 to 3. The plan of call 1 starts at word 32
-- and has entries 3 (cell 0, read and written), 11 (cell 2, likewise), 13 (cell 3, read) and 6 (cell 1, written).
unfoldable pub start_p : Run
start_p = opened_for_eight P

-- Worker 0 holds call 0, at its entry, and before its PUT.
unfoldable pub begun_p : Run
begun_p = run_after P start_p (Begin 0 0 ∷ [])

unfoldable pub at_put : Run
at_put = run_after P start_p (Begin 0 0 ∷ Step 0 ∷ Step 0 ∷ [])

-- It is at the end of its code.
unfoldable pub at_end : Run
at_end = run_after P at_put (Step 0 ∷ [])

-- Call 0 is finished.
unfoldable pub one : Run
one = run_after P at_end (Step 0 ∷ [])

-- The answers of one move in several runs.
abbrev pub begins : ℕ → ℕ → List Run → List ℕ
begins w c rs = map (λ r. answer_number (begin_of r w c).answer) rs

abbrev pub steps : List ℕ → List Run → List ℕ
steps block rs = map (λ r. answer_number (step_of block r 0).answer) rs

-- The number that each of P's three calls carries: those of its earlier conflicting calls still unfinished. That of call n is word 4 * n + 3 of the status.
abbrev pub carried : Run → List ℕ
carried r = map (wait_count r.status) (0 ∷ 1 ∷ 2 ∷ [])

-- A wrong move shows in one of these.
pub record MovesInShort : Type 0 where
  -- "BEGIN(1, 1) first: 25"; by the number that call 1 carries, and by nothing else.
  pub begun : begins 1 1 (start_p ∷ status_at 7 0 start_p ∷ one ∷ status_at 7 1 one ∷ []) ≡ 25 ∷ 0 ∷ 0 ∷ 25 ∷ []
  -- "Freeing waiters when a call is cancelled": call 1 still waits for call 0.
  pub cancelled : answers_of P begun_p (Cancel 0 ∷ Begin 1 1 ∷ []) ≡ 0 ∷ 25 ∷ []
  -- A cancelled PUT is taken back.
  pub restored : take 4 (run_after P at_put (Step 0 ∷ Cancel 0 ∷ [])).cells ≡ take 4 start_p.cells
  -- "In a step behind the entry, a lent fuel of zero or a count above the fuel is 20." The fuel of call 0, 64, is bytes 154 and 155 of the block.
  pub lent_fuel : steps (set P 154 0) (seat_as 0 1 0 begun_p ∷ begun_p ∷ []) ≡ 20 ∷ 0 ∷ []
  pub lent_count : steps P (seat_as 0 2 65 at_put ∷ seat_as 0 2 64 at_put ∷ []) ≡ 20 ∷ 0 ∷ []
  -- A finish lowers the number of call 1, whose row names call 0, and looks at no other.
  pub lowered : carried start_p ++ carried one ≡ 0 ∷ 1 ∷ 1 ∷ 0 ∷ 0 ∷ 1 ∷ []
  pub unnamed : steps P (status_at 11 0 at_end ∷ status_at 7 0 at_end ∷ []) ≡ 0 ∷ 20 ∷ []

pub moves_in_short : MovesInShort
unfolding computing text P start_p begun_p at_put at_end one
moves_in_short =
    record { begun = refl; cancelled = refl; restored = refl; lent_fuel = refl; lent_count = refl; lowered = refl; unnamed = refl }
