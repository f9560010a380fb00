-- M-100: "Each call shall carry the number of its earlier conflicting calls still unfinished." What is counted, how it is set at the opening, and how
-- a finish lowers it.
use Rattle.std.specs.Prelude.{Bool, true, ◌&&◌, ◌||◌, not, List, ℕ, zero, suc, ◌-◌, eqb, leb, ltb}
use Rattle.std.specs.Prelude.{if◌then◌else◌}
use Rattle.wire.specs.Rows.{in_row}
use Rattle.schedule.specs.Tally.{unfinished_earlier}
use Rattle.machine.specs.Run.{row_in, state_of, finished, wait_count, with_wait}

-- The number, counted from the call's row and the states.
abbrev pub named_in : List ℕ → (i call : ℕ) → Bool
named_in plan i call = in_row (row_in plan call) i

abbrev pub finished_in : List ℕ → ℕ → Bool
finished_in status i = eqb (state_of status i) finished

abbrev pub counted_waits : (plan status : List ℕ) → ℕ → ℕ
counted_waits plan status call = unfinished_earlier (named_in plan) (finished_in status) call call

-- The numbers of the first n calls become what `new` makes of them.
unfoldable pub each_wait : (new : ℕ → ℕ → ℕ) → ℕ → List ℕ → List ℕ
each_wait new zero status = status
each_wait new (suc call) status = with_wait (each_wait new call status) call (new call (wait_count status call))

-- "It is set at opening".
abbrev pub waits_set : (plan : List ℕ) → (calls : ℕ) → List ℕ → List ℕ
waits_set plan calls status = each_wait (λ call old. counted_waits plan status call) calls status

-- "each later call whose row names the finished one"
abbrev pub waits_for : (plan : List ℕ) → (finished later : ℕ) → Bool
waits_for plan call later = ltb call later && named_in plan call later

-- The number of one call, lowered where it waits for the finished one.
abbrev pub lowered_if : (waits : Bool) → ℕ → ℕ
lowered_if waits n = if waits then n - 1 else n

-- "a finish lowers it in each later call whose row names the finished one"
abbrev pub lower_one : (plan : List ℕ) → (finished later old : ℕ) → ℕ
lower_one plan call later old = lowered_if (waits_for plan call later) old

abbrev pub waits_lowered : (plan : List ℕ) → (finished calls : ℕ) → List ℕ → List ℕ
waits_lowered plan call calls status = each_wait (lower_one plan call) calls status

-- "In a lent run, one above its call's number, or 0 where it is to be lowered, is 20": what the number n of one call is asked where it is to be lowered.
abbrev pub lowerable_if : (waits : Bool) → (call n : ℕ) → Bool
lowerable_if waits call n = not waits || (not (eqb n 0) && leb n call)

-- It is so of the first n calls.
unfoldable pub waits_lowerable : (plan status : List ℕ) → (finished n : ℕ) → Bool
waits_lowerable plan status call zero = true
waits_lowerable plan status call (suc later) =
    lowerable_if (waits_for plan call later) later (wait_count status later) && waits_lowerable plan status call later
