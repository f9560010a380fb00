-- The numbers that calls carry at the opening: the count of the bits of a call's row, where no call is finished.
use mathlib.Core.Path.{◌≡◌, refl, sym, ap, ap₂, ◌∙◌}
use mathlib.Core.Bool.{Bool, true, false, cond, ◌&&◌, not}
use mathlib.Core.List.{List}
use Prim.Native.Nat.{ℕ, zero, suc, ◌+◌, ◌*◌, ◌≤◌, ◌<◌}
use native.Mathlib.Numerals.{add-one}
use native.Mathlib.Omega.{arith}
use lib.Dec.{eqb}
use lib.ListN.{length, set, take, length-take}
use lib.Seq.{take_all}
use native.Mathlib.Decide.{dec_le}
use Rattle.wire.specs.RowOps.{row_from}
use Rattle.wire.proofs.RowLaws.{row_part, row_stands}
use Rattle.block.specs.Limits.{max_calls}
use Rattle.wire.specs.Bytes.{repeated}
use Rattle.wire.specs.Rows.{bit, in_row}
use Rattle.wire.specs.RowOps.{count_of}
use Rattle.wire.proofs.BytesLaws.{repeated_at}
use Rattle.schedule.specs.Tally.{unfinished_earlier}
use Rattle.machine.specs.Run.{status_words, state_word, state_of, wait_word, finished, fixed_sizes, row_in, with_wait}
use Rattle.machine.specs.Waits.{named_in, finished_in, counted_waits, each_wait, waits_set}

-- Where none is done, each earlier conflicting call counts.
one_more : (b d : Bool) → d ≡ false → bit b ≡ cond (b && not d) 1 0
one_more true true e = let z : ◌≡◌ {A = ℕ} 0 1 = cc in absurd (omega arith)
one_more true false e = refl
one_more false d e = refl

count_undone : (before : ℕ → ℕ → Bool) (done : ℕ → Bool) → ((i : ℕ) → done i ≡ false) → (call m : ℕ)
    → count_of (λ i. before i call) m ≡ unfinished_earlier before done call m
unfolding count_of unfinished_earlier
count_undone before done none call zero = refl
count_undone before done none call (suc m) =
    ap₂ (λ (a b : ℕ). a + b) (one_more (before m call) (done m) (none m)) (count_undone before done none call m)

-- A row is read from its words, whatever stands behind them.
pub row_front : (ws : List ℕ) → row_from (take 4 ws) ≡ row_from ws
row_front ws = go (dec_le 4 (length ws))
  where
    go : Dec (4 ≤ length ws) → row_from (take 4 ws) ≡ row_from ws
    go (yes h) =
        let long : 4 ≡ length (take 4 ws) = simp length-take (omega arith) in
        row_stands (take 4 ws) (omega (arith, long)) ∙ take_all 4 (take 4 ws) (omega (arith, long)) ∙ sym (row_stands ws h)
    go (no h) = ap row_from (take_all 4 ws (omega arith))

-- A plan that is long enough has the rows of all calls.
pub row_there : (plan : List ℕ) (call : ℕ) → fixed_sizes.plan ≤ length plan → call < max_calls → row_from (row_in plan call) ≡ row_in plan call
row_there plan call h l = row_part plan (32 * call + 27) 4 refl (omega arith)

module _ (plan status : List ℕ) (z : status ≡ repeated (length status) 0) where
  none_finished : (i : ℕ) → finished_in status i ≡ false
  none_finished i =
      ap (λ (s : ℕ). eqb s finished)
      (ap (λ (s : List ℕ). state_of s i) z ∙ repeated_at (length status) (status_words * i + state_word) 0)

  -- The bits of the row below the call are what it waits for.
  row_waits : (call : ℕ) → count_of (in_row (row_in plan call)) call ≡ counted_waits plan status call
  row_waits call = count_undone (named_in plan) (finished_in status) none_finished call call

  -- One call more: its number, counted from its row, is stored.
  pub set_more : (call : ℕ) {old new row : List ℕ} {count : ℕ} → old ≡ waits_set plan call status → row ≡ row_in plan call
      → count ≡ count_of (in_row row) call → new ≡ set old (status_words * call + wait_word) count → new ≡ waits_set plan (call + 1) status
  unfolding each_wait
  set_more call {old} {new} {row} {count} so_far row_is counted stored =
      let number : count ≡ counted_waits plan status call = counted ∙ ap (λ (r : List ℕ). count_of (in_row r) call) row_is ∙ row_waits call in
      stored ∙ ap₂ (λ (s : List ℕ) (n : ℕ). with_wait s call n) so_far number ∙ ap (λ (k : ℕ). waits_set plan k status) (sym (add-one call))
