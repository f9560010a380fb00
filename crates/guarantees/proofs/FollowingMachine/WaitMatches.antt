-- The numbers that calls carry, as one call changes: they stay while it does not end, and where it ends those of the calls that wait for it can be
-- lowered and are.
use mathlib.Core.Path.{◌≡◌, refl, sym, ap, ap₂, ◌∙◌}
use mathlib.Core.Bool.{Bool, true, false, cond, ◌&&◌}
use mathlib.Core.List.{List}
use Prim.Native.Nat.{ℕ, ◌+◌, ◌*◌, ◌≤◌, ◌<◌}
use native.Mathlib.Decide.{dec_lt}
use native.Mathlib.Omega.{arith}
use borrow.Author.Tests.{lt-ltb, le-ltb, ltb-true}
use lib.Dec.{ltb}
use lib.ListN.{length}
use Rattle.arith.proofs.ChoiceLaws.{both}
use Rattle.schedule.specs.Tally.{put, unfinished_earlier}
use Rattle.schedule.specs.Machine.{is_ended, Machine}
use Rattle.schedule.proofs.Valid.{put_here, put_there, put_all}
use Rattle.schedule.proofs.CountLaws.{count_same, count_most, count_some, count_less}
use Rattle.machine.specs.Run.{Run, status_words, wait_count}
use Rattle.machine.specs.Waits.{waits_for, lowered_if, waits_lowered, waits_lowerable}
use Rattle.machine.proofs.WaitLaws.{each_new, lowerable_all}
use Rattle.guarantees.proofs.FollowingMachine.RunMatches.{CallState, Base, calls_in, Matches}
use Rattle.guarantees.proofs.FollowingMachine.Follows.{row_read}

-- Call c ends and no other: call d has one less to wait for where c is before it.
module _ (before : ℕ → ℕ → Bool) (done done' : ℕ → Bool) (c d : ℕ) where
  abbrev number : ℕ
  number = unfinished_earlier before done d d

  abbrev number' : ℕ
  number' = unfinished_earlier before done' d d

  lowered_count : ((i : ℕ) → ¬ (i ≡ c) → done i ≡ done' i) → done c ≡ false → done' c ≡ true
      → lowered_if (ltb c d && before c d) number ≡ number'
  lowered_count others was is = go (dec_lt c d)
    where
      one : (b : Bool) (k j : ℕ) → k ≡ cond b 1 0 + j → lowered_if b k ≡ j
      one true k j e = omega arith
      one false k j e = omega arith

      go : Dec (c < d) → lowered_if (ltb c d && before c d) number ≡ number'
      go (yes l) = rw (lt-ltb c d l) (one (before c d) number number' (count_less before done done' d c others was is d l))
      go (no x) = rw (le-ltb c d (omega arith)) (count_same before done d before done' d (λ i l. refl) (λ i l. others i (omega arith)))

module _ (file : List ℕ) (workers n : ℕ) (before : ℕ → ℕ → Bool) (r₀ : Run) (base : Base file workers n before r₀)
    (M : Machine (calls_in file n before r₀)) (r : Run) (m : Matches file workers n before r₀ M r) (c : ℕ) where
  -- The row of a later call names the call where it is before it.
  waits_for_lem : (d : ℕ) → d < n → waits_for r.plan c d ≡ (ltb c d && before c d)
  waits_for_lem d l = go (dec_lt c d)
    where
      go : Dec (c < d) → waits_for r.plan c d ≡ (ltb c d && before c d)
      go (yes less) = ap (λ (b : Bool). ltb c d && b) (row_read file workers n before r₀ base M r m c d less l)
      go (no x) = rw (le-ltb c d (omega arith))

  abbrev ended : ℕ → Bool
  ended i = is_ended (M.call i)

  module _ (a : CallState) (status : List ℕ) (words : (d : ℕ) → wait_count status d ≡ wait_count r.status d) where
    abbrev ended' : ℕ → Bool
    ended' i = is_ended (put M.call c a i)

    -- The call was ended and is, or was not and is not.
    pub waits_kept : is_ended (M.call c) ≡ is_ended a → (d : ℕ) → d < n → wait_count status d ≡ unfinished_earlier before (λ i. is_ended (put M.call c a i)) d d
    waits_kept same d l =
        words d ∙ m.waits d l
        ∙ count_same before ended d before ended' d (λ i less. refl)
        (λ i less. put_all M.call c a (λ i q. is_ended (M.call i) ≡ is_ended q) same (λ i x. refl) i)

    -- The call ends.
    pub waits_lowered_lem : is_ended (M.call c) ≡ false → is_ended a ≡ true → status_words * n ≤ length status
        → (d : ℕ) → d < n → wait_count (waits_lowered r.plan c r.head.calls status) d ≡ unfinished_earlier before (λ i. is_ended (put M.call c a i)) d d
    waits_lowered_lem was is room d l =
        ap (λ (k : ℕ). wait_count (waits_lowered r.plan c k status) d) m.call_count ∙ each_new _ status n d l room
        ∙ ap₂ lowered_if (waits_for_lem d l) (words d ∙ m.waits d l)
        ∙ lowered_count before ended ended' c d (λ i x. ap is_ended (sym (put_there M.call c a i x))) was (ap is_ended (put_here M.call c a) ∙ is)

  -- Where a call that ends is waited for, the number is above 0, and at most the waiting call's index.
  pub can_lower : is_ended (M.call c) ≡ false → waits_lowerable r.plan r.status c r.head.calls ≡ true
  can_lower was =
      ap (waits_lowerable r.plan r.status c) m.call_count
      ∙ lowerable_all r.plan r.status c n λ d l e.
      let named = both (ltb c d) (before c d) (sym (waits_for_lem d l) ∙ e) in
      rw (m.waits d l) (count_some before ended d d c (ltb-true c d named.0) named.1 was, count_most before ended d d)
