-- The mathematics of the walks over the calls behind a finished one, over plain variables: the bit that is tested, and a call more at each turn.
use mathlib.Core.Path.{◌≡◌, refl, sym, ap, ap₂, ◌∙◌}
use mathlib.Core.Bool.{Bool, true, false, ◌&&◌, and-true, and-false}
use mathlib.Core.List.{List}
use Prim.Native.Nat.{ℕ, zero, suc, ◌+◌, ◌-◌, ◌*◌, ◌/◌, ◌%◌, ◌≤◌, ◌<◌}
use native.Mathlib.Numerals.{add-one}
use native.Mathlib.Omega.{arith}
use borrow.Author.Tests.{lt-ltb, le-ltb}
use lib.ListN.{get_or, drop}
use lib.Seq.{get_or-take, get_or-drop}
use Rattle.std.specs.List.{list_all, range_with_len}
use Rattle.wire.specs.Rows.{in_word, in_row}
use Rattle.machine.specs.Run.{wait_count, with_wait}
use Rattle.machine.specs.Waits.{named_in, each_wait, waits_for, lowered_if, lower_one, waits_lowered, lowerable_if, waits_lowerable}
use Rattle.machine.proofs.WaitLaws.{each_beyond, each_none, lowerable_all}

-- The bit of a call in the row of another, in the word that is read.
pub named_word : (plan : List ℕ) (later call : ℕ) → call < 256 → in_word (get_or plan (32 * later + 27 + call / 64) 0) (call % 64) ≡ named_in plan call later
unfolding in_row
named_word plan later call l =
    ap (λ (n : ℕ). in_word n (call % 64))
    (sym (get_or-take 4 (drop (32 * later + 27) plan) (call / 64) 0 (omega arith) ∙ get_or-drop (32 * later + 27) plan (call / 64) 0))

module _ (plan : List ℕ) (call : ℕ) where
  -- A later call waits for this one if its row names it; no earlier one does.
  for_later : (later : ℕ) → call < later → waits_for plan call later ≡ named_in plan call later
  for_later later l = rw (lt-ltb call later l)

  for_earlier : (earlier : ℕ) → earlier ≤ call → waits_for plan call earlier ≡ false
  for_earlier earlier l = rw (le-ltb call earlier l)

  -- ---- the numbers that can be lowered

  module _ (status : List ℕ) where
    pub lowerable_start : waits_lowerable plan status call (call + 1) ≡ true
    lowerable_start = lowerable_all plan status call (call + 1) (λ later l e. absurd (both (sym e ∙ for_earlier later (omega arith))))
      where
        both : true ≡ false → ⊥
        both e = let z : ◌≡◌ {A = ℕ} 0 1 = cc in omega arith

    abbrev pub lowerable_at : ℕ → Bool
    lowerable_at later = lowerable_if (named_in plan call later) later (wait_count status later)

    -- The test of one call more.
    lowerable_more : (later : ℕ) → call < later → waits_lowerable plan status call (later + 1) ≡ (lowerable_at later && waits_lowerable plan status call later)
    unfolding waits_lowerable
    lowerable_more later above = rw (add-one later, for_later later above)

    -- That of n calls more.
    lowerable_from : (n from calls : ℕ) → call < from → calls ≡ from + n
        → waits_lowerable plan status call calls ≡ (waits_lowerable plan status call from && list_all lowerable_at (range_with_len from n))
    lowerable_from zero from calls above e = let same : calls ≡ from = omega arith in rw (same, and-true)
    lowerable_from (suc n) from calls above e =
        lowerable_from n (from + 1) calls (omega arith) (omega arith)
        ∙ rw (lowerable_more from above) (turned (lowerable_at from) (waits_lowerable plan status call from) (list_all lowerable_at (range_with_len (from + 1) n)))
      where
        turned : (a b c : Bool) → ((a && b) && c) ≡ (b && (a && c))
        turned true b c = refl
        turned false b c = sym (and-false b)

    pub lowerable_each : (calls : ℕ) → call < calls → {r : Bool} → r ≡ list_all lowerable_at (range_with_len (call + 1) (calls - (call + 1)))
        → r ≡ waits_lowerable plan status call calls
    lowerable_each calls l e =
        e ∙ sym (lowerable_from (calls - (call + 1)) (call + 1) calls (omega arith) (omega arith) ∙ rw lowerable_start)

  -- ---- the lowered numbers

  module _ (status : List ℕ) where
    pub lowered_start : status ≡ waits_lowered plan call (call + 1) status
    lowered_start = sym (each_none (lower_one plan call) status (call + 1) (λ c l. rw (for_earlier c (omega arith))))

    pub lowered_more : (later : ℕ) → call < later → {now next : List ℕ} → now ≡ waits_lowered plan call later status
        → next ≡ with_wait now later (lowered_if (named_in plan call later) (wait_count now later)) → next ≡ waits_lowered plan call (later + 1) status
    unfolding each_wait
    lowered_more later above {now} {next} far lower =
        let was : wait_count now later ≡ wait_count status later =
        ap (λ (s : List ℕ). wait_count s later) far ∙ each_beyond (lower_one plan call) status later later (omega arith) in
        lower
        ∙ ap₂ (λ (s : List ℕ) (k : ℕ). with_wait s later k) far
        (ap (lowered_if (named_in plan call later)) was ∙ ap (λ (t : Bool). lowered_if t (wait_count status later)) (sym (for_later later above)))
        ∙ sym (ap (λ (k : ℕ). waits_lowered plan call k status) (add-one later))
