-- The numbers that calls carry: what a change of each leaves of the status, and when all that are to be lowered can be.
use mathlib.Core.Path.{◌≡◌, refl, sym, ap, ◌∙◌}
use mathlib.Core.Bool.{Bool, true, false, ◌&&◌}
use mathlib.Core.List.{List}
use Prim.Native.Nat.{ℕ, zero, suc, ◌+◌, ◌*◌, ◌≤◌, ◌<◌}
use native.Mathlib.Decide.{dec_lt}
use native.Mathlib.Omega.{arith}
use borrow.Author.Tests.{le-leb, ne_eqb}
use lib.ListN.{length, length-set}
use lib.Seq.{get_or-set_same, get_or-set_other, set-get_or}
use Rattle.machine.specs.Run.{status_words, status_word, wait_word, wait_count, with_wait}
use Rattle.machine.specs.Waits.{each_wait, waits_for, lowerable_if, waits_lowerable}

module _ (new : ℕ → ℕ → ℕ) (status : List ℕ) where
  pub each_length : (n : ℕ) → length (each_wait new n status) ≡ length status
  unfolding each_wait
  each_length zero = refl
  each_length (suc n) = length-set (each_wait new n status) (status_words * n + wait_word) (new n (wait_count status n)) ∙ each_length n

  -- The other words stay, and so do the numbers of the calls from n on.
  pub each_word : (n d k : ℕ) → k < wait_word → status_word (each_wait new n status) d k ≡ status_word status d k
  unfolding each_wait
  each_word zero d k l = refl
  each_word (suc n) d k l =
      get_or-set_other (each_wait new n status) (status_words * n + wait_word) (status_words * d + k) (new n (wait_count status n)) 0 (omega arith)
      ∙ each_word n d k l

  pub each_beyond : (n c : ℕ) → n ≤ c → wait_count (each_wait new n status) c ≡ wait_count status c
  unfolding each_wait
  each_beyond zero c l = refl
  each_beyond (suc n) c l =
      get_or-set_other (each_wait new n status) (status_words * n + wait_word) (status_words * c + wait_word) (new n (wait_count status n)) 0 (omega arith)
      ∙ each_beyond n c (omega arith)

  -- Each of the first n numbers is the new one.
  pub each_new : (n c : ℕ) → c < n → status_words * n ≤ length status → wait_count (each_wait new n status) c ≡ new c (wait_count status c)
  unfolding each_wait
  each_new zero c l room = absurd (omega arith)
  each_new (suc n) c l room = go (dec_lt c n) (λ y. each_new n c y (omega arith))
    where
      go : Dec (c < n) → (c < n → wait_count (each_wait new n status) c ≡ new c (wait_count status c))
          → wait_count (each_wait new (suc n) status) c ≡ new c (wait_count status c)
      go (yes y) rest =
          get_or-set_other (each_wait new n status) (status_words * n + wait_word) (status_words * c + wait_word) (new n (wait_count status n)) 0 (omega arith)
          ∙ rest y
      go (no y) rest =
          let last : c ≡ n = omega arith in
          rw last
          (get_or-set_same (each_wait new n status) (status_words * n + wait_word) (new n (wait_count status n)) 0 (rw (each_length n) (omega arith)))

  -- Where `new` keeps a number there is nothing to do.
  pub each_kept : (n : ℕ) → new n (wait_count status n) ≡ wait_count status n → each_wait new (suc n) status ≡ each_wait new n status
  unfolding each_wait
  each_kept n e =
      ap (with_wait (each_wait new n status) n) (e ∙ sym (each_beyond n n (omega arith))) ∙ set-get_or (each_wait new n status) (status_words * n + wait_word) 0

  pub each_none : (n : ℕ) → ((c : ℕ) → c < n → new c (wait_count status c) ≡ wait_count status c) → each_wait new n status ≡ status
  unfolding each_wait
  each_none zero h = refl
  each_none (suc n) h = each_kept n (h n (omega arith)) ∙ each_none n (λ c l. h c (omega arith))

-- Of the calls below n, those to be lowered are above 0 and at most their index.
pub lowerable_all : (plan status : List ℕ) (call n : ℕ)
    → ((later : ℕ) → later < n → waits_for plan call later ≡ true → (0 < wait_count status later) × (wait_count status later ≤ later))
    → waits_lowerable plan status call n ≡ true
unfolding waits_lowerable
lowerable_all plan status call zero h = refl
lowerable_all plan status call (suc later) h =
    one (waits_for plan call later) (h later (omega arith)) (lowerable_all plan status call later (λ d l. h d (omega arith)))
  where
    one : (t : Bool) → (t ≡ true → (0 < wait_count status later) × (wait_count status later ≤ later)) → waits_lowerable plan status call later ≡ true
        → (lowerable_if t later (wait_count status later) && waits_lowerable plan status call later) ≡ true
    one false own rest = rest
    one true own rest =
        let in-range = own refl in
        rw (ne_eqb (wait_count status later) 0 (omega (arith, in-range.0)), le-leb (wait_count status later) later in-range.1) rest
