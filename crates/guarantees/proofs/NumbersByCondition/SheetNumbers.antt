-- The number of the sheet: when it is written and which answer refuses it, exactly, and that a refusal leaves the output as it was.
use Rattle.machine.specs.declared.Answer.{Answer}
use mathlib.Core.Path.{◌≡◌, refl, sym, ap, subst, ◌∙◌}
use mathlib.Core.Bool.{true, ◌&&◌, ◌||◌, not}
use mathlib.Core.List.{List}
use Prim.Native.Nat.{ℕ, ◌≤◌, ◌<◌}
use borrow.Author.Tests.{lt-ltb, le-ltb, eqb-true}
use lib.Dec.{eqb, leb, ltb}
use lib.IntN.{ℤ}
use lib.ListN.{length}
use lib.Signed.{non_neg}
use Rattle.std.specs.Prelude.{if◌then◌else◌, Err, Ok, Result}
use Rattle.block.specs.Limits.{max_calls, max_keys}
use Rattle.block.specs.Outcomes.{last_outcome, max_count}
use Rattle.machine.specs.Run.{Run, sizes_of, large_enough, status_word, state_of, is_state, finished}
use Rattle.machine.specs.Step.{cell_at}
use Rattle.machine.specs.Answer.{answer_number, refused_number}
use Rattle.machine.specs.declared.Answer.TheVariants as answer
use Rattle.sheet.specs.Sheet.{closing_number, Closed, field_of, sheet_records, sheet_bytes, offset_behind, states_allowed, all_finished, receipts_allowed, balances_allowed, unwritten, filled, written_if, written, sheet_of}
use Rattle.sheet.proofs.SheetTests.{FoundBefore27, FoundBefore28, sheet_each}
use Rattle.guarantees.specs.Demand1.{Exactly, CallFinished, Before27, Before28, Writable, SheetGives}
use Rattle.guarantees.proofs.NumbersByCondition.ByNumbers.{chosen}
use Rattle.guarantees.proofs.NumbersByCondition.ExactTests.{itself, leb_exact, eqb_exact, both_exact, under_exact, TestsAll, all_exact}
use Rattle.guarantees.proofs.AcceptedOpening.OpeningPassed.{large_sizes, sizes_large}

-- ---- the tests

-- Of n calls by their status words.
module _ (status : List ℕ) (n : ℕ) where
  states_exact : TestsAll (states_allowed status n) n (λ c. state_of status c ≤ finished)
  unfolding states_allowed
  states_exact =
      all_exact (states_allowed status) (λ c. is_state (state_of status c)) (λ c. state_of status c ≤ finished) refl (λ m. refl)
      (λ c. leb_exact (state_of status c) finished) n

  finished_exact : TestsAll (all_finished status n) n (λ c. state_of status c ≡ finished)
  unfolding all_finished
  finished_exact =
      all_exact (all_finished status) (λ c. eqb (state_of status c) finished) (λ c. state_of status c ≡ finished) refl (λ m. refl)
      (λ c. eqb_exact (state_of status c) finished) n

  receipts_exact : TestsAll (receipts_allowed status n) n (λ c. (status_word status c 1 ≤ last_outcome) × (status_word status c 2 ≤ max_count))
  unfolding receipts_allowed
  receipts_exact =
      all_exact (receipts_allowed status) (λ c. leb (status_word status c 1) last_outcome && leb (status_word status c 2) max_count)
      (λ c. (status_word status c 1 ≤ last_outcome) × (status_word status c 2 ≤ max_count)) refl (λ m. refl)
      (λ c.
      both_exact (leb (status_word status c 1) last_outcome) (leb (status_word status c 2) max_count) (leb_exact (status_word status c 1) last_outcome)
      (leb_exact (status_word status c 2) max_count))
      n

-- Of n cells by their keys.
balances_exact : (keys : List ℕ) (cells : List ℤ) (n : ℕ)
    → TestsAll (balances_allowed keys cells n) n (λ x. field_of keys x ≡ 0 → non_neg (cell_at cells x) ≡ true)
unfolding balances_allowed
balances_exact keys cells =
    all_exact (balances_allowed keys cells) (λ x. not (eqb (field_of keys x) 0) || non_neg (cell_at cells x))
    (λ x. field_of keys x ≡ 0 → non_neg (cell_at cells x) ≡ true) refl (λ m. refl)
    (λ x. under_exact (eqb (field_of keys x) 0) (non_neg (cell_at cells x)) (eqb_exact (field_of keys x) 0) itself)

-- ---- the sheet

-- What a closing says, and that a refusal leaves the output.
abbrev ClosingTold : Run → (output left : List ℕ) → Result ℕ Answer → Type 0
ClosingTold r output left (Ok n) = Writable r output
ClosingTold r output left (Err a) = (left ≡ output) × ((a ≡ answer.Damaged → ⊥) → SheetGives r output (refused_number a))

record SheetTold (r : Run) (output : List ℕ) (m : Closed) : Type 0 where
  told : ClosingTold r output m.output m.answer

written_number : (m : ℕ) → closing_number (Ok m) ≡ 0
unfolding closing_number
written_number m = refl

module _ (r : Run) (output : List ℕ) where
  -- The sheet from each number on.
  abbrev from28 : Closed
  from28 = written_if (receipts_allowed r.status r.head.calls) output (sheet_records r)

  abbrev from27 : Closed
  from27 =
      if not (all_finished r.status r.head.calls)
      then unwritten output answer.CallUnfinished
      else if ltb max_keys r.head.cells
      then unwritten output answer.Damaged
      else if not (balances_allowed r.keys r.cells r.head.cells)
      then unwritten output answer.Damaged
      else from28

  sheet_is : sheet_of r output ≡ (if not (large_enough (sizes_of r)) || ltb max_calls r.head.calls
      then unwritten output answer.Damaged
      else if not (states_allowed r.status r.head.calls) then unwritten output answer.Damaged else from27)
  unfolding sheet_of
  sheet_is = refl

  sheet_27 : Before27 r → sheet_of r output ≡ from27
  sheet_27 b =
      sheet_is
      ∙ rw (
        sizes_large (sizes_of r) b.large,
        le-ltb max_calls r.head.calls b.calls,
        (states_exact r.status r.head.calls).every.1 b.states,
      )

  sheet_28 : Before28 r → sheet_of r output ≡ from28
  sheet_28 b =
      sheet_27 b.so_far
      ∙ rw (
        (finished_exact r.status r.head.calls).every.1 b.finished,
        le-ltb max_keys r.head.cells b.cells,
        (balances_exact r.keys r.cells r.head.cells).every.1 b.balances,
      )

  of_answer : {m m' : Closed} → m ≡ m' → m.answer ≡ m'.answer
  of_answer e = ap (λ (m : Closed). m.answer) e

  -- 27 where a call is not finished; and no refusal but 28 where the receipts are in their ranges too.
  pub sheet_unfinished : Before27 r → ((c : ℕ) × (c < r.head.calls) × (CallFinished r c → ⊥)) → sheet_of r output ≡ unwritten output answer.CallUnfinished
  sheet_unfinished b u = sheet_27 b ∙ rw ((finished_exact r.status r.head.calls).one.1 u)

  pub sheet_written : Before28 r → ((c : ℕ) → c < r.head.calls → (status_word r.status c 1 ≤ last_outcome) × (status_word r.status c 2 ≤ max_count))
      → sheet_of r output ≡ written output (sheet_records r)
  sheet_written b receipts = sheet_28 b ∙ rw ((receipts_exact r.status r.head.calls).every.1 receipts)

  sheet_too_long : Before28 r → length output < length (sheet_bytes r) → (sheet_of r output).answer ≡ Err answer.SheetTooLong
  unfolding written_if
  sheet_too_long b h = of_answer (sheet_28 b) ∙ rw (lt-ltb (length output) (length (sheet_bytes r)) h)

  given_whole : Writable r output → sheet_of r output ≡ filled output (sheet_records r)
  unfolding written_if
  given_whole b =
      sheet_written b.so_far (λ c l. (b.outcomes c l, b.counts c l)) ∙ rw (le-ltb (length output) (length (sheet_bytes r)) b.fits)

  -- What the tests found, in the words of the statement; and with it the sheet says what it should.
  before_27 : FoundBefore27 r → Before27 r
  before_27 b =
      record {
        large = large_sizes (sizes_of r) b.large;
        calls = b.calls;
        states = (states_exact r.status r.head.calls).every.0 b.states;
      }

  before_28 : FoundBefore28 r → Before28 r
  before_28 b =
      record {
        so_far = before_27 b.so_far;
        finished = (finished_exact r.status r.head.calls).every.0 b.finished;
        cells = b.cells;
        balances = (balances_exact r.keys r.cells r.head.cells).every.0 b.balances;
      }

  sheet_told : SheetTold r output (sheet_of r output)
  unfolding answer_number refused_number
  sheet_told =
      sheet_each (SheetTold r output) r output
      record { told = (refl, λ d. absurd (d refl)) }
      (λ b e. record { told = (refl, λ d. (before_27 b, (finished_exact r.status r.head.calls).one.0 e)) })
      (λ b e. record { told = (refl, λ d. (before_28 b, e)) })
      λ b fits e.
      let receipts = (receipts_exact r.status r.head.calls).every.0 e in
      record { told = record { so_far = before_28 b; fits = fits; outcomes = λ c l. (receipts c l).0; counts = λ c l. (receipts c l).1 } }

  found : (k : Result ℕ Answer) → (sheet_of r output).answer ≡ k → ClosingTold r output (sheet_of r output).output k
  found k e = subst (ClosingTold r output (sheet_of r output).output) e sheet_told.told

  -- What a closing other than 20 says, by its number.
  closing_gives : (k : Result ℕ Answer) → (sheet_of r output).answer ≡ k → (closing_number k ≡ 20 → ⊥) → SheetGives r output (closing_number k)
  unfolding closing_number answer_number refused_number
  closing_gives (Ok n) e d = found (Ok n) e
  closing_gives (Err a) e d = (found (Err a) e).1 (λ f. d (ap refused_number f))

  pub closes : (n : ℕ) → (n ≡ 20 → ⊥) → Exactly (closing_number (sheet_of r output).answer ≡ n) (SheetGives r output n)
  unfolding closing_number answer_number refused_number
  closes n d = (
    λ e. subst (SheetGives r output) e (closing_gives (sheet_of r output).answer refl (λ f. d (sym e ∙ f))),
    chosen (closing_number (sheet_of r output).answer ≡ n) (eqb n 0) (λ e w. ap closing_number (of_answer (given_whole w)) ∙ sym (eqb-true n 0 e))
        (λ e₁. chosen (closing_number (sheet_of r output).answer ≡ n) (eqb n 27)
        (λ e g. ap closing_number (of_answer (sheet_unfinished g.0 g.1)) ∙ sym (eqb-true n 27 e))
        (λ e₂. chosen (closing_number (sheet_of r output).answer ≡ n) (eqb n 28)
        (λ e g. ap closing_number (sheet_too_long g.0 g.1) ∙ sym (eqb-true n 28 e)) (λ e₃ g. absurd g))),
  )

  pub sheet_writes : Exactly (sheet_of r output ≡ filled output (sheet_records r)) (Writable r output)
  sheet_writes = (λ e. found (Ok (offset_behind (sheet_records r))) (of_answer e), given_whole)

  -- "a refused .. sheet leaves them unchanged"
  pub unwritten_left : (closing_number (sheet_of r output).answer ≡ 0 → ⊥) → (sheet_of r output).output ≡ output
  unwritten_left n = go (sheet_of r output).answer refl n
    where
      go : (k : Result ℕ Answer) → (sheet_of r output).answer ≡ k → (closing_number k ≡ 0 → ⊥) → (sheet_of r output).output ≡ output
      go (Ok m) e n = absurd (n (written_number m))
      go (Err a) e n = (found (Err a) e).0
