-- What the exported functions answer and leave, over plain values: a head that is too short, and one that is long enough.
use Rattle.std.specs.Prelude.{Result, Ok, Err}
use Rattle.machine.specs.declared.Answer.{Answer}
use mathlib.Core.Path.{◌≡◌, refl, sym, ap, ◌∙◌}
use mathlib.Core.List.{List, [], ◌∷◌}
use Prim.Native.Nat.{ℕ, zero, suc, ◌<◌, ◌≤◌}
use lib.IntN.{ℤ, pos}
use lib.ListN.{length, set}
use borrow.Author.Tests.{lt-ltb, le-ltb}
use Rattle.wire.specs.Bytes.{stored, repeated}
use Rattle.block.specs.Refusal.{number_of, offset_of, verdict_number, verdict_offset}
use Rattle.block.specs.declared.Refusal.{Refusal}
use Rattle.block.specs.declared.Refusal.TheVariants.{Buffers}
use Rattle.machine.specs.Answer.{answer_number, refused_number}
use Rattle.machine.specs.Run.{Run, Sizes}
use Rattle.machine.specs.Opening.{refused_run}
use Rattle.machine.specs.Moves.{Moved}
use Rattle.machine.specs.declared.Head.{Head}
use Rattle.machine.specs.declared.Answer.TheVariants.{Damaged}
use Rattle.moves.specs.Lent.{lent, moved, moved_by}
use Rattle.opening.specs.Opened.{sizes_for, opening_with, OpenedAs}
use Rattle.opening.proofs.Laws.{opened_as}
use Rattle.sheet.specs.Sheet.{closing_number, sheet_of}
use Rattle.closing.specs.Answered.{ClosedAs}
use Rattle.exports.specs.Words.{Words, words, head_words, head_in, run_in, held_stored}
use Rattle.exports.specs.Exports.{opening_for, opened_words, open_words, MovedWords, moved_words, move_words, length_after, sheet_for, closed_words, sheet_words}
use Rattle.exports.proofs.LengthLaws.{open_short, move_long, move_short}
use Rattle.exports.proofs.HeadLaws.{unmoved}

-- ---- openings

-- A head that is zero holds four zeros.
zero_set : (n i : ℕ) → set {A = ℕ} (repeated n 0) i 0 ≡ repeated n 0
unfolding repeated
zero_set zero i = refl
zero_set (suc n) zero = refl
zero_set (suc n) (suc i) = ap (λ (xs : List ℕ). 0 ∷ xs) (zero_set n i)

zero_head : (n : ℕ) → repeated {A = ℕ} n 0 ≡ stored (repeated n 0) 0 (0 ∷ 0 ∷ 0 ∷ 0 ∷ [])
unfolding stored
zero_head n = sym (rw (zero_set n 0, zero_set n 1, zero_set n 2) (zero_set n 3))

module _ (n : ℕ) (s : Sizes) (file : List ℕ) (workers : ℕ) {r : Result Head Refusal}
    {plan keys : List ℕ} {cells : List ℤ} {status seats : List ℕ} {frames : List ℤ} (made : OpenedAs r plan keys cells status seats frames (opening_for n s file workers)) where
  -- The head of what is opened.
  pub open_accepted : {h : Head} → r ≡ Ok h → {head : List ℕ} → head ≡ stored (repeated n 0) 0 (h.workers ∷ h.calls ∷ h.cells ∷ h.first_call ∷ [])
      → record { number = 0; offset = 0; words = words head plan keys cells status seats frames } ≡ open_words n s file workers
  unfolding verdict_number verdict_offset
  open_accepted {h} is put =
      rw put
      (ap (λ (x : Result Head Refusal). opened_words n (opening_with x plan keys cells status seats frames)) (sym is) ∙ ap (opened_words n) made.same)

  -- The number and the offset of a refusal, and a head of zeros.
  pub open_refused : {why : Refusal} → r ≡ Err why → {number offset : ℕ} {head : List ℕ} → number ≡ number_of why → offset ≡ offset_of why → head ≡ repeated n 0
      → record { number = number; offset = offset; words = words head plan keys cells status seats frames } ≡ open_words n s file workers
  unfolding verdict_number verdict_offset
  open_refused {why} is a b put =
      rw (a, b, put ∙ zero_head n)
      (ap (λ (x : Result Head Refusal). opened_words n (opening_with x plan keys cells status seats frames)) (sym is) ∙ ap (opened_words n) made.same)

-- A head that is too short: everything is cleared.
pub open_cleared :
    (n : ℕ) (file : List ℕ) (workers : ℕ) (p k v t u f : ℕ) {plan keys : List ℕ} {cells : List ℤ} {status seats : List ℕ} {frames : List ℤ}
    → n < head_words → plan ≡ repeated p 0 → keys ≡ repeated k 0 → cells ≡ repeated v (pos 0)
    → status ≡ repeated t 0 → seats ≡ repeated u 0 → frames ≡ repeated f (pos 0)
    → OpenedAs (Err Buffers) plan keys cells status seats frames (opening_for n (sizes_for p k v t u f) file workers)
unfolding refused_run
open_cleared n file workers p k v t u f short planned keyed celled stated seated framed =
    opened_as (rw (planned, keyed, celled, stated, seated, framed) (open_short n (sizes_for p k v t u f) file workers short))

-- ---- moves

module _ (move : Run → Moved) (l : Words) (worker : ℕ) where
  -- A head that is too short is left as it was, and so is the rest.
  pub move_refused : length l.head < head_words → {number : ℕ} → number ≡ refused_number Damaged
      → record { number = number; words = l } ≡ move_words move l worker
  unfolding answer_number
  move_refused short a =
      rw a
      (ap (λ (head : List ℕ). told (refused_number Damaged) head) (sym (unmoved l.head worker)) ∙ ap (moved_words l worker) (move_short move l short))
    where
      told : ℕ → List ℕ → MovedWords
      told number head =
          record { number = number; words = words head l.plan l.keys l.cells l.status l.seats l.frames }

  -- A move made on the head that was read, its worker's word stored.
  pub move_made :
      head_words ≤ length l.head → {h : Head} → h ≡ head_in l.head → {m : Moved}
      → m ≡ move (lent h l.plan l.keys l.cells l.status l.seats l.frames)
      → {head : List ℕ} → head ≡ held_stored l.head m.run.head worker → {number : ℕ} → number ≡ answer_number m.answer
      → record {
        number = number;
        words = words head m.run.plan m.run.keys m.run.cells m.run.status m.run.seats m.run.frames;
      } ≡ move_words move l worker
  move_made long read {m} made put a =
      rw (a, put) (ap (moved_words l worker) (made ∙ ap (λ (x : Head). move (lent x l.plan l.keys l.cells l.status l.seats l.frames)) read ∙ move_long move l long))

  module _ (long : head_words ≤ length l.head) {h : Head} (read : h ≡ head_in l.head) {r : Result Head Answer}
      {p k : List ℕ} {v : List ℤ} {t u : List ℕ} {f : List ℤ}
      (made : moved_by h r (λ x. lent x p k v t u f) ≡ move (lent h l.plan l.keys l.cells l.status l.seats l.frames)) where
    -- An accepted move: the word of its worker is stored.
    pub move_done : {after : Head} → r ≡ Ok after → {head : List ℕ} → head ≡ held_stored l.head after worker
        → record { number = 0; words = words head p k v t u f } ≡ move_words move l worker
    unfolding answer_number
    move_done {after} is put =
        move_made long read {m = moved (Ok tt) (lent after p k v t u f)}
        (ap (λ (x : Result Head Answer). moved_by h x (λ y. lent y p k v t u f)) (sym is) ∙ made) put refl

    -- A refused one: the head is as it was.
    pub move_left : {why : Answer} → r ≡ Err why → {number : ℕ} → number ≡ refused_number why
        → record { number = number; words = words l.head p k v t u f } ≡ move_words move l worker
    unfolding answer_number
    move_left {why} is a =
        move_made long read {m = moved (Err why) (lent h p k v t u f)}
        (ap (λ (x : Result Head Answer). moved_by h x (λ y. lent y p k v t u f)) (sym is) ∙ made)
        (sym (ap (λ (x : Head). held_stored l.head x worker) read ∙ unmoved l.head worker)) a

-- ---- sheets

module _ (l : Words) (output : List ℕ) (before : ℕ) where
  pub sheet_refused : length l.head < head_words → {number : ℕ} → number ≡ refused_number Damaged
      → record { number = number; sheet_length = before; output = output } ≡ sheet_words l output before
  unfolding sheet_for closing_number length_after
  sheet_refused short a = rw (a, lt-ltb (length l.head) head_words short)

  sheet_long : head_words ≤ length l.head → sheet_of (run_in l) output ≡ sheet_for l output
  unfolding sheet_for
  sheet_long long = rw (le-ltb (length l.head) head_words long)

  pub sheet_made :
      head_words ≤ length l.head → {h : Head} → h ≡ head_in l.head → {r : Result ℕ Answer} {written : List ℕ}
      → ClosedAs r written (sheet_of (lent h l.plan l.keys l.cells l.status l.seats l.frames) output)
      → {number size : ℕ} → number ≡ closing_number r → size ≡ length_after r before
      → record { number = number; sheet_length = size; output = written } ≡ sheet_words l output before
  sheet_made long read made a b =
      rw (a, b)
      (ap (closed_words before) (made.same ∙ ap (λ (x : Head). sheet_of (lent x l.plan l.keys l.cells l.status l.seats l.frames) output) read ∙ sheet_long long))

  module _ (long : head_words ≤ length l.head) {h : Head} (read : h ≡ head_in l.head) {r : Result ℕ Answer} {written : List ℕ}
      (made : ClosedAs r written (sheet_of (lent h l.plan l.keys l.cells l.status l.seats l.frames) output)) where
    -- A written sheet, and a refused one, which leaves the length.
    pub sheet_done : {n : ℕ} → r ≡ Ok n → record { number = 0; sheet_length = n; output = written } ≡ sheet_words l output before
    unfolding closing_number length_after
    sheet_done is = sheet_made long read made (sym (ap closing_number is)) (sym (ap (λ (x : Result ℕ Answer). length_after x before) is))

    pub sheet_left : {why : Answer} → r ≡ Err why → {number : ℕ} → number ≡ refused_number why
        → record { number = number; sheet_length = before; output = written } ≡ sheet_words l output before
    unfolding closing_number length_after
    sheet_left is a = sheet_made long read made (a ∙ sym (ap closing_number is)) (sym (ap (λ (x : Result ℕ Answer). length_after x before) is))
