-- What the tests of the head tell of BEGIN, over plain variables: which refusal they are, and that it is BEGIN's.
use mathlib.Core.Path.{◌≡◌, sym, ap, ◌∙◌}
use mathlib.Core.Bool.{Bool, true, false}
use mathlib.Core.List.{List}
use Prim.Native.Nat.{ℕ, ◌≤◌, ◌<◌}
use borrow.Author.Tests.{ne_eqb, lt-ltb, le-ltb, le-leb, lt-leb}
use lib.IntN.{ℤ}
use Rattle.std.specs.Prelude.{Err, if◌then◌else◌}
use Rattle.block.specs.Limits.{max_calls}
use Rattle.machine.specs.Run.{large_enough, sizes_of}
use Rattle.machine.specs.Moves.{stay, begin_by, begin_of}
use Rattle.machine.specs.declared.Head.{Head}
use Rattle.machine.specs.declared.Answer.{Answer}
use Rattle.machine.specs.declared.Answer.TheVariants.{Damaged, NoWorker, NoCall, WorkerBusy}
use Rattle.moves.specs.Lent.{lent}
use Rattle.moves.specs.Tests.{Tested, all_passed, unless_refused, worker_tested, head_tested}

module _ (calls busy c : ℕ) where
  pub head_many : max_calls < calls → ◌≡◌ {A = Tested} (Err Damaged) (head_tested calls busy c)
  head_many l = simp (lt-ltb max_calls calls l)

  module _ (few : calls ≤ max_calls) where
    pub head_past : calls ≤ c → ◌≡◌ {A = Tested} (Err NoCall) (head_tested calls busy c)
    head_past l = simp (le-ltb max_calls calls few, le-leb calls c l)

    module _ (own : c < calls) where
      pub head_lost : calls < busy → ◌≡◌ {A = Tested} (Err Damaged) (head_tested calls busy c)
      head_lost l = simp (le-ltb max_calls calls few, lt-leb calls c own, lt-ltb calls busy l)

      pub head_busy : busy ≤ calls → (busy ≡ 0 → ⊥) → ◌≡◌ {A = Tested} (Err WorkerBusy) (head_tested calls busy c)
      head_busy l some = simp (le-ltb max_calls calls few, lt-leb calls c own, le-ltb calls busy l, ne_eqb busy 0 some)

-- What follows a refusal by the tests of the worker.
worker_stops : {A : Type 0} (stop : Answer → A) (on : A) (p q : Bool) {a : Answer}
    → ◌≡◌ {A = Tested} (if p then Err Damaged else if q then Err NoWorker else all_passed) (Err a) → stop a ≡ (if p then stop Damaged else if q then stop NoWorker else on)
worker_stops stop on true q e = ap (λ (t : Tested). unless_refused t stop on) (sym e)
worker_stops stop on false true e = ap (λ (t : Tested). unless_refused t stop on) (sym e)
worker_stops stop on false false e = ap (λ (t : Tested). unless_refused t stop on) (sym e)

module _ (h : Head) (w c : ℕ) (plan keys status : List ℕ) (cells : List ℤ) (seats : List ℕ) (frames : List ℤ) {large : Bool} (sized : large ≡ large_enough (sizes_of (lent h plan keys cells status seats frames)))
    {t : Tested} (tested : t ≡ worker_tested large h.workers w) where
  pub begin_refused : {a : Answer} → t ≡ Err a → stay (lent h plan keys cells status seats frames) a ≡ begin_of (lent h plan keys cells status seats frames) w c
  unfolding begin_by
  begin_refused e =
      worker_stops (stay (lent h plan keys cells status seats frames)) _ _ _ (sym (ap (λ (b : Bool). worker_tested b h.workers w) sized) ∙ sym tested ∙ e)
