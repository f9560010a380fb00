-- What holds of every tally that moves reach: who holds what, and that a begun call's earlier conflicting calls are finished.
use Prim.Native.Nat.{ℕ, suc, ◌<◌}
use native.Mathlib.Omega.{arith}
use native.Mathlib.Decide.{ℕ_discrete}
use mathlib.Core.Path.{◌≡◌, refl, sym, ap, ◌∙◌}
use mathlib.Core.Bool.{Bool, true, false, cond}
use borrow.Author.Tests.{eq-eqb, ne_eqb, eqb-true, eqb-false}
use Rattle.schedule.specs.declared.Move.TheVariants.{Begin}
use Rattle.schedule.specs.Tally.{Phase, waiting, running, finished, Seat, idle, holds, Tally, is_waiting, is_finished, is_idle, put, start, answer, is_last, next, held, place, has_begun}
use Rattle.schedule.proofs.RefusalLaws.{Begins, begin_passes}
use Rattle.schedule.proofs.RunLaws.{one_answer}

-- A choice by a test, from its two cases.
cond_all : {A : Type 0} (P : A → Type 0) (b : Bool) (x y : A) → (b ≡ true → P x) → (b ≡ false → P y) → P (cond b x y)
cond_all P true x y f g = f refl
cond_all P false x y f g = g refl

-- A function with a new value at one number.
module _ {A : Type 0} (f : ℕ → A) (i : ℕ) (v : A) where
  pub put_here : put f i v i ≡ v
  unfolding put
  put_here = rw (eq-eqb i i refl, put)

  pub put_there : (j : ℕ) → ¬ (j ≡ i) → put f i v j ≡ f j
  unfolding put
  put_there j h = rw (ne_eqb j i h, put)

  -- A fact about each value, from the new one and the others.
  pub put_all : (P : ℕ → A → Type 0) → P i v → ((j : ℕ) → ¬ (j ≡ i) → P j (f j)) → (j : ℕ) → P j (put f i v j)
  put_all P new old j = go (ℕ_discrete j i)
    where
      go : Dec (j ≡ i) → P j (put f i v j)
      go (yes e) = rw (e, put_here) new
      go (no h) = rw (put_there j h) (old j h)

-- The tests of a phase say which it is.
pub is_waiting_lem : (p : Phase) → is_waiting p ≡ true → p ≡ waiting
is_waiting_lem waiting e = refl
is_waiting_lem (running k) e = one_answer e refl
is_waiting_lem finished e = one_answer e refl

pub is_finished_lem : (p : Phase) → is_finished p ≡ true → p ≡ finished
is_finished_lem waiting e = one_answer e refl
is_finished_lem (running k) e = one_answer e refl
is_finished_lem finished e = refl

-- One step more: the call is finished at the number of steps, and runs on short of it.
pub next_all :
    (P : Phase → Type 0) (s k : ℕ) → (suc k ≡ s → P finished) → (¬ (suc k ≡ s) → P (running (suc k))) →
    P (next s (running k))
unfolding next
next_all P s k last more =
    cond_all P (is_last s k) finished (running (suc k))
    (λ e. last (omega (arith, eqb-true)))
    (λ e. more (omega (arith, eqb-false)))

-- A worker that still holds a call holds one that runs.
held_runs : (c d : ℕ) (p : Phase) → held c p ≡ holds d → (c ≡ d) × ((k : ℕ) × (p ≡ running k))
held_runs c d waiting e = let z : ◌≡◌ {A = ℕ} 0 1 = cc in absurd (omega arith)
held_runs c d (running k) e = (cc, (k, refl))
held_runs c d finished e = let z : ◌≡◌ {A = ℕ} 0 1 = cc in absurd (omega arith)

-- The phases and seats of a tally, and what an accepted move changes of them.
module _ (workers n : ℕ) (before : ℕ → ℕ → Bool) (steps : ℕ → ℕ) where
  pub record Valid (t : Tally) : Type 0 where
    -- a begun call is one of the block, and has not made all of its steps while it runs
    pub known : (c : ℕ) → has_begun (t.phase c) ≡ true → c < n
    pub short : (c k : ℕ) → t.phase c ≡ running k → k < steps c
    -- a begun call's earlier conflicting calls are finished
    pub order : (i j : ℕ) → i < j → before i j ≡ true → has_begun (t.phase j) ≡ true → t.phase i ≡ finished
    -- a worker holds a running call, and each running call is held by one worker
    pub there : (w c : ℕ) → t.seat w ≡ holds c → w < workers
    pub runs : (w c : ℕ) → t.seat w ≡ holds c → (k : ℕ) × (t.phase c ≡ running k)
    pub sole : (w w' c : ℕ) → t.seat w ≡ holds c → t.seat w' ≡ holds c → w ≡ w'
    pub worker : (c k : ℕ) → t.phase c ≡ running k → (w : ℕ) × (t.seat w ≡ holds c)

  pub valid_start : Valid start
  valid_start =
      record {
        known = λ c e. one_answer e refl;
        short = λ c k e. clash e;
        order = λ i j l b e. one_answer e refl;
        there = λ w c e. clash' e;
        runs = λ w c e. clash' e;
        sole = λ w w' c e. clash' e;
        worker = λ c k e. clash e;
      }
    where
      clash : {A : Type 0} {k : ℕ} → waiting ≡ running k → A
      clash e = let z : ◌≡◌ {A = ℕ} 0 1 = cc in absurd (omega arith)

      clash' : {A : Type 0} {c : ℕ} → idle ≡ holds c → A
      clash' e = let z : ◌≡◌ {A = ℕ} 0 1 = cc in absurd (omega arith)

  -- The call `c` of the worker `w` may come into the phase `p`: `c` is unfinished, its earlier conflicting calls are
  -- finished, and no other worker holds `c` nor `w` another call.
  pub record PhaseChange (t : Tally) (w c : ℕ) (p : Phase) : Type 0 where
    pub worker : w < workers
    pub call : c < n
    pub unfinished : is_finished (t.phase c) ≡ false
    pub earlier : (i : ℕ) → i < c → before i c ≡ true → t.phase i ≡ finished
    pub short : (k : ℕ) → p ≡ running k → k < steps c
    pub mine : (d : ℕ) → t.seat w ≡ holds d → d ≡ c
    pub sole : (v : ℕ) → t.seat v ≡ holds c → v ≡ w

  -- A change keeps the tally valid.
  pub valid_place : (t : Tally) (w c : ℕ) (p : Phase) → Valid t → PhaseChange t w c p → Valid (place t w c p)
  unfolding place
  valid_place t w c p v h =
      record {
        known = put_all t.phase c p (λ d q. has_begun q ≡ true → d < n) (λ e. h.call) (λ d x. v.known d);
        short = put_all t.phase c p (λ d q. (k : ℕ) → q ≡ running k → k < steps d) h.short (λ d x. v.short d);
        order =
            λ i. put_all t.phase c p (λ j q. i < j → before i j ≡ true → has_begun q ≡ true → phase i ≡ finished)
            (order_new i) (order_old i);
        there = put_all t.seat w (held c p) (λ u q. (d : ℕ) → q ≡ holds d → u < workers) (λ d e. h.worker) (λ u x. v.there u);
        runs = put_all t.seat w (held c p) (λ u q. (d : ℕ) → q ≡ holds d → (k : ℕ) × (phase d ≡ running k)) runs_new runs_old;
        sole =
            λ u u' d. put_all t.seat w (held c p) (λ u q. q ≡ holds d → seat u' ≡ holds d → u ≡ u')
            (sole_new u' d) (sole_old u' d) u;
        worker = put_all t.phase c p (λ d q. (k : ℕ) → q ≡ running k → (u : ℕ) × (seat u ≡ holds d)) worker_new worker_old;
      }
    where
      phase : ℕ → Phase
      phase = put t.phase c p

      seat : ℕ → Seat
      seat = put t.seat w (held c p)

      order_new : (i : ℕ) → i < c → before i c ≡ true → has_begun p ≡ true → phase i ≡ finished
      order_new i l b e = put_there t.phase c p i (omega arith) ∙ h.earlier i l b

      order_old : (i j : ℕ) → ¬ (j ≡ c) → i < j → before i j ≡ true → has_begun (t.phase j) ≡ true → phase i ≡ finished
      order_old i j x l b e =
          put_all t.phase c p (λ i q. i < j → before i j ≡ true → q ≡ finished)
          (λ l b. one_answer (ap is_finished (v.order c j l b e)) h.unfinished)
          (λ i y l b. v.order i j l b e) i l b

      runs_new : (d : ℕ) → held c p ≡ holds d → (k : ℕ) × (phase d ≡ running k)
      runs_new d e =
          let r = held_runs c d p e in
          (r.1.0, ap phase (sym r.0) ∙ put_here t.phase c p ∙ r.1.1)

      runs_old : (u : ℕ) → ¬ (u ≡ w) → (d : ℕ) → t.seat u ≡ holds d → (k : ℕ) × (phase d ≡ running k)
      runs_old u x d e =
          let r = v.runs u d e in
          (r.0, put_there t.phase c p d (λ q. x (h.sole u (e ∙ ap holds q))) ∙ r.1)

      sole_new : (u d : ℕ) → held c p ≡ holds d → seat u ≡ holds d → w ≡ u
      sole_new u d e =
          put_all t.seat w (held c p) (λ u q. q ≡ holds d → w ≡ u) (λ f. refl)
          (λ u x f. sym (h.sole u (f ∙ ap holds (sym (held_runs c d p e).0)))) u

      sole_old : (u' d u : ℕ) → ¬ (u ≡ w) → t.seat u ≡ holds d → seat u' ≡ holds d → u ≡ u'
      sole_old u' d u x e =
          put_all t.seat w (held c p) (λ u' q. q ≡ holds d → u ≡ u')
          (λ f. h.sole u (e ∙ ap holds (sym (held_runs c d p f).0)))
          (λ u' y f. v.sole u u' d e f) u'

      worker_new : (k : ℕ) → p ≡ running k → (u : ℕ) × (seat u ≡ holds c)
      worker_new k e = (w, put_here t.seat w (held c p) ∙ ap (held c) e)

      worker_old : (d : ℕ) → ¬ (d ≡ c) → (k : ℕ) → t.phase d ≡ running k → (u : ℕ) × (seat u ≡ holds d)
      worker_old d x k e =
          let r = v.worker d k e in
          (r.0, put_there t.seat w (held c p) r.0 (λ q. x (h.mine d (ap t.seat (sym q) ∙ r.1))) ∙ r.1)

  -- An accepted begin has passed the tests, on a call that waits.
  abbrev Passes : Tally → ℕ → ℕ → Type 0
  Passes t w c = Begins workers n before (λ i. is_waiting (t.phase i)) (λ i. is_finished (t.phase i)) t.seat w c

  passes : (t : Tally) (w c : ℕ) → answer workers n before t (Begin w c) ≡ 0 → Passes t w c
  unfolding answer
  passes t w c e = begin_passes workers n before (λ i. is_waiting (t.phase i)) (λ i. is_finished (t.phase i)) t.seat w c e

  pub begin_waits : (t : Tally) (w c : ℕ) → answer workers n before t (Begin w c) ≡ 0 → t.phase c ≡ waiting
  begin_waits t w c e = is_waiting_lem (t.phase c) (passes t w c e).waits_yet

  -- What an accepted begin changes, and a step or cancel of a worker that holds a call.
  pub change_begin :
      ((c : ℕ) → c < n → 0 < steps c) → (t : Tally) → Valid t → (w c : ℕ) → answer workers n before t (Begin w c) ≡ 0 →
      PhaseChange t w c (running 0)
  change_begin positive t v w c e =
      let b = passes t w c e in
      record {
        worker = b.worker;
        call = b.call;
        unfinished = ap is_finished (begin_waits t w c e);
        earlier = λ i l q. is_finished_lem (t.phase i) (b.clear_of i l q);
        short = λ k q. let z : 0 ≡ k = cc in omega (arith, positive c b.call);
        mine = λ d q. one_answer b.free (ap is_idle q);
        sole = λ u q. one_answer b.waits_yet (ap is_waiting (v.runs u c q).1);
      }

  pub change_held :
      (t : Tally) → Valid t → (w c k : ℕ) → t.seat w ≡ holds c → t.phase c ≡ running k → (p : Phase) →
      ((k : ℕ) → p ≡ running k → k < steps c) → PhaseChange t w c p
  change_held t v w c k e r p short =
      record {
        worker = v.there w c e;
        call = v.known c (ap has_begun r);
        unfinished = ap is_finished r;
        earlier = λ i l b. v.order i c l b (ap has_begun r);
        short = short;
        mine = λ d q. let z : holds c ≡ holds d = sym e ∙ q in cc;
        sole = λ u q. v.sole u w c q e;
      }

  pub change_step :
      (t : Tally) → Valid t → (w c k : ℕ) → t.seat w ≡ holds c → t.phase c ≡ running k → PhaseChange t w c (next (steps c) (running k))
  change_step t v w c k e r = change_held t v w c k e r (next (steps c) (running k)) (λ j. short j)
    where
      short : (j : ℕ) → next (steps c) (running k) ≡ running j → j < steps c
      short j =
          next_all (λ p. p ≡ running j → j < steps c) (steps c) k
          (λ l q. let z : ◌≡◌ {A = ℕ} 0 1 = cc in absurd (omega arith))
          (λ l q. let z : suc k ≡ j = cc in omega (arith, v.short c k r))
