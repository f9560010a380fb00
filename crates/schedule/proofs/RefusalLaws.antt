-- What an answer says: an accepted begin has passed every test, and a move that passes its tests is accepted.
use Prim.Native.Nat.{ℕ, zero, suc, ◌<◌}
use native.Mathlib.Omega.{arith}
use native.Mathlib.Decide.{ℕ_discrete}
use mathlib.Core.Path.{◌≡◌, refl}
use mathlib.Core.Bool.{Bool, true, false, cond, not, ◌&&◌, ◌||◌}
use lib.Dec.{leb}
use borrow.Author.Tests.{leb-false, lt-leb, not-false}
use Rattle.schedule.specs.declared.Move.TheVariants.{Begin, Step}
use Rattle.schedule.specs.Tally.{Seat, is_idle, blocked, refusal}
use Rattle.schedule.proofs.RunLaws.{one_answer}

-- One more call that does not block: it is no earlier conflicting call, or it is done.
module _ (x y z : Bool) where
  first : ((x && not y) || z) ≡ false → x ≡ true → y ≡ true
  first e q = go x y e q
    where
      go : (x y : Bool) → ((x && not y) || z) ≡ false → x ≡ true → y ≡ true
      go true true e q = refl
      go true false e q = one_answer refl e
      go false y e q = one_answer q refl

  rest : ((x && not y) || z) ≡ false → z ≡ false
  rest e = go x y e
    where
      go : (x y : Bool) → ((x && not y) || z) ≡ false → z ≡ false
      go true true e = e
      go true false e = one_answer refl e
      go false y e = e

  none : (x ≡ true → y ≡ true) → z ≡ false → ((x && not y) || z) ≡ false
  none h e = go x y h
    where
      go : (x y : Bool) → (x ≡ true → y ≡ true) → ((x && not y) || z) ≡ false
      go true y h = rw (h refl) e
      go false y h = e

module _ (before : ℕ → ℕ → Bool) (done : ℕ → Bool) (c : ℕ) where
  -- Every earlier conflicting call of `c` below `m` is done.
  abbrev pub Clear : ℕ → Type 0
  Clear m = (i : ℕ) → i < m → before i c ≡ true → done i ≡ true

  pub unblocked : (m : ℕ) → blocked before done c m ≡ false → Clear m
  unfolding blocked
  unblocked zero e i l b = absurd (omega arith)
  unblocked (suc m) e i l b = go (ℕ_discrete i m) (unblocked m (rest (before m c) (done m) (blocked before done c m) e) i)
    where
      go : Dec (i ≡ m) → (i < m → before i c ≡ true → done i ≡ true) → done i ≡ true
      go (yes q) ih = rw q (first (before m c) (done m) (blocked before done c m) e (rw q at b))
      go (no h) ih = ih (omega arith) b

  pub clear : (m : ℕ) → Clear m → blocked before done c m ≡ false
  unfolding blocked
  clear zero h = refl
  clear (suc m) h = none (before m c) (done m) (blocked before done c m) (h m (omega arith)) (clear m (λ i l. h i (omega arith)))

-- A test that refuses with a number has not applied where the answer is 0.
passed : (b : Bool) (r x : ℕ) → cond b (suc r) x ≡ 0 → (b ≡ false) × (x ≡ 0)
passed true r x e = absurd (omega arith)
passed false r x e = (refl, e)

module _ (workers n : ℕ) (before : ℕ → ℕ → Bool) (waits done : ℕ → Bool) (seat : ℕ → Seat) where
  -- The tests 21 to 25 of a begin, none of which applies.
  pub record Begins (w c : ℕ) : Type 0 where
    pub worker : w < workers
    pub call : c < n
    pub free : is_idle (seat w) ≡ true
    pub waits_yet : waits c ≡ true
    pub clear_of : Clear before done c c

  pub accepts_begin : (w c : ℕ) → Begins w c → refusal workers n before waits done seat (Begin w c) ≡ 0
  unfolding refusal
  accepts_begin w c b =
      simp (lt-leb workers w b.worker, lt-leb n c b.call, b.free, b.waits_yet, clear before done c c b.clear_of)

  pub accepts_step : (w : ℕ) → w < workers → is_idle (seat w) ≡ false → refusal workers n before waits done seat (Step w) ≡ 0
  unfolding refusal
  accepts_step w l e = simp (lt-leb workers w l, e)

  pub begin_passes : (w c : ℕ) → refusal workers n before waits done seat (Begin w c) ≡ 0 → Begins w c
  unfolding refusal
  begin_passes w c e =
      let p₁ = passed (leb workers w) 20 _ e in
      let p₂ = passed (leb n c) 21 _ p₁.1 in
      let p₃ = passed (not (is_idle (seat w))) 22 _ p₂.1 in
      let p₄ = passed (not (waits c)) 23 _ p₃.1 in
      let p₅ = passed (blocked before done c c) 24 _ p₄.1 in
      record {
        worker = leb-false workers w p₁.0;
        call = leb-false n c p₂.0;
        free = not-false (is_idle (seat w)) p₃.0;
        waits_yet = not-false (waits c) p₄.0;
        clear_of = unblocked before done c c p₅.0;
      }
