-- The calculator meets the laws that are asked of calls.
use Prim.Native.Nat.{ℕ, zero, suc, ◌+◌, ◌<◌}
use native.Mathlib.Omega.{arith}
use native.Mathlib.Decide.{ℕ_discrete, dec_lt}
use mathlib.Core.Path.{◌≡◌, refl, sym, ap, ap₂, subst, ◌∙◌}
use mathlib.Core.Bool.{Bool, true, false, ◌||◌}
use mathlib.Core.List.{List, [], ◌∷◌, ◌++◌}
use mathlib.Core.Logic.{◌⊎◌, inl, inr}
use lib.Dec.{eqb}
use lib.ListN.{length, get_or, set, length-set, get_or-eq_default}
use lib.Seq.{get_or-set_same, get_or-set_other, set_out}
use borrow.Author.Tests.{eqb-true, eq-eqb, ne_eqb}
use Rattle.arith.proofs.ChoiceLaws.{or_left, or_right, neither}
use Rattle.schedule.specs.Calls.{Calls, CallCourse, more, done, is_done, Apart, advance, trace, Lawful, Laws}
use Rattle.schedule.proofs.RunLaws.{one_answer}
use Rattle.schedule.specs.Calculator.{Instr, const, load, add, store, fail, stop, CalculatorResult, CalculatorLocal, loads, stores, code_cells, is_member, code_uses, some, conflicts, look, keep, put_back, act, code, calculator}

-- The calls of a block of codes over a register of `size` cells. A code ends at a stop or past its last instruction.

-- Sets: membership in a part, and in the whole.
single : (y x : ℕ) → y ≡ x → is_member (y ∷ []) x ≡ true
unfolding is_member
single y x e = rw (eq-eqb y x e)

member_left : (ys zs : List ℕ) (x : ℕ) → is_member ys x ≡ true → is_member (ys ++ zs) x ≡ true
unfolding is_member
member_left [] zs x e = one_answer e refl
member_left (y ∷ ys) zs x e = go (eqb y x) e (member_left ys zs x)
  where
    go :
        (b : Bool) → (b || is_member ys x) ≡ true → (is_member ys x ≡ true → is_member (ys ++ zs) x ≡ true) →
        (b || is_member (ys ++ zs) x) ≡ true
    go true e ih = refl
    go false e ih = ih e

member_right : (ys zs : List ℕ) (x : ℕ) → is_member zs x ≡ true → is_member (ys ++ zs) x ≡ true
unfolding is_member
member_right [] zs x e = e
member_right (y ∷ ys) zs x e = or_right (eqb y x) (is_member (ys ++ zs) x) (member_right ys zs x e)

-- What the instruction at a place reads or writes is in the set of the code.
fetched :
    (of : Instr → List ℕ) → of stop ≡ [] → (is : List Instr) (p x : ℕ) → is_member (of (get_or is p stop)) x ≡ true →
    is_member (code_cells of is) x ≡ true
unfolding is_member code_cells
fetched of z [] p x e = one_answer (rw z at e) refl
fetched of z (i ∷ is) zero x e = member_left (of i) (code_cells of is) x e
fetched of z (i ∷ is) (suc p) x e = member_right (of i) (code_cells of is) x (fetched of z is p x e)

-- No cell of the list passes the test.
none : (ys : List ℕ) (test : ℕ → Bool) → some ys test ≡ false → (x : ℕ) → is_member ys x ≡ true → test x ≡ false
unfolding some is_member
none [] test e x m = one_answer m refl
none (y ∷ ys) test e x m = go (eqb y x) refl m (none ys test (neither (test y) (some ys test) e).1 x)
  where
    go : (b : Bool) → eqb y x ≡ b → (b || is_member ys x) ≡ true → (is_member ys x ≡ true → test x ≡ false) → test x ≡ false
    go true q m ih = ap test (sym (eqb-true y x q)) ∙ (neither (test y) (some ys test) e).0
    go false q m ih = ih m

-- One cell set in two registers of one length.
look_set :
    (s s' : List ℕ) (y v x : ℕ) → length s ≡ length s' → look s x ≡ look s' x →
    look (set s y v) x ≡ look (set s' y v) x
look_set s s' y v x n e = go (ℕ_discrete x y) (dec_lt y (length s))
  where
    go : Dec (x ≡ y) → Dec (y < length s) → look (set s y v) x ≡ look (set s' y v) x
    go (no h) d = get_or-set_other s y x v 0 h ∙ e ∙ sym (get_or-set_other s' y x v 0 h)
    go (yes q) (yes l) = rw q (get_or-set_same s y v 0 l ∙ sym (get_or-set_same s' y v 0 (omega arith)))
    go (yes q) (no h) = rw (set_out s y v (omega arith), set_out s' y v (omega arith)) e

-- Old values put back: the length, the other cells, locality, and the cells themselves.
length_put_back : (ys os s : List ℕ) → length (put_back ys os s) ≡ length s
unfolding put_back
length_put_back [] os s = refl
length_put_back (y ∷ ys) [] s = refl
length_put_back (y ∷ ys) (o ∷ os) s = length-set (put_back ys os s) y o ∙ length_put_back ys os s

put_back_frame : (ys os s : List ℕ) (x : ℕ) → is_member ys x ≡ false → look (put_back ys os s) x ≡ look s x
unfolding put_back is_member
put_back_frame [] os s x e = refl
put_back_frame (y ∷ ys) [] s x e = refl
put_back_frame (y ∷ ys) (o ∷ os) s x e =
    let h = neither (eqb y x) (is_member ys x) e in
    get_or-set_other (put_back ys os s) y x o 0 (λ q. one_answer (eq-eqb y x (sym q)) h.0) ∙ put_back_frame ys os s x h.1

put_back_local :
    (ys os s s' : List ℕ) (x : ℕ) → length s ≡ length s' → look s x ≡ look s' x →
    look (put_back ys os s) x ≡ look (put_back ys os s') x
unfolding put_back
put_back_local [] os s s' x n e = e
put_back_local (y ∷ ys) [] s s' x n e = e
put_back_local (y ∷ ys) (o ∷ os) s s' x n e =
    look_set (put_back ys os s) (put_back ys os s') y o x
    (length_put_back ys os s ∙ n ∙ sym (length_put_back ys os s'))
    (put_back_local ys os s s' x n e)

put_back_keep :
    (ys s₁ s : List ℕ) (x : ℕ) → length s₁ ≡ length s → is_member ys x ≡ true →
    look (put_back ys (keep ys s₁) s) x ≡ look s₁ x
unfolding put_back keep is_member
put_back_keep [] s₁ s x n e = one_answer e refl
put_back_keep (y ∷ ys) s₁ s x n e = go (ℕ_discrete x y) (dec_lt y (length s₁)) (put_back_keep ys s₁ s x n)
  where
    r : List ℕ
    r = put_back ys (keep ys s₁) s

    len : length r ≡ length s
    len = length_put_back ys (keep ys s₁) s

    go :
        Dec (x ≡ y) → Dec (y < length s₁) → (is_member ys x ≡ true → look r x ≡ look s₁ x) →
        look (set r y (look s₁ y)) x ≡ look s₁ x
    go (no h) d ih = get_or-set_other r y x (look s₁ y) 0 h ∙ ih (rw (ne_eqb y x (λ q. h (sym q))) at e)
    go (yes q) (yes l) ih = rw q (get_or-set_same r y (look s₁ y) 0 (omega (arith, len)))
    go (yes q) (no h) ih =
        rw q
        (get_or-eq_default (set r y (look s₁ y)) 0 (omega (arith, len, length-set r y (look s₁ y)))
        ∙ sym (get_or-eq_default s₁ 0 (omega arith)))

-- What is kept depends on the cells that are kept.
keep_local : (ys s s' : List ℕ) → ((x : ℕ) → is_member ys x ≡ true → look s x ≡ look s' x) → keep ys s ≡ keep ys s'
unfolding keep is_member
keep_local [] s s' h = refl
keep_local (y ∷ ys) s s' h =
    ap₂ ◌∷◌ (h y (rw (eq-eqb y y refl))) (keep_local ys s s' (λ x e. h x (or_right (eqb y x) (is_member ys x) e)))

-- A call has ended, or is at the place `k`.
Ends : ℕ → CallCourse CalculatorLocal CalculatorResult → Type 0
Ends k q = (is_done q ≡ true) ⊎ ((a : ℕ) × (q ≡ more (record { place = k; acc = a })))

-- One instruction, whose cells are in the sets of its code.
module _ (ys os : List ℕ) (l : CalculatorLocal) where
  act_length : (i : Instr) (s : List ℕ) → length (act ys os i l s).state ≡ length s
  act_length (const k) s = refl
  act_length (load y) s = refl
  act_length (add y) s = refl
  act_length (store y) s = length-set s y l.acc
  act_length fail s = length_put_back ys os s
  act_length stop s = refl

  act_frame :
      (i : Instr) (s : List ℕ) (x : ℕ) → (is_member (stores i) x ≡ true → is_member ys x ≡ true) → is_member ys x ≡ false →
      look (act ys os i l s).state x ≡ look s x
  act_frame (const k) s x w e = refl
  act_frame (load y) s x w e = refl
  act_frame (add y) s x w e = refl
  act_frame (store y) s x w e = get_or-set_other s y x l.acc 0 (λ q. one_answer (w (single y x (sym q))) e)
  act_frame fail s x w e = put_back_frame ys os s x e
  act_frame stop s x w e = refl

  act_course :
      (i : Instr) (s s' : List ℕ) → ((x : ℕ) → is_member (loads i) x ≡ true → look s x ≡ look s' x) →
      (act ys os i l s).course ≡ (act ys os i l s').course
  act_course (const k) s s' h = refl
  act_course (load y) s s' h = rw (h y (single y y refl))
  act_course (add y) s s' h = rw (h y (single y y refl))
  act_course (store y) s s' h = refl
  act_course fail s s' h = refl
  act_course stop s s' h = refl

  act_cells :
      (i : Instr) (s s' : List ℕ) → length s ≡ length s' → (x : ℕ) → look s x ≡ look s' x →
      look (act ys os i l s).state x ≡ look (act ys os i l s').state x
  act_cells (const k) s s' n x e = e
  act_cells (load y) s s' n x e = e
  act_cells (add y) s s' n x e = e
  act_cells (store y) s s' n x e = look_set s s' y l.acc x n e
  act_cells fail s s' n x e = put_back_local ys os s s' x n e
  act_cells stop s s' n x e = e

  -- It goes on to the next place, or ends.
  act_place : (i : Instr) (s : List ℕ) → Ends (suc l.place) (act ys os i l s).course
  unfolding Ends
  act_place (const k) s = inr (k, refl)
  act_place (load y) s = inr (look s y, refl)
  act_place (add y) s = inr (l.acc + look s y, refl)
  act_place (store y) s = inr (l.acc, refl)
  act_place fail s = inl refl
  act_place stop s = inl refl

module _ (block : List (List Instr)) (size : ℕ) where
  abbrev Y : Calls
  Y = calculator block size

  -- After `k` steps a call has ended or is at place `k`, so it ends one step past its code at the latest.
  at_place : (l : CalculatorLocal) (k a : ℕ) → ◌≡◌ {A = CallCourse CalculatorLocal CalculatorResult} (more l) (more (record { place = k; acc = a })) → l.place ≡ k
  at_place l k a e = let z : l ≡ record { place = k; acc = a } = cc in ap (λ m. m.place) z

  ends_at : (c : ℕ) (s : List ℕ) (k : ℕ) → Ends k (trace Y c s k).course
  unfolding trace Ends
  ends_at c s zero = inr (0, refl)
  ends_at c s (suc k) = go (trace Y c s k).course (trace Y c s k).state (ends_at c s k)
    where
      ys : List ℕ
      ys = code_cells stores (code block c)

      go : (q : CallCourse CalculatorLocal CalculatorResult) (t : List ℕ) → Ends k q → Ends (suc k) (advance Y c (keep ys s) q t).course
      go (done r) t h = inl refl
      go (more l) t (inl e) = one_answer e refl
      go (more l) t (inr h) =
          subst (λ j. Ends (suc j) (advance Y c (keep ys s) (more l) t).course) (at_place l k h.0 h.1)
          (act_place ys (keep ys s) l (get_or (code block c) l.place stop) t)

  ends_past : (c : ℕ) (s : List ℕ) → is_done (trace Y c s (suc (length (code block c)))).course ≡ true
  unfolding trace Ends
  ends_past c s = go (trace Y c s (length is)).course (trace Y c s (length is)).state (ends_at c s (length is))
    where
      is : List Instr
      is = code block c

      ys : List ℕ
      ys = code_cells stores is

      go : (q : CallCourse CalculatorLocal CalculatorResult) (t : List ℕ) → Ends (length is) q → is_done (advance Y c (keep ys s) q t).course ≡ true
      go (done r) t h = refl
      go (more l) t (inl e) = one_answer e refl
      go (more l) t (inr h) = rw (get_or-eq_default is stop {n = l.place} (omega (arith, at_place l (length is) h.0 h.1)))

  -- The laws hold of every block, with the codes' own conflict test.
  pub calculator_laws : Laws Y
  unfolding conflicts
  calculator_laws = record { apart = apart; call = λ c l. lawful c }
    where
      apart : (i j : ℕ) → i < j → j < length block → conflicts (code block i) (code block j) ≡ false → Apart Y i j
      apart i j l l' e =
          let a = code block i in
          let b = code block j in
          let h = neither (some (code_cells stores a) (code_uses b)) (some (code_cells stores b) (code_uses a)) e in
          record { left = none (code_cells stores a) (code_uses b) h.0; right = none (code_cells stores b) (code_uses a) h.1 }

      lawful : (c : ℕ) → Lawful Y c
      lawful c =
          record {
            save_local = λ s s' g g' a. keep_local ys s s' (λ x e. a x (or_right (is_member (code_cells loads is) x) (is_member ys x) e));
            step_good = λ s₁ s g₁ g l. act_length ys (keep ys s₁) l (at l) s ∙ g;
            step_frame = λ s₁ s g₁ g l x. act_frame ys (keep ys s₁) l (at l) s x (fetched stores refl is l.place x);
            step_course =
                λ s₁ s s' g₁ g g' a l. act_course ys (keep ys s₁) l (at l) s s'
                (λ x e. a x (or_left (is_member (code_cells loads is) x) (is_member ys x) (fetched loads refl is l.place x e)));
            step_cells = λ s₁ s s' g₁ g g' a l x t. act_cells ys (keep ys s₁) l (at l) s s' (g ∙ sym g') x (a x t);
            restore_good = λ s₁ s g₁ g. length_put_back ys (keep ys s₁) s ∙ g;
            restore_back = λ s₁ s g₁ g x. put_back_keep ys s₁ s x (g₁ ∙ sym g);
            restore_frame = λ s₁ s g₁ g x. put_back_frame ys (keep ys s₁) s x;
            ends = λ s g. ends_past c s;
          }
        where
          is : List Instr
          is = code block c

          ys : List ℕ
          ys = code_cells stores is

          at : CalculatorLocal → Instr
          at l = get_or is l.place stop
