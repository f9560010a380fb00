-- Two laws of the serial order: a closed set of calls, run alone, agrees with the serial run on what its calls read or
-- write; and two adjacent calls whose sets are apart may be exchanged.
use Prim.Native.Nat.{ℕ, zero, suc, ◌<◌}
use native.Mathlib.Omega.{arith}
use mathlib.Core.Path.{◌≡◌, refl, sym, ap, ap₂, ◌∙◌}
use mathlib.Core.Bool.{Bool, true, false}
use mathlib.Core.List.{List, [], ◌∷◌, ◌++◌}
use Rattle.schedule.specs.Calls.{Calls, CallCourse, touches, Alike, Apart, steps_of, whole, alone, serial, steps_in_serial, Lawful, Laws}
use Rattle.schedule.proofs.RunLaws.{one_answer, wr_touches, RunsAlike, whole_good, whole_frame, whole_like, steps_like}
use Rattle.schedule.proofs.Expected.{ClosedUnderEarlier, alone_good, serial_good, alone_expected, alone_ahead}

module _ (Y : Calls) (s₀ : Y.State) (chosen : ℕ → Bool) (c : ℕ) where
  -- A call of the chosen set, run alone and in the serial run: the cells that it reads or writes, when it begins and
  -- when it has ended, its receipt and its steps.
  pub record Undisturbed : Type 0 where
    pub begins : Alike Y c (alone Y chosen s₀ c) (serial Y s₀ c)
    pub leaves : Alike Y c (alone Y chosen s₀ (suc c)) (serial Y s₀ (suc c))
    pub receipt : (whole Y c (alone Y chosen s₀ c)).course ≡ (whole Y c (serial Y s₀ c)).course
    pub steps : steps_of Y c (alone Y chosen s₀ c) ≡ steps_in_serial Y s₀ c

module _ (Y : Calls) (laws : Laws Y) (s₀ : Y.State) (good₀ : Y.Good s₀) where
  -- A closed set of calls, run alone, leaves each of its calls as in the serial run.
  pub closed_alone :
      (chosen : ℕ → Bool) → ClosedUnderEarlier Y chosen → (c : ℕ) → c < Y.calls → chosen c ≡ true → Undisturbed Y s₀ chosen c
  unfolding alone
  closed_alone chosen closed c l e =
      record { begins = alike; leaves = λ x t. rw e (like.cells x t); receipt = like.course; steps = steps_like Y c law r s g g' alike }
    where
      law : Lawful Y c
      law = laws.call c l

      r : Y.State
      r = alone Y chosen s₀ c

      s : Y.State
      s = serial Y s₀ c

      g : Y.Good r
      g = alone_good Y laws s₀ good₀ chosen c (omega arith)

      g' : Y.Good s
      g' = serial_good Y laws s₀ good₀ c (omega arith)

      alike : Alike Y c r s
      alike = alone_ahead Y laws s₀ good₀ chosen closed c l e (alone_expected Y laws s₀ good₀ chosen closed c (omega arith))

      like : RunsAlike Y c (whole Y c r) (whole Y c s)
      like = whole_like Y c law r s g g' alike

-- The calls below `m` in block order.
unfoldable pub block_order : ℕ → List ℕ
block_order zero = []
block_order (suc m) = block_order m ++ (m ∷ [])

-- Calls run whole, one after the other, in the order of a list: what they leave, and their receipts.
module _ (Y : Calls) where
  unfoldable pub in_order : List ℕ → Y.State → Y.State
  in_order [] s = s
  in_order (c ∷ cs) s = in_order cs (whole Y c s).state

  unfoldable pub receipts_of : List ℕ → Y.State → List (CallCourse Y.Local Y.Receipt)
  receipts_of [] s = []
  receipts_of (c ∷ cs) s = (whole Y c s).course ∷ receipts_of cs (whole Y c s).state

  -- The calls of the list are of the block.
  abbrev pub OfBlock : List ℕ → Type 0
  OfBlock [] = Unit {0}
  OfBlock (c ∷ cs) = (c < Y.calls) × OfBlock cs

  -- The two orders of `c` and `d` before the calls `cs`: every cell, and the receipts of `c`, of `d` and of the rest.
  pub record CallsExchanged (c d : ℕ) (cs : List ℕ) (s : Y.State) : Type 0 where
    pub cells : (x : ℕ) → Y.get (in_order (c ∷ (d ∷ cs)) s) x ≡ Y.get (in_order (d ∷ (c ∷ cs)) s) x
    pub first : (whole Y c s).course ≡ (whole Y c (whole Y d s).state).course
    pub second : (whole Y d (whole Y c s).state).course ≡ (whole Y d s).course
    pub rest : receipts_of cs (in_order (c ∷ (d ∷ [])) s) ≡ receipts_of cs (in_order (d ∷ (c ∷ [])) s)

  pub in_order_append : (cs ds : List ℕ) (s : Y.State) → in_order (cs ++ ds) s ≡ in_order ds (in_order cs s)
  unfolding in_order
  in_order_append [] ds s = refl
  in_order_append (c ∷ cs) ds s = in_order_append cs ds (whole Y c s).state

  -- The serial run is the block order.
  pub serial_in_order : (m : ℕ) (s : Y.State) → in_order (block_order m) s ≡ serial Y s m
  unfolding in_order alone block_order
  serial_in_order zero s = refl
  serial_in_order (suc m) s = in_order_append (block_order m) (m ∷ []) s ∙ ap (λ r. (whole Y m r).state) (serial_in_order m s)

module _ (Y : Calls) (laws : Laws Y) where
  -- States with the same cells run on to the same cells and receipts.
  order_cells :
      (cs : List ℕ) → OfBlock Y cs → (s s' : Y.State) → Y.Good s → Y.Good s' → ((x : ℕ) → Y.get s x ≡ Y.get s' x) →
      ((x : ℕ) → Y.get (in_order Y cs s) x ≡ Y.get (in_order Y cs s') x) × (receipts_of Y cs s ≡ receipts_of Y cs s')
  unfolding in_order receipts_of
  order_cells [] l s s' g g' h = (h, refl)
  order_cells (c ∷ cs) l s s' g g' h =
      let ih =
      order_cells cs l.1 (whole Y c s).state (whole Y c s').state (whole_good Y c law s g) (whole_good Y c law s' g')
      (λ x. same x (Y.wr c x) refl) in
      (ih.0, ap₂ ◌∷◌ like.course ih.1)
    where
      law : Lawful Y c
      law = laws.call c l.0

      like : RunsAlike Y c (whole Y c s) (whole Y c s')
      like = whole_like Y c law s s' g g' (λ x t. h x)

      same : (x : ℕ) (b : Bool) → Y.wr c x ≡ b → Y.get (whole Y c s).state x ≡ Y.get (whole Y c s').state x
      same x true e = like.cells x (wr_touches Y c x e)
      same x false e = whole_frame Y c law s g x e ∙ h x ∙ sym (whole_frame Y c law s' g' x e)

  -- A call that uses no cell that `c` may write finds the same after `c` as before it.
  aside :
      (c d : ℕ) → c < Y.calls → ((x : ℕ) → Y.wr c x ≡ true → touches Y d x ≡ false) → (s : Y.State) → Y.Good s →
      Alike Y d (whole Y c s).state s
  aside c d l apart s g x t = go (Y.wr c x) refl
    where
      go : (b : Bool) → Y.wr c x ≡ b → Y.get (whole Y c s).state x ≡ Y.get s x
      go true e = one_answer t (apart x e)
      go false e = whole_frame Y c (laws.call c l) s g x e

  -- Two adjacent calls whose sets are apart may be exchanged.
  pub calls_exchange :
      (c d : ℕ) → c < Y.calls → d < Y.calls → Apart Y c d → (cs : List ℕ) → OfBlock Y cs → (s : Y.State) → Y.Good s →
      CallsExchanged Y c d cs s
  unfolding in_order
  calls_exchange c d lc ld apart cs l s g =
      record { cells = after.0; first = sym like_c.course; second = like_d.course; rest = after.1 }
    where
      law_c : Lawful Y c
      law_c = laws.call c lc

      law_d : Lawful Y d
      law_d = laws.call d ld

      sc : Y.State
      sc = (whole Y c s).state

      sd : Y.State
      sd = (whole Y d s).state

      gc : Y.Good sc
      gc = whole_good Y c law_c s g

      gd : Y.Good sd
      gd = whole_good Y d law_d s g

      like_c : RunsAlike Y c (whole Y c sd) (whole Y c s)
      like_c = whole_like Y c law_c sd s gd g (aside d c ld apart.right s g)

      like_d : RunsAlike Y d (whole Y d sc) (whole Y d s)
      like_d = whole_like Y d law_d sc s gc g (aside c d lc apart.left s g)

      same :
          (x : ℕ) (b : Bool) → Y.wr c x ≡ b → (b' : Bool) → Y.wr d x ≡ b' →
          Y.get (whole Y d sc).state x ≡ Y.get (whole Y c sd).state x
      same x true e true e' = one_answer (wr_touches Y d x e') (apart.left x e)
      same x true e false e' = whole_frame Y d law_d sc gc x e' ∙ sym (like_c.cells x (wr_touches Y c x e))
      same x false e true e' = like_d.cells x (wr_touches Y d x e') ∙ sym (whole_frame Y c law_c sd gd x e)
      same x false e false e' =
          whole_frame Y d law_d sc gc x e' ∙ whole_frame Y c law_c s g x e
          ∙ sym (whole_frame Y c law_c sd gd x e ∙ whole_frame Y d law_d s g x e')

      after :
          ((x : ℕ) → Y.get (in_order Y cs (whole Y d sc).state) x ≡ Y.get (in_order Y cs (whole Y c sd).state) x)
          × (receipts_of Y cs (whole Y d sc).state ≡ receipts_of Y cs (whole Y c sd).state)
      after =
          order_cells cs l (whole Y d sc).state (whole Y c sd).state (whole_good Y d law_d sc gc) (whole_good Y c law_c sd gd)
          (λ x. same x (Y.wr c x) refl (Y.wr d x) refl)
