-- What a call leaves of the cells: nothing outside its write set, after any number of steps; and of a register, read by the places of a table of
-- keys in its buffer, what a transaction with safe sets leaves.
use mathlib.Core.Path.{◌≡◌, refl, sym, ap, subst⁻¹, ◌∙◌}
use mathlib.Core.Bool.{Bool, true, false, ◌&&◌, ◌||◌, false≢true}
use mathlib.Core.List.{List, [], ◌∷◌, map}
use Prim.Native.Nat.{ℕ, zero, suc, ◌<◌}
use borrow.Author.Tests.{eqb-true}
use lib.Dec.{eqb}
use lib.IntN.{ℤ, pos}
use lib.ListN.{length, get_or}
use Rattle.std.specs.Prelude.{if◌then◌else◌, Some, slice_get}
use Rattle.block.specs.Record.{Function, Cell}
use Rattle.block.specs.declared.Call.{Call}
use Rattle.footprint.specs.Access.{Access}
use Rattle.footprint.specs.SafeSets.{AlikeOn, LeftAlike}
use Rattle.footprint.specs.Conflict.{member}
use Rattle.footprint.proofs.ConflictLaws.{member_pick}
use Rattle.footprint.specs.Plan.{opening_value}
use Rattle.rule.specs.Rule.{State, Left, transaction, transactions, state_left}
use Rattle.footprint.specs.Sets.{read_set, write_set}
use Rattle.footprint.specs.Table.{cell_number}
use Rattle.footprint.specs.KeyWords.{key_at, keys_in, RisingKeys}
use Rattle.footprint.specs.Listed.{AllListed}
use Rattle.footprint.proofs.TableLaws.{member_at, cell_lt, number_key, cell_at_lem}
use Rattle.footprint.proofs.TableWordLaws.{keys_length, keys_at}
use Rattle.machine.specs.CallInRun.{Hold, LeavesAsRule}
use Rattle.machine.specs.Step.{View, Stepped, damaged, more, done, cell_at, step_call}
use Rattle.guarantees.proofs.CallsOfRun.ViewCalls.{point_of}
use Rattle.guarantees.proofs.CallsOfRun.ViewFrame.{WriteSetOnly, step_keeps}
use Rattle.guarantees.specs.Demand2.{cellsLeft, cells_after, LeavesAlike}

-- A key of listed entries that have a flag is in the table: of a read set, and of a write set.
module _ (set : List Access → List ℕ) (flag : Access → Bool) (none : set [] ≡ [])
    (next : (e : Access) (es : List Access) → set (e ∷ es) ≡ (if flag e then e.key ∷ set es else set es)) where
  flag_listed : (table : List ℕ) (es : List Access) → AllListed table es → (k : ℕ) → member k (set es) ≡ true → member k table ≡ true
  unfolding member
  flag_listed table [] all k m = absurd (false≢true (sym (ap (member k) none) ∙ m))
  flag_listed table (e ∷ es) all k m =
      go (flag e) (eqb k e.key) refl (flag_listed table es all.1 k)
      (sym (member_pick k e.key (set es) (flag e)) ∙ sym (ap (member k) (next e es)) ∙ m)
    where
      go : (b t : Bool) → eqb k e.key ≡ t → (member k (set es) ≡ true → member k table ≡ true)
          → ((b && t) || member k (set es)) ≡ true → member k table ≡ true
      go true true same later h = subst⁻¹ (λ (l : ℕ). member l table ≡ true) (eqb-true k e.key same) all.0.in_table
      go true false same later h = later h
      go false t same later h = later h

pub read_listed : (table : List ℕ) (es : List Access) → AllListed table es → (k : ℕ) → member k (read_set es) ≡ true → member k table ≡ true
unfolding read_set
read_listed = flag_listed read_set (λ e. e.reads) refl (λ e es. refl)

pub write_listed : (table : List ℕ) (es : List Access) → AllListed table es → (k : ℕ) → member k (write_set es) ≡ true → member k table ≡ true
unfolding write_set
write_listed = flag_listed write_set (λ e. e.writes) refl (λ e es. refl)

-- A key that is not in a table is in no list whose keys all are.
pub off_table : (keys table : List ℕ) (k : ℕ) → (member k keys ≡ true → member k table ≡ true) → member k table ≡ false → member k keys ≡ false
off_table keys table k sub out = go (member k keys) refl
  where
    go : (t : Bool) → member k keys ≡ t → t ≡ false
    go true e = absurd (false≢true (sym out ∙ sub e))
    go false e = refl

-- "an absent cell reads 0"
pub opening_elsewhere : (cs : List Cell) (k : ℕ) → member k (map (λ c. c.key) cs) ≡ false → opening_value cs k ≡ pos 0
unfolding opening_value member
opening_elsewhere [] k out = refl
opening_elsewhere (c ∷ cs) k out = go (eqb k c.key) out (opening_elsewhere cs k)
  where
    go : (t : Bool) → (t || member k (map (λ d. d.key) cs)) ≡ false → (member k (map (λ d. d.key) cs) ≡ false → opening_value cs k ≡ pos 0)
        → (if t then c.value else opening_value cs k) ≡ pos 0
    go true e later = absurd (false≢true (sym e))
    go false e later = later e

-- What every transaction of a list of calls keeps, all of them keep.
pub lefts_keep : (file : List ℕ) (functions : List Function) (K : State → Type 0) (calls : List Call)
    → ((i : ℕ) (c : Call) → slice_get calls i ≡ Some c → (σ : State) → K σ → K (transaction file functions c σ).state)
    → (σ : State) → K σ → K (state_left σ (transactions file functions calls σ))
unfolding state_left transactions
lefts_keep file functions K [] each σ holds = holds
lefts_keep file functions K (c ∷ cs) each σ holds =
    lefts_keep file functions K cs (λ i x h. each (suc i) x h) (transaction file functions c σ).state (each 0 c refl σ holds)

-- ---- the steps of a call

kept_on : (es : List ℕ) (s t u : List ℤ) → WriteSetOnly es s t → WriteSetOnly es t u → WriteSetOnly es s u
kept_on es s t u first second =
    record { room = second.room ∙ first.room; frame = λ x out. second.frame x out ∙ first.frame x out }

left_kept : (es : List ℕ) (cells : List ℤ) (t : Stepped) → WriteSetOnly es cells (point_of cells t).state → WriteSetOnly es cells (cellsLeft cells t)
unfolding point_of
left_kept es cells damaged h = h
left_kept es cells (more l after) h = h
left_kept es cells (done outcome count after) h = h

-- After any number of steps every cell outside the write set is as it was.
pub steps_keep : (v : View) (first : List ℤ) (k : ℕ) (before : List ℤ) (s : Stepped) → WriteSetOnly v.entries first (cellsLeft before s)
    → WriteSetOnly v.entries first before → WriteSetOnly v.entries first (cells_after k v before s)
unfolding cells_after
steps_keep v first zero before s kept was = kept
steps_keep v first (suc k) before damaged kept was = was
steps_keep v first (suc k) before (more l cells) kept was =
    steps_keep v first k cells (step_call v l cells)
    (kept_on v.entries first cells (cellsLeft cells (step_call v l cells)) kept
    (left_kept v.entries cells (step_call v l cells) (step_keeps v l cells)))
    kept
steps_keep v first (suc k) before (done outcome count cells) kept was = kept

-- ---- a table

-- The first n keys of a buffer, which rise.
module _ (n : ℕ) (words : List ℕ) (rising : RisingKeys (keys_in n words)) where
  abbrev table : List ℕ
  table = keys_in n words

  inside : (x : ℕ) → x < n → x < length table
  inside x less = rw (keys_length n words) less

  -- Each cell holds what the state has for the key at its place.
  pub held_at : (σ : State) (cells : List ℤ) → Hold (keys_in n words) σ cells → (x : ℕ) → x < n → cell_at cells x ≡ σ (key_at words x)
  held_at σ cells hold x less =
      ap (cell_at cells) (sym (cell_at_lem table x rising (inside x less)))
      ∙ hold.same (get_or table x 0) (member_at table x (inside x less))
      ∙ ap σ (keys_at n words x less)

  -- Cells alike at the places of some keys of the table hold states that are alike on these keys.
  pub held_alike : (keys : List ℕ) → ((k : ℕ) → member k keys ≡ true → member k (keys_in n words) ≡ true)
      → (σ τ : State) (cells cells' : List ℤ) → Hold (keys_in n words) σ cells → Hold (keys_in n words) τ cells'
      → ((x : ℕ) → x < n → member (key_at words x) keys ≡ true → cell_at cells x ≡ cell_at cells' x)
      → AlikeOn (λ k. member k keys ≡ true) σ τ
  held_alike keys listed σ τ cells cells' hold hold' same k m =
      let x : ℕ = cell_number table k in
      let less : cell_number table k < n = rw (keys_length n words) at (cell_lt table k (listed k m)) in
      let key : key_at words (cell_number table k) ≡ k = sym (keys_at n words x less) ∙ number_key table k (listed k m) in
      sym (hold.same k (listed k m))
      ∙ same x less (ap (λ (l : ℕ). member l keys) key ∙ m)
      ∙ hold'.same k (listed k m)

  -- Two that leave one receipt, and alike what was alike, leave it so of the cells.
  pub cells_alike : (σ τ : State) (left left' : Left) → LeftAlike (λ k. σ k ≡ τ k) left left'
      → (cells cells' : List ℤ) → Hold (keys_in n words) σ cells → Hold (keys_in n words) τ cells'
      → (t u : Stepped) → LeavesAsRule (keys_in n words) left t → LeavesAsRule (keys_in n words) left' u → LeavesAlike n cells cells' t u
  cells_alike σ τ left left' alike cells cells' hold hold' damaged u h g = absurd h
  cells_alike σ τ left left' alike cells cells' hold hold' (more l after) u h g = absurd h
  cells_alike σ τ left left' alike cells cells' hold hold' (done outcome count after) damaged h g = absurd g
  cells_alike σ τ left left' alike cells cells' hold hold' (done outcome count after) (more l after') h g = absurd g
  cells_alike σ τ left left' alike cells cells' hold hold' (done outcome count after) (done outcome' count' after') h g = (
    h.same_outcome ∙ alike.outcome ∙ sym g.same_outcome,
    h.same_count ∙ alike.count ∙ sym g.same_count,
    λ x less same.
        held_at left.state after h.hold x less
        ∙ alike.state (key_at words x) (sym (held_at σ cells hold x less) ∙ same ∙ held_at τ cells' hold' x less)
        ∙ sym (held_at left'.state after' g.hold x less),
  )
