-- Calls whose sets pass the strong-swap test may be exchanged (document 003, theorem 2).
use mathlib.Core.Path.{◌≡◌, refl, sym, ap, ◌∙◌, fun_ext}
use mathlib.Core.Bool.{Bool, true, false, ◌||◌, not, or-true, and-eq-true_iff}
use mathlib.Core.List.{List, [], ◌∷◌, ◌++◌}
use Prim.Native.Nat.{ℕ}
use borrow.Author.Tests.{eqb-true, not-true}
use lib.Dec.{eqb}
use Rattle.arith.proofs.IntegerLaws.{clash}
use Rattle.footprint.specs.Access.{Access}
use Rattle.footprint.specs.Sets.{sets_of, read_set, write_set}
use Rattle.footprint.specs.Conflict.{member, apart, strong_swap}
use Rattle.footprint.proofs.ConflictLaws.{member_append}
use Rattle.footprint.proofs.RuleLimit.{limit_kept}
use Rattle.footprint.specs.SafeSets.{LeftAlike, Safe, TransactionsExchanged, NeighboursExchange}
use Rattle.footprint.proofs.SafeSetsProof.{safe_sets}
use Rattle.rule.specs.Rule.{State, Left, state_within_limit, transaction}

-- ---- what is safe and apart

abbrev KeepsLimit : (State → Left) → Type 0
KeepsLimit T = (σ : State) → state_within_limit σ ≡ true → state_within_limit (T σ).state ≡ true

-- What the one reads or writes the other does not write.
abbrev Clear : List ℕ → List ℕ → List ℕ → Type 0
Clear reads writes others = (k : ℕ) → (member k reads || member k writes) ≡ true → member k others ≡ false

-- After a transaction that writes nothing of what T reads, T does what it would have done before it.
module _ (reads writes others : List ℕ) (clear : Clear reads writes others) (T before : State → Left) (safe : Safe reads writes T)
    (frame : (σ : State) (k : ℕ) → member k others ≡ false → (before σ).state k ≡ σ k) (limit : KeepsLimit before)
    (σ : State) (within : state_within_limit σ ≡ true) where
  after_alike : LeftAlike (λ k. (before σ).state k ≡ σ k) (T (before σ).state) (T σ)
  after_alike =
      safe.same (before σ).state σ (limit σ within) within
      (λ k e. frame σ k (clear k (ap (λ (b : Bool). b || member k writes) e)))

module _ (R W R' W' : List ℕ) (T T' : State → Left) (safe : Safe R W T) (safe' : Safe R' W' T') (limit : KeepsLimit T)
    (limit' : KeepsLimit T') (clear : Clear R W W') (clear' : Clear R' W' W) where
  pub swap_safe : (σ : State) → state_within_limit σ ≡ true → TransactionsExchanged T T' σ
  swap_safe σ within =
      record {
        outcome = first.outcome;
        count = first.count;
        outcome' = second.outcome;
        count' = second.count;
        state = fun_ext (λ k. go k (member k W) refl);
      }
    where
      first : LeftAlike (λ k. (T' σ).state k ≡ σ k) (T (T' σ).state) (T σ)
      first = after_alike R W W' clear T T' safe safe'.frame limit' σ within

      second : LeftAlike (λ k. (T σ).state k ≡ σ k) (T' (T σ).state) (T' σ)
      second = after_alike R' W' W clear' T' T safe' safe.frame limit σ within

      -- A cell that T may write is not written by the other, and one that it may not is as it was.
      go : (k : ℕ) (b : Bool) → member k W ≡ b → (T' (T σ).state).state k ≡ (T (T' σ).state).state k
      go k true e =
          let other : member k W' ≡ false = clear k (ap (λ (b : Bool). member k R || b) e ∙ or-true (member k R)) in
          safe'.frame (T σ).state k other ∙ sym (first.state k (safe'.frame σ k other))
      go k false e = second.state k (safe.frame σ k e) ∙ sym (safe.frame (T' σ).state k e)

-- ---- the strong-swap test

apart_clear : (ks ls : List ℕ) → apart ks ls ≡ true → (k : ℕ) → member k ks ≡ true → member k ls ≡ false
unfolding apart member
apart_clear [] ls e k m = clash m
apart_clear (j ∷ ks) ls e k m = go (eqb k j) refl m (apart_clear ks ls both.1 k)
  where
    both : (not (member j ls) ≡ true) × (apart ks ls ≡ true)
    both = (and-eq-true_iff (not (member j ls)) (apart ks ls)).0 e

    go : (b : Bool) → eqb k j ≡ b → (b || member k ks) ≡ true → (member k ks ≡ true → member k ls ≡ false) → member k ls ≡ false
    go true s h ih = ap (λ (l : ℕ). member l ls) (eqb-true k j s) ∙ not-true (member j ls) both.0
    go false s h ih = ih h

sets_clear : (t t' : List Access) → apart (read_set t ++ write_set t) (write_set t') ≡ true → Clear (read_set t) (write_set t) (write_set t')
sets_clear t t' e k m =
    apart_clear (read_set t ++ write_set t) (write_set t') e k (member_append k (read_set t) (write_set t) ∙ m)

pub transactions_exchange : NeighboursExchange
unfolding strong_swap
transactions_exchange block h functions c d fc fd e =
    let t : List Access = sets_of block functions c in
    let u : List Access = sets_of block functions d in
    let both = (and-eq-true_iff (apart (read_set t ++ write_set t) (write_set u)) (apart (read_set u ++ write_set u) (write_set t))).0 e in
    swap_safe (read_set t) (write_set t) (read_set u) (write_set u) (transaction block functions c) (transaction block functions d)
    (safe_sets block functions c fc) (safe_sets block functions d fd) (limit_kept c fc block h functions) (limit_kept d fd block h functions)
    (sets_clear t u both.0) (sets_clear u t both.1)
