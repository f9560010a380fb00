-- Safe sets and the exchange of neighbours: document 003, definitions 2 and 5 and theorem 2, of the published rule and the sets of document 01.
use Rattle.std.specs.Prelude.{◌≡◌, true, false, List, ℕ, ◌^◌, ◌≤◌, ◌<◌}
use Rattle.std.specs.Int.Signed.{non_neg, mag}
use Rattle.block.specs.Key.{first_contract}
use Rattle.block.specs.Record.{Function}
use Rattle.block.specs.declared.Call.{Call}
use Rattle.rule.specs.Rule.{State, Left, state_within_limit, transaction}
use Rattle.footprint.specs.Sets.{sets_of, read_set, write_set}
use Rattle.footprint.specs.Conflict.{member, strong_swap}
use Rattle.block.specs.Encoding.{AreBytes}

-- Document 003, definition 2: alike on the keys in Q.
abbrev pub AlikeOn : (ℕ → Type 0) → State → State → Type 0
AlikeOn Q σ τ = (k : ℕ) → Q k → σ k ≡ τ k

-- What two transactions leave: one receipt, states alike.
pub record LeftAlike (Q : ℕ → Type 0) (l m : Left) : Type 0 where
  pub outcome : l.outcome ≡ m.outcome
  pub count : l.count ≡ m.count
  pub behind : l.behind ≡ m.behind
  pub state : AlikeOn Q l.state m.state

-- Definition 5, with the receipt. Nothing outside the write set changes; and from two states within the limit that are alike on the
-- read set the outcome and the count are the same, and every cell that was alike is alike afterwards, also one that is only added to.
pub record Safe (reads writes : List ℕ) (T : State → Left) : Type 0 where
  pub frame : (σ : State) (k : ℕ) → member k writes ≡ false → (T σ).state k ≡ σ k
  pub same : (σ τ : State) → state_within_limit σ ≡ true → state_within_limit τ ≡ true → AlikeOn (λ k. member k reads ≡ true) σ τ
      → LeftAlike (λ k. σ k ≡ τ k) (T σ) (T τ)

-- The fields of a call lie in their types' ranges.
pub record InRanges (c : Call) : Type 0 where
  pub sender : c.sender.0 < 2 ^ 16
  pub contract : c.contract.0 < 2 ^ 16
  pub arg1 : c.arg1 < 2 ^ 32
  pub arg2 : c.arg2 < 2 ^ 32
  pub arg3 : c.arg3 < 2 ^ 32
  pub arg4 : c.arg4 < 2 ^ 32

-- "sender account 2, contract 2, function 2, value 8 (signed, 0 or more), four arguments of 4 (unsigned)"
pub record CallBounded (c : Call) : Type 0 where
  pub ranges : InRanges c
  pub account : c.sender.0 < first_contract
  pub contract : first_contract ≤ c.contract.0
  pub value : non_neg c.value ≡ true
  pub small : mag c.value < 2 ^ 63

-- In σ the two orders leave one state, and each of the two has one receipt in both.
pub record TransactionsExchanged (T T' : State → Left) (σ : State) : Type 0 where
  pub outcome : (T (T' σ).state).outcome ≡ (T σ).outcome
  pub count : (T (T' σ).state).count ≡ (T σ).count
  pub outcome' : (T' (T σ).state).outcome ≡ (T' σ).outcome
  pub count' : (T' (T σ).state).count ≡ (T' σ).count
  pub state : (T' (T σ).state).state ≡ (T (T' σ).state).state

-- The sets of a call are safe for the transaction that the rule makes of it.
abbrev pub SafeSets : Type 0
SafeSets =
    (block : List ℕ) (functions : List Function) (c : Call) → CallBounded c
    → Safe (read_set (sets_of block functions c)) (write_set (sets_of block functions c)) (transaction block functions c)

-- Theorem 2: two calls whose sets pass the test, as neighbours, from any state within the limit.
abbrev pub NeighboursExchange : Type 0
NeighboursExchange =
    (block : List ℕ) → AreBytes block → (functions : List Function) (c d : Call) → CallBounded c → CallBounded d
    → strong_swap (sets_of block functions c) (sets_of block functions d) ≡ true → (σ : State) → state_within_limit σ ≡ true
    → TransactionsExchanged (transaction block functions c) (transaction block functions d) σ
