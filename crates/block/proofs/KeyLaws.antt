-- What a number names has the number, in its own range, and whom PAY pays by it; the parts of a key are those it was made from, and a key is made
-- from its parts.
use mathlib.Core.Path.{◌≡◌, refl, sym, ap}
use mathlib.Core.Bool.{Bool, true, false}
use Prim.Native.Nat.{ℕ, ◌^◌, ◌<◌, ◌≤◌}
use native.Mathlib.Omega.{arith}
use lib.Dec.{eqb, ltb}
use borrow.Author.Tests.{ltb-true, ltb-false, eqb-false}
use Rattle.std.specs.Prelude.{if◌then◌else◌, None, Option, Some}
use Rattle.arith.proofs.ChoiceLaws.{if_all}
use Rattle.block.specs.Key.{first_contract, withdrawn, address_of, address_number, payee_of, key_of, address_in, field_in, a_in, b_in}
use Rattle.block.specs.declared.address.Account.{Account}
use Rattle.block.specs.declared.address.Contract.{Contract}
use Rattle.block.specs.declared.address.Address.TheVariants.{OfAccount, OfContract}

-- What a number names has that number.
pub number_named : (n : ℕ) → address_number (address_of n) ≡ n
unfolding address_of
number_named n = go (ltb n first_contract)
  where
    go : (b : Bool) → address_number (if b then OfAccount (record { 0 = n }) else OfContract (record { 0 = n })) ≡ n
    go true = refl
    go false = refl

-- No account is 32768 or more, and no contract below it.
pub account_below : (n : ℕ) (account : Account) → address_of n ≡ OfAccount account → (account.0 ≡ n) × (account.0 < first_contract)
unfolding address_of
account_below n account = go (ltb n first_contract) refl
  where
    go : (b : Bool) → ltb n first_contract ≡ b → (if b then OfAccount (record { 0 = n }) else OfContract (record { 0 = n })) ≡ OfAccount account
        → (account.0 ≡ n) × (account.0 < first_contract)
    go true t e = let same : n ≡ account.0 = ap address_number e in (sym same, omega (arith, ltb-true n first_contract t))
    go false t e = let z : ◌≡◌ {A = ℕ} 0 1 = cc in absurd (omega arith)

pub contract_above : (n : ℕ) (contract : Contract) → address_of n ≡ OfContract contract → (contract.0 ≡ n) × (first_contract ≤ contract.0)
unfolding address_of
contract_above n contract = go (ltb n first_contract) refl
  where
    go : (b : Bool) → ltb n first_contract ≡ b → (if b then OfAccount (record { 0 = n }) else OfContract (record { 0 = n })) ≡ OfContract contract
        → (contract.0 ≡ n) × (first_contract ≤ contract.0)
    go true t e = let z : ◌≡◌ {A = ℕ} 0 1 = cc in absurd (omega arith)
    go false t e = let same : n ≡ contract.0 = ap address_number e in (sym same, omega (arith, ltb-false n first_contract t))

-- What holds of nobody, and of each account that a number below the contracts names but that of withdrawn warrants, holds of whom PAY pays.
pub payee_all : (P : Option Account → Type 0) (n : ℕ) → ((n ≡ withdrawn → ⊥) → n < first_contract → P (Some (record { 0 = n }))) → P None → P (payee_of n)
unfolding payee_of
payee_all P n to nobody =
    if_all P (eqb n withdrawn) (λ e. nobody)
    (λ e. if_all P (ltb n first_contract) (λ l. to (eqb-false n withdrawn e) (ltb-true n first_contract l)) (λ l. nobody))

module _ (address field a b : ℕ) (hf : field < 2 ^ 16) (ha : a < 2 ^ 32) (hb : b < 2 ^ 32) where
  pub address_of_lem : address_in (key_of address field a b) ≡ address
  address_of_lem = omega arith

  pub field_of : field_in (key_of address field a b) ≡ field
  field_of = omega arith

  pub a_of : a_in (key_of address field a b) ≡ a
  a_of = omega arith

  pub b_of : b_in (key_of address field a b) ≡ b
  b_of = omega arith

pub key_parts : (k : ℕ) → key_of (address_in k) (field_in k) (a_in k) (b_in k) ≡ k
key_parts k = omega arith
