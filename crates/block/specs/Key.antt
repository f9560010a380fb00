-- "Cells and addresses".
use Rattle.std.specs.Prelude.{Bool, ◌&&◌, ◌||◌, not, ℕ, ◌+◌, ◌*◌, ◌/◌, ◌%◌, ◌^◌, eqb, ltb, None, Option, Some}
use Rattle.std.specs.Prelude.{if◌then◌else◌}
use Rattle.block.specs.declared.address.Account.{Account}
use Rattle.block.specs.declared.address.Contract.{Contract}
use Rattle.block.specs.declared.address.Address.{Address}
use Rattle.block.specs.declared.address.Address.TheVariants.{OfAccount, OfContract}

-- "Account addresses are 0 to 32767, contract addresses 32768 to 65535. The two are never taken for each other."
abbrev pub first_contract : ℕ
first_contract = 32768

abbrev pub addresses : ℕ
addresses = 65536

unfoldable pub address_of : ℕ → Address
address_of n = if ltb n first_contract then OfAccount (record { 0 = n }) else OfContract (record { 0 = n })

-- The number of an address.
abbrev pub address_number : Address → ℕ
address_number (OfAccount account) = account.0
address_number (OfContract contract) = contract.0

-- M-101: "From the new season account 0 marks withdrawn warrants, and no more money shall go there."
abbrev pub withdrawn : ℕ
withdrawn = 0

-- Whom PAY pays: all 32 bits name the target, and only 0 to 32767 is an account. M-101: "PAY to account 0 ends with outcome 5, as for a target that is
-- no account."
unfoldable pub payee_of : ℕ → Option Account
payee_of n = if eqb n withdrawn then None else if ltb n first_contract then Some (record { 0 = n }) else None

-- "A key is address (16 bits), field (16), a (32), b (32), all unsigned, compared in that order": one number of 96 bits, so that
-- keys compare as numbers.
abbrev pub key_of : ℕ → ℕ → ℕ → ℕ → ℕ
key_of address field a b = address * 2 ^ 80 + field * 2 ^ 64 + a * 2 ^ 32 + b

abbrev pub address_in : ℕ → ℕ
address_in k = k / 2 ^ 80

abbrev pub field_in : ℕ → ℕ
field_in k = k / 2 ^ 64 % 2 ^ 16

abbrev pub a_in : ℕ → ℕ
a_in k = k / 2 ^ 32 % 2 ^ 32

abbrev pub b_in : ℕ → ℕ
b_in k = k % 2 ^ 32

-- "Field 0 .. is the balance."
abbrev pub is_balance : ℕ → Bool
is_balance k = eqb (field_in k) 0

abbrev pub account_balance : Account → ℕ
account_balance account = key_of account.0 0 0 0

abbrev pub balance_of0 : ℕ
balance_of0 = account_balance (record { 0 = withdrawn })

abbrev pub contract_balance : Contract → ℕ
contract_balance contract = key_of contract.0 0 0 0

abbrev pub contract_cell : Contract → ℕ → ℕ → ℕ → ℕ
contract_cell contract field a b = key_of contract.0 field a b

-- "Field 0 has only a = b = 0 and is the balance; an account has no other key (5 otherwise)."
unfoldable pub key_allowed : Address → ℕ → ℕ → ℕ → Bool
key_allowed (OfAccount account) field a b = eqb field 0 && eqb a 0 && eqb b 0
key_allowed (OfContract contract) field a b = not (eqb field 0) || (eqb a 0 && eqb b 0)
