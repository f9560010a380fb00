-- What the entry of a call, and each instruction, may read and write: one function that both the set analysis and a step ask.
use Rattle.block.specs.declared.address.Account.{Account}
use Rattle.std.specs.Prelude.{Bool, true, false, List, [], ◌∷◌, ℕ, pos, None, Option, Some}
use Rattle.std.specs.Int.Signed.{lt_z}
use Rattle.block.specs.Naming.{target_of, cell_key}
use Rattle.std.specs.Prelude.{if◌then◌else◌}
use Rattle.block.specs.Key.{account_balance, contract_balance}
use Rattle.block.specs.declared.Call.{Call}
use Rattle.block.specs.declared.Instr.{Instr}
use Rattle.block.specs.declared.Instr.TheVariants.{Stop, Throw, Set, Arg, Sender, Value, Add, Sub, Mul, Div, Get, Put, Bal, Pay, Jeq, Jlt}

-- A key and how it is used.
pub record Access : Type 0 where
  pub key : ℕ
  pub reads : Bool
  pub writes : Bool

abbrev pub reading : ℕ → Access
reading k = record { key = k; reads = true; writes = false }

abbrev pub writing : ℕ → Access
writing k = record { key = k; reads = false; writes = true }

abbrev pub changing : ℕ → Access
changing k = record { key = k; reads = true; writes = true }

-- "Value above 0: reads sender's balance, writes sender's and contract's."
unfoldable pub entry_accesses : Call → List Access
entry_accesses c =
    if lt_z (pos 0) c.value
    then changing (account_balance c.sender) ∷ writing (contract_balance c.contract) ∷ []
    else []

-- "PAY reads and writes it and writes the target's balance if the target is an account": it is the contract's balance. M-101, of account 0: "Its balance no
-- longer enters the write set of that PAY."
unfoldable pub pay_accesses : Call → Option Account → List Access
pay_accesses c (Some account) = changing (contract_balance c.contract) ∷ writing (account_balance account) ∷ []
pay_accesses c None = changing (contract_balance c.contract) ∷ []

-- "GET reads its key, PUT writes its key, BAL reads the contract's balance"; the others touch no cell.
unfoldable pub accesses : Call → Instr → List Access
accesses c Stop = []
accesses c Throw = []
accesses c (Set x value) = []
accesses c (Arg x k) = []
accesses c (Sender x) = []
accesses c (Value x) = []
accesses c (Add x y z) = []
accesses c (Sub x y z) = []
accesses c (Mul x y z) = []
accesses c (Div x y z) = []
accesses c (Get x field a b) = reading (cell_key c field a b) ∷ []
accesses c (Put x field a b) = writing (cell_key c field a b) ∷ []
accesses c (Bal x) = reading (contract_balance c.contract) ∷ []
accesses c (Pay x target) = pay_accesses c (target_of c target)
accesses c (Jeq x y to) = []
accesses c (Jlt x y to) = []
