-- Membership in the sets of a call in document 01's own words, instruction by instruction, and that the sets of `Sets` are these.
use Rattle.block.specs.declared.address.Account.{Account}
use Rattle.std.specs.Prelude.{◌≡◌, Bool, false, ◌&&◌, ◌||◌, List, [], ◌∷◌, ℕ, eqb, pos, None, Option, Some}
use Rattle.std.specs.Int.Signed.{lt_z}
use Rattle.block.specs.Key.{account_balance, contract_balance}
use Rattle.block.specs.Record.{Function, code_at}
use Rattle.block.specs.declared.Call.{Call}
use Rattle.block.specs.declared.Instr.{Instr}
use Rattle.block.specs.declared.Instr.TheVariants.{Stop, Throw, Set, Arg, Sender, Value, Add, Sub, Mul, Div, Get, Put, Bal, Pay, Jeq, Jlt}
use Rattle.block.specs.Naming.{cell_key, target_of, function_of}
use Rattle.footprint.specs.Sets.{sets_of, read_set, write_set}
use Rattle.footprint.specs.Conflict.{member}
use Rattle.rule.specs.Rule.{body_of}

-- "GET reads its key, .. BAL reads the contract's balance; PAY reads and writes it"
unfoldable pub read_by : Call → ℕ → Instr → Bool
read_by c k Stop = false
read_by c k Throw = false
read_by c k (Set x value) = false
read_by c k (Arg x n) = false
read_by c k (Sender x) = false
read_by c k (Value x) = false
read_by c k (Add x y z) = false
read_by c k (Sub x y z) = false
read_by c k (Mul x y z) = false
read_by c k (Div x y z) = false
read_by c k (Get x field a b) = eqb k (cell_key c field a b)
read_by c k (Put x field a b) = false
read_by c k (Bal x) = eqb k (contract_balance c.contract)
read_by c k (Pay x target) = eqb k (contract_balance c.contract)
read_by c k (Jeq x y to) = false
read_by c k (Jlt x y to) = false

-- PAY "writes the target's balance if the target is an account", and M-101: not that of account 0, where nobody is paid
unfoldable pub paid_to : ℕ → Option Account → Bool
paid_to k (Some account) = eqb k (account_balance account)
paid_to k None = false

-- "PUT writes its key, .. PAY reads and writes" the contract's balance "and writes the target's balance if the target is an account."
unfoldable pub written_by : Call → ℕ → Instr → Bool
written_by c k Stop = false
written_by c k Throw = false
written_by c k (Set x value) = false
written_by c k (Arg x n) = false
written_by c k (Sender x) = false
written_by c k (Value x) = false
written_by c k (Add x y z) = false
written_by c k (Sub x y z) = false
written_by c k (Mul x y z) = false
written_by c k (Div x y z) = false
written_by c k (Get x field a b) = false
written_by c k (Put x field a b) = eqb k (cell_key c field a b)
written_by c k (Bal x) = false
written_by c k (Pay x target) = eqb k (contract_balance c.contract) || paid_to k (target_of c target)
written_by c k (Jeq x y to) = false
written_by c k (Jlt x y to) = false

-- "Every instruction counts, reached or not": one of them passes a test.
unfoldable pub some_of : (Instr → Bool) → List Instr → Bool
some_of test [] = false
some_of test (i ∷ is) = test i || some_of test is

-- The instructions of a function.
abbrev pub instructions_of : List ℕ → Function → List Instr
instructions_of block f = body_of f.size f.size (code_at block f.start f.size)

-- "Value above 0: reads sender's balance, writes sender's and contract's." "An unknown function has empty sets."
unfoldable pub is_read : List ℕ → Call → ℕ → Option Function → Bool
is_read block c k None = false
is_read block c k (Some f) =
    (lt_z (pos 0) c.value && eqb k (account_balance c.sender)) || some_of (read_by c k) (instructions_of block f)

unfoldable pub is_written : List ℕ → Call → ℕ → Option Function → Bool
is_written block c k None = false
is_written block c k (Some f) =
    (lt_z (pos 0) c.value && (eqb k (account_balance c.sender) || eqb k (contract_balance c.contract)))
    || some_of (written_by c k) (instructions_of block f)

-- A key is in the read set of a call exactly as document 01 says, and in its write set.
abbrev pub ReadsExact : Type 0
ReadsExact =
    (block : List ℕ) (functions : List Function) (c : Call) (k : ℕ)
    → member k (read_set (sets_of block functions c)) ≡ is_read block c k (function_of functions c)

abbrev pub WritesExact : Type 0
WritesExact =
    (block : List ℕ) (functions : List Function) (c : Call) (k : ℕ)
    → member k (write_set (sets_of block functions c)) ≡ is_written block c k (function_of functions c)
