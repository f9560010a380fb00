-- What a call and its instructions name: the call's function, a source's number, the account that PAY pays, the cell of GET and PUT.
use Rattle.block.specs.declared.address.Account.{Account}
use Rattle.std.specs.Prelude.{Bool, true, false, List, [], ◌∷◌, ℕ, eqb, None, Option, Some}
use Rattle.std.specs.Prelude.{if◌then◌else◌}
use Rattle.block.specs.Key.{contract_cell, payee_of}
use Rattle.block.specs.Record.{Function, function_id, call_id, argument}
use Rattle.block.specs.declared.Call.{Call}
use Rattle.block.specs.declared.Source.{Source}
use Rattle.block.specs.declared.Source.TheVariants as source

-- The function that a call names, if the block has it.
unfoldable pub function_of : List Function → Call → Option Function
function_of [] c = None
function_of (f ∷ fs) c =
    if eqb (function_id f) (call_id c) then Some f else function_of fs c

-- Whether it has.
abbrev pub is_known : Option Function → Bool
is_known None = false
is_known (Some f) = true

-- "Sources: 0 is zero, 1 to 4 an argument, 5 the sender, 6 the constant": the number a source gives in a call.
unfoldable pub source_value : Call → Source → ℕ
source_value c source.Zero = 0
source_value c (source.Argument k) = argument c k
source_value c source.Sender = c.sender.0
source_value c (source.Constant n) = n

-- The account that PAY pays by its source, if it pays one.
abbrev pub target_of : Call → Source → Option Account
target_of c s = payee_of (source_value c s)

-- "GET and PUT use the called contract's address, field w mod 65536 .., a from source y, b from source z."
abbrev pub cell_key : Call → ℕ → Source → Source → ℕ
cell_key c field a b = contract_cell c.contract field (source_value c a) (source_value c b)
