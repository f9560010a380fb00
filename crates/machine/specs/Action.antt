-- One place of a call: what it does, as a function of the call and the registers alone. The cells it names are those of
-- `entry_accesses` and `accesses`, in their order.
use Rattle.arith.specs.declared.NoResult.TheVariants.{Overflow, ZeroDivisor}
use Rattle.arith.specs.declared.NoResult.{NoResult}
use Rattle.block.specs.declared.address.Account.{Account}
use Rattle.std.specs.Prelude.{Bool, List, ℕ, ◌+◌, ℤ, pos, get_or, set, None, Option, Some, Err, Ok, Result}
use Rattle.std.specs.Int.Signed.{lt_z, non_neg}
use Rattle.block.specs.Outcomes.{ended, balance_too_low, thrown, out_of_range, not_paid, zero_divisor}
use Rattle.std.specs.Prelude.{if◌then◌else◌}
use Rattle.arith.specs.Exact.{add_of, sub_of, mul_of, div_of}
use Rattle.arith.specs.Compare.{eq_z}
use Rattle.block.specs.Record.{argument}
use Rattle.block.specs.declared.Call.{Call}
use Rattle.block.specs.declared.Instr.{Instr}
use Rattle.block.specs.declared.Instr.TheVariants.{Stop, Throw, Set, Arg, Sender, Value, Add, Sub, Mul, Div, Get, Put, Bal, Pay, Jeq, Jlt}
use Rattle.block.specs.Naming.{target_of}
use Rattle.machine.specs.declared.Action.{Action}
use Rattle.machine.specs.declared.Next.{Next}
use Rattle.machine.specs.declared.Next.TheVariants.{Go, End, Load, Store, Transfer}

-- Places: 0 is the entry, p + 1 is instruction p.
abbrev pub place_of : ℕ → ℕ
place_of p = p + 1

abbrev pub doing : List ℤ → Next → Action
doing regs next = record { next = next; regs = regs }

abbrev pub register : List ℤ → ℕ → ℤ
register regs x = get_or regs x (pos 0)

-- x takes a value, and the call goes on behind the place.
abbrev pub assign : ℕ → List ℤ → ℕ → ℤ → Action
assign place regs x v = doing (set regs x v) (Go (place + 1))

-- x takes an exact result; "a result outside 64 signed bits .. with 4", and M-103: "DIV by zero shall end with outcome 6".
unfoldable pub checked_action : ℕ → List ℤ → ℕ → Result ℤ NoResult → Action
checked_action place regs x (Ok v) = assign place regs x v
checked_action place regs x (Err Overflow) = doing regs (End out_of_range)
checked_action place regs x (Err ZeroDivisor) = doing regs (End zero_divisor)

-- "PAY with 5 if the amount is negative, the target no account, or the contract's balance lower", and M-101: to account 0 "as for a target that is no account".
unfoldable pub pay_action : List ℤ → ℤ → Option Account → Action
pay_action regs amount None = doing regs (End not_paid)
pay_action regs amount (Some account) = doing regs (if non_neg amount then Transfer amount not_paid else End not_paid)

-- A jump: to the instruction if the test holds, else on.
abbrev pub jump : ℕ → List ℤ → ℕ → Bool → Action
jump place regs to test = doing regs (Go (if test then place_of to else place + 1))

-- "STOP ends with 0, THROW with 3"; the other instructions as their table in document 01 says.
unfoldable pub instr_action : Call → ℕ → List ℤ → Instr → Action
instr_action c place regs Stop = doing regs (End ended)
instr_action c place regs Throw = doing regs (End thrown)
instr_action c place regs (Set x value) = assign place regs x value
instr_action c place regs (Arg x k) = assign place regs x (pos (argument c k))
instr_action c place regs (Sender x) = assign place regs x (pos c.sender.0)
instr_action c place regs (Value x) = assign place regs x c.value
instr_action c place regs (Add x y z) = checked_action place regs x (add_of (register regs y) (register regs z))
instr_action c place regs (Sub x y z) = checked_action place regs x (sub_of (register regs y) (register regs z))
instr_action c place regs (Mul x y z) = checked_action place regs x (mul_of (register regs y) (register regs z))
instr_action c place regs (Div x y z) = checked_action place regs x (div_of (register regs y) (register regs z))
instr_action c place regs (Get x field a b) = doing regs (Load x)
instr_action c place regs (Put x field a b) = doing regs (Store (register regs x))
instr_action c place regs (Bal x) = doing regs (Load x)
instr_action c place regs (Pay x target) = pay_action regs (register regs x) (target_of c target)
instr_action c place regs (Jeq x y to) = jump place regs to (eq_z (register regs x) (register regs y))
instr_action c place regs (Jlt x y to) = jump place regs to (lt_z (register regs x) (register regs y))

-- "sender's balance below value, outcome 2; else value moves from sender to contract and the place is 0"; at value 0 no balance
-- is looked at.
unfoldable pub entry_action : Call → List ℤ → Action
entry_action c regs = doing regs (if lt_z (pos 0) c.value then Transfer c.value balance_too_low else Go (place_of 0))
