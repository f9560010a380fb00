-- The turns of the published rule, one instruction after another, whatever the fuel: where a body is after so many of them.
use Rattle.std.specs.Prelude.{false, List, ℕ, zero, suc, slice_get}
use Rattle.block.specs.Key.{account_balance, contract_balance}
use Rattle.block.specs.declared.Call.{Call}
use Rattle.block.specs.declared.Instr.{Instr}
use Rattle.rule.specs.Rule.{State, credit, debit, Course, before, over, execute_at, Left}
use Rattle.machine.specs.Run.{zero_registers}

-- Where a body is after so many turns.
unfoldable pub turned : (turns : ℕ) → Call → List Instr → Course → Course
turned zero c body x = x
turned (suc turns) c body (before p ρ n σ) = turned turns c body (execute_at c p ρ n σ (slice_get body p))
turned (suc turns) c body (over r) = over r

-- Where it is at first: behind the entry, at which the value has moved.
abbrev pub entered : Call → State → Course
entered c σ = before 0 zero_registers 0 (credit (debit σ (account_balance c.sender) c.value) (contract_balance c.contract) c.value)

-- What a failed transaction leaves: the state as it was.
abbrev pub failed_with : (outcome count : ℕ) → State → Left
failed_with outcome count σ = record { outcome = outcome; count = count; behind = false; state = σ }
