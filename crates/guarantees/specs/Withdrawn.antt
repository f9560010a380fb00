-- Document 02, M-101, sentence by sentence: "From the new season account 0 marks withdrawn warrants, and no more money shall go there."
use Rattle.std.specs.Prelude.{◌≡◌, Bool, true, false, ◌&&◌, List, [], ◌∷◌, ℕ, ◌+◌, ◌<◌, eqb, ℤ, pos, ◌-ℤ◌, Ok, Some}
use Rattle.std.specs.Int.Signed.{lt_z}
use Rattle.std.specs.Prelude.{if◌then◌else◌}
use Rattle.schedule.specs.declared.Move.{Move}
use Rattle.block.specs.Key.{withdrawn, balance_of0, contract_balance}
use Rattle.block.specs.Outcomes.{ended, not_paid}
use Rattle.block.specs.Record.{Function}
use Rattle.block.specs.declared.Call.{Call}
use Rattle.block.specs.declared.Source.{Source}
use Rattle.block.specs.declared.Instr.TheVariants.{Pay}
use Rattle.block.specs.Encoding.{AreBytes}
use Rattle.block.specs.Naming.{function_of, is_known, source_value}
use Rattle.footprint.specs.Access.{changing, accesses}
use Rattle.footprint.specs.Sets.{read_set, write_set}
use Rattle.footprint.specs.Conflict.{member}
use Rattle.rule.specs.Rule.{State, fails, over, execute_at, run_function}
use Rattle.footprint.specs.KeyWords.{key_at}
use Rattle.block.specs.BlockOfFile.{block_of, call_count}
use Rattle.footprint.specs.BlockSets.{sets_at}
use Rattle.machine.specs.Run.{Sizes}
use Rattle.machine.specs.Opening.{opening_of}
use Rattle.machine.specs.Action.{doing, instr_action}
use Rattle.machine.specs.Step.{cell_at}
use Rattle.machine.specs.declared.Next.TheVariants.{End}
use Rattle.guarantees.specs.Agreement.{opened_in, run_after_moves}
use Rattle.guarantees.specs.RuleRun.{call_of_block}
use Rattle.guarantees.specs.Demand2.{rule_for, opening_state, closing_state}

-- A PAY in a call whose source names account 0, whatever source that is: in the rule, in a step, and in the sets.
pub record PaysNobody (c : Call) (x : ℕ) (target : Source) : Type 0 where
  -- "PAY to account 0 ends with outcome 5, as for a target that is no account": with any amount in any state; it counts 1.
  pub rule : (p : ℕ) (ρ : List ℤ) (n : ℕ) (σ : State) → execute_at c p ρ n σ (Some (Pay x target)) ≡ over (fails not_paid (n + 1))
  pub step : (place : ℕ) (regs : List ℤ) → instr_action c place regs (Pay x target) ≡ doing regs (End not_paid)
  -- "Its balance no longer enters the write set of that PAY": the contract's own, read and written, is all that it uses.
  pub uses : accesses c (Pay x target) ≡ changing (contract_balance c.contract) ∷ []

-- Whether account 0 sends a call of the block; and whether it sends a value to a function that the block has.
abbrev pub sent_by0 : List ℕ → ℕ → Bool
sent_by0 file call = eqb (call_of_block file call).sender.0 withdrawn

abbrev pub paid_by0 : List ℕ → ℕ → Bool
paid_by0 file call =
    is_known (function_of (block_of file).functions (call_of_block file call)) && (lt_z (pos 0) (call_of_block file call).value && sent_by0 file call)

-- What account 0 gives by a call in a state: the value, where it sends the call and the call ends with 0.
abbrev pub given_by0 : List ℕ → ℕ → State → ℤ
given_by0 file call σ = if sent_by0 file call && eqb (rule_for file call σ).outcome ended then (call_of_block file call).value else pos 0

-- What holds of an accepted block, opened in any buffers.
pub record NoMoreTo0 (s : Sizes) (file : List ℕ) (workers : ℕ) : Type 0 where
  -- ".. no more money shall go there": a call leaves there what was there, less what account 0 gives. So it never has more than before, behind a call and
  -- behind the block.
  pub left : (call : ℕ) → call < call_count file → (σ : State) → (rule_for file call σ).state balance_of0 ≡ σ balance_of0 -ℤ given_by0 file call σ
  pub never_more : (call : ℕ) → call < call_count file → (σ : State) → lt_z (σ balance_of0) ((rule_for file call σ).state balance_of0) ≡ false
  pub closed : lt_z (opening_state file balance_of0) (closing_state file balance_of0) ≡ false
  -- While workers run too: behind every list of moves, refused ones included, the cell with its key holds no more than at the opening.
  pub ever : (ms : List Move) (x : ℕ) → key_at (opened_in s file workers).keys x ≡ balance_of0
      → lt_z (cell_at (opened_in s file workers).cells x) (cell_at (run_after_moves s file workers ms).cells x) ≡ false
  -- Its balance is in the sets of the calls that account 0 sends with a value, and of no other.
  pub read : (call : ℕ) → call < call_count file → member balance_of0 (read_set (sets_at file call)) ≡ paid_by0 file call
  pub written : (call : ℕ) → call < call_count file → member balance_of0 (write_set (sets_at file call)) ≡ paid_by0 file call
  -- "An account 0 that already holds money may still send it": where it has the value, the function runs, and the value has moved.
  pub sends : (call : ℕ) → call < call_count file → sent_by0 file call ≡ true
      → (f : Function) → function_of (block_of file).functions (call_of_block file call) ≡ Some f
      → (σ : State) → lt_z (σ balance_of0) (call_of_block file call).value ≡ false → rule_for file call σ ≡ run_function file (call_of_block file call) σ f

abbrev pub WithdrawnHolds : Type 0
WithdrawnHolds =
    ((c : Call) (x : ℕ) (target : Source) → source_value c target ≡ withdrawn → PaysNobody c x target)
    × ((s : Sizes) (file : List ℕ) (workers : ℕ) → AreBytes file → (opening_of s file workers).answer ≡ (Ok tt) → NoMoreTo0 s file workers)
