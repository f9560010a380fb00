-- REGISTER prints what the tally and the serial run say: by demand 3, at the moves of the input's lines.
use mathlib.Core.Path.{◌≡◌, ap, ◌∙◌}
use mathlib.Core.List.{List, ◌++◌}
use Prim.Native.Nat.{ℕ}
use Rattle.std.specs.Prelude.{if◌then◌else◌, Ok}
use Rattle.block.specs.Limits.{max_workers}
use Rattle.block.specs.Encoding.{AreBytes}
use Rattle.text.specs.Lines.{refused_text}
use Rattle.machine.specs.Answer.{answer_number, refused_number}
use Rattle.machine.specs.Run.{fixed_sizes}
use Rattle.machine.specs.Opening.{opening_of}
use Rattle.sheet.specs.Sheet.{sheet_bytes}
use Rattle.console.specs.Text.{sheet_text}
use Rattle.console.specs.Register.{play_input, register_opened, register_of, closing_text, close_run}
use Rattle.guarantees.specs.BlockTally.{tally_answers}
use Rattle.guarantees.specs.Agreement.{opened_in}
use Rattle.guarantees.proofs.Demand3Proof.{demand_3}
use Rattle.guarantees.specs.RegisterByTally.{lines_of, lines_text, register_by_tally, RegisterByTally}
use Rattle.guarantees.proofs.RegisterOutput.ClosedByTally.{serial, all_done, moves_in, session_end, session_comes, serial_front, closed_by_tally}

module _ (file : List ℕ) (bytes : AreBytes file) (accepted : (opening_of fixed_sizes file max_workers).answer ≡ (Ok tt)) (input : List ℕ) where
  output_is : (session_end file input).output ≡ lines_text 1 (lines_of input) (tally_answers file max_workers (moves_in input))
  output_is =
      (session_comes file input).output ∙ ap (lines_text 1 (lines_of input)) (demand_3 fixed_sizes file max_workers bytes accepted (moves_in input)).answers

  closing_is : close_run (session_end file input).run ≡ (if all_done file (moves_in input) then sheet_text (sheet_bytes (serial file)) else refused_text 0 27)
  unfolding closing_text answer_number refused_number
  closing_is =
      closed_by_tally file bytes accepted (λ c. closing_text c c.answer) input
      ∙ ap (λ (t : List ℕ). if all_done file (moves_in input) then sheet_text t else refused_text 0 27) (serial_front file bytes accepted)

  prints : (session_end file input).output ++ close_run (session_end file input).run ≡ register_by_tally file (lines_of input)
  unfolding register_by_tally
  prints = λ i. output_is i ++ closing_is i

pub register_by_tally_lem : RegisterByTally
unfolding register_of register_opened play_input
register_by_tally_lem file input bytes accepted = ap (register_opened file input (opened_in fixed_sizes file max_workers)) accepted ∙ prints file bytes accepted input
