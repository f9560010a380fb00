-- Names every definition of this crate that computes, so that a worked example opens them all by one name.
use Rattle.machine.specs.Action.{checked_action, pay_action, instr_action, entry_action}
use Rattle.machine.specs.Answer.{answer_number, refused_number}
use Rattle.machine.specs.ByRow.{earlier_broken, earlier_finished}
use Rattle.machine.specs.Moves.{begin_call, begin_checked, begin_by, stepped, step_record, step_held, cancel_held, held_by, step_for, cancel_for, move_of, run_after, answers_of}
use Rattle.machine.specs.Opening.{refused_run, open_prepared, opening_of}
use Rattle.machine.specs.Run.{large_enough}
use Rattle.machine.specs.Serial.{step_to_end, steps_to_end, run_calls, chosen}
use Rattle.machine.specs.Step.{find_entry, lookup, entries_allowed, saved_of, restored, finish, load_cell, store_cell, deposit_cell, transfer_cells, perform, step_entry, step_decoded, step_instr, step_body, step_place, concluded, step_call}
use Rattle.machine.specs.Waits.{each_wait, waits_lowerable}
use Rattle.footprint.specs.Computing as footprint
use Rattle.schedule.specs.Tally.{unfinished_earlier}

unfoldable pub computing : Unit {0}
unfolding footprint.computing unfinished_earlier checked_action pay_action instr_action entry_action answer_number refused_number each_wait waits_lowerable earlier_broken earlier_finished begin_call begin_checked begin_by stepped step_record step_held cancel_held held_by step_for cancel_for move_of run_after answers_of refused_run open_prepared opening_of large_enough step_to_end steps_to_end run_calls chosen find_entry lookup entries_allowed saved_of restored finish load_cell store_cell deposit_cell transfer_cells perform step_entry step_decoded step_instr step_body step_place concluded step_call
computing = tt
