-- Names every definition of this crate that computes, so that a worked example opens them all by one name.
use Rattle.console.specs.Line.{read_letter, read_gap, read_byte, is_empty, move_for, line_move}
use Rattle.console.specs.Register.{answer_text, next_number, play_move, play_byte, play_bytes, play_end, closing_text, play_input, register_opened, register_of}
use Rattle.console.specs.SheetBytes.{closing_bytes, sheet_opened, written_sheet}
use Rattle.console.specs.Text.{records_text}
use Rattle.sheet.specs.Computing as sheet

unfoldable pub computing : Unit {0}
unfolding sheet.computing read_letter read_gap read_byte is_empty move_for line_move answer_text next_number play_move play_byte play_bytes play_end closing_text play_input register_opened register_of records_text closing_bytes sheet_opened written_sheet
computing = tt
