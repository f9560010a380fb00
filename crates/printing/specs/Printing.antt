-- What a run prints of lines, of a sheet and of its close: all as text, or the sheet's bytes alone.
use Rattle.std.specs.Prelude.{List, [], ℕ}
use Rattle.machine.specs.Run.{Run}
use Rattle.console.specs.Text.{sheet_text}
use Rattle.console.specs.Register.{close_run}
use Rattle.console.specs.SheetBytes.{close_bytes}
use Rattle.printing.specs.declared.Output.{Output}
use Rattle.printing.specs.declared.Output.TheVariants.{Text, Sheet}

-- What is printed of a text of lines; beside the sheet's bytes none is, and it is told on standard error.
unfoldable pub printed_lines : Output → List ℕ → List ℕ
printed_lines Text text = text
printed_lines Sheet text = []

-- What is printed of a sheet: its lines, or its bytes.
unfoldable pub printed_sheet : Output → List ℕ → List ℕ
printed_sheet Text sheet = sheet_text sheet
printed_sheet Sheet sheet = sheet

-- What is printed of a run's close.
unfoldable pub printed_close : Output → Run → List ℕ
printed_close Text run = close_run run
printed_close Sheet run = close_bytes run
