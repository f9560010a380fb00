-- The closing sheet's bytes as one function from the bytes of block.bin and of standard input: the sheet that REGISTER prints as text.
use Rattle.block.specs.declared.Refusal.{Refusal}
use Rattle.machine.specs.declared.Answer.{Answer}
use Rattle.std.specs.Prelude.{List, [], ℕ, take, Err, Ok, Result}
use Rattle.wire.specs.Bytes.{repeated}
use Rattle.block.specs.Limits.{max_workers}
use Rattle.machine.specs.Run.{Run, fixed_sizes}
use Rattle.machine.specs.Opening.{Opened, opening_of}
use Rattle.sheet.specs.Sheet.{Closed, max_sheet, sheet_of}
use Rattle.console.specs.Register.{play_input}

-- The bytes of a run's sheet; a refused sheet has none.
unfoldable pub closing_bytes : Closed → Result ℕ Answer → List ℕ
closing_bytes c (Ok n) = take n c.output
closing_bytes c (Err a) = []

abbrev pub close_bytes : Run → List ℕ
close_bytes r = let c : Closed = sheet_of r (repeated max_sheet 0) in closing_bytes c c.answer

-- Those of the run behind an input; a refused block has none.
unfoldable pub sheet_opened : List ℕ → List ℕ → Run → Result (Unit {0}) Refusal → List ℕ
sheet_opened block input r (Err why) = []
sheet_opened block input r (Ok tt) = close_bytes (play_input block r input).run

-- The same file, input and workers as REGISTER's.
unfoldable pub written_sheet : List ℕ → List ℕ → List ℕ
written_sheet block input = let o : Opened = opening_of fixed_sizes block max_workers in sheet_opened block input o.run o.answer
