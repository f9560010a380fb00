use mathlib.Core.List.{◌++◌}
use lib.ListN.{length}
use Rattle.sheet.specs.Sheet.{cell_records, receipt_records, records_for}
use Rattle.closing.specs.Carried.{Carried, CarriedOn}
use Rattle.closing.proofs.records.put_sheet.Given as goal

abbrev pub invariant-loop-n : goal.invariant-loop-n
invariant-loop-n l = Carried (records_for l.keys l.cells l.status l.count l.calls) l.initial.output (length (cell_records l.keys l.cells l.n 0)) l.at l.output

abbrev pub invariant-loop-call : goal.invariant-loop-call
invariant-loop-call l =
    CarriedOn (records_for l.keys l.cells l.status l.count l.calls) (length (cell_records l.keys l.cells l.count 0)) l.initial.at l.initial.output
    (length (cell_records l.keys l.cells l.count 0 ++ receipt_records l.status l.call 0)) l.at l.output
