-- `printing::close` meets its contract: it goes by what the sheet answers, and hands over the part that the sheet wrote.
use mathlib.Core.Path.{refl, sym}
use native.Mathlib.Omega.{arith}
use lib.Seq.{length-take-le}
use Rattle.wire.specs.Bytes.{repeated}
use Rattle.moves.specs.Lent.{lent}
use Rattle.printing.proofs.CloseLaws.{written_fits, lines_short, closed_written, closed_refused}
use Rattle.printing.proofs.close.Goals as goal

pub slice_bounds-bytes-end : goal.slice_bounds-bytes-end
slice_bounds-bytes-end g c =
    let a = c.args in
    omega (arith, written_fits (lent a.head a.plan.now a.keys.now a.cells.now a.status.now a.seats.now a.frames.now) c.sheet.new.output _ c.sheet.ensures.same c.in-Ok.n c.in-Ok.is)

pub slice_bounds-print_sheet-end : goal.slice_bounds-print_sheet-end
slice_bounds-print_sheet-end g c =
    let a = c.args in
    sym (length-take-le _ _ (omega (arith, written_fits (lent a.head a.plan.now a.keys.now a.cells.now a.status.now a.seats.now a.frames.now) c.sheet.new.output _ c.sheet.ensures.same c.in-Ok.n c.in-Ok.is)))

pub print_sheet-requires : goal.print_sheet-requires
unfolding repeated
print_sheet-requires g c =
    let a = c.args in
    let fits = written_fits (lent a.head a.plan.now a.keys.now a.cells.now a.status.now a.seats.now a.frames.now) c.sheet.new.output _ c.sheet.ensures.same c.in-Ok.n c.in-Ok.is in record { bytes_len_bound = omega (arith, fits, length-take-le c.in-Ok.n c.sheet.new.output (omega (arith, fits))); bytes_len_bound_2 = lines_short (lent a.head a.plan.now a.keys.now a.cells.now a.status.now a.seats.now a.frames.now) c.sheet.new.output _ c.sheet.ensures.same refl c.in-Ok.n c.in-Ok.is }

pub returns-in-Ok : goal.returns-in-Ok
unfolding repeated
returns-in-Ok g c =
    let a = c.args in
    record { text = closed_written (lent a.head a.plan.now a.keys.now a.cells.now a.status.now a.seats.now a.frames.now) c.sheet.new.output _ c.sheet.ensures.same refl a.output c.in-Ok.n c.in-Ok.is c.print_sheet.ensures.text; received = c.print_sheet.ensures.received }

pub returns-in-Err : goal.returns-in-Err
unfolding repeated
returns-in-Err g c =
    let a = c.args in
    record { text = closed_refused (lent a.head a.plan.now a.keys.now a.cells.now a.status.now a.seats.now a.frames.now) c.sheet.new.output _ c.sheet.ensures.same refl a.output c.in-Err.why c.in-Err.is c.refuse_sheet.ensures.text; received = c.refuse_sheet.ensures.received }
