-- `inspect_run::print_listing` meets its contract: the listing fits its buffer, and all of it is handed over.
use mathlib.Core.Path.{refl, sym}
use native.Mathlib.Omega.{arith}
use lib.Seq.{length-take-le}
use Rattle.host.proofs.Laws.{handed_as}
use Rattle.inspect_run.proofs.Laws.{listing_room, listing_front}
use Rattle.inspect_run.proofs.print_listing.Goals as goal

pub slice_bounds-text-end : goal.slice_bounds-text-end
slice_bounds-text-end g c =
    omega (arith, listing_room c.list-length.ensures)

pub slice_bounds-print-end : goal.slice_bounds-print-end
slice_bounds-print-end g c =
    sym (length-take-le _ _ (omega (arith, listing_room c.list-length.ensures)))

pub returns : goal.returns
returns g c =
    record { text = handed_as (listing_front c.list-length.ensures refl (omega arith)) c.print.ensures.text; received = c.print.ensures.received }
