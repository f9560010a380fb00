-- Names every definition of this crate that computes, so that a worked example opens them all by one name.
use Rattle.sheet.specs.Sheet.{closing_number, closing_length, cell_records, receipt_records, sheet_records, states_allowed, all_finished, receipts_allowed, balances_allowed, written_if, sheet_of}
use Rattle.machine.specs.Computing as machine

unfoldable pub computing : Unit {0}
unfolding machine.computing closing_number closing_length cell_records receipt_records sheet_records states_allowed all_finished receipts_allowed balances_allowed written_if sheet_of
computing = tt
