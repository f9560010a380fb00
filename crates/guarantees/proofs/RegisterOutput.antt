-- REGISTER: its session line by line, the tally's end, the sheet in its output, and how a block closes by the tally.
pub mod SessionLines
pub mod TallyEnd
pub mod SheetPrinted
pub mod ClosedByTally
