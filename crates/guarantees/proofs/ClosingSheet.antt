-- The closing sheet: on what it depends, and that it is written.
pub mod SheetLaws
pub mod SheetWritten
