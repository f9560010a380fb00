-- The mathematics of the code: tests that count down, what a look at the cells finds, the parts of a record, what is carried from record to
-- record, the length and the answer.
pub mod Counting
pub mod Finding
pub mod Storing
pub mod Carrying
pub mod SheetSizes
pub mod Answering
