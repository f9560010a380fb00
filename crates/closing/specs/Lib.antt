-- Answered is the contract of `sheet`; Carried says what its writer carries from record to record; Found what the test of the cells finds.
pub mod Carried
pub mod Found
pub mod Answered
