-- To read: Tally and Taken are what demand 3 compares with; Calls says what is asked of calls, Machine how workers run them; Confluent is the
-- statement of the theorem, for any such calls; Calculator is an instance to compute with.
pub mod Tally
pub mod Taken
pub mod Calls
pub mod Machine
pub mod Confluent
pub mod Calculator
