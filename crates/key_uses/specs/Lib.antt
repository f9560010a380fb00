-- Uses is how the code holds the accesses of an instruction.
pub mod Uses
