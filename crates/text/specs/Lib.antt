-- To read: Lines is what the programs print; Written says that a text stands in a buffer.
pub mod Lines
pub mod Written
