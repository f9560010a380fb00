-- To read: All is what holds of everything in a list, Bytes reading and writing little-endian numbers, Rows the row of 256 bits, RowOps what is done
-- to rows, Decimal the text of numbers. Computing names what computed examples open.
pub mod All
pub mod Bytes
pub mod Rows
pub mod RowOps
pub mod Decimal
pub mod Computing
