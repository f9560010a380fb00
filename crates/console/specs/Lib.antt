-- To read: Line is a move line byte by byte, Text the answers and the sheet as lines, Register the whole of REGISTER as one function, SheetBytes the sheet's bytes as
-- one. Examples are computed.
pub mod Line
pub mod Text
pub mod Register
pub mod SheetBytes
pub mod Examples
pub mod Computing
