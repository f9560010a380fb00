-- To read: Sheet is the closing sheet with 20, 27 and 28, Offsets where its records stand. Examples are computed.
pub mod Sheet
pub mod Offsets
pub mod Examples
pub mod Computing
