-- Laws of lists, of bytes, of what is stored and of rows, for every crate above; MaskedBits and Laws are for this crate's own code.
pub mod ListLaws
pub mod BytesLaws
pub mod StoringLaws
pub mod RowLaws
pub mod CountLaws
mod MaskedBits
mod Laws
