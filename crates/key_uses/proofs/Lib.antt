-- Laws of the uses of an instruction, for this crate and for `moves`.
pub mod AccessLaws
