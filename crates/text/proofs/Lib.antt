-- Laws of texts that grow in a buffer and of their lengths, for the crates above; Bits and Laws are for this crate's own code.
pub mod Laws
pub mod Bits
pub mod TextSizes
pub mod WrittenLaws
