-- Laws for the proofs of this crate's code, and of the code above that decodes.
pub mod Laws
