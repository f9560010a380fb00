-- What the words of a head say of its workers.
pub mod HeldLaws
