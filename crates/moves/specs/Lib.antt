-- To read: Lent puts the lent parts together, Buffers those that a caller keeps in one struct; the others say what the functions of this crate hold
-- and answer on the way: Tests and HeldCall before the change, Turn in a step.
pub mod Lent
pub mod Buffers
pub mod Tests
pub mod HeldCall
pub mod Turn
