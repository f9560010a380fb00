-- To read: KeyTable is the place of a key in the table, and the table's buffer. The others say what the functions of this crate hold on the way, in
-- the order of the work: Coded, Gathered (the set of a call), Filling and Collected (the table), Masks (rows), Planned (the plan), Preparing (the
-- answer).
pub mod KeyTable
pub mod Coded
pub mod Gathered
pub mod Filling
pub mod Collected
pub mod Masks
pub mod Planned
pub mod Preparing
