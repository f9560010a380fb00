-- Layout is the contract of `read_block`; Standing says how the reader's numbers stand for the block read so far.
pub mod Layout
pub mod LayoutOfBlock
pub mod Standing
