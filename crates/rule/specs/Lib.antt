-- The published transaction rule, document 003, figure 1, over the instruction set of document 01; and what fuel leaves of a transaction, computed.
pub mod Rule
pub mod Examples
