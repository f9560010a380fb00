-- To read: Access and Sets are document 01's read and write sets, and SetsInWords the statement that they are so in its own words; Conflict is the
-- strong-swap test; Table, KeyWords and Plan are what an opening prepares; SafeSets are the statements of document 003 on safe sets and the exchange
-- of neighbours. BlockSets is how a file's block gives its sets; EntryUses and Listed are how a plan's entries stand for them. Examples are computed;
-- Computing names what they open.
pub mod Access
pub mod Sets
pub mod SetsInWords
pub mod Conflict
pub mod Table
pub mod KeyWords
pub mod Plan
pub mod BlockSets
pub mod EntryUses
pub mod Listed
pub mod SafeSets
pub mod Examples
pub mod Computing
