-- To read: SetsExact, SafeSetsProof and TransactionExchange are the theorems of SetsInWords and SafeSets. Below them: SetLaws, SetAccessLaws and
-- ConflictLaws on sets, TransactionLaws, RuleLimit, FitLaws and AlikeLaws on the rule. WithdrawnLaws is for account 0. TableLaws and
-- TableWordLaws are of the key table and its words, EntryLaws of a plan's entries, AnalysedLaws of a block whose analysis refuses nothing.
pub mod SetLaws
pub mod SetAccessLaws
pub mod ConflictLaws
mod SetsExact
mod TransactionLaws
pub mod RuleLimit
pub mod FitLaws
mod AlikeLaws
pub mod SafeSetsProof
pub mod WithdrawnLaws
mod TransactionExchange
pub mod TableLaws
pub mod TableWordLaws
pub mod EntryLaws
pub mod AnalysedLaws
