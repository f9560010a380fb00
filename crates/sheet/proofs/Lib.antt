-- RecordLists: lists of records and their offsets; SheetRecords: those of a sheet; SheetTests: one walk along a sheet's tests; OffsetsProof: the statement of
-- Offsets.
pub mod RecordLists
pub mod SheetRecords
pub mod SheetTests
pub mod OffsetsProof
