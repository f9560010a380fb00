-- The next day: the sheet's records read as opening cells, behind any functions and before any calls.
pub mod KeyFits
pub mod CellRecords
pub mod NextCells
pub mod NextDay
pub mod NextFile
