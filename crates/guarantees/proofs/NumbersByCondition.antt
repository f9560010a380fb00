-- The numbers of document 01, each exactly under its condition: moves, sheet, opening.
pub mod ByNumbers
pub mod ExactTests
pub mod BeginNumbers
pub mod HeldNumbers
pub mod FinishNumbers
pub mod StepNumbers
pub mod SheetNumbers
pub mod OpeningExact
pub mod OpeningNumbers
