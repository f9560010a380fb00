-- The mathematics of the code, in the order of a move: sizes, tests of BEGIN, entries, waits; lookup, action, step. BufferLaws is what callers cite.
mod HeldLaws
mod BeginLaws
mod EntryLaws
mod WaitCodeLaws
mod LookupCodeLaws
mod ViewCodeLaws
mod PerformLaws
mod SeatLaws
mod StepCodeLaws
mod LentRunLaws
pub mod BufferLaws
