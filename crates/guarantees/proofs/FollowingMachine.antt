-- Following the machine: when a lent run stands for a state of the machine of `schedule`, and that every move keeps it so.
pub mod RunMatches
pub mod OpenedRuns
pub mod ChangeMatches
pub mod BufferLaws
pub mod WaitMatches
pub mod Follows
pub mod HeldMatches
pub mod BeginMatches
pub mod BeginByRow
pub mod StepMatches
pub mod CancelMatches
pub mod MoveMatches
pub mod MoveLists
