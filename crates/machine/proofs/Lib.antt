-- To read: CallRule is the theorem, a call stepped to its end against the published rule; StepRule is one step against one turn, CallStep
-- the tests before an instruction. StepLaws has the range of a running call and how many steps it can still take, PlaceLaws what each place comes to. Below them: CodeLaws, LookupLaws, RestoreLaws and HoldLaws. SerialRunLaws is for the serial run, WaitLaws for the
-- numbers that calls carry, RefusedLaws for refused moves.
pub mod CodeLaws
pub mod LookupLaws
pub mod RestoreLaws
pub mod StepLaws
pub mod PlaceLaws
mod HoldLaws
mod StepRule
mod CallStep
pub mod CallRule
pub mod SerialRunLaws
pub mod WaitLaws
pub mod RefusedLaws
