-- The run behind a list of moves beside the tally: answers, steps, write sets, running calls.
pub mod WriteSets
pub mod TallySteps
pub mod MovesAndTally
pub mod SerialPointLaws
