-- The serial run and the published rule: the lent run's serial run as states of the machine, and call by call against the rule.
pub mod ChosenRun
pub mod SerialRun
pub mod SerialRunOfFile
pub mod SerialAlike
pub mod BySizes
pub mod RuleSteps
pub mod SerialRule
pub mod RegisterLaws
