-- To read: Run is the lent run and Answer the numbers 20 to 28; Waits is the number of earlier conflicting calls that each call carries; Opening is what an
-- opening leaves; Action and Step are one step of one call; Moves is BEGIN, STEP and CANCEL with their refusals; Serial is the serial run. ByRow is BEGIN
-- without the carried numbers. CallInRun is a call by itself, as demand 2 compares it with the rule. Examples are computed, in short; Damage and WorkedRuns
-- are runs for those of the crates above, and Computing names what they open.
pub mod Run
pub mod Answer
pub mod Waits
pub mod Opening
pub mod Action
pub mod Step
pub mod Moves
pub mod ByRow
pub mod Serial
pub mod CallInRun
pub mod Damage
pub mod WorkedRuns
pub mod Examples
pub mod Computing
