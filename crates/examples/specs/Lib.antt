-- To read: Joint is the joint check of the starred examples, Unstarred the others, OnP block P throughout, on the blocks of Blocks. OnAccount0 and Payments
-- are payments to account 0, OnZeroDivisors and Divisions divisions, OnFuel and Loops loops. Moves are the answers of the moves, Waiting the
-- numbers that calls carry, DamagedRuns the answers 20, on the runs of RunsOfP, NeededBalances those of balances. Exported is what
-- the library answers on P.
pub mod Blocks
pub mod Joint
pub mod Unstarred
pub mod OnP
pub mod OnAccount0
pub mod OnZeroDivisors
pub mod OnFuel
pub mod OfCalls
pub mod RunsOfP
pub mod Moves
pub mod Waiting
pub mod DamagedRuns
pub mod NeededBalances
pub mod Payments
pub mod Divisions
pub mod Loops
pub mod Exported
