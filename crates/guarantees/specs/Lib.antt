-- To read: Demand1, Demand2 and Demand3 are the demands, a field for each sentence; StepNeeds is what a step needs, for the first. Withdrawn is M-101,
-- payments to account 0; ZeroDivisors is M-103 and Fuel M-104, both over the turns of Turns; RegisterByTally is what REGISTER prints, ClosedOpens how
-- the next day opens, SheetByTally which bytes of a sheet are written. BlockTally, Agreement and RuleRun name what they compare. The examples of the
-- documents are computed in `examples`.
pub mod StepNeeds
pub mod Demand1
pub mod BlockTally
pub mod Agreement
pub mod RuleRun
pub mod Demand2
pub mod Demand3
pub mod Withdrawn
pub mod Turns
pub mod ZeroDivisors
pub mod Fuel
pub mod RegisterByTally
pub mod ClosedOpens
pub mod SheetByTally
