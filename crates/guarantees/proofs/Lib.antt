-- The proofs of the statements in specs/: a room for each part of the way, then the theorems. Which rooms lead to which theorem:
--   Demand1Proof          AcceptedOpening, NumbersByCondition, and of FollowingMachine the laws of buffers
--   Demand2Proof          CallsOfRun, AcceptedOpening, FollowingMachine, SerialAndRule, RunAndTally
--   WithdrawnProof        Demand2Proof, CallsOfRun, AcceptedOpening, FollowingMachine, SerialAndRule, RunAndTally
--   ZeroDivisorsProof     TurnedLaws
--   FuelProof             TurnedLaws
--   Demand3Proof          those of Demand2Proof, ClosingSheet
--   RegisterByTallyProof  Demand3Proof, ClosingSheet, RegisterOutput
--   ClosedOpensProof      Demand2Proof, Demand3Proof, TheNextDay
--   SheetByTallyProof     Demand3Proof, ClosedOpensProof, ClosingSheet, RegisterOutput
-- Three rooms stand on theorems: RegisterOutput on Demand3Proof; ClosingSheet on Demand2Proof, with NumbersByCondition and TheNextDay for what the sheet tests and writes;
-- TheNextDay on Demand1Proof.
mod CallsOfRun
mod AcceptedOpening
mod FollowingMachine
mod SerialAndRule
mod NumbersByCondition
mod RunAndTally
mod ClosingSheet
mod RegisterOutput
mod TheNextDay
mod Demand1Proof
mod Demand2Proof
mod WithdrawnProof
mod TurnedLaws
mod ZeroDivisorsProof
mod FuelProof
mod Demand3Proof
mod RegisterByTallyProof
mod ClosedOpensProof
mod SheetByTallyProof
