-- To read: Confluence is the theorem of Confluent; CallExchange are laws of the order, CalculatorLaws and Example the instance; CountLaws is for the
-- numbers that calls carry, KeptCell for what calls keep of a cell. The others are the proof, in the order in which they build on each other.
pub mod RunLaws
pub mod Expected
pub mod RefusalLaws
pub mod Valid
mod TakenLaws
pub mod Simulation
pub mod Confluence
pub mod CallExchange
pub mod CountLaws
pub mod KeptCell
mod CalculatorLaws
mod Example
