-- The calls of a run: each call of a lent run as one of the calls that the theorem of `schedule` is about, and that it is lawful.
pub mod ViewCalls
pub mod ViewEntries
pub mod ViewLeaves
pub mod ViewFrame
pub mod ViewSpares
pub mod ViewEnds
pub mod ViewLawful
pub mod ViewKeys
pub mod SetEntries
