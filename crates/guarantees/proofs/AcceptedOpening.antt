-- What an accepted opening leaves: the plan's words, the balance limit, each call, and all of it as one record, `after_opening`.
pub mod PlanWords
pub mod OpeningPassed
pub mod OpeningLimit
pub mod OpenedCalls
pub mod AfterOpening
