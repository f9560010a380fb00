-- To read: Choice is the choice of a statement by a test; Exact is the arithmetic of values, Compare its tests, Balance the balance limit.
-- Examples computes the divisions of document 01; Computing names what they open.
pub mod Choice
pub mod Exact
pub mod Compare
pub mod Balance
pub mod Examples
pub mod Computing
