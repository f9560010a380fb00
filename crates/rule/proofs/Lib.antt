-- LimitLaws is the balance limit of a state; TurnLaws what one turn adds to the steps of a call, and that a body which is over stays so.
pub mod LimitLaws
pub mod TurnLaws
