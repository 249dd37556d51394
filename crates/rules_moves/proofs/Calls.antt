-- Every call of the table is made of moves.
pub mod Answers
pub mod Commuting
pub mod Clock
pub mod Objects
pub mod ConditionWaits
pub mod Signals
pub mod Queues
pub mod Table
