pub mod CarriedThreads
pub mod CarriedFacts
pub mod Shows
