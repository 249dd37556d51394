pub mod CarriedReads
pub mod CarriedEffects
pub mod CarriedCalls
pub mod CarriedTicks
pub mod CarriedBusy
pub mod CarriedTrace
