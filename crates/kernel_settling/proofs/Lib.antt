pub mod InRange
pub mod SettlingSteps
pub mod OneSettles
pub mod SettledSame
pub mod SweepNothing
pub mod SettleIs
pub mod StoodAgain
pub mod StoodAtFirst
