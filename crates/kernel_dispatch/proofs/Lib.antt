pub mod LastRun
pub mod Reports
pub mod Openings
