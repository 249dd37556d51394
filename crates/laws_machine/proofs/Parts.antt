-- The parts that go by who waits, together.
pub mod Kept
pub mod Opening
