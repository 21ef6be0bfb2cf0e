pub mod Outcomes
pub mod Memories
pub mod Failures
