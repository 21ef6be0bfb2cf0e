pub mod Bits
pub mod Entries
pub mod Counts
pub mod Questions
