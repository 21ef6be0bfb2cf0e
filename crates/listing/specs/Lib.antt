pub mod Limits
pub mod Widest
pub mod Calls
pub mod Stories
pub mod Theorem
