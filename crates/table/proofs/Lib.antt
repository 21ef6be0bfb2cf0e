pub mod Masks
pub mod Questions
pub mod Made
