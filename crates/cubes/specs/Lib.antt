pub mod Limits
pub mod Rows
pub mod Cubes
pub mod Deciders
pub mod Questions
