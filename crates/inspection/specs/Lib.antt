pub mod Rows
pub mod Inspections
pub mod Seen
