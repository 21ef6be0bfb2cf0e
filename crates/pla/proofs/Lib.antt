pub mod Breaks
pub mod Decimals
pub mod Matching
pub mod Parts
pub mod Positions
pub mod Stored
pub mod Telling
pub mod Writing
