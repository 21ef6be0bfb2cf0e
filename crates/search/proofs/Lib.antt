pub mod Opens
pub mod Halves
pub mod Lows
pub mod Touching
pub mod Allowed
