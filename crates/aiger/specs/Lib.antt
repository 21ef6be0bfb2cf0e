pub mod FaultLines
pub mod Lines
pub mod Symbols
pub mod Reads
pub mod Grammar
pub mod Refused
pub mod Malformed
pub mod Told
