pub mod Memory
pub mod Printed
pub mod Telling
pub mod Text
pub mod Writing
