pub mod Classes
pub mod Numbers
pub mod Places
pub mod Runs
pub mod Lines
pub mod Steps
