pub mod Digits
pub mod Answers
pub mod Bytes
pub mod Runs
pub mod LineSteps
pub mod LineRun
