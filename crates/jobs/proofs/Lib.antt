mod Runs
pub mod Stages
mod RunStories
mod Prints
pub mod Circuits
mod Tellings
mod Compare
mod RunRoom
mod Suffices
