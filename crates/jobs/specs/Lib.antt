pub mod Lists
pub mod Told
pub mod Afterwards
pub mod Sizes
pub mod Suffices
