pub mod Due
pub mod Truth
