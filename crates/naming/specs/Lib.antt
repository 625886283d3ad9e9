pub mod Names
pub mod Keeping
