pub mod Writing
pub mod Accepting
