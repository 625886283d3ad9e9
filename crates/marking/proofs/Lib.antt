pub mod Spreading
pub mod Counting
pub mod Writing
