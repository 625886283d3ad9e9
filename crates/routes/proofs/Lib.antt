pub mod Stepping
pub mod Passing
