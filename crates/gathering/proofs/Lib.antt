pub mod Gathered
pub mod Accepted
pub mod Entered
