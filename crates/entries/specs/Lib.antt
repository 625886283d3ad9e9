pub mod Entered
pub mod Leaving
