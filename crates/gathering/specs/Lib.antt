pub mod Bounds
pub mod Entering
pub mod Standing
