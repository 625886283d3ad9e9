pub mod Heights
pub mod Keeping
pub mod Scanning
pub mod Moving
pub mod Standing
pub mod Following
pub mod Gaps
