pub mod Listing
pub mod Waiting
pub mod Mending
