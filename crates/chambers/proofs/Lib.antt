pub mod Starting
pub mod Touches
pub mod Changes
pub mod Admitting
