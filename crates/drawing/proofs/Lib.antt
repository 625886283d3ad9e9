pub mod Front
pub mod Found
pub mod Onward
pub mod Spelled
pub mod Ordered
