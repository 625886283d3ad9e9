pub mod Rowing
pub mod Finding
pub mod Setting
