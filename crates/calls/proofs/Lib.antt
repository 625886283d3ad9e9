pub mod Drying
pub mod Shifting
pub mod Sofar
