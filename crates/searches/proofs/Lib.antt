pub mod Listed
pub mod Mends
