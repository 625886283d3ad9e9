pub mod Numbering
pub mod Telling
