pub mod Numbers
pub mod Texts
pub mod Checks
pub mod Laws
