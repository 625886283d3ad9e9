pub mod Answers
pub mod Touching
pub mod Going
pub mod Changing
pub mod Rows
pub mod Laws
