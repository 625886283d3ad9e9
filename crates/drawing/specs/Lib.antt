pub mod Numbers
pub mod Kinds
pub mod Records
pub mod Reading
pub mod Ahead
pub mod Spelling
pub mod Order
