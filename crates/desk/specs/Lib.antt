pub mod Lines
pub mod Commands
pub mod Answering
pub mod Laws
pub mod Rest
