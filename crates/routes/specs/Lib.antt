pub mod Ends
pub mod Going
pub mod Routing
pub mod Answering
