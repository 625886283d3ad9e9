pub mod Events
pub mod Calling
pub mod Laws
pub mod Promising
