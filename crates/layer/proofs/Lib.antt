pub mod Inserting
pub mod Lifting
pub mod Firsts
pub mod Twins
pub mod Feeding
pub mod Passing
