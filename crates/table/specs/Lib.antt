pub mod Bounds
pub mod Laid
pub mod Tables
pub mod Drafting
pub mod Edges
