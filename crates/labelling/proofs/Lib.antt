pub mod Scans
pub mod Sets
pub mod Raising
pub mod Spreading
pub mod Fitting
pub mod Closing
pub mod Walking
pub mod Stands
