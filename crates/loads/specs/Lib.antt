pub mod Counts
pub mod Query
