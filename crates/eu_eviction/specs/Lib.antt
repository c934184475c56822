pub mod Rows
pub mod Eviction
