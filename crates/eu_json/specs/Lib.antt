pub mod Reading
pub mod Tree
pub mod Parts
pub mod Batch
pub mod BatchLaw
pub mod ListingLaw
