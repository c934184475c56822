pub mod Words
pub mod Moments
pub mod Front
